-- Readers that test what they read.
use Rattle.std.proofs.Common.{◌≡◌, ℕ, Bool, true, List, ◌++◌, length, Ok, Err, ◌∙◌, ap, subst, arith}
use Rattle.std.specs.Prelude.{if◌then◌else◌}
use Rattle.ug_fields.specs.Reading.{Reading, ◌>>=◌}
use Rattle.ug_fields.specs.Readers.{IsReader, Takes}
use Rattle.ug_fields.proofs.Takes.{first, then_, bind_ok, bind_err}
use Rattle.ug_fields.proofs.Tests.{single, single_stops}

-- a value that is read passes a test
module _ {X : Type 0} (Good : X → Type 0) (field : X → List ℕ) (read : List ℕ → Reading X)
    (test : X → Bool) where
  abbrev tested_by : List ℕ → X × List ℕ → Reading X
  tested_by bytes x = if test x.0 then Ok x else Err (length bytes)

  pub tested : IsReader Good field read
      → IsReader (λ x. Good x × (test x ≡ true)) field (λ bytes. read bytes >>= tested_by bytes)
  tested reader = record {
    taken = λ bytes x rest h e.
        let b = bind_ok (read bytes) (tested_by bytes) (x, rest) e in
        let s = single (test b.0.0) (length bytes) b.0 (x, rest) b.2 in
        let t = reader.taken bytes b.0.0 b.0.1 h b.1 in
        subst (λ (y : X × List ℕ). Takes bytes (field y.0) y.1 × (Good y.0 × (test y.0 ≡ true)))
        s.1 (t.0, (t.1, s.0));
    again = λ x rest good.
        ap (λ r. r >>= tested_by (field x ++ rest)) (reader.again x rest good.0)
        ∙ ap (λ b. if b then Ok (x, rest) else Err (length (field x ++ rest))) good.1;
    within = λ bytes left h e.
        elim (bind_err (read bytes) (tested_by bytes) left e) [
          | first f ↦ reader.within bytes left h f
          | then_ x r f ↦ omega (arith, single_stops (test x.0) (length bytes) left x f)
        ];
  }
