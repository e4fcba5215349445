-- Messages that have nothing behind them.
use Rattle.std.proofs.Common.{◌≡◌, ℕ, ◌≤◌, Bool, true, false, cond, eqb, List, [], ◌++◌, length, Result, Ok, Err, refl, sym, ◌∙◌, ap, subst}
use Rattle.std.proofs.lemmas.Bool.{eqb-true}
use Rattle.std.proofs.lemmas.List.{append-nil}
use Rattle.ug_fields.specs.Reading.{Reading, ◌>>=◌}
use Rattle.ug_fields.specs.Readers.{IsBytes, IsReader}
use Rattle.ug_fields.proofs.Takes.{bind_ok}
use Rattle.ug_fields.proofs.Tests.{single}
use Rattle.ug_fields.proofs.Parts.{nothing}
use Rattle.ug_frames.specs.Reading.{alone}

-- of at most this many bytes the reader gives good values alone, whose spelling the bytes are; and
-- it reads each good value's spelling
pub record IsWhole {X : Type 0} (most : ℕ) (Good : X → Type 0) (field : X → List ℕ)
    (read : List ℕ → Result X ℕ) : Type 0 where
  pub taken : (bytes : List ℕ) (x : X) → IsBytes bytes → length bytes ≤ most → read bytes ≡ Ok x
      → (bytes ≡ field x) × Good x
  pub again : (x : X) → Good x → read (field x) ≡ Ok x

module _ {X : Type 0} (Good : X → Type 0) (field : X → List ℕ) (read : List ℕ → Reading X) where
  abbrev end : X × List ℕ → Result X ℕ
  end x = cond (eqb (length x.1) 0) (Ok x.0) (Err (length x.1))

  -- a message that a reader reads with nothing behind it
  pub alone_reader : (most : ℕ) → IsReader Good field read
      → IsWhole most Good field (λ bytes. alone (read bytes))
  unfolding alone
  alone_reader most reader = record {
    taken = λ bytes x h few e.
        let b = bind_ok (read bytes) end x e in
        let s = single (eqb (length b.0.1) 0) (length b.0.1) b.0.0 x b.2 in
        let t = reader.taken bytes b.0.0 b.0.1 h b.1 in
        let none : b.0.1 ≡ [] = nothing b.0.1 (eqb-true _ _ s.0) in
        subst (λ (y : X). (bytes ≡ field y) × Good y) s.1 (
          t.0.parts ∙ ap (λ r. field b.0.0 ++ r) none ∙ append-nil (field b.0.0),
          t.1,
        );
    again = λ x good.
        ap (λ text. read text >>= end) (sym (append-nil (field x)))
        ∙ ap (λ r. r >>= end) (reader.again x [] good);
  }

-- one reader or the other, by a test
pub chosen : {X : Type 0} → (most : ℕ) (Good : X → Type 0) (field : X → List ℕ)
    (r s : List ℕ → Reading X) (test : Bool)
    → (test ≡ true → IsWhole most Good field (λ bytes. alone (r bytes)))
    → (test ≡ false → IsWhole most Good field (λ bytes. alone (s bytes)))
    → IsWhole most Good field (λ bytes. alone (cond test (r bytes) (s bytes)))
chosen most Good field r s true first second = first refl
chosen most Good field r s false first second = second refl
