-- The best point and the problem, read as they are spelled.
use Rattle.std.proofs.Common.{◌≡◌, ℕ, ℤ, ◌+◌, ◌^◌, ◌<◌, ◌≤◌, Bool, true, false, cond, ltb, List, ◌++◌, length, take, drop, Option, IfSome, Result, Ok, Err, append_assoc, refl, sym, ◌∙◌, ap, subst, arith, unsigned_abs}
use Rattle.std.specs.List.{flat_map}
use Rattle.std.proofs.lemmas.Bool.{ltb-false, le-ltb}
use Rattle.std.proofs.lemmas.List.{take_at, drop_at, take-append-drop, length-append, length-take, length-drop}
use Rattle.ug_problem.specs.Instances.{Instance}
use Rattle.ug_problem.specs.Limits.{IsProblem}
use Rattle.ug_problem.specs.Feasible.{Feasible}
use Rattle.ug_fields.specs.Reading.{Reading, ◌>>=◌, count_at, bound_at}
use Rattle.ug_fields.specs.Readers.{IsBytes, IsReader, Takes}
use Rattle.ug_fields.specs.Spelling.{count_field, bound_field}
use Rattle.ug_fields.proofs.Bytes.{IsBytes-take, IsBytes-drop}
use Rattle.ug_fields.proofs.Takes.{first, then_, bind_ok, bind_err, ok_is, reworded}
use Rattle.ug_fields.proofs.Tested.{tested}
use Rattle.ug_fields.proofs.Simple.{bound_reader, count_reader}
use Rattle.ug_fields.proofs.Flagged.{flagged_reader}
use Rattle.ug_fields.proofs.Counted.{counted}
use Rattle.ug_fields.proofs.Runs.{Chain}
use Rattle.ug_records.specs.Reading.{record_at}
use Rattle.ug_records.specs.Spelling.{record_of}
use Rattle.ug_records.proofs.Entire.{record_within}
use Rattle.ug_records.proofs.Verdicts.{what_is_read, record_is_read}
use Rattle.ug_image.specs.Spelling.{problem_fields, point_fields, best_fields}
use Rattle.ug_image.specs.Reading.{within_record, record_in, problem_at, point_at, is_feasible, feasible_at, best_at}
use Rattle.ug_image.proofs.Feasibles.{feasible_tells, feasible_told}

abbrev pub same : Unit {0} → ℤ → Unit {0}
same state value = state

abbrev pub IsSmall : Unit {0} → ℤ → Type 0
IsSmall state value = unsigned_abs value ≤ 10 ^ 9

-- at most 10,000 values of at most 10^9
pub record IsReadPoint (x : List ℤ) : Type 0 where
  pub few : length x ≤ 10 ^ 4
  pub chain : Chain IsSmall same tt x

point_reader : IsReader IsReadPoint point_fields point_at
unfolding point_at point_fields
point_reader =
    reworded (λ (x : List ℤ). ((length x ≤ 10 ^ 4) × (length x < 2 ^ 32))
    × Chain IsSmall same tt x)
    (λ x. count_field (length x) ++ flat_map bound_field x) IsReadPoint
    (λ x. count_field (length x) ++ flat_map bound_field x) _
    (λ x good. refl) (λ x good. record { few = good.0.0; chain = good.1 })
    (λ x is. ((is.few, omega (arith, is.few)), is.chain))
    (counted (10 ^ 4) (λ (state : Unit {0}). bound_at) same IsSmall bound_field
    (λ state. bound_reader) tt)

-- a point that can be read, and is feasible
abbrev pub IsGoodPoint : Instance → List ℤ → Type 0
IsGoodPoint p x = IsReadPoint x × Feasible p x

feasible_reader : (p : Instance) → IsReader (IsGoodPoint p) point_fields (feasible_at p)
unfolding feasible_at
feasible_reader p =
    reworded (λ x. IsReadPoint x × (is_feasible p x ≡ true)) point_fields (IsGoodPoint p)
    point_fields _
    (λ x good. refl) (λ x good. (good.0, feasible_tells p x good.1))
    (λ x is. (is.0, feasible_told p x is.1))
    (tested IsReadPoint point_fields point_at (is_feasible p) point_reader)

abbrev pub IsGoodBest : Instance → Option (List ℤ) → Type 0
IsGoodBest p best = IfSome best (IsGoodPoint p)

pub best_reader : (p : Instance) → IsReader (IsGoodBest p) best_fields (best_at p)
best_reader p = flagged_reader (IsGoodPoint p) point_fields (feasible_at p) (feasible_reader p)

-- a problem whose record is no longer than its count can say
pub record IsReadProblem (p : Instance) : Type 0 where
  pub is : IsProblem p
  pub short : length (record_of p) < 2 ^ 32

-- the result of reading if this many bytes of a record are there
pub record IsRecordIn (n : ℕ) (bytes : List ℕ) (p : Instance) (rest : List ℕ) : Type 0 where
  pub there : n ≤ length bytes
  pub record_ : record_at (take n bytes) ≡ Ok p
  pub behind : drop n bytes ≡ rest

within_ok : (r : Result Instance ℕ) (behind : List ℕ) (p : Instance) (rest : List ℕ)
    → within_record r behind ≡ Ok (p, rest) → (r ≡ Ok p) × (behind ≡ rest)
unfolding within_record
within_ok (Ok q) behind p rest e =
    let same : (q, behind) ≡ (p, rest) = ok_is (q, behind) (p, rest) e in
    (λ i. Ok (same i).0, λ i. (same i).1)
within_ok (Err l) behind p rest e = absurd cc

record_is_in : (left n : ℕ) (bytes : List ℕ) (p : Instance) (rest : List ℕ) (short : Bool)
    → ltb (length bytes) n ≡ short
    → cond short (Err left) (within_record (record_at (take n bytes)) (drop n bytes)) ≡ Ok (p, rest)
    → IsRecordIn n bytes p rest
record_is_in left n bytes p rest true test e = absurd cc
record_is_in left n bytes p rest false test e =
    let w = within_ok (record_at (take n bytes)) (drop n bytes) p rest e in
    record { there = ltb-false _ _ test; record_ = w.0; behind = w.1 }

within_err : (r : Result Instance ℕ) (behind : List ℕ) (left : ℕ)
    → within_record r behind ≡ Err left → (l : ℕ) × (r ≡ Err l) × (l + length behind ≡ left)
unfolding within_record
within_err (Ok q) behind left e = absurd cc
within_err (Err l) behind left e = (l, refl, cc)

record_fails : (whole n : ℕ) (bytes : List ℕ) (left : ℕ) (short : Bool) → IsBytes bytes
    → length bytes ≤ whole → ltb (length bytes) n ≡ short
    → cond short (Err whole) (within_record (record_at (take n bytes)) (drop n bytes)) ≡ Err left
    → left ≤ whole
record_fails whole n bytes left true h fewer test e =
    let same : whole ≡ left = cc in omega (arith, same)
record_fails whole n bytes left false h fewer test e =
    let w = within_err (record_at (take n bytes)) (drop n bytes) left e in
    let less = record_within (take n bytes) w.0 (IsBytes-take n bytes h) w.1 in
    omega (arith, less, w.2, ltb-false _ _ test, length-take n bytes, length-drop n bytes, fewer)

abbrev behind_count : ℕ → ℕ × List ℕ → Reading Instance
behind_count left n = record_in left n.0 n.1

problem_taken : (bytes : List ℕ) (p : Instance) (rest : List ℕ) → IsBytes bytes
    → problem_at bytes ≡ Ok (p, rest) → Takes bytes (problem_fields p) rest × IsReadProblem p
unfolding problem_at record_in problem_fields
problem_taken bytes p rest h e =
    let b = bind_ok (count_at (2 ^ 32) bytes) (behind_count (length bytes)) (p, rest) e in
    let t = (count_reader (2 ^ 32)).taken bytes b.0.0 b.0.1 h b.1 in
    let r = record_is_in (length bytes) b.0.0 b.0.1 p rest (ltb (length b.0.1) b.0.0) refl b.2 in
    let is = what_is_read (take b.0.0 b.0.1) p (IsBytes-take b.0.0 b.0.1 t.0.rest_fits) r.record_ in
    let size : b.0.0 ≡ length (record_of p) =
    omega (arith, length-take b.0.0 b.0.1, r.there, ap length is.1) in (
      record {
        parts = t.0.parts
            ∙ (λ i. count_field (size i) ++ sym (take-append-drop b.0.0 b.0.1) i)
            ∙ (λ i. count_field (length (record_of p)) ++ (is.1 i ++ r.behind i))
            ∙ sym (append_assoc (count_field (length (record_of p))) (record_of p) rest);
        rest_fits = subst IsBytes r.behind (IsBytes-drop b.0.0 b.0.1 t.0.rest_fits);
      },
      record { is = is.0; short = omega (arith, size, t.1.1) },
    )

problem_again : (p : Instance) (rest : List ℕ) → IsReadProblem p
    → problem_at (problem_fields p ++ rest) ≡ Ok (p, rest)
unfolding problem_at record_in within_record problem_fields
problem_again p rest is =
    let n = length (record_of p) in
    let text = problem_fields p ++ rest in
    let there : ltb (length (record_of p ++ rest)) n ≡ false =
    le-ltb _ _ (omega (arith, length-append (record_of p) rest)) in
    let front : take n (record_of p ++ rest) ≡ record_of p = take_at (record_of p) rest n refl in
    let behind : drop n (record_of p ++ rest) ≡ rest = drop_at (record_of p) rest n refl in
    ap (λ t. count_at (2 ^ 32) t >>= behind_count (length text))
    (append_assoc (count_field n) (record_of p) rest)
    ∙ ap (λ r. r >>= behind_count (length text))
    ((count_reader (2 ^ 32)).again n (record_of p ++ rest) (omega (arith, is.short), is.short))
    ∙ (rw (there, front, behind, record_is_read (record_of p) p (is.is, refl)) refl)

problem_within : (bytes : List ℕ) (left : ℕ) → IsBytes bytes → problem_at bytes ≡ Err left
    → left ≤ length bytes
unfolding problem_at record_in
problem_within bytes left h e =
    elim (bind_err (count_at (2 ^ 32) bytes) (behind_count (length bytes)) left e) [
      | first f ↦ (count_reader (2 ^ 32)).within bytes left h f
      | then_ n r f ↦
          let t = (count_reader (2 ^ 32)).taken bytes n.0 n.1 h r in
          let size : length bytes ≡ length (count_field n.0) + length n.1 = ap length t.0.parts
          ∙ length-append (count_field n.0) n.1 in
          record_fails (length bytes) n.0 n.1 left (ltb (length n.1) n.0) t.0.rest_fits
          (omega (arith, size)) refl f
    ]

pub problem_reader : IsReader IsReadProblem problem_fields problem_at
problem_reader = record {
  taken = problem_taken;
  again = problem_again;
  within = problem_within;
}
