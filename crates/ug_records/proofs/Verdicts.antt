-- What reading a record reports about the bytes.
use Rattle.std.proofs.Common.{◌≡◌, ℕ, ◌-◌, List, length, Result, Ok, Err, IfOk, MatchResult, sym, ◌∙◌, ap, subst, arith}
use Rattle.ug_problem.specs.Instances.{Instance}
use Rattle.ug_fields.specs.Readers.{IsBytes}
use Rattle.ug_fields.proofs.Takes.{ok_is}
use Rattle.ug_records.specs.Answers.{IsFirstBad, IsRecordOf}
use Rattle.ug_records.specs.Laws.{RecordsAreUnique}
use Rattle.ug_records.specs.Reading.{parts_at, record_at}
use Rattle.ug_records.specs.declared.error.RecordError.{RecordError}
use Rattle.ug_records.specs.declared.error.RecordError.TheVariants.{Memory}
use Rattle.ug_records.proofs.Entire.{parts_reader, record_taken, record_again, record_within}
use Rattle.ug_records.proofs.Problems.{whole_is_problem, problem_is_whole}

pub what_is_read : (bytes : List ℕ) (p : Instance) → IsBytes bytes → record_at bytes ≡ Ok p
    → IsRecordOf bytes p
what_is_read bytes p h e =
    let t = record_taken bytes p h e in
    (whole_is_problem p t.1, t.0)

pub record_is_read : (bytes : List ℕ) (p : Instance) → IsRecordOf bytes p → record_at bytes ≡ Ok p
record_is_read bytes p is = ap record_at is.1 ∙ record_again p (problem_is_whole p is.0)

pub no_record : (bytes : List ℕ) (left : ℕ) → record_at bytes ≡ Err left → (p : Instance)
    → ¬ IsRecordOf bytes p
no_record bytes left e p is = let other = record_is_read bytes p is in absurd (cc (e, other))

pub first_bad : (bytes : List ℕ) (left : ℕ) → IsBytes bytes → record_at bytes ≡ Err left
    → IsFirstBad bytes (length bytes - left)
first_bad bytes left h e =
    let within = record_within bytes left h e in
    let again : left ≡ length bytes - (length bytes - left) = omega (arith, within) in
    (omega arith, e ∙ ap Err again)

pub made_is_record : (made : Result Instance RecordError) (bytes : List ℕ) (p : Instance)
    → MatchResult made (λ q. q ≡ p) (λ e. e ≡ Memory) → IsRecordOf bytes p
    → IfOk made (IsRecordOf bytes)
made_is_record (Ok q) bytes p same is = subst (IsRecordOf bytes) (sym same) is
made_is_record (Err e) bytes p same is = tt

pub made_is_it : (made : Result Instance RecordError) (bytes : List ℕ) (p : Instance)
    → MatchResult made (λ q. q ≡ p) (λ e. e ≡ Memory) → record_at bytes ≡ Ok p
    → (other : Instance) → IsRecordOf bytes other → MatchResult made (λ q. q ≡ other)
    (λ e. e ≡ Memory)
made_is_it (Ok q) bytes p same e other is =
    let one : p ≡ other = let o = record_is_read bytes other is in cc (e, o) in
    same ∙ one
made_is_it (Err e) bytes p same read other is = same

-- reading both gives the same
pub records_are_unique : RecordsAreUnique
records_are_unique p q r s is other same =
    let one = parts_reader.again p r (problem_is_whole p is) in
    let another = parts_reader.again q s (problem_is_whole q other) in
    let both : (p, r) ≡ (q, s) = ok_is (p, r) (q, s) (sym one ∙ ap parts_at same ∙ another) in
    (λ i. (both i).0, λ i. (both i).1)
