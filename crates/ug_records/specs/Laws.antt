-- What makes a record one.
use Rattle.std.specs.Prelude.{◌≡◌, ℕ, List, ◌++◌}
use Rattle.ug_problem.specs.Instances.{Instance}
use Rattle.ug_problem.specs.Limits.{IsProblem}
use Rattle.ug_records.specs.Spelling.{record_of}

-- Bytes that begin with a problem's record begin with no other problem's, and what follows it is
-- the same. So each record is that of one problem, and none begins another.
abbrev pub RecordsAreUnique : Type 0
RecordsAreUnique = (p q : Instance) (r s : List ℕ) → IsProblem p → IsProblem q
    → record_of p ++ r ≡ record_of q ++ s → (p ≡ q) × (r ≡ s)
