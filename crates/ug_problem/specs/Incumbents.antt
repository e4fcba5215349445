-- The best points found, as many as are kept, and the one that a better point has to beat.
use Rattle.std.specs.Prelude.{ℕ, ℤ, ◌-◌, List, length, Option, None, if◌then◌else◌, nat_lt, slice_get}
use Rattle.std.specs.Option.{option_to_list}

-- how many points are kept at most, and those that are, the best first
pub record Incumbent : Type 0 where
  pub most : ℕ
  pub points : List (List ℤ)

-- at most one is kept: this point, if there is one
abbrev pub one_kept : Option (List ℤ) → Incumbent
one_kept best = record { most = 1; points = option_to_list best }

-- the last point, where as many are kept as may be
abbrev pub cutoff_point : Incumbent → Option (List ℤ)
cutoff_point best =
    if nat_lt (length best.points) best.most then None
    else slice_get best.points (length best.points - 1)
