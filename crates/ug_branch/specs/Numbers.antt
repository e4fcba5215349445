-- The number of params: one bit for each of the four choices.
use Rattle.std.specs.Prelude.{ℕ, ◌+◌, ◌*◌}
use Rattle.ug_branch.specs.declared.params.Params.{Params}
use Rattle.ug_branch.specs.declared.params.Pick.{Pick}
use Rattle.ug_branch.specs.declared.params.Pick.TheVariants.{Place, Width}
use Rattle.ug_branch.specs.declared.params.End.{End}
use Rattle.ug_branch.specs.declared.params.End.TheVariants.{Lowest, Highest}
use Rattle.ug_branch.specs.declared.params.Half.{Half}
use Rattle.ug_branch.specs.declared.params.Half.TheVariants.{Lower, Upper}
use Rattle.ug_branch.specs.declared.params.Base.{Base}
use Rattle.ug_branch.specs.declared.params.Base.TheVariants.{Bound, Surrogate}

-- bit 0
abbrev pub pick_bit : Pick → ℕ
pick_bit Place = 0
pick_bit Width = 1

-- bit 1
abbrev pub end_bit : End → ℕ
end_bit Lowest = 0
end_bit Highest = 1

-- bit 2
abbrev pub half_bit : Half → ℕ
half_bit Lower = 0
half_bit Upper = 1

-- bit 3
abbrev pub base_bit : Base → ℕ
base_bit Bound = 0
base_bit Surrogate = 1

-- the number of the params
abbrev pub number_of : Params → ℕ
number_of params = pick_bit params.pick + 2 * end_bit params.end + 4 * half_bit params.half
    + 8 * base_bit params.base

-- the params of a base whose number is the least
abbrev pub first_params : Base → Params
first_params base = record { pick = Place; end = Lowest; half = Lower; base = base }
