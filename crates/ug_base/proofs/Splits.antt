-- Branches of the working box as parts, and going back on a copy.
use Rattle.std.proofs.Common.{◌≡◌, refl, sym, subst, ◌∙◌, ap, ℕ, ◌+◌, ◌<◌, ℤ, pos, ◌+ℤ◌, ◌≤ℤ◌, ◌<ℤ◌, List, length, drop, set, get_or, Some, arith}
use Rattle.std.proofs.lemmas.Int.{ints}
use Rattle.std.proofs.lemmas.List.{drop_all, drop_more}
use Rattle.ug_rows.specs.declared.area.Interval.{Interval}
use Rattle.ug_rows.specs.Boxes.{IsBelow, IsClosedWithin, IsNonEmpty, interval_at}
use Rattle.ug_rows.specs.Sums.{box_floor}
use Rattle.ug_branch.specs.declared.choice.Branch.{Branch}
use Rattle.ug_branch.specs.declared.params.Half.{Half}
use Rattle.ug_branch.specs.declared.params.Half.TheVariants.{Lower, Upper}
use Rattle.ug_branch.specs.declared.params.Params.{Params}
use Rattle.ug_base.specs.declared.branching.Branching.{Branching}
use Rattle.ug_branch.specs.Choices.{AreClosed}
use Rattle.ug_problem.specs.Instances.{Instance}
use Rattle.ug_propagate.specs.declared.working.Trailed.{Trailed}
use Rattle.ug_propagate.specs.Working.{AllAtFixpoint, WorkState, undone}
use Rattle.ug_base.specs.declared.open_box.OpenBox.{OpenBox}
use Rattle.ug_base.specs.Chains.{IsCut, IsOpenBox, area_of, base_of, first_side, narrowed, other_side}
use Rattle.ug_base.specs.Evaluations.{IsBranched}
use Rattle.ug_branch.specs.Choices.{AreHalves}
use Rattle.ug_branch.proofs.HalfLemmas.{are_halves}
use Rattle.ug_base.specs.Branchings.{IsMidway, first_half, other_half}
use Rattle.ug_base.proofs.Sight.{middle_high, middle_low}

lower_inner : (side : Interval) (m : ℤ) → side.low ≤ℤ m → m <ℤ side.high → IsClosedWithin (record { low = side.low; high = m }) side
lower_inner side m low high = record { low = omega (arith, ints); high = omega (arith, ints); some = low }

upper_inner : (side : Interval) (m : ℤ) → side.low ≤ℤ m → m <ℤ side.high
    → IsClosedWithin (record { low = m +ℤ pos 1; high = side.high }) side
upper_inner side m low high = record { low = omega (arith, ints); high = omega (arith, ints); some = omega (arith, ints) }

first_within : (half : Half) (side : Interval) (m : ℤ) → side.low ≤ℤ m → m <ℤ side.high → IsClosedWithin (first_side half side m) side
first_within Lower side m low high = lower_inner side m low high
first_within Upper side m low high = upper_inner side m low high

other_within : (half : Half) (side : Interval) (m : ℤ) → side.low ≤ℤ m → m <ℤ side.high → IsClosedWithin (other_side half side m) side
other_within Lower side m low high = upper_inner side m low high
other_within Upper side m low high = lower_inner side m low high

-- a box branched on midway has two branches
pub midway_halves : (area : List Interval) (branch : Branch) → IsMidway area branch → AreHalves area branch
midway_halves area branch m = are_halves area branch m.open_ m.middle

-- the branches of a branch's interval are within it
pub first_inner : (params : Params) (area : List Interval) (branching : Branching) → IsBranched params area branching
    → IsClosedWithin (first_side branching.first (interval_at area branching.branch.column) branching.branch.middle) (interval_at area branching.branch.column)
first_inner params area branching h =
    let branch = branching.branch in
    let side : Interval = interval_at area branch.column in
    first_within branching.first side branch.middle
    (middle_low side.low side.high branch.middle h.midway.open_.open_ h.midway.middle.high)
    (middle_high side.low side.high branch.middle h.midway.open_.open_ h.midway.middle.low)

pub second_inner : (params : Params) (area : List Interval) (branching : Branching) → IsBranched params area branching
    → IsClosedWithin (other_side branching.first (interval_at area branching.branch.column) branching.branch.middle) (interval_at area branching.branch.column)
second_inner params area branching h =
    let branch = branching.branch in
    let side : Interval = interval_at area branch.column in
    other_within branching.first side branch.middle
    (middle_low side.low side.high branch.middle h.midway.open_.open_ h.midway.middle.high)
    (middle_high side.low side.high branch.middle h.midway.open_.open_ h.midway.middle.low)

pub first_half_is : (half : Half) (area : List Interval) (branch : Branch)
    → set area branch.column (first_side half (interval_at area branch.column) branch.middle) ≡ first_half half area branch
first_half_is Lower area branch = refl
first_half_is Upper area branch = refl

pub other_half_is : (half : Half) (area : List Interval) (branch : Branch)
    → set area branch.column (other_side half (interval_at area branch.column) branch.middle) ≡ other_half half area branch
other_half_is Lower area branch = refl
other_half_is Upper area branch = refl

-- behind all changes lies the working box itself
pub base_here : (work : WorkState) (open_box : OpenBox) → open_box.depth ≡ length work.trail → base_of work open_box ≡ work.sums.area
base_here work open_box deep =
    ap (λ (t : List Trailed). undone work.sums.area t) (drop_all open_box.depth work.trail (omega (arith, deep)))

-- the working box with a column narrowed is a part
pub open_box_here : (p : Instance) (whole : List Interval) (work : WorkState) (open_box : OpenBox) (column : ℕ) (side : Interval)
    → open_box.depth ≡ length work.trail → open_box.cut ≡ Some (record { column = column; side = side }) → column < length p.columns
    → IsBelow work.sums.area whole → IsClosedWithin side (interval_at work.sums.area column) → IsNonEmpty work.sums.area
    → AllAtFixpoint p open_box.fixpoint work.sums.area → open_box.floor ≡ box_floor p.objective (set work.sums.area column side)
    → AreClosed open_box.closed (set work.sums.area column side) → IsOpenBox p whole work open_box
open_box_here p whole work open_box column side deep cut there below inner some rest floor closed =
    let same : work.sums.area ≡ base_of work open_box = sym (base_here work open_box deep) in
    let area : set work.sums.area column side ≡ area_of work open_box =
    ap (λ (a : List Interval). set a column side) same ∙ ap (λ c. narrowed c (base_of work open_box)) (sym cut) in
    record {
      deep = omega (arith, deep);
      below = subst (λ (a : List Interval). IsBelow a whole) same below;
      cut = subst (λ c. IsCut p (base_of work open_box) c) (sym cut)
          (subst (λ (a : List Interval). IsCut p a (Some (record { column = column; side = side }))) same
          (record { there = there; inner = inner; some = some }));
      fixpoint = subst (λ (a : List Interval). AllAtFixpoint p open_box.fixpoint a) same rest;
      floor = floor ∙ ap (λ (a : List Interval). box_floor p.objective a) area;
      closed = subst (AreClosed open_box.closed) area closed;
    }

pub area_here : (work : WorkState) (open_box : OpenBox) (column : ℕ) (side : Interval) → open_box.depth ≡ length work.trail
    → open_box.cut ≡ Some (record { column = column; side = side }) → area_of work open_box ≡ set work.sums.area column side
area_here work open_box column side deep cut =
    ap (λ c. narrowed c (base_of work open_box)) cut ∙ ap (λ (a : List Interval). set a column side) (base_here work open_box deep)

-- one change more is undone
pub undone_more : (area : List Interval) (changes : List Trailed) (i : ℕ) (d : Trailed) → i < length changes
    → undone area (drop i changes)
    ≡ set (undone area (drop (i + 1) changes)) (get_or changes i d).column (get_or changes i d).before
undone_more area changes i d there = ap (λ (t : List Trailed). undone area t) (drop_more changes i d there)
