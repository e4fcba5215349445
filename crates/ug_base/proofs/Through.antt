-- Facts about a box over the searched formulation, stated about the problem.
use Rattle.std.proofs.Common.{◌≡◌, refl, sym, subst, ap, map, ℤ, ◌<ℤ◌, List, Option, IfSome}
use Rattle.ug_rows.specs.declared.area.Interval.{Interval}
use Rattle.ug_rows.specs.declared.row.Objective.{Objective}
use Rattle.ug_rows.specs.Boxes.{IsBelow, IsFixed, IsInside}
use Rattle.ug_rows.specs.Rows.{value_of}
use Rattle.ug_rows.proofs.AreaLemmas.{inside_below}
use Rattle.ug_branch.specs.declared.params.Base.{Base}
use Rattle.ug_branch.specs.declared.params.Base.TheVariants.{Bound, Surrogate}
use Rattle.ug_problem.specs.Better.{HasNoGood, IsGood}
use Rattle.ug_problem.specs.Instances.{Instance, bounds_of, root_of}
use Rattle.ug_propagate.specs.declared.tight.Tight.TheVariants.{Kept}
use Rattle.ug_propagate.specs.Rounds.{rounds}
use Rattle.ug_surrogate.specs.Stronger.{Follows}
use Rattle.ug_base.specs.Formulations.{Searches}
use Rattle.ug_base.specs.Evaluations.{AreGoodHalves, Halves, IsOnlyGood, IsSeenHopeless, IsSeenSolved, KeepsGood}
use Rattle.ug_base.specs.Steps.{IsHopeless, Leaves, LeavesNone}

-- a problem follows from itself
follows_itself : (p : Instance) (whole : List Interval) (cutoff : Option ℤ) → Follows p whole cutoff p
follows_itself p whole cutoff = record {
  columns = refl;
  objective = refl;
  back = λ x feasible. feasible;
  kept = λ x inside good. good.feasible;
}

-- a problem may be searched itself
pub searches_itself : (base : Base) (p : Instance) (whole : List Interval) (cutoff : Option ℤ) → Searches base p whole cutoff p
searches_itself Bound p whole cutoff = refl
searches_itself Surrogate p whole cutoff = follows_itself p whole cutoff

pub follows_of : (base : Base) (p : Instance) (whole : List Interval) (cutoff : Option ℤ) (s : Instance)
    → Searches base p whole cutoff s → Follows p whole cutoff s
follows_of Bound p whole cutoff s h = subst (λ (q : Instance). Follows p whole cutoff q) (sym h) (follows_itself p whole cutoff)
follows_of Surrogate p whole cutoff s h = h

less_with : (a b : Objective) (cutoff : Option ℤ) (x : List ℤ) → a ≡ b → IfSome cutoff (λ c. value_of a x <ℤ c)
    → IfSome cutoff (λ c. value_of b x <ℤ c)
less_with a b cutoff x same h = subst (λ (o : Objective). IfSome cutoff (λ c. value_of o x <ℤ c)) same h

-- a point is good in the searched formulation if and only if it is good
pub good_there : (p : Instance) (whole : List Interval) (cutoff : Option ℤ) (s : Instance) (x : List ℤ) → Follows p whole cutoff s
    → IsInside whole x → IsGood p cutoff x → IsGood s cutoff x
good_there p whole cutoff s x f inside good = record {
  feasible = f.kept x inside good;
  less = less_with p.objective s.objective cutoff x (sym f.objective) good.less;
}

pub good_back : (p : Instance) (whole : List Interval) (cutoff : Option ℤ) (s : Instance) (x : List ℤ) → Follows p whole cutoff s
    → IsGood s cutoff x → IsGood p cutoff x
good_back p whole cutoff s x f good = record {
  feasible = f.back x good.feasible;
  less = less_with s.objective p.objective cutoff x f.objective good.less;
}

pub root_same : (p : Instance) (whole : List Interval) (cutoff : Option ℤ) (s : Instance) → Follows p whole cutoff s
    → root_of s ≡ root_of p
root_same p whole cutoff s f = ap (λ cs. map bounds_of cs) f.columns

module _ (p : Instance) (whole : List Interval) (cutoff : Option ℤ) (s : Instance) (area : List Interval) (f : Follows p whole cutoff s)
    (below : IsBelow area whole) where
  there : (x : List ℤ) → IsInside area x → IsGood p cutoff x → IsGood s cutoff x
  there x inside good = good_there p whole cutoff s x f (inside_below area whole x below inside) good

  pub none_good : HasNoGood s cutoff area → HasNoGood p cutoff area
  none_good none x inside good = none x inside (there x inside good)

  pub keeps_good : (inner : List Interval) → KeepsGood s cutoff area inner → KeepsGood p cutoff area inner
  keeps_good inner keeps x inside good = keeps x inside (there x inside good)

  pub only_good : (x : List ℤ) → IsOnlyGood s cutoff area x → IsOnlyGood p cutoff area x
  only_good x only = record {
    good = good_back p whole cutoff s x f only.good;
    alone = λ y inside good. only.alone y inside (there y inside good);
  }

  pub good_halves : (halves : Halves) → AreGoodHalves s cutoff area halves → AreGoodHalves p cutoff area halves
  good_halves halves h = record {
    below_first = h.below_first;
    below_second = h.below_second;
    kept = λ y inside good. h.kept y inside (there y inside good);
  }

-- nothing is left of the box
pub leaves_none : (base : Base) (p : Instance) (whole : List Interval) (cutoff : Option ℤ) (s : Instance) (area : List Interval)
    → Searches base p whole cutoff s → IsBelow area whole → IsSeenHopeless s cutoff area → LeavesNone base p cutoff area
leaves_none Bound p whole cutoff s area h below seen = subst (λ (q : Instance). IsHopeless (rounds q cutoff area)) h seen.hopeless
leaves_none Surrogate p whole cutoff s area h below seen = none_good p whole cutoff s area h below seen.none

-- this is left of it
pub leaves : (base : Base) (p : Instance) (whole : List Interval) (cutoff : Option ℤ) (s : Instance) (area inner : List Interval)
    → Searches base p whole cutoff s → IsBelow area whole → rounds s cutoff area ≡ Kept inner → IsBelow inner area
    → KeepsGood s cutoff area inner → Leaves base p cutoff area inner
leaves Bound p whole cutoff s area inner h below left inside keeps =
    subst (λ (q : Instance). rounds q cutoff area ≡ Kept inner) h left
leaves Surrogate p whole cutoff s area inner h below left inside keeps = record {
  below = inside;
  kept = keeps_good p whole cutoff s area h below inner keeps;
}

-- the rest of a box is fixed, and its point is good
pub record IsPointLeft (base : Base) (p : Instance) (cutoff : Option ℤ) (area : List Interval) (x : List ℤ) : Type 0 where
  pub inner : List Interval
  pub left : Leaves base p cutoff area inner
  pub fixed : IsFixed inner
  pub point : IsInside inner x
  pub good : IsGood p cutoff x

pub point_left : (base : Base) (p : Instance) (whole : List Interval) (cutoff : Option ℤ) (s : Instance) (area : List Interval) (x : List ℤ)
    → Searches base p whole cutoff s → IsBelow area whole → IsSeenSolved s cutoff area x → IsPointLeft base p cutoff area x
point_left base p whole cutoff s area x h below seen = record {
  inner = seen.inner;
  left = leaves base p whole cutoff s area seen.inner h below seen.left seen.below seen.keeps;
  fixed = seen.fixed;
  point = seen.point;
  good = good_back p whole cutoff s x (follows_of base p whole cutoff s h) seen.only.good;
}

-- a formulation under a cutoff is one under a lower cutoff
pub searches_lower : (base : Base) (p : Instance) (whole : List Interval) (old new : Option ℤ) (s : Instance)
    → ((x : List ℤ) → IsGood p new x → IsGood p old x) → Searches base p whole old s → Searches base p whole new s
searches_lower Bound p whole old new s lower h = h
searches_lower Surrogate p whole old new s lower h = record {
  columns = h.columns;
  objective = h.objective;
  back = h.back;
  kept = λ x inside good. h.kept x inside (lower x good);
}
