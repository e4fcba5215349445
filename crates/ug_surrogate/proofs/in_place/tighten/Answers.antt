use Rattle.std.proofs.Common.{Option, IfSome, subst}
use Rattle.ug_rows.specs.declared.row.Row.{Row}
use Rattle.ug_problem.specs.Instances.{row_at}
use Rattle.ug_surrogate.specs.Complete.{IsTightened}
use Rattle.ug_surrogate.specs.Stronger.{IsInPlaceOf}
use Rattle.ug_surrogate.proofs.Follows.{put_stand}
use Rattle.ug_surrogate.proofs.in_place.tighten.Goals as goal

pub returns-in-Some-clause-stand : goal.returns-in-Some-clause-stand
returns-in-Some-clause-stand c =
    let p = c.args.problem.now in
    let area = c.args.area.now in
    let is : IsInPlaceOf p area c.args.r c.in-Some.row =
    subst (λ (o : Option Row). IfSome o (IsInPlaceOf p area c.args.r)) c.in-Some.is
    c.in_ok-row.ensures.in_place in
    put_stand p area c.args.r c.in-Some.row c.args.rows.now.items c.put.new.rows.items
    c.requires.stand is c.put.ensures c.requires.there

pub returns-in-Some-clause-changed : goal.returns-in-Some-clause-changed
returns-in-Some-clause-changed c = record {
  row = c.in-Some.row;
  tightened = subst (λ (o : Option Row). IfSome o (IsTightened c.args.area.now
      (row_at c.args.problem.now c.args.r)))
      c.in-Some.is c.in_ok-row.ensures.some;
  put = c.put.ensures;
}
