use Rattle.std.proofs.Common.{◌≡◌, ◌<◌, List, Bool, length, ap, arith, subst, sym}
use Rattle.std.specs.Bool.{OnFalse}
use Rattle.ug_problem.specs.declared.column.NamedRow.{NamedRow}
use Rattle.ug_surrogate.proofs.Follows.{own_stand}
use Rattle.ug_surrogate.proofs.Complete.{all_tightened, next_tightened, none_tightened, same_as_old, same_if_left}
use Rattle.ug_surrogate.proofs.in_place.tighten_all.Goals as goal
use Rattle.ug_surrogate.proofs.in_place.tighten_all.Goals.{then-branch, else-branch}

pub loop-r-init : goal.loop-r-init
loop-r-init c =
    let p = c.args.problem.now in
    let area = c.args.area.now in
    let rows = c.args.rows.now.items in
    record {
      stand = own_stand p area rows c.rows-r-end.ensures.problem c.requires.own;
      tightened = none_tightened p area rows c.requires.own;
      same = c.requires.own;
    }

pub loop-r-preserved : goal.loop-r-preserved
loop-r-preserved c =
    let p = c.args.problem.now in
    let area = c.args.area.now in
    let r = c.loop-r.r in
    let old : List NamedRow = c.loop-r.rows.items in
    let new : List NamedRow = c.tighten.new.rows.items in
    let is_tighter : Bool = c.in_ok-tighten.field-0 in
    let there : r < length p.rows =
    omega (arith, c.loop-r-test.true, ap length c.rows-r-end.ensures.value) in
    record {
      stand = c.in_ok-tighten.ensures.stand;
      tightened = next_tightened p area old new r is_tighter there c.loop-r.invariant.tightened
          c.in_ok-tighten.ensures.changed c.in_ok-tighten.ensures.same;
      same = elim c.if-branch.branch [
        | then-branch w ↦ subst (λ (b : Bool). OnFalse b (new ≡ p.rows)) (sym w.is_changed-is) tt
        | else-branch w ↦ subst (λ (b : Bool). OnFalse b (new ≡ p.rows)) (sym w.is_changed-is)
            (same_if_left p area old new r c.loop-r.is_changed is_tighter c.loop-r.invariant.same
            w.if-branch.false c.in_ok-tighten.ensures.same)
      ];
    }

pub returns-clause-tightened : goal.returns-clause-tightened
returns-clause-tightened c =
    let p = c.args.problem.now in
    all_tightened p c.args.area.now c.loop-r.rows.items c.loop-r.r
    (omega (arith, c.loop-r-test.false, ap length c.rows-r-end.ensures.value))
    c.loop-r.invariant.tightened

pub returns-clause-same : goal.returns-clause-same
returns-clause-same c =
    same_as_old c.args.problem.now.rows c.args.rows.now.items c.loop-r.rows.items
    c.loop-r.is_changed c.requires.own
    c.loop-r.invariant.same
