use Rattle.std.proofs.Common.{ℤ, List, take, to_z, of_z, arith, subst}
use Rattle.std.proofs.lemmas.Int.{to_z-of_z}
use Rattle.std.proofs.lemmas.List.{take_all}
use mir.Syntax.{w128}
use Rattle.ug_problem.specs.declared.column.NamedRow.{NamedRow}
use Rattle.ug_surrogate.specs.declared.multipliers.Multipliers.{Multipliers}
use Rattle.ug_surrogate.specs.Complete.{IsWithRowOf, IsWithRowsOf}
use Rattle.ug_surrogate.proofs.Complete.{lists_more}
use Rattle.ug_surrogate.proofs.further.push_all_implied.Goals as goal

pub loop-m-preserved : goal.loop-m-preserved
loop-m-preserved c =
    let p = c.args.problem.now in
    let cutoff : ℤ = to_z w128 (of_z w128 c.args.cutoff) in
    let mid : List NamedRow = c.loop-m.rows.items in
    let new : List NamedRow = c.push_implied.new.rows.items in
    record {
      stand = c.in_ok-push_implied.ensures.stand;
      added = lists_more p c.args.lists.now c.loop-m.m-index c.m-item.result cutoff
          c.args.rows.now.items mid new
          c.loop-m-test.true c.loop-m.invariant.added
          (subst (λ (m : Multipliers). IsWithRowOf p m cutoff mid new) c.m-item.is
          c.in_ok-push_implied.ensures.added);
    }

pub returns-clause-added : goal.returns-clause-added
returns-clause-added c =
    let p = c.args.problem.now in
    let lists : List Multipliers = c.args.lists.now in
    let i = c.loop-m.m-index in
    let old : List NamedRow = c.args.rows.now.items in
    let new : List NamedRow = c.loop-m.rows.items in
    let added : IsWithRowsOf p (take i lists) c.args.cutoff old new =
    subst (λ (z : ℤ). IsWithRowsOf p (take i lists) z old new)
    (to_z-of_z w128 c.args.cutoff c.ranges.cutoff)
    c.loop-m.invariant.added in
    subst (λ (ms : List Multipliers). IsWithRowsOf p ms c.args.cutoff old new)
    (take_all i lists (omega (arith, c.loop-m-test.false))) added
