use Rattle.std.proofs.Common.{subst, arith, ◌∙◌}
use Rattle.std.proofs.lemmas.Int.{fits_signed_from_abs, to_z-of_z}
use mir.Syntax.{w128}
use Rattle.ug_nodes.specs.Changes.{IsRising}
use Rattle.ug_book.proofs.Starts.{start_put}
use Rattle.ug_book.proofs.start.put_start.Goals as goal

pub returns : goal.returns
returns c =
    let run = c.args.run.now in
    record {
      ok = start_put run.problem run.number c.args.hand c.args.changes c.args.pool.now
          c.put.new.self _ _
          (to_z-of_z w128 c.floor_of-floor.result
          (fits_signed_from_abs w128 _ (omega (arith, c.floor_of-floor.ensures.small)))
          ∙ c.floor_of-floor.ensures.value)
          c.in_ok-line.ensures c.put.ensures
          (subst IsRising c.changes.view_is c.changes.invariant) c.requires.changes;
    }
