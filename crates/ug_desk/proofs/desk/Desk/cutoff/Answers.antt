use Rattle.std.proofs.Common.{rules}
use mir.Syntax.{w128}
use Rattle.std.proofs.lemmas.Int.{to_z-of_z}
use Rattle.ug_turn.specs.Seats.{lock_of, view_of}
use Rattle.ug_desk.specs.Passes.{HasLooked, PassState, pass_seen}
use Rattle.ug_desk.proofs.Backing.{looked_backed}
use Rattle.ug_desk.proofs.desk.Desk.cutoff.Goals as goal

pub cutoff_at-requires : goal.cutoff_at-requires
cutoff_at-requires c = rw (to_z-of_z w128 c.pass.inside.floor (search rules)) c.pass.invariant.small

pub returns-clause-backed : goal.returns-clause-backed
returns-clause-backed c =
    let q : PassState = pass_seen (lock_of c.cutoff-word.new.seat) c.pass.inside.rank (view_of c.cutoff-word.new.seat) in
    let looked : HasLooked c.cutoff_at.result c.args.pass.now q = search rules in
    looked_backed c.cutoff_at.result c.args.pass.now q looked
