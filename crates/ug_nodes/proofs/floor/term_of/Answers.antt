use Rattle.ug_rows.proofs.Replaced.{among_at}
use Rattle.ug_nodes.proofs.floor.term_of.Goals as goal

pub returns-then-is_of : goal.returns-then-is_of
returns-then-is_of c =
    let here = c.is_of.ensures.0 c.if-is_of.true in
    (among_at c.args.terms.now c.args.column here.0, here.1)
