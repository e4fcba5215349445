use Rattle.std.proofs.Common.{length, take_all, arith}
use Rattle.std.proofs.lemmas.List.{drop_all}
use Rattle.ug_lines.proofs.Pieces.{pieces_some, pieces_none}
use Rattle.ug_lines.proofs.lines.cut.Goals as goal

pub returns-in-Some-clause-pieces : goal.returns-in-Some-clause-pieces
returns-in-Some-clause-pieces c =
    rw (c.split_at.ensures.front, c.split_at.ensures.back) (pieces_some c.args.text.now c.in-Some.at c.in-Some.ensures)

pub returns-in-None-clause-pieces : goal.returns-in-None-clause-pieces
returns-in-None-clause-pieces c =
    let text = c.args.text.now in
    rw (c.split_at-in-None.ensures.front, c.split_at-in-None.ensures.back, take_all (length text) text (omega arith), drop_all (length text) text (omega arith))
    (pieces_none text c.requires c.in-None.ensures)
