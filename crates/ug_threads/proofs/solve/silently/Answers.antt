use Rattle.std.proofs.Common.{refl}
use Rattle.ug_book.specs.Openings.{opening_book}
use Rattle.ug_threads.proofs.Endings.{has_ended}
use Rattle.ug_threads.proofs.solve.silently.Goals as goal

pub returns-clause-ended : goal.returns-clause-ended
returns-clause-ended g c =
    has_ended c.args.opening.now (opening_book c.args.opening.now) c.solve-solved.result.book
    c.end_of.result refl c.solve-solved.ensures.ended c.end_of.ensures.same
    c.end_of.ensures.feasible c.end_of.ensures.answered c.end_of.ensures.right c.end_of.ensures.limited
    c.end_of.ensures.stranded
