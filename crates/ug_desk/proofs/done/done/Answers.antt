use Rattle.std.proofs.Common.{◌≡◌, ◌∙◌, length, ap}
use Rattle.ug_desk.proofs.Ends.{done_so, true_so}
use Rattle.ug_desk.proofs.done.done.Goals as goal

pub returns-clause-done : goal.returns-clause-done
returns-clause-done c =
    done_so c.args.book.now c.args.rank c.args.task.now c.requires.ticket c.handed-handed.result.now
    c.taken-taken.result.now c.found-found.result c.count_told-count.result c.handed-handed.ensures.value
    c.taken-taken.ensures c.found-found.ensures c.count_told-count.ensures c.hear-heard.new.self
    c.ticket.result c.cutoff.result c.hear-heard.result c.told_on.result c.ticket.ensures
    c.cutoff.ensures.value c.hear-heard.ensures.due c.hear-heard.ensures.done c.told_on.ensures

pub returns-clause-sound : goal.returns-clause-sound
returns-clause-sound c =
    let none : c.left-left.result ≡ 0 =
    c.left-left.ensures.count ∙ ap length c.requires.none in
    c.hear-heard.ensures.sound
    (true_so c.args.book.now c.args.rank c.args.task.now c.requires.ticket c.handed-handed.result.now
    c.taken-taken.result.now c.found-found.result c.count_told-count.result c.handed-handed.ensures.value
    c.taken-taken.ensures c.found-found.ensures c.count_told-count.ensures c.ticket.result
    c.cutoff.result c.cutoff.ensures.value (c.left-left.ensures.ended none))
