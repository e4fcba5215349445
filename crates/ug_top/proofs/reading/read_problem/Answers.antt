use Rattle.std.proofs.Common.{ℕ, List, subst}
use Rattle.ug_top.specs.Unread.{IsTextUnread}
use Rattle.ug_top.proofs.Texts.{told_unread}
use Rattle.ug_top.proofs.reading.read_problem.Goals as goal

pub returns-in-Ok-clause-unread : goal.returns-in-Ok-clause-unread
returns-in-Ok-clause-unread g c =
    told_unread (g.S.Source.seen c.args.input.now).left c.in-Ok.text.items c.args.boxed c.in-Err.ended
    c.in-Ok.ensures.enough
    (subst (λ (t : List ℕ). IsTextUnread c.args.boxed t c.in-Err.ended) c.deref.ensures.value
    c.in-Err.ensures.unread)
