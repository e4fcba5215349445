use Rattle.std.proofs.Common.{subst}
use Rattle.ug_desk.specs.Decided.{HasDecided}
use Rattle.ug_desk.proofs.Joined.{stays_joined}
use Rattle.ug_desk.proofs.take.take.Goals as goal

pub answer-requires-clause-joined : goal.answer-requires-clause-joined
answer-requires-clause-joined c =
    stays_joined c.args.book.now c.decide.new.book c.args.rank c.requires
    (subst (λ b. HasDecided b c.decide.new.book) c.join.ensures.done
    c.in_default.ensures.decided)
