use Rattle.std.proofs.Common.{◌≡◌, ◌∷◌, ◌++◌, [], subst, rules}
use Rattle.std.specs.Prelude.{Some, slice_get}
use Rattle.ug_laws.specs.Worlds.{IsHeard, World}
use Rattle.ug_model.proofs.Plays.{heard_so}
use Rattle.ug_model.proofs.playing.Playing.hear.Goals as goal

pub returns-clause-heard : goal.returns-clause-heard
returns-clause-heard c =
    let old : World = record {
      book = c.self.inside.book;
      told = c.self.inside.told.items;
      sent = c.self.inside.sent.items;
      replies = c.self.inside.replies.items;
      decisions = c.self.inside.decisions.items;
    } in
    let there : slice_get c.self.inside.sent.items c.args.place ≡ Some c.in_ok-report.report =
    search rules in
    let replies : c.push.new.self.items
    ≡ c.self.inside.replies.items ++ c.hear-answer.result ∷ [] = search rules in
    let new : World = record old {
      book = c.hear-answer.new.self;
      replies = c.push.new.self.items;
    } in
    subst (λ (w : World). IsHeard w c.args.place c.args.rank new) c.self.view_is
    (heard_so old c.args.place c.args.rank c.in_ok-report.report c.hear-answer.result new.book
    new.replies there c.in_ok-report.ensures.rising c.hear-answer.ensures.due
    c.hear-answer.ensures.done replies)
