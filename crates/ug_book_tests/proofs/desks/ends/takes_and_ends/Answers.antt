use Rattle.std.proofs.Common.{◌≡◌, rules, subst, sym}
use Rattle.ug_desk.specs.Backing.{IsKnownBacked}
use Rattle.ug_book_tests.proofs.desks.ends.takes_and_ends.Goals as goal

pub done-requires-clause-known : goal.done-requires-clause-known
done-requires-clause-known g c =
    let same : c.search-searched.new.task.cutoff ≡ c.in-Some.task.cutoff = search rules in
    subst (IsKnownBacked c.work.new.pass) (sym same) c.in-Some.ensures.known
