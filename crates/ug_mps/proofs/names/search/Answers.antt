use Rattle.std.proofs.Common.{rules}
use Rattle.std.proofs.lemmas.Fn.{always_returns_same}
use Rattle.ug_mps.specs.Names.{name_at, name_cmp}
use Rattle.ug_mps.proofs.NamesLemmas.{searched}
use Rattle.ug_mps.proofs.names.search.Goals as goal

-- the closure compares the name at a place with the name
pub returns : goal.returns
returns c =
    let facts = c.binary_search_by.ensures in
    let by_name = facts.position (λ place. name_cmp (name_at c.args.names.now place) c.args.name.now) (always_returns_same _ _ _ (λ a r f' called. search rules)) in
    searched c.args.names.now c.args.order.now c.requires c.args.name.now _ facts.bound by_name
