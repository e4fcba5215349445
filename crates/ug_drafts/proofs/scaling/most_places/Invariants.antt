use Rattle.std.proofs.Common.{◌≡◌, take}
use Rattle.ug_drafts.specs.RowNumbers.{most_places}
use Rattle.ug_drafts.proofs.scaling.most_places.Given as goal

abbrev pub invariant-loop-term : goal.invariant-loop-term
invariant-loop-term l = l.most ≡ most_places (take l.term-index l.terms)
