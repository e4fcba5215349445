-- Wherever a schedule stops, no better point is lost.
use Rattle.std.proofs.Common.{◌≡◌, List, [], length, sym, subst}
use Rattle.std.specs.Prelude.{All, Option, Some, None, slice_get, take}
use Rattle.std.proofs.lemmas.List.Elements.{All-take}
use Rattle.ug_rules.specs.State.{BookState}
use Rattle.ug_rules.specs.Books.{IsBook, IsSoundBook}
use Rattle.ug_laws.specs.declared.event.Event.{Event}
use Rattle.ug_laws.specs.declared.event.Event.TheVariants.{Send, Hear, Join, Gone, Decide, Tell}
use Rattle.ug_laws.specs.Events.{IsEvent}
use Rattle.ug_laws.specs.Worlds.{end_of, opening}
use Rattle.ug_laws.proofs.Traces.{end_holds, loses_nothing, opening_holds, trace_holds}
use Rattle.ug_laws.proofs.Trusted.{unused_true}
use Rattle.ug_model.specs.Plays.{HonestLeave, IsLeftBy}

-- what stands of the next event is sound too
pub left_sound : (next : Option Event) (old new : BookState) → IsBook old → IsSoundBook old
    → IsLeftBy next old new → IsSoundBook new
left_sound None old new book sound e = subst IsSoundBook (sym e) sound
left_sound (Some (Send report)) old new book sound e = subst IsSoundBook (sym e) sound
left_sound (Some (Hear place rank)) old new book sound e = subst IsSoundBook (sym e) sound
left_sound (Some (Join rank)) old new book sound e = absurd e
left_sound (Some (Gone rank)) old new book sound e = absurd e
left_sound (Some Decide) old new book sound e = subst IsSoundBook (sym e) sound
left_sound (Some Tell) old new book sound e = subst IsSoundBook (sym e) sound

-- wherever a play stopped
pub honest_leave : (b left : BookState) (events : List Event) → IsBook b → IsSoundBook b
    → b.last ≡ 0 → All (IsEvent (length b.ranks)) events → HonestLeave b events left
honest_leave b left events book sound unused are done trace t honest =
    let n = length b.ranks in
    let first = opening_holds b [] book sound unused in
    let all = trace_holds n (opening b []) (take done events) trace
    (All-take (IsEvent n) done events are) t.happened honest (unused_true b [] book unused) first in
    let last = end_holds n (opening b []) trace first all in
    loses_nothing left (left_sound (slice_get events done) (end_of (opening b []) trace).book left
    last.book last.sound t.stands)
