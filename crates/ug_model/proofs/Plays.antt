-- A schedule that is played is a trace of the rules.
use Rattle.std.proofs.Common.{◌≡◌, ℕ, zero, suc, ◌+◌, ◌<◌, ◌≤◌, List, [], ◌∷◌, ◌++◌, length, take, refl, ap, sym, ◌∙◌, subst, arith}
use Rattle.std.specs.Prelude.{Some, slice_get}
use Rattle.std.proofs.lemmas.List.{append-nil, append_assoc, length-append}
use Rattle.std.proofs.lemmas.Option.{none-some, same_Some, slice_get_past, slice_get_within}
use Rattle.ug_frames.specs.declared.report.Report.{Report}
use Rattle.ug_rules.specs.State.{BookState}
use Rattle.ug_rules.specs.declared.heard.Heard.{Heard}
use Rattle.ug_rules.specs.declared.told.Told.{Told}
use Rattle.ug_rules.specs.Hearing.{IsDue, after_hearing}
use Rattle.ug_rules.specs.HearingLaws.{HasRisingChanges}
use Rattle.ug_laws.specs.declared.event.Event.{Event}
use Rattle.ug_laws.specs.declared.event.Event.TheVariants.{Send, Hear, Join, Gone, Decide, Tell}
use Rattle.ug_model.specs.declared.playing.Halt.{Halt}
use Rattle.ug_model.specs.declared.playing.Halt.TheVariants.{NoSuch, Memory}
use Rattle.ug_model.specs.declared.schedule.Played.{Played}
use Rattle.ug_laws.specs.Events.{IsMissing, report_of, sent_by}
use Rattle.ug_laws.specs.Worlds.{Happens, IsTrace, IsHeard, World, end_of, opening, told_first}
use Rattle.ug_model.specs.Plays.{AreAllThere, IsAfter, IsLeftBy, IsPlayed, IsStopped}
use Rattle.ug_model.specs.Halts.{IsHalted, fault_of}

-- the events happened, one after another, and lead to this world
pub record IsUnderWay (b : BookState) (events : List Event) (world : World) : Type 0 where
  pub trace : List World
  pub happened : IsTrace (opening b []) events trace
  pub ends : end_of (opening b []) trace ≡ world
  pub wide : length world.book.ranks ≡ length b.ranks

-- ---- one event more

trace_more : (old new : World) (events : List Event) (event : Event) (trace : List World)
    → IsTrace old events trace → Happens (end_of old trace) event new
    → IsTrace old (events ++ event ∷ []) (trace ++ new ∷ [])
trace_more old new [] event [] t h = (h, tt)
trace_more old new (first ∷ events) event (next ∷ trace) t h =
    (t.0, trace_more next new events event trace t.1 h)
trace_more old new [] event (next ∷ trace) t h = absurd t
trace_more old new (first ∷ events) event [] t h = absurd t

end_more : (old new : World) (trace : List World) → end_of old (trace ++ new ∷ []) ≡ new
end_more old new [] = refl
end_more old new (next ∷ trace) = end_more next new trace

pub under_way_more : (b : BookState) (old new : World) (events : List Event) (event : Event)
    → IsUnderWay b events old → Happens old event new
    → length new.book.ranks ≡ length old.book.ranks → IsUnderWay b (events ++ event ∷ []) new
under_way_more b old new events event t h wide = record {
  trace = t.trace ++ new ∷ [];
  happened = trace_more (opening b []) new events event t.trace t.happened
      (subst (λ w. Happens w event new) (sym t.ends) h);
  ends = end_more (opening b []) new t.trace;
  wide = wide ∙ t.wide;
}

-- ---- what was sent

told_sends : (orders : List Told) (old : World)
    → (told_first orders old).sent ≡ old.sent ++ []
told_sends [] old = sym (append-nil old.sent)
told_sends (first ∷ rest) old = sym (append-nil old.sent)

sends : (old new : World) (event : Event) → Happens old event new
    → new.sent ≡ old.sent ++ report_of event
sends old new (Send report) e = ap (λ (w : World). w.sent) e
sends old new (Hear place rank) t =
    ap (λ (w : World). w.sent) t.done ∙ sym (append-nil old.sent)
sends old new (Join rank) e = ap (λ (w : World). w.sent) e ∙ sym (append-nil old.sent)
sends old new (Gone rank) e = ap (λ (w : World). w.sent) e ∙ sym (append-nil old.sent)
sends old new Decide t = ap (λ (w : World). w.sent) t.rest ∙ sym (append-nil old.sent)
sends old new Tell e = ap (λ (w : World). w.sent) e ∙ told_sends old.book.orders old

pub sent_so : (old : World) (events : List Event) (trace : List World)
    → IsTrace old events trace → (end_of old trace).sent ≡ old.sent ++ sent_by events
sent_so old [] [] t = sym (append-nil old.sent)
sent_so old (event ∷ events) (new ∷ trace) t =
    sent_so new events trace t.1
    ∙ (ap (λ reports. reports ++ sent_by events) (sends old new event t.0)
    ∙ append_assoc old.sent (report_of event) (sent_by events))
sent_so old [] (new ∷ trace) t = absurd t
sent_so old (event ∷ events) [] t = absurd t

-- ---- what was received was sent

-- event k receives at this place, and this many were sent earlier
record IsMissingFrom (earlier : ℕ) (events : List Event) (k place : ℕ) : Type 0 where
  rank : ℕ
  hears : slice_get events k ≡ Some (Hear place rank)
  few : earlier + length (sent_by (take k events)) ≤ place

-- no event before the last of a trace receives where nothing was sent
none_from : (old : World) (events : List Event) (done : ℕ) (trace : List World)
    → IsTrace old (take done events) trace → (k place : ℕ) → k < done
    → IsMissingFrom (length old.sent) events k place → ⊥
none_from old events zero trace t k place l m = omega (arith, l)
none_from old [] (suc done) trace t k place l m = none-some _ m.hears
none_from old (event ∷ events) (suc done) [] t k place l m = t
none_from old (event ∷ events) (suc done) (new ∷ trace) t zero place l m =
    let is : event ≡ Hear place m.rank = same_Some event (Hear place m.rank) m.hears in
    let heard = subst (λ e. Happens old e new) is t.0 in
    let there = slice_get_within old.sent place heard.report heard.there in
    omega (arith, there, m.few)
none_from old (event ∷ events) (suc done) (new ∷ trace) t (suc k) place l m =
    let sent = ap (λ (reports : List Report). length reports) (sends old new event t.0) in
    let parts = length-append old.sent (report_of event) in
    let all = length-append (report_of event) (sent_by (take k events)) in
    none_from new events done trace t.1 k place (omega (arith, l)) (record {
      rank = m.rank;
      hears = m.hears;
      few = omega (arith, m.few, sent, parts, all);
    })

pub none_before : (b : BookState) (events : List Event) (done : ℕ) (trace : List World)
    → IsTrace (opening b []) (take done events) trace → (k place : ℕ) → k < done
    → IsMissing events k place → ⊥
none_before b events done trace t k place l m =
    none_from (opening b []) events done trace t k place l
    (record { rank = m.rank; hears = m.hears; few = omega (arith, m.few) })

-- ---- the end of a play

module _ (b : BookState) (events : List Event) (done : ℕ) (old : World)
    (t : IsUnderWay b (take done events) old) where
  -- the next event left what it left
  pub after_so : (new : BookState) → IsLeftBy (slice_get events done) old.book new
      → IsAfter b events done t.trace new
  after_so new left = record {
    happened = t.happened;
    stands = subst (λ w. IsLeftBy (slice_get events done) w.book new) (sym t.ends) left;
  }

  few_sent : length (sent_by (take done events)) ≡ length old.sent
  few_sent = ap (λ (reports : List Report). length reports)
      (sym (sent_so (opening b []) (take done events) t.trace t.happened)
      ∙ ap (λ (w : World). w.sent) t.ends)

  -- it halted
  pub halted_so : (new : World) (event : Event) (halt : Halt) → done < length events
      → slice_get events done ≡ Some event → IsHalted old event new halt
      → IsStopped b events (fault_of halt done new.book)
  halted_so new event (NoSuch place) l is h =
      let next = is ∙ ap Some h.0.hears in
      record {
        done = done;
        trace = t.trace;
        after = after_so new.book (subst (λ o. IsLeftBy o old.book new.book) (sym next)
            (ap (λ (w : World). w.book) h.1));
        missing = record {
          rank = h.0.rank;
          hears = next;
          few = omega (arith, few_sent, h.0.few);
        };
        first = λ k other before. none_before b events done t.trace t.happened k other before;
      }
  halted_so new event Memory l is h = record {
    there = l;
    trace = t.trace;
    after = after_so new.book (subst (λ o. IsLeftBy o old.book new.book) (sym is) h);
  }

-- all of the events happened
module _ (b : BookState) (events : List Event) (done : ℕ) (world : World)
    (t : IsUnderWay b (take done events) world) (all : done ≡ length events) where
  whole : IsUnderWay b (take (length events) events) world
  whole = subst (λ n. IsUnderWay b (take n events) world) all t

  pub played_so : (played : Played) → played.book ≡ world.book → played.replies ≡ world.replies
      → played.decisions ≡ world.decisions → IsPlayed b events played
  played_so played book replies decisions = record {
    trace = whole.trace;
    after = after_so b events (length events) world whole played.book
        (subst (λ o. IsLeftBy o world.book played.book)
        (sym (slice_get_past events (length events) (omega arith))) book);
    replies = replies ∙ sym (ap (λ (w : World). w.replies) whole.ends);
    decisions = decisions ∙ sym (ap (λ (w : World). w.decisions) whole.ends);
  }

  pub all_there : AreAllThere events
  all_there k place m =
      none_before b events (length events) whole.trace whole.happened k place
      (slice_get_within events k (Hear place m.rank) m.hears) m

-- ---- one report received

pub heard_so : (old : World) (place rank : ℕ) (report : Report) (answer : Heard)
    (book : BookState) (replies : List Heard)
    → slice_get old.sent place ≡ Some report → HasRisingChanges report
    → IsDue old.book rank report answer
    → book ≡ after_hearing answer rank report old.book → replies ≡ old.replies ++ answer ∷ []
    → IsHeard old place rank (record old { book = book; replies = replies })
heard_so old place rank report answer book replies there rising due is are = record {
  report = report;
  answer = answer;
  there = there;
  rising = rising;
  due = due;
  done = ap (λ (b : BookState). record old { book = b; replies = replies }) is
      ∙ ap (λ (all : List Heard). record old {
        book = after_hearing answer rank report old.book;
        replies = all;
      }) are;
}
