-- Along a trace no better point is lost.
use Rattle.std.proofs.Common.{◌≡◌, ℕ, ◌<◌, List, [], ◌∷◌, ◌++◌, append_assoc, length, refl, ap, sym, ◌∙◌, subst, arith}
use Rattle.std.specs.Prelude.{All, Contains}
use Rattle.std.proofs.lemmas.List.Elements.{All-cons, All-head, All-nil, All-tail, All-weaker}
use Rattle.std.proofs.lemmas.Option.{get_or_from_slice_get, slice_get_within}
use Rattle.ug_problem.specs.Instances.{root_of}
use Rattle.ug_problem.specs.Incumbents.{one_kept}
use Rattle.ug_ledger.proofs.FactLemmas.{none_current}
use Rattle.ug_ledger.proofs.PrimitiveLemmas.{primitive_covered}
use Rattle.ug_frames.specs.declared.report.Report.{Report}
use Rattle.ug_frames.specs.declared.report.Report.TheVariants.{Ready}
use Rattle.ug_rules.specs.declared.settings.Settings.{Settings}
use Rattle.ug_rules.specs.declared.told.Told.{Told}
use Rattle.ug_rules.specs.State.{BookState, ledger_of}
use Rattle.ug_rules.specs.Books.{IsBook, IsSoundBook}
use Rattle.ug_rules.specs.Deaths.{killed}
use Rattle.ug_rules.specs.Hearing.{after_hearing, kept}
use Rattle.ug_rules.proofs.BookLemmas.{book_with_rest}
use Rattle.ug_rules.proofs.DecidedLemmas.{decided_keeps, stands_keeps}
use Rattle.ug_rules.proofs.EventLemmas.{death_keeps, ready_keeps}
use Rattle.ug_rules.proofs.HearingLemmas.{hearing_keeps_book, hearing_keeps_sound}
use Rattle.ug_rules.proofs.HeldLemmas.{is_current}
use Rattle.ug_laws.specs.declared.event.Event.{Event}
use Rattle.ug_laws.specs.declared.event.Event.TheVariants.{Send, Hear, Join, Gone, Decide, Tell}
use Rattle.ug_laws.specs.Events.{IsEvent}
use Rattle.ug_laws.specs.declared.decision.Decision.{Decision}
use Rattle.ug_laws.specs.declared.decision.Decision.TheVariants.{Whole, CutShort}
use Rattle.ug_laws.specs.Worlds.{Happens, IsMadeAsFar, IsTrace, IsHeard, World, end_of, opening, told_first}
use Rattle.ug_laws.specs.Honest.{IsHonest}
use Rattle.ug_laws.specs.Laws.{HonestLoseNothing, LosesNothing}
use Rattle.ug_laws.proofs.Known.{AreKnown, Carries, IsKnown, known_sent}
use Rattle.ug_laws.proofs.Heard.{heard_carries, joined_carries, killed_carries}
use Rattle.ug_laws.proofs.Decided.{decided_carries, stood_carries}
use Rattle.ug_laws.proofs.Trusted.{AreTrue, honest_true, unused_true}

-- facts about each world of a trace, except that true reports were sent
pub record Holds (n : ℕ) (w : World) : Type 0 where
  pub book : IsBook w.book
  pub sound : IsSoundBook w.book
  pub known : AreKnown w.told w.book w.sent
  pub wide : length w.book.ranks ≡ n

-- a book with as many ranks
as_wide : (past : List Told) (sent : List Report) (old new : BookState) → IsBook old → IsBook new
    → Carries past sent old new → length new.ranks ≡ length old.ranks
as_wide past sent old new was is t =
    is.ranks ∙ (ap (λ (s : Settings). s.solvers) t.settings ∙ sym was.ranks)

-- after a change of the book alone
moved : (n : ℕ) (old : World) (new : BookState) → Holds n old → IsBook new → IsSoundBook new
    → Carries old.told old.sent old.book new → Holds n (record old { book = new })
moved n old new h book sound t = record {
  book = book;
  sound = sound;
  known = record { each = (t.known h.known).each };
  wide = as_wide old.told old.sent old.book new h.book book t ∙ h.wide;
}

within : (n : ℕ) (rank : ℕ) (w : World) → Holds n w → rank < n → rank < length w.book.ranks
within n rank w h l = omega (arith, l, h.wide)

heard_holds : (n : ℕ) (old new : World) (place rank : ℕ) → rank < n → IsHeard old place rank new
    → AreTrue old.book old.sent → Holds n old → Holds n new
heard_holds n old new place rank l t true_ h =
    let there = within n rank old h l in
    let among : Contains old.sent t.report = (
      place,
      slice_get_within old.sent place t.report t.there,
      get_or_from_slice_get old.sent place t.report t.report t.there,
    ) in
    let book = hearing_keeps_book old.book rank t.report t.answer there t.due
    t.rising h.book in
    let sound = hearing_keeps_sound old.book rank t.report t.answer there t.due
    (true_ rank t.report among) h.book h.sound in
    let carries = heard_carries old.told old.sent old.book rank t.report t.answer there h.book among t.due in
    let m = moved n old (after_hearing t.answer rank t.report old.book) h book sound carries in
    subst (λ w. Holds n w) (sym t.done) (record {
      book = m.book;
      sound = m.sound;
      known = record { each = m.known.each };
      wide = m.wide;
    })

-- an order that is sent was among those that wait
told_holds : (n : ℕ) (old : World) (orders : List Told) → old.book.orders ≡ orders → Holds n old
    → Holds n (told_first orders old)
told_holds n old [] e h = h
told_holds n old (first ∷ rest) e h =
    let b = record old.book { orders = rest } in
    let all : old.told ++ old.book.orders ≡ (old.told ++ first ∷ []) ++ rest =
    ap (λ (os : List Told). old.told ++ os) e ∙ sym (append_assoc old.told (first ∷ []) rest) in
    record {
      book = book_with_rest old.book first rest e h.book;
      sound = h.sound;
      known = record {
        each = λ q c i. subst (λ (os : List Told). IsKnown (root_of old.book.problem) old.sent os c)
            all (h.known.each q c i);
      };
      wide = h.wide;
    }

-- a decision, as far as it went
made_holds : (n : ℕ) (old : World) (new : BookState) (decision : Decision)
    → IsMadeAsFar decision old.book new → Holds n old → Holds n (record old { book = new })
made_holds n old new Whole made h =
    let keeps = decided_keeps old.book new h.book made in
    moved n old new h (keeps.book h.book) (keeps.sound h.book h.sound)
    (decided_carries old.told old.sent old.book new h.book made)
made_holds n old new (CutShort steps) made h =
    let keeps = stands_keeps steps old.book new h.book made in
    moved n old new h (keeps.book h.book) (keeps.sound h.book h.sound)
    (stood_carries old.told old.sent steps old.book new h.book made)

pub event_holds : (n : ℕ) (old new : World) (event : Event) → IsEvent n event
    → Happens old event new → AreTrue old.book old.sent → Holds n old → Holds n new
event_holds n old new (Send report) is e true_ h =
    subst (λ w. Holds n w) (sym e) (record {
      book = h.book;
      sound = h.sound;
      known = record { each = (known_sent old.told old.book old.sent (report ∷ []) h.known).each };
      wide = h.wide;
    })
event_holds n old new (Hear place rank) is t true_ h =
    heard_holds n old new place rank is t true_ h
event_holds n old new (Join rank) is e true_ h =
    let there = within n rank old h is in
    let keeps = ready_keeps old.book rank there in
    subst (λ w. Holds n w) (sym e)
    (moved n old (kept rank Ready old.book) h (keeps.book h.book) (keeps.sound h.book h.sound)
    (joined_carries old.told old.sent old.book rank))
event_holds n old new (Gone rank) is e true_ h =
    let there = within n rank old h is in
    let keeps = death_keeps old.book rank there in
    subst (λ w. Holds n w) (sym e)
    (moved n old (killed rank old.book) h (keeps.book h.book) (keeps.sound h.book h.sound)
    (killed_carries old.told old.sent old.book rank there h.book))
event_holds n old new Decide is t true_ h =
    let m = made_holds n old new.book t.decision t.made h in
    subst (λ w. Holds n w) (sym t.rest) (record {
      book = m.book;
      sound = m.sound;
      known = record { each = m.known.each };
      wide = m.wide;
    })
event_holds n old new Tell is e true_ h =
    subst (λ w. Holds n w) (sym e) (told_holds n old old.book.orders refl h)

-- a world whose run has given no ticket yet
pub unused_holds : (w : World) → IsBook w.book → IsSoundBook w.book → w.book.last ≡ 0
    → Holds (length w.book.ranks) w
unused_holds w book sound unused = record {
  book = book;
  sound = sound;
  known = record {
    each = λ q c h. absurd (none_current (root_of w.book.problem) (ledger_of w.book) book.ledger
        unused q c (is_current w.book q c h));
  };
  wide = refl;
}

-- the world before the first event
pub opening_holds : (b : BookState) (earlier : List Report) → IsBook b → IsSoundBook b → b.last ≡ 0
    → Holds (length b.ranks) (opening b earlier)
opening_holds b earlier book sound unused = unused_holds (opening b earlier) book sound unused

pub trace_holds : (n : ℕ) (old : World) (events : List Event) (trace : List World)
    → All (IsEvent n) events → IsTrace old events trace
    → All IsHonest trace → AreTrue old.book old.sent → Holds n old → All (Holds n) trace
trace_holds n old [] [] are t honest true_ h = All-nil (Holds n)
trace_holds n old (event ∷ events) (new ∷ trace) are t honest true_ h =
    let first = event_holds n old new event (All-head (IsEvent n) event events are)
    t.0 true_ h in
    let next = honest_true new.told new.book new.sent (All-head IsHonest new trace honest) first.known in
    All-cons (Holds n) new trace first
    (trace_holds n new events trace (All-tail (IsEvent n) event events are) t.1 (All-tail IsHonest new trace honest) next first)
trace_holds n old [] (new ∷ trace) are t honest true_ h = absurd t
trace_holds n old (event ∷ events) [] are t honest true_ h = absurd t

pub loses_nothing : (b : BookState) → IsSoundBook b → LosesNothing b
loses_nothing b sound = record {
  sound = sound;
  covered = λ nodes all. primitive_covered b.problem b.settings.gap (one_kept b.best) (ledger_of b) nodes
      sound all;
}

pub honest_lose_nothing : HonestLoseNothing
honest_lose_nothing b earlier events trace book sound unused are t honest =
    All-weaker (Holds (length b.ranks)) (λ (w : World). LosesNothing w.book)
    (λ w h. loses_nothing w.book h.sound) trace
    (trace_holds (length b.ranks) (opening b earlier) events trace are t honest
    (unused_true b earlier book unused)
    (opening_holds b earlier book sound unused))

-- ---- and at its end

pub end_holds : (n : ℕ) (old : World) (trace : List World) → Holds n old → All (Holds n) trace
    → Holds n (end_of old trace)
end_holds n old [] h all = h
end_holds n old (new ∷ trace) h all =
    end_holds n new trace (All-head (Holds n) new trace all) (All-tail (Holds n) new trace all)
