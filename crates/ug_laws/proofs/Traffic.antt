-- What goes between a coordinator and its crew in a trace of actions.
use Rattle.std.proofs.Common.{◌≡◌, ◌≢◌, ◌⊎◌, inl, inr, eqb, ℕ, ℤ, ◌<◌, Bool, true, false, List, [], ◌∷◌, ◌++◌, append_assoc, append-nil, length, Option, Some, None, refl, sym, ap, subst, ◌∙◌, arith}
use Rattle.std.specs.Prelude.{All, Contains, slice_index_or, slice_set}
use Rattle.std.specs.List.{flat_map}
use Rattle.std.specs.Option.{option_to_list}
use Rattle.std.proofs.lemmas.Bool.{cases_Bool, cases_eq, cases_lt, eq-eqb, eqb-true, false≢true, ne_eqb}
use Rattle.std.proofs.lemmas.List.{get_or-set_other, get_or-set_same, get_or_past, length-set, set_past}
use Rattle.std.proofs.lemmas.List.Elements.{All-append, All-cons, All-nil, Contains-append_cases, Contains-append_left, Contains-append_right}
use Rattle.std.proofs.lemmas.Grind.{flat_map-append}
use Rattle.ug_io.specs.declared.crew.Exchange.{Exchange}
use Rattle.ug_io.specs.declared.crew.Exchange.TheVariants.{Gone}
use Rattle.ug_io.specs.Crews.{heard_from, told_to}
use Rattle.ug_problem.specs.Instances.{Instance}
use Rattle.ug_records.specs.Answers.{IsRecordOf}
use Rattle.ug_frames.specs.declared.order.Order.{Order}
use Rattle.ug_frames.specs.declared.order.Order.TheVariants.{Setup, End}
use Rattle.ug_frames.specs.declared.report.Report.{Report}
use Rattle.ug_frames.specs.OrderFrames as orders
use Rattle.ug_frames.specs.ReportFrames as reports
use Rattle.ug_stream.specs.Streams.{IsBadAt, IsGiven, Waiting, fed, first, shut}
use Rattle.ug_rules.specs.declared.heard.Heard.{Heard}
use Rattle.ug_rules.specs.declared.settings.Settings.{Settings}
use Rattle.ug_rules.specs.declared.told.Told.{Told}
use Rattle.ug_rules.specs.State.{BookState}
use Rattle.ug_rules.specs.Deaths.{killed}
use Rattle.ug_coord.specs.Actions.{Broke, Came, Cause, Closed, Decided, Action, NextState, Ended, Failed, Halted, IsTrace, IsLost, IsTaken, IsUnsent, Launched, Lost, Nonsense, Passed}
use Rattle.ug_coord.specs.Actions.{Sent, SetUp, CoordinatorState, Took, Unclosed, Unfed, Unread, Unsent, Unwritten, lives_at, stream_at}
use Rattle.ug_coord.specs.Actions.{Kept as Saved}
use Rattle.ug_serve.specs.Worked.{heard_at, told_at}
use Rattle.ug_serve.proofs.Heard.{one_way}
use Rattle.ug_serve.proofs.Honesty.{nothing_in}
use Rattle.ug_serve.proofs.Worked.{heard_by, heard_its, heard_others, heard_same, heard_told, told_at_on, told_heard, told_its, told_others, told_same}
use Rattle.ug_serve.proofs.Told.{first_or, in_front}
use Rattle.ug_serve.proofs.Wires.{fed_so}
use Rattle.ug_laws.proofs.Numbered.{Grows, decided_grows, grows_both, grows_itself, grows_left, heard_grows, killed_grows, stands_grows}

-- ---- what an action sends and receives

-- the order that was put in a frame for a rank, if one was; one that comes first has this gap
abbrev pub sent_in : ℤ → Action → Option Told
sent_in gap (SetUp rank bytes) = Some (record { rank = rank; order = Setup gap bytes })
sent_in gap (Closed rank) = Some (record { rank = rank; order = End })
sent_in gap (Sent rank order) = Some (record { rank = rank; order = order })
sent_in gap action = None

-- the order that left the queue, if one did
abbrev pub left_in : Action → Option Told
left_in (Sent rank order) = Some (record { rank = rank; order = order })
left_in (Unsent rank order) = Some (record { rank = rank; order = order })
left_in (Passed rank order) = Some (record { rank = rank; order = order })
left_in (Unwritten rank order) = Some (record { rank = rank; order = order })
left_in action = None

-- a report that came from a rank
pub record Delivery : Type 0 where
  pub rank : ℕ
  pub report : Report

-- the one that was received, if one was
abbrev pub taken_in : Action → Option Delivery
taken_in (Took rank report answer) = Some (record { rank = rank; report = report })
taken_in action = None

-- the thing, where it is so
abbrev pub only : {X : Type 0} → Bool → X → List X
only true x = x ∷ []
only false x = []

abbrev pub to_rank : ℕ → Option Told → List Order
to_rank r None = []
to_rank r (Some told) = only (eqb told.rank r) told.order

abbrev pub from_rank : ℕ → Option Delivery → List Report
from_rank r None = []
from_rank r (Some delivery) = only (eqb delivery.rank r) delivery.report

abbrev pub report_in : Option Delivery → List Report
report_in None = []
report_in (Some delivery) = delivery.report ∷ []

-- the orders that were put in frames for the rank
abbrev pub orders_to : ℤ → ℕ → List Action → List Order
orders_to gap r [] = []
orders_to gap r (action ∷ actions) = to_rank r (sent_in gap action) ++ orders_to gap r actions

-- the reports that were received from it
abbrev pub reports_from : ℕ → List Action → List Report
reports_from r [] = []
reports_from r (action ∷ actions) = from_rank r (taken_in action) ++ reports_from r actions

-- all orders that left the queue
abbrev pub left_of : List Action → List Told
left_of [] = []
left_of (action ∷ actions) = option_to_list (left_in action) ++ left_of actions

-- all reports that were received
abbrev pub heard_of : List Action → List Report
heard_of [] = []
heard_of (action ∷ actions) = report_in (taken_in action) ++ heard_of actions

pub only_there : {X : Type 0} → (b : Bool) (x y : X) → Contains (only b x) y → (b ≡ true) × (x ≡ y)
only_there true x y there = elim (first_or x [] y there) [
  | inl same ↦ (refl, same)
  | inr none ↦ absurd (nothing_in y none)
]
only_there false x y there = absurd (nothing_in y there)

only_all : {X : Type 0} → (P : X → Type 0) (b : Bool) (x : X) → P x → All P (only b x)
only_all P true x h = All-cons P x [] h (All-nil P)
only_all P false x h = All-nil P

-- an order outside every queue: the first one, of this problem, or the end
abbrev pub IsOwn : Instance → Order → Type 0
IsOwn p (Setup gap bytes) = IsRecordOf bytes p
IsOwn p End = Unit {0}
IsOwn p order = ⊥

end_carried : orders.IsCarried End
end_carried = record {
  can = record { given = tt; fields = tt };
  fits = record { ticket = tt; fields = tt };
}

-- ---- the stream of a rank

-- nothing
record IsStill (r : ℕ) (old new : CoordinatorState) (given : List Report) : Type 0 where
  heard : heard_at r new.said ≡ heard_at r old.said
  stream : stream_at new r ≡ stream_at old r
  none : given ≡ []

-- bytes
record HasFed (r : ℕ) (old new : CoordinatorState) (given : List Report) : Type 0 where
  bytes : List ℕ
  heard : heard_at r new.said ≡ heard_at r old.said ++ bytes
  stream : stream_at new r ≡ fed (stream_at old r) bytes
  none : given ≡ []

-- a report is read
record HasGiven (r : ℕ) (old new : CoordinatorState) (given : List Report) : Type 0 where
  report : Report
  heard : heard_at r new.said ≡ heard_at r old.said
  is : IsGiven reports.IsCarried reports.spelled (stream_at old r) (stream_at new r) report
  one : given ≡ report ∷ []

-- bytes or none, and nothing is read of it any more
record HasShut (r : ℕ) (old new : CoordinatorState) (given : List Report) : Type 0 where
  bytes : List ℕ
  heard : heard_at r new.said ≡ heard_at r old.said ++ bytes
  bad : (stream_at new r).bad ≡ true
  none : given ≡ []

abbrev IsStreamed : ℕ → CoordinatorState → CoordinatorState → List Report → Type 0
IsStreamed r old new given =
    IsStill r old new given ⊎ (HasFed r old new given ⊎ (HasGiven r old new given ⊎ HasShut r old new given))

-- the bytes that were received from the rank begin with the frames of these reports, and what is
-- behind them waits, unless its stream was shut
pub record IsRead (r : ℕ) (s : CoordinatorState) (given : List Report) : Type 0 where
  pub carried : All reports.IsCarried given
  pub rest : List ℕ
  pub parts : heard_at r s.said ≡ flat_map reports.spelled given ++ rest
  pub waits : (stream_at s r).bad ≡ false → rest ≡ (stream_at s r).bytes

fed_bad : (w : Waiting) (bytes : List ℕ) → w.bad ≡ true → fed w bytes ≡ w
fed_bad w bytes bad = rw bad refl

fed_back : (w : Waiting) (bytes : List ℕ) → (fed w bytes).bad ≡ false → w.bad ≡ false
fed_back w bytes fine = elim (cases_Bool w.bad) [
  | inl bad ↦ absurd (false≢true (sym fine ∙ ap (λ (v : Waiting). v.bad) (fed_bad w bytes bad) ∙ bad))
  | inr was ↦ was
]

no_more : (r : ℕ) (s : CoordinatorState) (given more : List Report) → more ≡ [] → IsRead r s given
    → IsRead r s (given ++ more)
no_more r s given more none h =
    subst (λ (ms : List Report). IsRead r s (given ++ ms)) (sym none)
    (subst (λ (ms : List Report). IsRead r s ms) (sym (append-nil given)) h)

read_more : (r : ℕ) (old new : CoordinatorState) (given more : List Report) → IsStreamed r old new more
    → IsRead r old given → IsRead r new (given ++ more)
read_more r old new given more (inl t) h = no_more r new given more t.none (record {
  carried = h.carried;
  rest = h.rest;
  parts = t.heard ∙ h.parts;
  waits = λ fine. h.waits (ap (λ (w : Waiting). w.bad) (sym t.stream) ∙ fine)
      ∙ ap (λ (w : Waiting). w.bytes) (sym t.stream);
})
read_more r old new given more (inr (inl t)) h = no_more r new given more t.none (record {
  carried = h.carried;
  rest = h.rest ++ t.bytes;
  parts = t.heard ∙ ap (λ (b : List ℕ). b ++ t.bytes) h.parts
      ∙ append_assoc (flat_map reports.spelled given) h.rest t.bytes;
  waits = λ fine.
      let was = fed_back (stream_at old r) t.bytes (ap (λ (w : Waiting). w.bad) (sym t.stream) ∙ fine) in
      ap (λ (b : List ℕ). b ++ t.bytes) (h.waits was)
      ∙ ap (λ (w : Waiting). w.bytes) (sym (t.stream ∙ fed_so (stream_at old r) t.bytes was));
})
read_more r old new given more (inr (inr (inl t))) h =
    let behind = (stream_at new r).bytes in
    subst (λ (ms : List Report). IsRead r new (given ++ ms)) (sym t.one) (record {
      carried = All-append reports.IsCarried given (t.report ∷ []) h.carried
          (All-cons reports.IsCarried t.report [] t.is.carried (All-nil reports.IsCarried));
      rest = behind;
      parts = t.heard ∙ h.parts
          ∙ ap (λ (b : List ℕ). flat_map reports.spelled given ++ b) (h.waits t.is.fine ∙ t.is.parts)
          ∙ sym (append_assoc (flat_map reports.spelled given) (reports.spelled t.report) behind)
          ∙ ap (λ (b : List ℕ). (flat_map reports.spelled given ++ b) ++ behind)
          (sym (append-nil (reports.spelled t.report)))
          ∙ ap (λ (b : List ℕ). b ++ behind) (sym (flat_map-append reports.spelled given (t.report ∷ [])));
      waits = λ fine. refl;
    })
read_more r old new given more (inr (inr (inr t))) h = no_more r new given more t.none (record {
  carried = h.carried;
  rest = h.rest ++ t.bytes;
  parts = t.heard ∙ ap (λ (b : List ℕ). b ++ t.bytes) h.parts
      ∙ append_assoc (flat_map reports.spelled given) h.rest t.bytes;
  waits = λ fine. absurd (false≢true (sym fine ∙ t.bad));
})

-- ---- one action

-- each rank has its place and its stream
abbrev pub Fits : CoordinatorState → Type 0
Fits s = length s.streams ≡ length s.lives

-- what an action does for a rank: an order was put in a frame, one left the queue, a report was
-- received
record IsStep (r : ℕ) (old new : CoordinatorState) (sent left : Option Told) (taken : Option Delivery)
    : Type 0 where
  more : List Exchange
  grown : new.said ≡ old.said ++ more
  told : told_at r new.said ≡ told_at r old.said ++ flat_map orders.spelled (to_rank r sent)
  carried : All orders.IsCarried (to_rank r sent)
  own : (order : Order) → Contains (to_rank r sent) order
      → Contains (option_to_list left) (record { rank = r; order = order }) ⊎ IsOwn old.book.problem order
  streamed : IsStreamed r old new (from_rank r taken)
  fit : Fits new
  grows : Grows (option_to_list left) old.book new.book

-- the stream of one rank was set
stream_set : (old new : CoordinatorState) (q r : ℕ) (w : Waiting) → new.streams ≡ slice_set old.streams q w
    → q < length old.streams
    → ((q ≡ r) × (stream_at new r ≡ w)) ⊎ ((q ≢ r) × (stream_at new r ≡ stream_at old r))
stream_set old new q r w set there = elim (cases_eq q r) [
  | inl same ↦ inl (
    same,
    ap (λ (l : List Waiting). slice_index_or l r first) set
        ∙ subst (λ (k : ℕ). slice_index_or (slice_set old.streams q w) k first ≡ w) same
        (get_or-set_same old.streams q w first there),
  )
  | inr apart ↦ inr (
    apart,
    ap (λ (l : List Waiting). slice_index_or l r first) set
        ∙ get_or-set_other old.streams q r w first (λ e. apart (sym e)),
  )
]

alive_there : (s : CoordinatorState) (q : ℕ) → Fits s → lives_at s q ≡ true → q < length s.streams
alive_there s q fit alive = elim (cases_lt q (length s.lives)) [
  | inl there ↦ omega (arith, there, fit)
  | inr past ↦ absurd (false≢true (sym (get_or_past s.lives q false past) ∙ alive))
]

same_grows : (old new : BookState) → new ≡ old → Grows [] old new
same_grows old new same = subst (Grows [] old) (sym same) (grows_itself old)

-- nothing was said or read
silent : (r : ℕ) (old new : CoordinatorState) (left : Option Told) → new.said ≡ old.said → new.streams ≡ old.streams
    → length new.lives ≡ length old.lives → Fits old → Grows (option_to_list left) old.book new.book
    → IsStep r old new None left None
silent r old new left said streams lives fit grows = record {
  more = [];
  grown = said ∙ sym (append-nil old.said);
  told = ap (told_at r) said ∙ sym (append-nil (told_at r old.said));
  carried = All-nil orders.IsCarried;
  own = λ order there. absurd (nothing_in order there);
  streamed = inl (record {
    heard = ap (heard_at r) said;
    stream = ap (λ (l : List Waiting). slice_index_or l r first) streams;
    none = refl;
  });
  fit = ap (λ (l : List Waiting). length l) streams ∙ fit ∙ sym lives;
  grows = grows;
}

-- the frame of an order was sent
told_only : (r : ℕ) (told : Told) → told_at r (told_to told.rank (orders.spelled told.order))
    ≡ flat_map orders.spelled (only (eqb told.rank r) told.order)
told_only r told = elim (cases_eq told.rank r) [
  | inl same ↦
      ap (λ (q : ℕ). told_at r (told_to q (orders.spelled told.order))) same
      ∙ told_its r (orders.spelled told.order) ∙ sym (append-nil (orders.spelled told.order))
      ∙ ap (λ (b : Bool). flat_map orders.spelled (only b told.order)) (sym (eq-eqb told.rank r same))
  | inr apart ↦
      told_others r told.rank (orders.spelled told.order) apart
      ∙ ap (λ (b : Bool). flat_map orders.spelled (only b told.order)) (sym (ne_eqb told.rank r apart))
]

telling : (r : ℕ) (old new : CoordinatorState) (told : Told) (left : Option Told) → orders.IsCarried told.order
    → new.said ≡ old.said ++ told_to told.rank (orders.spelled told.order) → new.streams ≡ old.streams
    → new.lives ≡ old.lives
    → (told.rank ≡ r → Contains (option_to_list left) (record { rank = r; order = told.order })
    ⊎ IsOwn old.book.problem told.order)
    → Fits old → Grows (option_to_list left) old.book new.book → IsStep r old new (Some told) left None
telling r old new told left carried said streams lives own fit grows = record {
  more = told_to told.rank (orders.spelled told.order);
  grown = said;
  told = ap (told_at r) said ∙ told_at_on r old.said (told_to told.rank (orders.spelled told.order))
      ∙ ap (λ (b : List ℕ). told_at r old.said ++ b) (told_only r told);
  carried = only_all orders.IsCarried (eqb told.rank r) told.order carried;
  own = λ order there.
      let o = only_there (eqb told.rank r) told.order order there in
      subst (λ (one : Order). Contains (option_to_list left) (record { rank = r; order = one })
      ⊎ IsOwn old.book.problem one) o.1 (own (eqb-true told.rank r o.0));
  streamed = inl (record {
    heard = ap (heard_at r) said ∙ heard_same r old.said (told_to told.rank (orders.spelled told.order))
        (heard_told r told.rank (orders.spelled told.order));
    stream = ap (λ (l : List Waiting). slice_index_or l r first) streams;
    none = refl;
  });
  fit = ap (λ (l : List Waiting). length l) streams ∙ fit ∙ ap (λ (l : List Bool). length l) (sym lives);
  grows = grows;
}

-- bytes were received, and the stream of their rank was set
heard_for : (r q : ℕ) (old new : CoordinatorState) (bytes : List ℕ) → new.said ≡ old.said ++ heard_from q bytes
    → q ≡ r → heard_at r new.said ≡ heard_at r old.said ++ bytes
heard_for r q old new bytes said same =
    ap (heard_at r) said ∙ heard_by r old.said (heard_from q bytes) bytes
    (ap (λ (k : ℕ). heard_at r (heard_from k bytes)) same ∙ heard_its r bytes)

heard_apart : (r q : ℕ) (old new : CoordinatorState) (bytes : List ℕ) → new.said ≡ old.said ++ heard_from q bytes
    → q ≢ r → heard_at r new.said ≡ heard_at r old.said
heard_apart r q old new bytes said apart =
    ap (heard_at r) said ∙ heard_same r old.said (heard_from q bytes) (heard_others r q bytes apart)

coming : (r q : ℕ) (old new : CoordinatorState) (bytes : List ℕ) (w : Waiting)
    → new.said ≡ old.said ++ heard_from q bytes → new.streams ≡ slice_set old.streams q w
    → new.lives ≡ old.lives → new.book ≡ old.book
    → (q ≡ r → heard_at r new.said ≡ heard_at r old.said ++ bytes → stream_at new r ≡ w → IsStreamed r old new [])
    → Fits old → lives_at old q ≡ true → IsStep r old new None None None
coming r q old new bytes w said streams lives book its fit alive = record {
  more = heard_from q bytes;
  grown = said;
  told = ap (told_at r) said ∙ told_same r old.said (heard_from q bytes) (told_heard r q bytes)
      ∙ sym (append-nil (told_at r old.said));
  carried = All-nil orders.IsCarried;
  own = λ order there. absurd (nothing_in order there);
  streamed = elim (stream_set old new q r w streams (alive_there old q fit alive)) [
    | inl t ↦ its t.0 (heard_for r q old new bytes said t.0) t.1
    | inr t ↦ inl (record { heard = heard_apart r q old new bytes said t.0; stream = t.1; none = refl })
  ];
  fit = ap (λ (l : List Waiting). length l) streams ∙ length-set old.streams q w ∙ fit
      ∙ ap (λ (l : List Bool). length l) (sym lives);
  grows = same_grows old.book new.book book;
}

-- a report was taken
no_frame : (report : Report) (rest : List ℕ) → reports.IsCarried report → [] ≡ reports.spelled report ++ rest → ⊥
no_frame report rest carried parts = one_way.short [] (inl (omega arith)) report (record {
  carried = carried;
  rest = rest;
  parts = parts;
})

taking : (r : ℕ) (old new : CoordinatorState) (q : ℕ) (report : Report) (answer : Heard)
    → IsTaken old new q report answer → Fits old
    → IsStep r old new None None (Some (record { rank = q; report = report }))
taking r old new q report answer t fit =
    let streams = ap (λ (s : CoordinatorState). s.streams) t.rest in
    let said = ap (λ (s : CoordinatorState). s.said) t.rest in
    let there : q < length old.streams = elim (cases_lt q (length old.streams)) [
      | inl l ↦ l
      | inr past ↦ absurd (no_frame report t.stream.bytes t.given.carried
          (ap (λ (w : Waiting). w.bytes) (sym (get_or_past old.streams q first past)) ∙ t.given.parts))
    ] in
    record {
      more = [];
      grown = said ∙ sym (append-nil old.said);
      told = ap (told_at r) said ∙ sym (append-nil (told_at r old.said));
      carried = All-nil orders.IsCarried;
      own = λ order none. absurd (nothing_in order none);
      streamed = elim (stream_set old new q r t.stream streams there) [
        | inl s ↦ inr (inr (inl (record {
          report = report;
          heard = ap (heard_at r) said;
          is = subst (λ (w : Waiting). IsGiven reports.IsCarried reports.spelled (stream_at old r) w report) (sym s.1)
              (subst (λ (k : ℕ). IsGiven reports.IsCarried reports.spelled (stream_at old k) t.stream report) s.0 t.given);
          one = ap (λ (b : Bool). only b report) (eq-eqb q r s.0);
        })))
        | inr s ↦ inl (record {
          heard = ap (heard_at r) said;
          stream = s.1;
          none = ap (λ (b : Bool). only b report) (ne_eqb q r s.0);
        })
      ];
      fit = ap (λ (l : List Waiting). length l) streams ∙ length-set old.streams q t.stream ∙ fit
          ∙ ap (λ (s : CoordinatorState). length s.lives) (sym t.rest);
      grows = subst (Grows [] old.book) (sym (ap (λ (s : CoordinatorState). s.book) t.rest))
          (heard_grows answer q report old.book);
    }

-- a rank is lost
losing : (r : ℕ) (old new : CoordinatorState) (q : ℕ) (more : List Exchange) → new.said ≡ old.said ++ more
    → told_at r more ≡ [] → IsStreamed r old new [] → length new.streams ≡ length old.streams
    → new.lives ≡ slice_set old.lives q false → new.book ≡ killed q old.book → Fits old
    → IsStep r old new None None None
losing r old new q more said none streamed streams lives book fit = record {
  more = more;
  grown = said;
  told = ap (told_at r) said ∙ told_same r old.said more none ∙ sym (append-nil (told_at r old.said));
  carried = All-nil orders.IsCarried;
  own = λ order there. absurd (nothing_in order there);
  streamed = streamed;
  fit = streams ∙ fit ∙ sym (ap (λ (l : List Bool). length l) lives ∙ length-set old.lives q false);
  grows = subst (Grows [] old.book) (sym book) (killed_grows q old.book);
}

unheard : (r : ℕ) (old new : CoordinatorState) → heard_at r new.said ≡ heard_at r old.said → new.streams ≡ old.streams
    → IsStreamed r old new []
unheard r old new heard streams = inl (record {
  heard = heard;
  stream = ap (λ (l : List Waiting). slice_index_or l r first) streams;
  none = refl;
})

nonsense : (r q : ℕ) (old new : CoordinatorState) (w : Waiting) (at : ℕ) → new.said ≡ old.said
    → new.streams ≡ slice_set old.streams q w
    → IsBadAt reports.IsCarried reports.spelled (stream_at old q) w at → IsStreamed r old new []
nonsense r q old new w at said streams bad = elim (cases_lt q (length old.streams)) [
  | inl there ↦ elim (stream_set old new q r w streams there) [
    | inl s ↦ inr (inr (inr (record {
      bytes = [];
      heard = ap (heard_at r) said ∙ sym (append-nil (heard_at r old.said));
      bad = ap (λ (v : Waiting). v.bad) s.1 ∙ bad.final;
      none = refl;
    })))
    | inr s ↦ inl (record { heard = ap (heard_at r) said; stream = s.1; none = refl })
  ]
  | inr past ↦ unheard r old new (ap (heard_at r) said) (streams ∙ set_past old.streams q w past)
]

lost_step : (r : ℕ) (old new : CoordinatorState) (q : ℕ) (cause : Cause) → IsLost old new q cause → Fits old
    → IsStep r old new None None None
lost_step r old new q Ended t fit =
    losing r old new q (Gone q ∷ []) t.why.said refl
    (unheard r old new (ap (heard_at r) t.why.said ∙ heard_same r old.said (Gone q ∷ []) refl) t.why.streams)
    (ap (λ (l : List Waiting). length l) t.why.streams) t.lives t.book fit
lost_step r old new q Failed t fit =
    losing r old new q [] (t.why.0 ∙ sym (append-nil old.said)) refl
    (unheard r old new (ap (heard_at r) t.why.0) t.why.2)
    (ap (λ (l : List Waiting). length l) t.why.2) t.lives t.book fit
lost_step r old new q Nonsense t fit =
    losing r old new q [] (t.why.said ∙ sym (append-nil old.said)) refl
    (nonsense r q old new t.why.stream t.why.at t.why.said t.why.streams t.why.bad)
    (ap (λ (l : List Waiting). length l) t.why.streams ∙ length-set old.streams q t.why.stream)
    t.lives t.book fit

-- an order could not be sent
unsent_grows : (old new : CoordinatorState) (rank : ℕ) (order : Order) → IsUnsent old new rank order
    → Grows (record { rank = rank; order = order } ∷ []) old.book new.book
unsent_grows old new rank order t =
    let told : Told = record { rank = rank; order = order } in
    grows_both (told ∷ []) [] old.book t.without new.book
    (grows_left old.book t.without told t.told.first t.told.rest)
    (subst (Grows [] t.without) (sym (ap (λ (s : CoordinatorState). s.book) t.rest)) (killed_grows rank t.without))

same_lives : (old new : CoordinatorState) → new.lives ≡ old.lives → length new.lives ≡ length old.lives
same_lives old new same = ap (λ (l : List Bool). length l) same

action_step : (gap : ℤ) (r : ℕ) (old : CoordinatorState) (action : Action) (new : CoordinatorState) → old.book.settings.gap ≡ gap
    → Fits old → NextState old action new → IsStep r old new (sent_in gap action) (left_in action) (taken_in action)
action_step gap r old (Launched rank) new is fit (away, rest) =
    silent r old new None (ap (λ (s : CoordinatorState). s.said) rest) (ap (λ (s : CoordinatorState). s.streams) rest)
    (ap (λ (s : CoordinatorState). length s.lives) rest ∙ length-set old.lives rank true) fit
    (same_grows old.book new.book (ap (λ (s : CoordinatorState). s.book) rest))
action_step gap r old (SetUp rank bytes) new is fit does =
    subst (λ (g : ℤ). IsStep r old new (Some (record { rank = rank; order = Setup g bytes })) None None) is
    (telling r old new (record { rank = rank; order = Setup old.book.settings.gap bytes }) None does.carried
    (ap (λ (s : CoordinatorState). s.said) does.rest) (ap (λ (s : CoordinatorState). s.streams) does.rest)
    (ap (λ (s : CoordinatorState). s.lives) does.rest) (λ same. inr does.its) fit
    (same_grows old.book new.book (ap (λ (s : CoordinatorState). s.book) does.rest)))
action_step gap r old (Closed rank) new is fit does =
    telling r old new (record { rank = rank; order = End }) None end_carried
    (ap (λ (s : CoordinatorState). s.said) does.rest) (ap (λ (s : CoordinatorState). s.streams) does.rest)
    (ap (λ (s : CoordinatorState). s.lives) does.rest) (λ same. inr tt) fit
    (same_grows old.book new.book (ap (λ (s : CoordinatorState). s.book) does.rest))
action_step gap r old (Came rank bytes) new is fit does =
    coming r rank old new bytes (fed (stream_at old rank) bytes)
    (ap (λ (s : CoordinatorState). s.said) does.rest) (ap (λ (s : CoordinatorState). s.streams) does.rest)
    (ap (λ (s : CoordinatorState). s.lives) does.rest) (ap (λ (s : CoordinatorState). s.book) does.rest)
    (λ same heard stream. inr (inl (record {
      bytes = bytes;
      heard = heard;
      stream = stream ∙ ap (λ (k : ℕ). fed (stream_at old k) bytes) same;
      none = refl;
    }))) fit does.alive
action_step gap r old (Took rank report answer) new is fit does = taking r old new rank report answer does fit
action_step gap r old (Lost rank cause) new is fit does = lost_step r old new rank cause does fit
action_step gap r old Decided new is fit does =
    silent r old new None (ap (λ (s : CoordinatorState). s.said) does.rest) (ap (λ (s : CoordinatorState). s.streams) does.rest)
    (ap (λ (s : CoordinatorState). length s.lives) does.rest) fit (decided_grows old.book new.book does.is)
action_step gap r old (Sent rank order) new is fit does =
    let told : Told = record { rank = rank; order = order } in
    telling r old new told (Some told) does.carried
    (ap (λ (s : CoordinatorState). s.said) does.rest) (ap (λ (s : CoordinatorState). s.streams) does.rest)
    (ap (λ (s : CoordinatorState). s.lives) does.rest)
    (λ same. inl (subst (λ (k : ℕ). Contains (told ∷ []) (record { rank = k; order = order })) same
    (in_front told []))) fit
    (grows_left old.book new.book told does.told.first does.told.rest)
action_step gap r old (Unsent rank order) new is fit does =
    silent r old new (Some (record { rank = rank; order = order })) (ap (λ (s : CoordinatorState). s.said) does.rest)
    (ap (λ (s : CoordinatorState). s.streams) does.rest)
    (ap (λ (s : CoordinatorState). length s.lives) does.rest ∙ length-set old.lives rank false) fit
    (unsent_grows old new rank order does)
action_step gap r old (Passed rank order) new is fit does =
    let told : Told = record { rank = rank; order = order } in
    silent r old new (Some told) (ap (λ (s : CoordinatorState). s.said) does.rest)
    (ap (λ (s : CoordinatorState). s.streams) does.rest) (ap (λ (s : CoordinatorState). length s.lives) does.rest) fit
    (grows_left old.book new.book told does.told.first does.told.rest)
action_step gap r old Broke new is fit does =
    silent r old new None (ap (λ (s : CoordinatorState). s.said) does.rest) (ap (λ (s : CoordinatorState). s.streams) does.rest)
    (ap (λ (s : CoordinatorState). length s.lives) does.rest) fit
    (same_grows old.book new.book (ap (λ (s : CoordinatorState). s.book) does.rest))
action_step gap r old (Unclosed rank) new is fit does =
    silent r old new None (ap (λ (s : CoordinatorState). s.said) does.rest) (ap (λ (s : CoordinatorState). s.streams) does.rest)
    (ap (λ (s : CoordinatorState). length s.lives) does.rest) fit
    (same_grows old.book new.book (ap (λ (s : CoordinatorState). s.book) does.rest))
action_step gap r old (Halted steps) new is fit does =
    silent r old new None (ap (λ (s : CoordinatorState). s.said) does.rest) (ap (λ (s : CoordinatorState). s.streams) does.rest)
    (ap (λ (s : CoordinatorState). length s.lives) does.rest) fit (stands_grows steps old.book new.book does.is)
action_step gap r old (Unwritten rank order) new is fit does =
    let told : Told = record { rank = rank; order = order } in
    silent r old new (Some told) (ap (λ (s : CoordinatorState). s.said) does.rest)
    (ap (λ (s : CoordinatorState). s.streams) does.rest) (ap (λ (s : CoordinatorState). length s.lives) does.rest) fit
    (grows_left old.book new.book told does.told.first does.told.rest)
action_step gap r old (Unfed rank bytes) new is fit does =
    coming r rank old new bytes (shut (stream_at old rank))
    (ap (λ (s : CoordinatorState). s.said) does.rest) (ap (λ (s : CoordinatorState). s.streams) does.rest)
    (ap (λ (s : CoordinatorState). s.lives) does.rest) (ap (λ (s : CoordinatorState). s.book) does.rest)
    (λ same heard stream. inr (inr (inr (record {
      bytes = bytes;
      heard = heard;
      bad = ap (λ (w : Waiting). w.bad) stream;
      none = refl;
    })))) fit does.alive
action_step gap r old Unread new is fit (reading, rest) =
    silent r old new None (ap (λ (s : CoordinatorState). s.said) rest) (ap (λ (s : CoordinatorState). s.streams) rest)
    (ap (λ (s : CoordinatorState). length s.lives) rest) fit
    (same_grows old.book new.book (ap (λ (s : CoordinatorState). s.book) rest))
action_step gap r old Saved new is fit does =
    silent r old new None (ap (λ (s : CoordinatorState). s.said) does.rest) (ap (λ (s : CoordinatorState). s.streams) does.rest)
    (ap (λ (s : CoordinatorState). length s.lives) does.rest) fit
    (same_grows old.book new.book (ap (λ (s : CoordinatorState). s.book) does.rest))

-- ---- a trace

-- what actions did for a rank
pub record IsTraffic (gap : ℤ) (r : ℕ) (old new : CoordinatorState) (actions : List Action) : Type 0 where
  pub more : List Exchange
  pub grown : new.said ≡ old.said ++ more
  pub told : told_at r new.said ≡ told_at r old.said ++ flat_map orders.spelled (orders_to gap r actions)
  pub carried : All orders.IsCarried (orders_to gap r actions)
  pub own : (order : Order) → Contains (orders_to gap r actions) order
      → Contains (left_of actions) (record { rank = r; order = order }) ⊎ IsOwn old.book.problem order
  pub read : (given : List Report) → IsRead r old given → IsRead r new (given ++ reports_from r actions)
  pub fit : Fits new
  pub grows : Grows (left_of actions) old.book new.book

no_traffic : (gap : ℤ) (r : ℕ) (s : CoordinatorState) → Fits s → IsTraffic gap r s s []
no_traffic gap r s fit = record {
  more = [];
  grown = sym (append-nil s.said);
  told = sym (append-nil (told_at r s.said));
  carried = All-nil orders.IsCarried;
  own = λ order there. absurd (nothing_in order there);
  read = λ given h. subst (λ (ms : List Report). IsRead r s ms) (sym (append-nil given)) h;
  fit = fit;
  grows = grows_itself s.book;
}

own_both : (p : Instance) (r : ℕ) (order : Order) (ls ms : List Told)
    → Contains ls (record { rank = r; order = order }) ⊎ IsOwn p order
    → Contains (ls ++ ms) (record { rank = r; order = order }) ⊎ IsOwn p order
own_both p r order ls ms (inl there) = inl (Contains-append_left ls ms _ there)
own_both p r order ls ms (inr own) = inr own

own_later : (p q : Instance) (r : ℕ) (order : Order) (ls ms : List Told) → q ≡ p
    → Contains ms (record { rank = r; order = order }) ⊎ IsOwn q order
    → Contains (ls ++ ms) (record { rank = r; order = order }) ⊎ IsOwn p order
own_later p q r order ls ms same (inl there) = inl (Contains-append_right ls ms _ there)
own_later p q r order ls ms same (inr own) = inr (subst (λ (i : Instance). IsOwn i order) same own)

pub traffic_is : (gap : ℤ) (r : ℕ) (old : CoordinatorState) (actions : List Action) (new : CoordinatorState)
    → old.book.settings.gap ≡ gap → Fits old → IsTrace old actions new → IsTraffic gap r old new actions
traffic_is gap r old [] new is fit same =
    subst (λ (s : CoordinatorState). IsTraffic gap r old s []) (sym same) (no_traffic gap r old fit)
traffic_is gap r old (action ∷ actions) new is fit (mid, does, more) =
    let step = action_step gap r old action mid is fit does in
    let rest = traffic_is gap r mid actions new (ap (λ (s : Settings). s.gap) step.grows.settings ∙ is) step.fit more in
    let here = to_rank r (sent_in gap action) in
    let later = orders_to gap r actions in
    record {
      more = step.more ++ rest.more;
      grown = rest.grown ∙ ap (λ (s : List Exchange). s ++ rest.more) step.grown
          ∙ append_assoc old.said step.more rest.more;
      told = rest.told ∙ ap (λ (b : List ℕ). b ++ flat_map orders.spelled later) step.told
          ∙ append_assoc (told_at r old.said) (flat_map orders.spelled here) (flat_map orders.spelled later)
          ∙ ap (λ (b : List ℕ). told_at r old.said ++ b) (sym (flat_map-append orders.spelled here later));
      carried = All-append orders.IsCarried here later step.carried rest.carried;
      own = λ order there. elim (Contains-append_cases here later order there) [
        | inl first ↦ own_both old.book.problem r order (option_to_list (left_in action)) (left_of actions)
            (step.own order first)
        | inr second ↦ own_later old.book.problem mid.book.problem r order (option_to_list (left_in action))
            (left_of actions) step.grows.problem (rest.own order second)
      ];
      read = λ given h. subst (λ (ms : List Report). IsRead r new ms)
          (append_assoc given (from_rank r (taken_in action)) (reports_from r actions))
          (rest.read (given ++ from_rank r (taken_in action))
          (read_more r old mid given (from_rank r (taken_in action)) step.streamed h));
      fit = rest.fit;
      grows = grows_both (option_to_list (left_in action)) (left_of actions) old.book mid.book new.book step.grows rest.grows;
    }
