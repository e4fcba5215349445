-- What each thing that a coordinator does makes of its standing.
use Rattle.std.proofs.Common.{◌≡◌, inl, inr, ℕ, ◌<◌, Bool, true, false, List, [], ◌∷◌, ◌++◌, length, Option, Some, None, IfSome, refl, sym, ap, subst, ◌∙◌, arith}
use Rattle.std.proofs.lemmas.Bool.{cases_Bool, cases_lt, false≢true}
use Rattle.std.proofs.lemmas.List.{get_or_past, length-replicate, length-set, set-get_or}
use Rattle.std.specs.Prelude.{MatchBool, Vec, replicate, slice_index_or, slice_set}
use Rattle.ug_io.specs.declared.crew.Exchange.{Exchange}
use Rattle.ug_io.specs.declared.crew.Exchange.TheVariants.{Gone}
use Rattle.ug_io.specs.Crews.{Adds, CrewSeen, HasSent, IsAlive, IsSetTo, IsSilent, heard_from, told_to}
use Rattle.ug_io.specs.Outside.{Rose}
use Rattle.ug_frames.specs.declared.order.Order.TheVariants.{End, Setup}
use Rattle.ug_frames.specs.declared.report.Report.{Report}
use Rattle.ug_fields.specs.Spelling.{count_field}
use Rattle.ug_fields.proofs.Parts.{head_of}
use Rattle.ug_frames.specs.Spelling.{framed}
use Rattle.ug_frames.specs.Orders.{IsOrder}
use Rattle.ug_rules.specs.Books.{AreOrders, IsBook}
use Rattle.ug_frames.specs.OrderFrames as orders
use Rattle.ug_frames.specs.ReportFrames as reports
use Rattle.ug_stream.specs.Streams.{IsBadAt, IsGiven, Waiting, fed, first, shut}
use Rattle.ug_records.specs.Answers.{IsRecordOf}
use Rattle.ug_rules.specs.declared.settings.Settings.{Settings}
use Rattle.ug_rules.specs.declared.told.Told.{Told}
use Rattle.ug_rules.specs.State.{BookState}
use Rattle.ug_rules.specs.Deaths.{killed}
use Rattle.ug_rules.specs.Deciding.{IsDecided, Stands}
use Rattle.ug_rules.specs.Hearing.{IsDue, after_hearing}
use Rattle.ug_book.specs.Reads.{IsOrderTold}
use Rattle.ug_book.specs.Views.{IsSameRun}
use Rattle.ug_coord.specs.Actions.{AreReadOut, Broke, Came, Closing, Decided, Deciding, Action, NextState, Ended, Failed, Halted, Hearing, IsTrace, IsHearing, IsMoreWanted, IsReading, Kept, Launched, Lost, MayBeRead, MayDecide, Nonsense, Passed, Reading, Sent, SetUp, CoordinatorState, Took, Unfed, Unread, Unsent, Unwritten}
use Rattle.ug_coord.specs.declared.pacing.Pacing.{Pacing}
use Rattle.ug_coord.specs.Pacing.{IsSaveDue, saved_at}
use Rattle.ug_coord.specs.Ends.{IsOver, ranks_of}
use Rattle.ug_stream.specs.declared.next.Next.TheVariants.{BadFrame, Message, NeedMore}
use Rattle.ug_coord.specs.Reading.{HasBroken, HasFed, HasGone, HasLacked, HasRead}
use Rattle.ug_coord.specs.Coordinators.{AnyPhase, Reaches, HasFailed, HasHeardReport, HasSentTo, CoordinatorSeen, IsBrokenOff, IsFit, IsFresh, IsOnAs, IsOnIn, IsRested, IsSetUpFrame, MayRead, Phase, beginning, is_next, sent_or_failed, coordinator_state, without}

-- ---- one action more

abbrev pub trace_more : (a : CoordinatorState) (actions : List Action) (b c : CoordinatorState) (action : Action) → IsTrace a actions b
    → NextState b action c → IsTrace a (actions ++ action ∷ []) c
trace_more a [] b c action same does =
    (c, subst (λ (old : CoordinatorState). NextState old action c) same does, refl)
trace_more a (one ∷ actions) b c action (mid, done, more) does =
    (mid, done, trace_more mid actions b c action more does)

abbrev pub come_more : (b old new : CoordinatorState) (action : Action) → Reaches b old → NextState old action new → Reaches b new
come_more b old new action h does = record {
  actions = h.actions ++ action ∷ [];
  trace = trace_more b h.actions old new action h.trace does;
}

pub said_more : (a b : Option (List Exchange)) (said more : List Exchange) → Adds a b more
    → IfSome a (λ s. s ≡ said) → IfSome b (λ s. s ≡ said ++ more)
said_more None b said more adds same =
    subst (λ (b : Option (List Exchange)). IfSome b (λ s. s ≡ said ++ more)) (sym adds) tt
said_more (Some s) b said more adds same =
    subst (λ (b : Option (List Exchange)). IfSome b (λ t. t ≡ said ++ more)) (sym adds)
    (ap (λ (t : List Exchange). t ++ more) same)

-- in which something was said
abbrev pub on_more : (phase after : Phase) (b : CoordinatorState) (old new : CoordinatorSeen) (action : Action) (more : List Exchange)
    → Adds old.crew.said new.crew.said more
    → ((said : List Exchange) → NextState (coordinator_state said phase old) action (coordinator_state (said ++ more) after new))
    → IsFit new → IsOnAs phase b old → IsOnAs after b new
on_more phase after b old new action more adds does fit on = record {
  said = on.said ++ more;
  come = come_more b (coordinator_state on.said phase old) (coordinator_state (on.said ++ more) after new) action on.come
      (does on.said);
  shown = said_more old.crew.said new.crew.said on.said more adds on.shown;
  fit = fit;
}

-- in which nothing was
abbrev pub on_still : (phase after : Phase) (b : CoordinatorState) (old new : CoordinatorSeen) (action : Action)
    → new.crew.said ≡ old.crew.said
    → ((said : List Exchange) → NextState (coordinator_state said phase old) action (coordinator_state said after new))
    → IsFit new → IsOnAs phase b old → IsOnAs after b new
on_still phase after b old new action still does fit on = record {
  said = on.said;
  come = come_more b (coordinator_state on.said phase old) (coordinator_state on.said after new) action on.come (does on.said);
  shown = subst (λ (told : Option (List Exchange)). IfSome told (λ t. t ≡ on.said)) (sym still) on.shown;
  fit = fit;
}

-- ---- when something is received

hearing : (said : List Exchange) (phase : Phase) (h : CoordinatorSeen) → ¬ IsOver h.book → h.book.orders ≡ []
    → phase.pace ≡ Hearing → AreReadOut h.streams → IsHearing (coordinator_state said phase h)
hearing said phase h more told decided read =
    record { settled = record { more = more; told = told }; decided = decided; read = read }

reading : (said : List Exchange) (phase : Phase) (h : CoordinatorSeen) → ¬ IsOver h.book → h.book.orders ≡ []
    → MayBeRead phase.pace → IsReading (coordinator_state said phase h)
reading said phase h more told decided =
    record { settled = record { more = more; told = told }; decided = decided }

-- ---- who lives

-- a rank that is not alive does not live, also if it is not in the crew
pub away_is : (seen : CrewSeen) (rank : ℕ) → ¬ IsAlive seen rank → slice_index_or seen.lives rank false ≡ false
away_is seen rank away = elim (cases_Bool (slice_index_or seen.lives rank false)) [
  | inl lives ↦ elim (cases_lt rank (length seen.lives)) [
    | inl there ↦ absurd (away (record { there = there; lives = lives }))
    | inr past ↦ absurd (false≢true (sym (get_or_past seen.lives rank false past) ∙ lives))
  ]
  | inr not ↦ not
]

-- to shut it changes nothing
pub shut_still : (lives : List Bool) (rank : ℕ) → slice_index_or lives rank false ≡ false
    → slice_set lives rank false ≡ lives
shut_still lives rank away =
    ap (λ (alive : Bool). slice_set lives rank alive) (sym away) ∙ set-get_or lives rank false

pub fit_without : (old new : CoordinatorSeen) (rank : ℕ) → new.crew.lives ≡ slice_set old.crew.lives rank false
    → new.streams ≡ old.streams → ranks_of new.book ≡ ranks_of old.book → IsFit old → IsFit new
fit_without old new rank lives streams ranks fit = record {
  lives = ap (λ (l : List Bool). length l) lives ∙ length-set old.crew.lives rank false ∙ fit.lives ∙ sym ranks;
  streams = ap (λ (l : List Waiting). length l) streams ∙ fit.streams ∙ sym ranks;
}

-- ---- a call of the crew

-- the rank lives from now on, or does no longer
pub set_by : (alive : Bool) (old : CoordinatorSeen) (crew : CrewSeen) (rank : ℕ)
    → IsSetTo alive old.crew crew rank
    → crew.faults ≡ old.crew.faults
    → record old { crew = crew }
    ≡ record old { crew = record old.crew { lives = slice_set old.crew.lives rank alive } }
set_by alive old crew rank set calm =
    ap (λ (s : Option (List Exchange)). record old { crew = record crew { said = s } }) set.said
    ∙ ap (λ (l : List Bool). record old {
      crew = record old.crew { lives = l; faults = crew.faults };
    }) set.lives
    ∙ ap (λ (n : ℕ). record old {
      crew = record old.crew { lives = slice_set old.crew.lives rank alive; faults = n };
    }) calm

-- bytes were sent to it
pub sent_by : (old : CoordinatorSeen) (crew : CrewSeen) (rank : ℕ) (bytes : List ℕ)
    → HasSent old.crew crew rank bytes
    → crew.faults ≡ old.crew.faults → HasSentTo old (record old { crew = crew }) rank bytes
sent_by old crew rank bytes sent calm = record {
  said = sent.said;
  rest = ap (λ (l : List Bool). record old { crew = record crew { lives = l } }) sent.lives
      ∙ ap (λ (n : ℕ). record old { crew = record old.crew { said = crew.said; faults = n } }) calm;
}

pub only_faults : (a c : CrewSeen) → IsSilent a c → c ≡ record a { faults = c.faults }
only_faults a c silent =
    ap (λ (s : Option (List Exchange)). record { said = s; lives = c.lives; faults = c.faults }) silent.said
    ∙ ap (λ (l : List Bool). record { said = a.said; lives = l; faults = c.faults }) silent.lives

-- it failed, and so the rank was lost
pub failed_by : (old : CoordinatorSeen) (crew : CrewSeen) (new : CoordinatorSeen) (rank : ℕ)
    → IsSilent old.crew crew
    → Rose old.crew.faults crew.faults → rank < ranks_of old.book
    → new ≡ without rank (record old { crew = crew })
    → ranks_of new.book ≡ ranks_of old.book → HasFailed old new rank
failed_by old crew new rank silent faults there lost ranks =
    let calm : new.crew.faults ≡ crew.faults = ap (λ (h : CoordinatorSeen). h.crew.faults) lost in
    record {
      there = there;
      faults = subst (λ (n : ℕ). Rose old.crew.faults n) (sym calm) faults;
      ranks = ranks;
      rest = lost
          ∙ ap (λ (c : CrewSeen). without rank (record old { crew = c }))
          (only_faults old.crew crew silent)
          ∙ ap (λ (n : ℕ). record old {
            crew = record old.crew { lives = slice_set old.crew.lives rank false; faults = n };
            book = killed rank old.book;
          }) (sym calm);
    }

-- ---- a call failed

abbrev pub failed_on : (phase : Phase) (b : CoordinatorState) (old new : CoordinatorSeen) (rank : ℕ) → HasFailed old new rank
    → IsOnAs phase b old → IsOnAs phase b new
failed_on phase b old new rank h on =
    let lives = ap (λ (h : CoordinatorSeen). h.crew.lives) h.rest in
    let streams = ap (λ (h : CoordinatorSeen). h.streams) h.rest in
    on_still phase phase b old new (Lost rank Failed) (ap (λ (h : CoordinatorSeen). h.crew.said) h.rest)
    (λ said. record {
      there = h.there;
      why = (refl, inr h.faults, streams);
      lives = lives;
      link_failed = refl;
      out_of_memory = ap (λ (h : CoordinatorSeen). h.out_of_memory) h.rest;
      pace = refl;
      pacing = ap (λ (h : CoordinatorSeen). h.pacing) h.rest;
      book = ap (λ (h : CoordinatorSeen). h.book) h.rest;
    })
    (fit_without old new rank lives streams h.ranks on.fit) on

-- a turn failed
pub broke_on : (phase : Phase) (b : CoordinatorState) (old new : CoordinatorSeen) → ¬ IsOver old.book → old.book.orders ≡ []
    → phase.pace ≡ Hearing → AreReadOut old.streams → Rose old.crew.faults new.crew.faults
    → new ≡ record old { crew = record old.crew { faults = new.crew.faults } } → IsOnAs phase b old
    → IsOnAs (record { link_failed = true; pace = Closing }) b new
broke_on phase b old new more told decided read faults rest on =
    let after : Phase = record { link_failed = true; pace = Closing } in
    on_still phase after b old new Broke (ap (λ (h : CoordinatorSeen). h.crew.said) rest)
    (λ said. record {
      hearing = hearing said phase old more told decided read;
      faults = faults;
      rest = ap (λ (h : CoordinatorSeen). coordinator_state said after h) rest;
    })
    (record {
      lives = ap (λ (h : CoordinatorSeen). length h.crew.lives) rest ∙ on.fit.lives
          ∙ sym (ap (λ (h : CoordinatorSeen). ranks_of h.book) rest);
      streams = ap (λ (h : CoordinatorSeen). length h.streams) rest ∙ on.fit.streams
          ∙ sym (ap (λ (h : CoordinatorSeen). ranks_of h.book) rest);
    }) on

-- and so each rank is lost
pub lost_on : (phase : Phase) (b : CoordinatorState) (old new : CoordinatorSeen) (rank : ℕ) → phase.link_failed ≡ true
    → rank < ranks_of old.book → new ≡ without rank old
    → ranks_of new.book ≡ ranks_of old.book → IsOnAs phase b old → IsOnAs phase b new
lost_on phase b old new rank link_failed there rest ranks on =
    let lives = ap (λ (h : CoordinatorSeen). h.crew.lives) rest in
    let streams = ap (λ (h : CoordinatorSeen). h.streams) rest in
    on_still phase phase b old new (Lost rank Failed) (ap (λ (h : CoordinatorSeen). h.crew.said) rest)
    (λ said. record {
      there = there;
      why = (refl, inl (link_failed, ap (λ (h : CoordinatorSeen). h.crew.faults) rest), streams);
      lives = lives;
      link_failed = refl;
      out_of_memory = ap (λ (h : CoordinatorSeen). h.out_of_memory) rest;
      pace = refl;
      pacing = ap (λ (h : CoordinatorSeen). h.pacing) rest;
      book = ap (λ (h : CoordinatorSeen). h.book) rest;
    })
    (fit_without old new rank lives streams ranks on.fit) on

-- ---- orders

-- the order left the book, and nothing else changed
fit_book : (h : CoordinatorSeen) (before : BookState) → ranks_of h.book ≡ ranks_of before
    → IsFit (record h { book = before }) → IsFit h
fit_book h before ranks fit = record { lives = fit.lives ∙ sym ranks; streams = fit.streams ∙ sym ranks }

told_ranks : (old new : BookState) (told : Told) → IsOrderTold old new told → ranks_of new ≡ ranks_of old
told_ranks old new told h = ap (λ (b : BookState). ranks_of b) h.rest

pub passed_on : (phase : Phase) (b : CoordinatorState) (before : BookState) (h : CoordinatorSeen) (told : Told)
    → ¬ IsAlive h.crew told.rank → IsOrderTold before h.book told
    → IsOnAs phase b (record h { book = before }) → IsOnAs phase b h
passed_on phase b before h told away left on =
    on_still phase phase b (record h { book = before }) h (Passed told.rank told.order) refl
    (λ said. record { away = away_is h.crew told.rank away; told = left; rest = refl })
    (fit_book h before (told_ranks before h.book told left) on.fit) on

pub sent_on : (phase : Phase) (b : CoordinatorState) (before : BookState) (h new : CoordinatorSeen) (told : Told)
    → IsAlive h.crew told.rank → orders.IsCarried told.order → IsOrderTold before h.book told
    → HasSentTo h new told.rank (orders.spelled told.order)
    → IsOnAs phase b (record h { book = before }) → IsOnAs phase b new
sent_on phase b before h new told alive carried left sent on =
    let book = ap (λ (h : CoordinatorSeen). h.book) sent.rest in
    let left_new = subst (λ (book : BookState). IsOrderTold before book told) (sym book) left in
    on_more phase phase b (record h { book = before }) new (Sent told.rank told.order)
    (told_to told.rank (orders.spelled told.order)) sent.said
    (λ said. record {
      alive = alive.lives;
      carried = carried;
      told = left_new;
      rest = ap (λ (n : CoordinatorSeen). coordinator_state (said ++ told_to told.rank (orders.spelled told.order)) phase
          (record n { book = new.book })) sent.rest;
    })
    (record {
      lives = ap (λ (h : CoordinatorSeen). length h.crew.lives) sent.rest ∙ on.fit.lives
          ∙ sym (told_ranks before new.book told left_new);
      streams = ap (λ (h : CoordinatorSeen). length h.streams) sent.rest ∙ on.fit.streams
          ∙ sym (told_ranks before new.book told left_new);
    }) on

pub unsent_on : (phase : Phase) (b : CoordinatorState) (before : BookState) (h new : CoordinatorSeen) (told : Told)
    → IsAlive h.crew told.rank → IsOrderTold before h.book told → HasFailed h new told.rank
    → IsOnAs phase b (record h { book = before }) → IsOnAs phase b new
unsent_on phase b before h new told alive left failed on =
    let lives = ap (λ (h : CoordinatorSeen). h.crew.lives) failed.rest in
    let streams = ap (λ (h : CoordinatorSeen). h.streams) failed.rest in
    let ranks = failed.ranks ∙ told_ranks before h.book told left in
    on_still phase phase b (record h { book = before }) new (Unsent told.rank told.order)
    (ap (λ (h : CoordinatorSeen). h.crew.said) failed.rest)
    (λ said. record {
      there = omega (arith, failed.there, told_ranks before h.book told left);
      alive = alive.lives;
      without = h.book;
      told = left;
      faults = failed.faults;
      rest = ap (λ (n : CoordinatorSeen). coordinator_state said phase n) failed.rest;
    })
    (fit_without (record h { book = before }) new told.rank lives streams ranks on.fit) on

-- by the result of a call that sends
pub told_on : (sent : Bool) (phase : Phase) (b : CoordinatorState) (before : BookState) (h new : CoordinatorSeen) (told : Told)
    → IsAlive h.crew told.rank → orders.IsCarried told.order → IsOrderTold before h.book told
    → sent_or_failed sent h new told.rank (orders.spelled told.order)
    → IsOnAs phase b (record h { book = before }) → IsOnAs phase b new
told_on true phase b before h new told alive carried left came on =
    sent_on phase b before h new told alive carried left came on
told_on false phase b before h new told alive carried left came on =
    unsent_on phase b before h new told alive left came on

-- ---- the start of a rank

-- the rank was started
abbrev pub launched_on : (phase : Phase) (b : CoordinatorState) (old new : CoordinatorSeen) (rank : ℕ)
    → slice_index_or old.crew.lives rank false ≡ false
    → new ≡ record old { crew = record old.crew { lives = slice_set old.crew.lives rank true } }
    → IsOnAs phase b old → IsOnAs phase b new
launched_on phase b old new rank away rest on =
    on_still phase phase b old new (Launched rank) (ap (λ (h : CoordinatorSeen). h.crew.said) rest)
    (λ said. (away, ap (λ (h : CoordinatorSeen). coordinator_state said phase h) rest))
    (record {
      lives = ap (λ (h : CoordinatorSeen). length h.crew.lives) rest ∙ length-set old.crew.lives rank true ∙ on.fit.lives
          ∙ sym (ap (λ (h : CoordinatorSeen). ranks_of h.book) rest);
      streams = ap (λ (h : CoordinatorSeen). length h.streams) rest ∙ on.fit.streams
          ∙ sym (ap (λ (h : CoordinatorSeen). ranks_of h.book) rest);
    }) on

-- and sent the problem
abbrev pub set_up_on : (sent : Bool) (phase : Phase) (b : CoordinatorState) (old new : CoordinatorSeen) (rank : ℕ) (frame : List ℕ)
    → IsAlive old.crew rank → IsSetUpFrame old.book frame → sent_or_failed sent old new rank frame
    → IsOnAs phase b old → IsOnAs phase b new
set_up_on true phase b old new rank frame alive setup came on =
    let told : told_to rank frame ≡ told_to rank (orders.spelled (Setup old.book.settings.gap setup.bytes)) =
    ap (told_to rank) setup.frame in
    on_more phase phase b old new (SetUp rank setup.bytes)
    (told_to rank (orders.spelled (Setup old.book.settings.gap setup.bytes)))
    (subst (Adds old.crew.said new.crew.said) told came.said)
    (λ said. record {
      its = setup.its;
      carried = setup.carried;
      alive = alive.lives;
      rest = ap (λ (h : CoordinatorSeen). coordinator_state
          (said ++ told_to rank (orders.spelled (Setup old.book.settings.gap setup.bytes))) phase h) came.rest;
    })
    (record {
      lives = ap (λ (h : CoordinatorSeen). length h.crew.lives) came.rest ∙ on.fit.lives
          ∙ sym (ap (λ (h : CoordinatorSeen). ranks_of h.book) came.rest);
      streams = ap (λ (h : CoordinatorSeen). length h.streams) came.rest ∙ on.fit.streams
          ∙ sym (ap (λ (h : CoordinatorSeen). ranks_of h.book) came.rest);
    }) on
set_up_on false phase b old new rank frame alive setup came on = failed_on phase b old new rank came on

-- ---- decisions

pub decided_on : (phase : Phase) (b : CoordinatorState) (old new : CoordinatorSeen) → ¬ IsOver old.book
    → ¬ IsSaveDue old.pacing old.book → MayDecide phase.pace
    → IsDecided old.book new.book → ranks_of new.book ≡ ranks_of old.book → new ≡ record old { book = new.book }
    → IsOnAs phase b old → IsOnAs (record { link_failed = phase.link_failed; pace = Hearing }) b new
decided_on phase b old new more saved due is ranks rest on =
    let after : Phase = record { link_failed = phase.link_failed; pace = Hearing } in
    on_still phase after b old new Decided (ap (λ (h : CoordinatorSeen). h.crew.said) rest)
    (λ said. record {
      deciding = record { more = more; due = due; saved = saved };
      is = is;
      rest = ap (λ (h : CoordinatorSeen). coordinator_state said after h) rest;
    })
    (record {
      lives = ap (λ (h : CoordinatorSeen). length h.crew.lives) rest ∙ on.fit.lives ∙ sym ranks;
      streams = ap (λ (h : CoordinatorSeen). length h.streams) rest ∙ on.fit.streams ∙ sym ranks;
    }) on

-- a decision was cut short
pub halted_on : (phase : Phase) (b : CoordinatorState) (old new : CoordinatorSeen) (steps : ℕ) → ¬ IsOver old.book
    → ¬ IsSaveDue old.pacing old.book → MayDecide phase.pace → Stands steps old.book new.book → ranks_of new.book ≡ ranks_of old.book
    → new ≡ record old { out_of_memory = true; book = new.book } → IsOnAs phase b old
    → IsOnAs (record { link_failed = phase.link_failed; pace = Hearing }) b new
halted_on phase b old new steps more saved due is ranks rest on =
    let after : Phase = record { link_failed = phase.link_failed; pace = Hearing } in
    on_still phase after b old new (Halted steps) (ap (λ (h : CoordinatorSeen). h.crew.said) rest)
    (λ said. record {
      deciding = record { more = more; due = due; saved = saved };
      is = is;
      rest = ap (λ (h : CoordinatorSeen). coordinator_state said after h) rest;
    })
    (record {
      lives = ap (λ (h : CoordinatorSeen). length h.crew.lives) rest ∙ on.fit.lives ∙ sym ranks;
      streams = ap (λ (h : CoordinatorSeen). length h.streams) rest ∙ on.fit.streams ∙ sym ranks;
    }) on

-- ---- what comes

-- bytes, which were fed to the stream of their rank
pub fed_on : (phase : Phase) (b : CoordinatorState) (old new : CoordinatorSeen) (rank : ℕ) → ¬ IsOver old.book
    → old.book.orders ≡ [] → phase.pace ≡ Hearing → AreReadOut old.streams
    → HasFed old.crew new.crew old.streams new.streams rank → new.book ≡ old.book → new.out_of_memory ≡ old.out_of_memory
    → new.pacing ≡ old.pacing → IsOnAs phase b old
    → IsOnAs (record { link_failed = phase.link_failed; pace = Reading }) b new
fed_on phase b old new rank more told decided read h book out_of_memory pacing on =
    let after : Phase = record { link_failed = phase.link_failed; pace = Reading } in
    let ranks = ap (λ (b : BookState). ranks_of b) book in
    on_more phase after b old new (Came rank h.bytes) (heard_from rank h.bytes) h.said
    (λ said. record {
      hearing = hearing said phase old more told decided read;
      alive = h.alive.lives;
      rest =
          ap (λ (l : List Bool). record (coordinator_state (said ++ heard_from rank h.bytes) after new) { lives = l }) h.lives
          ∙ ap (λ (n : ℕ). record (coordinator_state (said ++ heard_from rank h.bytes) after new) { lives = old.crew.lives; faults = n })
          h.faults
          ∙ ap (λ (l : List Waiting). record (coordinator_state (said ++ heard_from rank h.bytes) after old) {
            out_of_memory = new.out_of_memory;
            pacing = new.pacing;
            streams = l;
            book = new.book;
          })
          h.streams
          ∙ ap (λ (book : BookState). record (coordinator_state (said ++ heard_from rank h.bytes) after old) {
            out_of_memory = new.out_of_memory;
            pacing = new.pacing;
            streams = slice_set old.streams rank (fed (slice_index_or old.streams rank first) h.bytes);
            book = book;
          }) book
          ∙ ap (λ (w : Bool). record (coordinator_state (said ++ heard_from rank h.bytes) after old) {
            out_of_memory = w;
            pacing = new.pacing;
            streams = slice_set old.streams rank (fed (slice_index_or old.streams rank first) h.bytes);
          }) out_of_memory
          ∙ ap (λ (p : Pacing). record (coordinator_state (said ++ heard_from rank h.bytes) after old) {
            out_of_memory = old.out_of_memory;
            pacing = p;
            streams = slice_set old.streams rank (fed (slice_index_or old.streams rank first) h.bytes);
          }) pacing;
    })
    (record {
      lives = ap (λ (l : List Bool). length l) h.lives ∙ on.fit.lives ∙ sym ranks;
      streams = ap (λ (l : List Waiting). length l) h.streams
          ∙ length-set old.streams rank (fed (slice_index_or old.streams rank first) h.bytes) ∙ on.fit.streams ∙ sym ranks;
    }) on

-- and could not be kept
pub lacked_on : (phase : Phase) (b : CoordinatorState) (old new : CoordinatorSeen) (rank : ℕ) → ¬ IsOver old.book
    → old.book.orders ≡ [] → phase.pace ≡ Hearing → AreReadOut old.streams
    → HasLacked old.crew new.crew old.streams new.streams rank → new.book ≡ old.book → new.out_of_memory ≡ true
    → new.pacing ≡ old.pacing → IsOnAs phase b old
    → IsOnAs (record { link_failed = phase.link_failed; pace = Reading }) b new
lacked_on phase b old new rank more told decided read h book out_of_memory pacing on =
    let after : Phase = record { link_failed = phase.link_failed; pace = Reading } in
    let ranks = ap (λ (b : BookState). ranks_of b) book in
    on_more phase after b old new (Unfed rank h.bytes) (heard_from rank h.bytes) h.said
    (λ said. record {
      hearing = hearing said phase old more told decided read;
      alive = h.alive.lives;
      rest =
          ap (λ (l : List Bool). record (coordinator_state (said ++ heard_from rank h.bytes) after new) { lives = l }) h.lives
          ∙ ap (λ (n : ℕ). record (coordinator_state (said ++ heard_from rank h.bytes) after new) { lives = old.crew.lives; faults = n })
          h.faults
          ∙ ap (λ (l : List Waiting). record (coordinator_state (said ++ heard_from rank h.bytes) after old) {
            out_of_memory = new.out_of_memory;
            pacing = new.pacing;
            streams = l;
            book = new.book;
          })
          h.streams
          ∙ ap (λ (book : BookState). record (coordinator_state (said ++ heard_from rank h.bytes) after old) {
            out_of_memory = new.out_of_memory;
            pacing = new.pacing;
            streams = slice_set old.streams rank (shut (slice_index_or old.streams rank first));
            book = book;
          }) book
          ∙ ap (λ (w : Bool). record (coordinator_state (said ++ heard_from rank h.bytes) after old) {
            out_of_memory = w;
            pacing = new.pacing;
            streams = slice_set old.streams rank (shut (slice_index_or old.streams rank first));
          }) out_of_memory
          ∙ ap (λ (p : Pacing). record (coordinator_state (said ++ heard_from rank h.bytes) after old) {
            out_of_memory = true;
            pacing = p;
            streams = slice_set old.streams rank (shut (slice_index_or old.streams rank first));
          }) pacing;
    })
    (record {
      lives = ap (λ (l : List Bool). length l) h.lives ∙ on.fit.lives ∙ sym ranks;
      streams = ap (λ (l : List Waiting). length l) h.streams
          ∙ length-set old.streams rank (shut (slice_index_or old.streams rank first)) ∙ on.fit.streams ∙ sym ranks;
    }) on

-- a report, which is received
pub took_on : (phase : Phase) (b : CoordinatorState) (old mid new : CoordinatorSeen) (rank : ℕ) (stream : Waiting) (report : Report)
    → IsGiven reports.IsCarried reports.spelled (slice_index_or old.streams rank first) stream report
    → mid ≡ record old { streams = slice_set old.streams rank stream } → HasHeardReport mid new rank report
    → ¬ IsOver old.book → old.book.orders ≡ [] → MayBeRead phase.pace
    → IsOnAs phase b old → IsOnAs (record { link_failed = phase.link_failed; pace = Deciding }) b new
took_on phase b old mid new rank stream report given step heard more told may on =
    let after : Phase = record { link_failed = phase.link_failed; pace = Deciding } in
    let both = heard.rest ∙ ap (λ (h : CoordinatorSeen). record h {
      out_of_memory = new.out_of_memory;
      book = after_hearing heard.answer rank report h.book;
    }) step in
    on_still phase after b old new (Took rank report heard.answer) (ap (λ (h : CoordinatorSeen). h.crew.said) both)
    (λ said. record {
      there = omega (arith, heard.there, ap (λ (h : CoordinatorSeen). ranks_of h.book) step);
      reading = reading said phase old more told may;
      stream = stream;
      given = given;
      due = subst (λ (book : BookState). IsDue book rank report heard.answer)
          (ap (λ (h : CoordinatorSeen). h.book) step) heard.due;
      out_of_memory = subst (λ (w : Bool). IsMoreWanted heard.answer w new.out_of_memory) (ap (λ (h : CoordinatorSeen). h.out_of_memory) step)
          heard.out_of_memory;
      rest = ap (λ (h : CoordinatorSeen). coordinator_state said after h) both;
    })
    (record {
      lives = ap (λ (h : CoordinatorSeen). length h.crew.lives) both ∙ on.fit.lives
          ∙ sym (heard.ranks ∙ ap (λ (h : CoordinatorSeen). ranks_of h.book) step);
      streams = ap (λ (h : CoordinatorSeen). length h.streams) both ∙ length-set old.streams rank stream ∙ on.fit.streams
          ∙ sym (heard.ranks ∙ ap (λ (h : CoordinatorSeen). ranks_of h.book) step);
    }) on

-- bytes that are no report
pub nonsense_on : (phase : Phase) (b : CoordinatorState) (old mid new : CoordinatorSeen) (rank : ℕ) (stream : Waiting) (at : ℕ)
    → IsBadAt reports.IsCarried reports.spelled (slice_index_or old.streams rank first) stream at
    → mid ≡ record old { streams = slice_set old.streams rank stream } → new ≡ without rank mid
    → ranks_of new.book ≡ ranks_of mid.book → rank < ranks_of old.book
    → ¬ IsOver old.book → old.book.orders ≡ [] → MayBeRead phase.pace → IsOnAs phase b old
    → IsOnAs (record { link_failed = phase.link_failed; pace = Deciding }) b new
nonsense_on phase b old mid new rank stream at bad step lost ranks there more told may on =
    let after : Phase = record { link_failed = phase.link_failed; pace = Deciding } in
    let both = lost ∙ ap (without rank) step in
    let wide = ranks ∙ ap (λ (h : CoordinatorSeen). ranks_of h.book) step in
    on_still phase after b old new (Lost rank Nonsense) (ap (λ (h : CoordinatorSeen). h.crew.said) both)
    (λ said. record {
      there = there;
      why = record {
        reading = reading said phase old more told may;
        said = refl;
        stream = stream;
        at = at;
        bad = bad;
        streams = ap (λ (h : CoordinatorSeen). h.streams) both;
        faults = ap (λ (h : CoordinatorSeen). h.crew.faults) both;
      };
      lives = ap (λ (h : CoordinatorSeen). h.crew.lives) both;
      link_failed = refl;
      out_of_memory = ap (λ (h : CoordinatorSeen). h.out_of_memory) both;
      pace = refl;
      pacing = ap (λ (h : CoordinatorSeen). h.pacing) both;
      book = ap (λ (h : CoordinatorSeen). h.book) both;
    })
    (record {
      lives = ap (λ (h : CoordinatorSeen). length h.crew.lives) both ∙ length-set old.crew.lives rank false ∙ on.fit.lives
          ∙ sym wide;
      streams = ap (λ (h : CoordinatorSeen). length h.streams) both ∙ length-set old.streams rank stream ∙ on.fit.streams
          ∙ sym wide;
    }) on

-- word that a rank is lost
pub gone_on : (phase : Phase) (b : CoordinatorState) (old new : CoordinatorSeen) (rank : ℕ)
    → rank < ranks_of old.book → slice_index_or old.crew.lives rank false ≡ true
    → Adds old.crew.said new.crew.said (Gone rank ∷ []) → Rose old.crew.faults new.crew.faults
    → new.crew.lives ≡ slice_set old.crew.lives rank false → new.streams ≡ old.streams
    → new.book ≡ killed rank old.book → ranks_of new.book ≡ ranks_of old.book → new.out_of_memory ≡ old.out_of_memory
    → new.pacing ≡ old.pacing → ¬ IsOver old.book → old.book.orders ≡ [] → phase.pace ≡ Hearing
    → AreReadOut old.streams → IsOnAs phase b old → IsOnAs (record { link_failed = phase.link_failed; pace = Deciding }) b new
gone_on phase b old new rank there alive adds faults lives streams book ranks out_of_memory pacing more told decided read on =
    on_more phase (record { link_failed = phase.link_failed; pace = Deciding }) b old new (Lost rank Ended) (Gone rank ∷ []) adds
    (λ said. record {
      there = there;
      why = record {
        hearing = hearing said phase old more told decided read;
        alive = alive;
        said = refl;
        streams = streams;
        faults = faults;
      };
      lives = lives;
      link_failed = refl;
      out_of_memory = out_of_memory;
      pace = refl;
      pacing = pacing;
      book = book;
    })
    (fit_without old new rank lives streams ranks on.fit) on

-- ---- the start

-- a frame that is the order which comes first stays so
pub setup_still : (old new : BookState) (before after : List ℕ) → new.problem ≡ old.problem
    → new.settings ≡ old.settings → after ≡ before → IsSetUpFrame old before → IsSetUpFrame new after
setup_still old new before after problem settings frame h = record {
  bytes = h.bytes;
  its = subst (IsRecordOf h.bytes) (sym problem) h.its;
  carried = subst (λ (s : Settings). orders.IsCarried (Setup s.gap h.bytes)) (sym settings) h.carried;
  frame = frame ∙ h.frame ∙ ap (λ (s : Settings). orders.spelled (Setup s.gap h.bytes)) (sym settings);
}

pub frame_still : {Z : Type 0} (old new : BookState) (before after : Vec ℕ Z) → IsSameRun old new
    → after ≡ before
    → IsSetUpFrame old before.items → IsSetUpFrame new after.items
frame_still {Z} old new before after run frame h =
    setup_still old new before.items after.items run.problem run.settings
    (ap (λ (v : Vec ℕ Z). v.items) frame) h

-- ---- reading a stream

pub took_by : (b : CoordinatorState) (old mid new : CoordinatorSeen) (rank : ℕ) (report : Report) → ¬ IsOver old.book
    → old.book.orders ≡ []
    → HasRead old.streams mid.streams rank (Message report) → mid ≡ record old { streams = mid.streams }
    → HasHeardReport mid new rank report → IsOnIn MayRead b old → IsOnIn (is_next Deciding) b new
took_by b old mid new rank report more told read rest heard (phase, may, on) = (
  record { link_failed = phase.link_failed; pace = Deciding },
  refl,
  took_on phase b old mid new rank read.stream report read.is
      (rest ∙ ap (λ (l : List Waiting). record old { streams = l }) read.set) heard more told may on,
)

-- a frame that is cut short stays
pub still_by : (phase : Phase) (b : CoordinatorState) (old new : CoordinatorSeen) (rank : ℕ)
    → HasRead old.streams new.streams rank NeedMore
    → new ≡ record old { streams = new.streams } → IsOnAs phase b old → IsOnAs phase b new
still_by phase b old new rank read rest on =
    subst (IsOnAs phase b) (sym (rest ∙ ap (λ (l : List Waiting). record old { streams = l }) read.set
    ∙ ap (λ (w : Waiting). record old { streams = slice_set old.streams rank w }) read.is.same
    ∙ ap (λ (l : List Waiting). record old { streams = l }) (set-get_or old.streams rank first))) on

pub nonsense_by : (b : CoordinatorState) (old mid new : CoordinatorSeen) (rank at : ℕ) → ¬ IsOver old.book
    → old.book.orders ≡ []
    → HasRead old.streams mid.streams rank (BadFrame at) → mid ≡ record old { streams = mid.streams }
    → new ≡ without rank mid → ranks_of new.book ≡ ranks_of mid.book → rank < ranks_of old.book
    → IsOnIn MayRead b old → IsOnIn (is_next Deciding) b new
nonsense_by b old mid new rank at more told read rest lost ranks there (phase, may, on) = (
  record { link_failed = phase.link_failed; pace = Deciding },
  refl,
  nonsense_on phase b old mid new rank read.stream at read.is
      (rest ∙ ap (λ (l : List Waiting). record old { streams = l }) read.set) lost ranks there more told may on,
)

-- a report could not be read
pub unread_by : (b : CoordinatorState) (old new : CoordinatorSeen) → ¬ IsOver old.book → old.book.orders ≡ []
    → new ≡ record old { out_of_memory = true; streams = new.streams } → new.streams ≡ old.streams → IsOnIn MayRead b old
    → IsOnIn (is_next Deciding) b new
unread_by b old new more told rest streams (phase, may, on) =
    let after : Phase = record { link_failed = phase.link_failed; pace = Deciding } in
    let same : new ≡ record old { out_of_memory = true } =
    rest ∙ ap (λ (l : List Waiting). record old { out_of_memory = true; streams = l }) streams in (
      after,
      refl,
      on_still phase after b old new Unread (ap (λ (h : CoordinatorSeen). h.crew.said) same)
          (λ said. (reading said phase old more told may, ap (λ (h : CoordinatorSeen). coordinator_state said after h) same))
          (subst IsFit (sym same) (record { lives = on.fit.lives; streams = on.fit.streams })) on,
    )

-- ---- a turn

-- bytes came
pub fed_by : (b : CoordinatorState) (old new : CoordinatorSeen) (rank : ℕ) → ¬ IsOver old.book → old.book.orders ≡ []
    → AreReadOut old.streams → HasFed old.crew new.crew old.streams new.streams rank → new.book ≡ old.book
    → new.out_of_memory ≡ old.out_of_memory → new.pacing ≡ old.pacing → IsOnIn (is_next Hearing) b old → IsOnIn (is_next Reading) b new
fed_by b old new rank more told read h book out_of_memory pacing (phase, decided, on) = (
  record { link_failed = phase.link_failed; pace = Reading },
  refl,
  fed_on phase b old new rank more told decided read h book out_of_memory pacing on,
)

-- and memory ran out to keep them
pub lacked_by : (b : CoordinatorState) (old new : CoordinatorSeen) (rank : ℕ) → ¬ IsOver old.book → old.book.orders ≡ []
    → AreReadOut old.streams → HasLacked old.crew new.crew old.streams new.streams rank → new.book ≡ old.book
    → new.out_of_memory ≡ true → new.pacing ≡ old.pacing → IsOnIn (is_next Hearing) b old → IsOnIn (is_next Reading) b new
lacked_by b old new rank more told read h book out_of_memory pacing (phase, decided, on) = (
  record { link_failed = phase.link_failed; pace = Reading },
  refl,
  lacked_on phase b old new rank more told decided read h book out_of_memory pacing on,
)

-- word that a rank is lost
pub gone_by : (b : CoordinatorState) (old new : CoordinatorSeen) (rank : ℕ) → ¬ IsOver old.book → old.book.orders ≡ []
    → AreReadOut old.streams → HasGone old.crew new.crew old.streams new.streams rank
    → new.book ≡ killed rank old.book → ranks_of new.book ≡ ranks_of old.book → new.out_of_memory ≡ old.out_of_memory
    → new.pacing ≡ old.pacing → IsOnIn (is_next Hearing) b old → IsOnIn (is_next Deciding) b new
gone_by b old new rank more told read h book ranks out_of_memory pacing (phase, decided, on) = (
  record { link_failed = phase.link_failed; pace = Deciding },
  refl,
  gone_on phase b old new rank (omega (arith, h.lost.alive.there, on.fit.lives)) h.lost.alive.lives h.lost.said
      h.lost.faults h.lost.lives h.streams book ranks out_of_memory pacing more told decided read on,
)

-- it failed
pub broke_by : (b : CoordinatorState) (old new : CoordinatorSeen) → ¬ IsOver old.book → old.book.orders ≡ []
    → AreReadOut old.streams → HasBroken old.crew new.crew old.streams new.streams → new.book ≡ old.book
    → new.out_of_memory ≡ old.out_of_memory → new.pacing ≡ old.pacing → IsOnIn (is_next Hearing) b old → IsOnIn IsBrokenOff b new
broke_by b old new more told read h book out_of_memory pacing (phase, decided, on) = (
  record { link_failed = true; pace = Closing },
  record { link_failed = refl; closing = refl },
  broke_on phase b old new more told decided read h.faults
      (ap (λ (l : List Waiting). record new { streams = l }) h.streams
      ∙ ap (λ (w : Bool). record new { out_of_memory = w; streams = old.streams }) out_of_memory
      ∙ ap (λ (book : BookState). record old { crew = new.crew; pacing = new.pacing; book = book }) book
      ∙ ap (λ (p : Pacing). record old { crew = new.crew; pacing = p }) pacing
      ∙ ap (λ (crew : CrewSeen). record old { crew = crew }) (only_faults old.crew new.crew h.silent)) on,
)

pub lost_in : (b : CoordinatorState) (old new : CoordinatorSeen) (rank : ℕ) → rank < ranks_of old.book
    → new ≡ without rank old → ranks_of new.book ≡ ranks_of old.book → IsOnIn IsBrokenOff b old
    → IsOnIn IsBrokenOff b new
lost_in b old new rank there rest ranks (phase, is, on) =
    (phase, is, lost_on phase b old new rank is.link_failed there rest ranks on)

-- ---- decisions

pub decided_by : (b : CoordinatorState) (old new : CoordinatorSeen) → ¬ IsOver old.book → ¬ IsSaveDue old.pacing old.book
    → IsDecided old.book new.book
    → ranks_of new.book ≡ ranks_of old.book → new ≡ record old { book = new.book } → IsOnIn IsRested b old
    → IsOnIn (is_next Hearing) b new
decided_by b old new more saved is ranks rest (phase, due, on) = (
  record { link_failed = phase.link_failed; pace = Hearing },
  refl,
  decided_on phase b old new more saved due is ranks rest on,
)

pub halted_by : (b : CoordinatorState) (old new : CoordinatorSeen) (steps : ℕ) → ¬ IsOver old.book
    → ¬ IsSaveDue old.pacing old.book → Stands steps old.book new.book → ranks_of new.book ≡ ranks_of old.book
    → new ≡ record old { out_of_memory = true; book = new.book } → IsOnIn IsRested b old
    → IsOnIn (is_next Hearing) b new
halted_by b old new steps more saved is ranks rest (phase, due, on) = (
  record { link_failed = phase.link_failed; pace = Hearing },
  refl,
  halted_on phase b old new steps more saved due is ranks rest on,
)

-- the book was saved
pub kept_on : (phase : Phase) (b : CoordinatorState) (old : CoordinatorSeen) → IsSaveDue old.pacing old.book → IsOnAs phase b old
    → IsOnAs phase b (record old { pacing = saved_at old.book })
kept_on phase b old due on =
    on_still phase phase b old (record old { pacing = saved_at old.book }) Kept refl
    (λ said. record { due = due; rest = refl })
    (record { lives = on.fit.lives; streams = on.fit.streams }) on

-- an order could not be put into bytes
pub unwritten_on : (phase : Phase) (b : CoordinatorState) (before : BookState) (h : CoordinatorSeen) (told : Told)
    → IsAlive h.crew told.rank → IsOrderTold before h.book told → IsOnAs phase b (record h { book = before })
    → IsOnAs phase b (record h { out_of_memory = true })
unwritten_on phase b before h told alive left on =
    on_still phase phase b (record h { book = before }) (record h { out_of_memory = true }) (Unwritten told.rank told.order) refl
    (λ said. record { alive = alive.lives; told = left; rest = refl })
    (fit_book (record h { out_of_memory = true }) before (told_ranks before h.book told left)
    (record { lives = on.fit.lives; streams = on.fit.streams })) on

-- ---- the end

pub frame_of_end : orders.spelled End ≡ 0 ∷ 0 ∷ 0 ∷ 1 ∷ 8 ∷ []
unfolding orders.fields_of framed count_field
frame_of_end = refl

-- ---- orders of a book

-- an order of a book has a frame
pub first_order : (old new : BookState) (told : Told) → IsBook old → IsOrderTold old new told
    → IsOrder told.order
first_order old new told is left =
    head_of (λ (t : Told). IsOrder t.order) told new.orders (subst AreOrders left.first is.orders)

-- ---- phases

pub in_phase : (P : Phase → Type 0) (phase : Phase) (b : CoordinatorState) (h : CoordinatorSeen) → P phase → IsOnAs phase b h
    → IsOnIn P b h
in_phase P phase b h is on = (phase, is, on)

-- an action done in any phase is done in this one
pub stays_in : (P : Phase → Type 0) (b : CoordinatorState) (old new : CoordinatorSeen)
    → ((phase : Phase) → IsOnAs phase b old → IsOnAs phase b new) → IsOnIn P b old → IsOnIn P b new
stays_in P b old new goes (phase, is, on) = (phase, is, goes phase on)

-- and then what a step does
pub steps_on : (result : Bool) (P Q : Phase → Type 0) (old mid new : CoordinatorSeen)
    → ((from : CoordinatorState) → IsOnIn P from old → IsOnIn Q from mid)
    → MatchBool result ((from : CoordinatorState) → IsOnIn Q from mid → IsOnIn IsRested from new)
    ((from : CoordinatorState) → IsOnIn Q from mid → IsOnIn AnyPhase from new)
    → MatchBool result ((from : CoordinatorState) → IsOnIn P from old → IsOnIn IsRested from new)
    ((from : CoordinatorState) → IsOnIn P from old → IsOnIn AnyPhase from new)
steps_on true P Q old mid new goes on = λ from was. on from (goes from was)
steps_on false P Q old mid new goes on = λ from was. on from (goes from was)

pub any_in : (P : Phase → Type 0) (b : CoordinatorState) (h : CoordinatorSeen) → IsOnIn P b h → IsOnIn AnyPhase b h
any_in P b h (phase, is, on) = (phase, tt, on)

pub deciding_rests : (b : CoordinatorState) (h : CoordinatorSeen) → IsOnIn (is_next Deciding) b h → IsOnIn IsRested b h
deciding_rests b h (phase, is, on) = (phase, subst MayDecide (sym is) tt, on)

pub reading_rests : (b : CoordinatorState) (h : CoordinatorSeen) → IsOnIn (is_next Reading) b h → IsOnIn IsRested b h
reading_rests b h (phase, is, on) = (phase, subst MayDecide (sym is) tt, on)

pub hearing_reads : (b : CoordinatorState) (h : CoordinatorSeen) → IsOnIn (is_next Hearing) b h → IsOnIn MayRead b h
hearing_reads b h (phase, is, on) = (phase, subst MayBeRead (sym is) tt, on)

pub reading_reads : (b : CoordinatorState) (h : CoordinatorSeen) → IsOnIn (is_next Reading) b h → IsOnIn MayRead b h
reading_reads b h (phase, is, on) = (phase, subst MayBeRead (sym is) tt, on)

-- ---- the beginning

abbrev pub begun_on : (b : BookState) (h : CoordinatorSeen) → IsFresh h.crew (ranks_of b) → h.book ≡ b
    → h.streams ≡ replicate (ranks_of b) first → h.out_of_memory ≡ false → h.pacing ≡ record { since = b.heard; apart = 0 }
    → IsOnIn IsRested (beginning b h.crew.faults) h
begun_on b h fresh book streams out_of_memory pacing = (
  record { link_failed = false; pace = Deciding },
  tt,
  record {
    said = [];
    come = record {
      actions = [];
      trace =
          ap (λ (l : List Bool). record (coordinator_state [] (record { link_failed = false; pace = Deciding }) h) { lives = l }) fresh.lives
          ∙ ap (λ (l : List Waiting). record (coordinator_state [] (record { link_failed = false; pace = Deciding }) h) {
            lives = replicate (ranks_of b) false;
            streams = l;
          }) streams
          ∙ ap (λ (w : Bool). record (beginning b h.crew.faults) { out_of_memory = w; pacing = h.pacing; book = h.book }) out_of_memory
          ∙ ap (λ (p : Pacing). record (beginning b h.crew.faults) { pacing = p; book = h.book }) pacing
          ∙ ap (λ (own : BookState). record (beginning b h.crew.faults) { book = own }) book;
    };
    shown = fresh.said;
    fit = record {
      lives = ap (λ (l : List Bool). length l) fresh.lives ∙ length-replicate (ranks_of b) false
          ∙ sym (ap (λ (own : BookState). ranks_of own) book);
      streams = ap (λ (l : List Waiting). length l) streams ∙ length-replicate (ranks_of b) first
          ∙ sym (ap (λ (own : BookState). ranks_of own) book);
    };
  },
)
