-- What goes over a link makes of a worker's standing.
use Rattle.std.proofs.Common.{◌≡◌, ◌⊎◌, inl, inr, ℕ, ◌<◌, Bool, false, List, [], ◌∷◌, ◌++◌, Option, Some, None, IfSome, refl, sym, ap, subst, ◌∙◌, arith}
use Rattle.std.proofs.lemmas.Bool.{false≢true}
use Rattle.ug_io.specs.declared.link.Said.{Said}
use Rattle.ug_io.specs.declared.link.Got.{Got}
use Rattle.ug_io.specs.declared.link.Got.TheVariants.{Bytes}
use Rattle.ug_io.specs.Links.{Adds, HasHeard, HasRead, LinkSeen, heard, told}
use Rattle.ug_io.specs.Outside.{Rose}
use Rattle.ug_frames.specs.declared.order.Order.{Order}
use Rattle.ug_frames.specs.declared.report.Report.{Report}
use Rattle.ug_frames.specs.OrderFrames as orders
use Rattle.ug_frames.specs.ReportFrames as reports
use Rattle.ug_stream.specs.Streams.{IsBadAt, Waiting, fed}
use Rattle.ug_serve.specs.Tellings.{HasToldAll, HasToldFront}
use Rattle.ug_serve.specs.Actions.{Action, Came, Took, Told, Stage, IsTaken, IsTold}
use Rattle.ug_serve.specs.Traces.{NextState, Reaches, IsTrace, IsFresh, ServerState, beginning}
use Rattle.ug_serve.specs.Serving.{HasFailed, HasMetBad, HasNext, HasWanted, IsOn, IsOpen, IsPartTold, StandsOn}

-- ---- one action more

pub trace_more : (a : ServerState) (actions : List Action) (b c : ServerState) (action : Action) → IsTrace a actions b
    → NextState b action c → IsTrace a (actions ++ action ∷ []) c
trace_more a [] b c action same does =
    (c, subst (λ (old : ServerState). NextState old action c) same does, refl)
trace_more a (first ∷ actions) b c action (mid, done, more) does =
    (mid, done, trace_more mid actions b c action more does)

pub come_more : (b c : ServerState) (action : Action) → Reaches b → NextState b action c → Reaches c
come_more b c action h does = record {
  actions = h.actions ++ action ∷ [];
  trace = trace_more beginning h.actions b c action h.trace does;
}

-- ---- no bad bytes so far

pub fed_so : (w : Waiting) (bytes : List ℕ) → w.bad ≡ false
    → fed w bytes ≡ record w { bytes = w.bytes ++ bytes }
fed_so w bytes fine = rw fine refl

pub fed_fine : (w : Waiting) (bytes : List ℕ) → w.bad ≡ false → (fed w bytes).bad ≡ false
fed_fine w bytes fine = ap (λ (fed : Waiting). fed.bad) (fed_so w bytes fine) ∙ fine

trace_fine : (a : ServerState) (actions : List Action) (b : ServerState) → a.waiting.bad ≡ false
    → IsTrace a actions b → b.waiting.bad ≡ false
trace_fine a [] b fine same = ap (λ (now : ServerState). now.waiting.bad) same ∙ fine
trace_fine a (Came bytes ∷ actions) b fine (mid, done, more) =
    trace_fine mid actions b
    (ap (λ (now : ServerState). now.waiting.bad) done ∙ fed_fine a.waiting bytes fine) more
trace_fine a (Took order ∷ actions) b fine (mid, done, more) =
    trace_fine mid actions b done.given.still more
trace_fine a (Told report ∷ actions) b fine (mid, done, more) =
    trace_fine mid actions b (ap (λ (w : Waiting). w.bad) done.waiting ∙ fine) more

come_fine : (b : ServerState) → Reaches b → b.waiting.bad ≡ false
come_fine b h = trace_fine beginning h.actions b refl h.trace

-- ---- what the link sends

said_more : (a b : Option (List Said)) (said more : List Said) → Adds a b more
    → IfSome a (λ s. s ≡ said) → IfSome b (λ s. s ≡ said ++ more)
said_more None b said more adds same =
    subst (λ (b : Option (List Said)). IfSome b (λ s. s ≡ said ++ more)) (sym adds) tt
said_more (Some s) b said more adds same =
    subst (λ (b : Option (List Said)). IfSome b (λ t. t ≡ said ++ more)) (sym adds)
    (ap (λ (t : List Said). t ++ more) same)

said_same : (a b : Option (List Said)) (said : List Said) → b ≡ a
    → IfSome a (λ s. s ≡ said) → IfSome b (λ s. s ≡ said)
said_same a b said e same = subst (λ (o : Option (List Said)). IfSome o (λ s. s ≡ said)) (sym e) same

-- all that was said, and no part of a report beside it
pub said_front : (now : ServerState) (b : Option (List Said)) → IfSome b (λ s. s ≡ now.said)
    → IfSome b (λ s. (s ≡ now.said) ⊎ IsPartTold now s)
said_front now None same = tt
said_front now (Some s) same = inl same

-- ---- the beginning

pub on_fresh : (seen : LinkSeen) → IsFresh seen → IsOn seen beginning
on_fresh seen fresh = record {
  come = record { actions = []; trace = refl };
  said = fresh.said;
  ended = fresh.ended;
  faults = fresh.faults;
}

-- ---- bytes that come

abbrev came : List Said → Waiting → Stage → List ℕ → ServerState
came said w stage bytes =
    record { said = said ++ heard bytes; waiting = fed w bytes; stage = stage }

pub on_came : (old new : LinkSeen) (w : Waiting) (stage : Stage) (bytes : List ℕ)
    → Adds old.said new.said (heard bytes) → new.ended ≡ old.ended → new.faults ≡ old.faults
    → StandsOn old w stage → StandsOn new (fed w bytes) stage
on_came old new w stage bytes adds ended faults s = record {
  said = s.said ++ heard bytes;
  on = record {
    come = come_more (record { said = s.said; waiting = w; stage = stage })
        (came s.said w stage bytes) (Came bytes) s.on.come refl;
    said = said_more old.said new.said s.said (heard bytes) adds s.on.said;
    ended = ended ∙ s.on.ended;
    faults = faults ∙ s.on.faults;
  };
}

-- a read of some bytes
pub read_bytes : (wait : Bool) (old new : LinkSeen) (buffer : List ℕ) (n : ℕ) (got : Got) → got ≡ Bytes n
    → HasRead wait old new buffer got → HasHeard old new buffer n
read_bytes wait old new buffer n got e h = subst (λ (got : Got). HasRead wait old new buffer got) e h

-- memory ran out behind them
pub wanted_came : (old new : LinkSeen) (w : Waiting) (stage : Stage) (bytes : List ℕ)
    → Adds old.said new.said (heard bytes) → StandsOn old w stage → HasWanted new
wanted_came old new w stage bytes adds s = record {
  now = came s.said w stage bytes;
  front = record {
    come = come_more (record { said = s.said; waiting = w; stage = stage })
        (came s.said w stage bytes) (Came bytes) s.on.come refl;
    said = said_front (came s.said w stage bytes) new.said
        (said_more old.said new.said s.said (heard bytes) adds s.on.said);
  };
}

-- nothing came, and memory ran out
pub wanted_on : (seen : LinkSeen) (w : Waiting) (stage : Stage) → StandsOn seen w stage → HasWanted seen
wanted_on seen w stage s =
    let now : ServerState = record { said = s.said; waiting = w; stage = stage } in
    record { now = now; front = record { come = s.on.come; said = said_front now seen.said s.on.said } }

-- bad bytes
pub bad_on : (seen : LinkSeen) (w new : Waiting) (stage : Stage) (at : ℕ) → IsOpen stage
    → IsBadAt orders.IsCarried orders.spelled w new at → StandsOn seen w stage → HasMetBad seen at
bad_on seen w new stage at running bad s =
    let now : ServerState = record { said = s.said; waiting = w; stage = stage } in
    let fine = come_fine now s.on.come in
    record {
      now = now;
      on = s.on;
      place = bad.place;
      running = running;
      bad = elim bad.bad [ inl was ↦ absurd (false≢true (sym fine ∙ was)) | inr b ↦ inl b ];
    }

-- ---- an order that came

-- it was due
pub next_taken : (seen : LinkSeen) (w : Waiting) (old new : Stage) (order : Order) (at : ℕ)
    → IsTaken old order new → HasNext seen w old order at → StandsOn seen w new
next_taken seen w old new order at taken h = record {
  said = h.said;
  on = record {
    come = come_more (record { said = h.said; waiting = h.before; stage = old })
        (record { said = h.said; waiting = w; stage = new }) (Took order) h.on.come
        (record { given = h.given; taken = taken; said = refl });
    said = h.on.said;
    ended = h.on.ended;
    faults = h.on.faults;
  };
}

-- it was not
pub next_undue : (seen : LinkSeen) (w : Waiting) (stage : Stage) (order : Order) (at : ℕ)
    → IsOpen stage → ((new : Stage) → ¬ IsTaken stage order new)
    → HasNext seen w stage order at → HasMetBad seen at
next_undue seen w stage order at running undue h = record {
  now = record { said = h.said; waiting = h.before; stage = stage };
  on = h.on;
  place = h.place;
  running = running;
  bad = inr (record {
    order = order;
    begins = record { carried = h.given.carried; rest = w.bytes; parts = h.given.parts };
    undue = undue;
  });
}

-- memory ran out before it was obeyed
pub next_wanted : (seen : LinkSeen) (w : Waiting) (stage : Stage) (order : Order) (at : ℕ)
    → HasNext seen w stage order at → HasWanted seen
next_wanted seen w stage order at h =
    wanted_on seen h.before stage (record { said = h.said; on = h.on })

-- ---- a report that is sent

pub on_told : (old new : LinkSeen) (w : Waiting) (s t : Stage) (report : Report) → IsTold s report t
    → reports.IsCarried report → HasToldAll old new (reports.spelled report)
    → new.faults ≡ old.faults → StandsOn old w s → StandsOn new w t
on_told old new w s t report due carried all faults h = record {
  said = h.said ++ told (reports.spelled report);
  on = record {
    come = come_more (record { said = h.said; waiting = w; stage = s })
        (record { said = h.said ++ told (reports.spelled report); waiting = w; stage = t })
        (Told report) h.on.come
        (record { carried = carried; due = due; said = refl; waiting = refl });
    said = said_more old.said new.said h.said (told (reports.spelled report)) all.said h.on.said;
    ended = all.ended ∙ h.on.ended;
    faults = faults ∙ h.on.faults;
  };
}

part_told : (now : ServerState) (report : Report) (next : Stage) (front rest : List ℕ)
    (b : Option (List Said)) → IsTold now.stage report next → reports.IsCarried report
    → reports.spelled report ≡ front ++ rest
    → IfSome b (λ s. s ≡ now.said ++ told front)
    → IfSome b (λ s. (s ≡ now.said) ⊎ IsPartTold now s)
part_told now report next front rest None due carried parts same = tt
part_told now report next front rest (Some s) due carried parts same = inr (record {
  report = report;
  next = next;
  due = due;
  carried = carried;
  front = front;
  rest = rest;
  parts = parts;
  same = same;
})

rose_some : (old new : ℕ) → old ≡ 0 → Rose old new → 0 < new
rose_some old new zero (inl more) = omega (arith, zero, more)
rose_some old new zero (inr (full, same)) = absurd (omega (arith, zero, full))

-- a prefix of it, before a call failed
pub failed_told : (old new : LinkSeen) (w : Waiting) (s t : Stage) (report : Report)
    → IsTold s report t → reports.IsCarried report → HasToldFront old new (reports.spelled report)
    → Rose old.faults new.faults → StandsOn old w s → HasFailed new
failed_told old new w s t report due carried front rose h =
    let now : ServerState = record { said = h.said; waiting = w; stage = s } in
    record {
      now = now;
      front = record {
        come = h.on.come;
        said = part_told now report t front.front front.rest new.said due carried front.parts
            (said_more old.said new.said h.said (told front.front) front.told.said h.on.said);
      };
      cause = inl (rose_some old.faults new.faults h.on.faults rose);
    }
