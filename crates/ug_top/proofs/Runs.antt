-- The lines that are due of a run, and that it is complete.
use Rattle.std.proofs.Common.{◌≡◌, inl, inr, ℕ, ◌≤◌, ◌^◌, List, Option, None, Some, IfSome, refl, sym, subst}
use Rattle.clap.specs.Walk.{Row, Text}
use Rattle.ug_problem.specs.Instances.{Instance}
use Rattle.ug_drafts.specs.declared.fault.MpsFault.{MpsFault}
use Rattle.ug_mps.specs.Reads.{FirstFault}
use Rattle.ug_mps.specs.Laws.{HasOneOutcome}
use Rattle.ug_restart.specs.declared.fault.StartFault.{StartFault}
use Rattle.ug_restart.specs.declared.outcome.End.{End}
use Rattle.ug_restart.specs.declared.outcome.End.TheVariants as over
use Rattle.ug_restart.specs.declared.outcome.Outcome.{Outcome}
use Rattle.ug_restart.specs.Outcomes.{IsStranded}
use Rattle.ug_cli.specs.Numbers.{IsGiven, IsGivenIf}
use Rattle.ug_cli.specs.Taken.{AskedIn, AreSettings, IsGen, TakenWords}
use Rattle.ug_cli.specs.declared.plan.Gen.{Gen}
use Rattle.ug_cli.specs.declared.plan.Plan.{Plan}
use Rattle.ug_cli.specs.declared.plan.Plan.TheVariants as plans
use Rattle.ug_cli.specs.declared.plan.Asked.{Asked}
use Rattle.ug_top.specs.Outside.{Outside}
use Rattle.ug_top.specs.Solved.{Crewed, IsSeenCalm}
use Rattle.ug_top.proofs.Solved.{run_live}
use Rattle.ug_top.specs.Ends.{AreFileLines, AreLinesOf, AreSolveLines, IsPlannedOf, crews_at, status_of}
use Rattle.ug_top.specs.Lines.{AreEndLines, States}
use Rattle.ug_top.specs.Plans.{IsPlanned, IsPlannedGen}
use Rattle.ug_top.specs.Unread.{HasStopped}
use Rattle.ug_top.specs.declared.ended.Ended.{Ended}
use Rattle.ug_top.specs.declared.ended.Ended.TheVariants as ends
use Rattle.ug_top.specs.declared.status.Status.{Status}
use Rattle.ug_top.specs.declared.status.Status.TheVariants as statuses
use Rattle.ug_top.specs.Ran.{IsComplete, IsCompleteOf, IsReadTo, IsToldOf}

abbrev OneOutcome : Type 0
OneOutcome = (text : List ℕ) (boxed : Option ℕ) → HasOneOutcome text boxed

-- ---- the numbers of a plan are within their limits

given_least : (least most : ℕ) (word : Option Text) (n : ℕ) → IsGiven least most word n → least ≤ n
given_least least most None n t = absurd t
given_least least most (Some word) n t = t.low

given_most : (least most : ℕ) (word : Option Text) (n : ℕ) → IsGiven least most word n → n ≤ most
given_most least most None n t = absurd t
given_most least most (Some word) n t = t.high

box_small : (word : Option Text) (boxed : Option ℕ) → IsGivenIf 0 1000000000 word boxed
    → IfSome boxed (λ u. u ≤ 10 ^ 9)
box_small None boxed t = subst (λ b. IfSome b (λ u. u ≤ 10 ^ 9)) (sym t) tt
box_small (Some word) None t = absurd t
box_small (Some word) (Some u) t = t.high

planned : (rows : List Row) (asked : Asked) → AreSettings rows asked
    → asked.ranks.low ≤ asked.ranks.high → IsPlanned asked
planned rows asked t order = record {
  some = given_least 1 256 _ asked.ranks.solvers t.ranks.solvers;
  few = given_most 1 256 _ asked.ranks.solvers t.ranks.solvers;
  marks = order;
  boxed = box_small _ asked.bounds.boxed t.bounds.boxed;
}

planned_gen : (rows : List Row) (gen : Gen) → IsGen rows gen → IsPlannedGen gen
planned_gen rows gen t = record {
  least_seed = given_least 1 2147483646 _ gen.seed t.seed;
  greatest_seed = given_most 1 2147483646 _ gen.seed t.seed;
  least_size = given_least 1 40 _ gen.size t.size;
  greatest_size = given_most 1 40 _ gen.size t.size;
  some = given_least 1 256 _ gen.solvers t.solvers;
  few = given_most 1 256 _ gen.solvers t.solvers;
}

asked_planned : (command : Option (Text × List Row)) (words : List Text) (plan : Plan)
    → AskedIn command plan → TakenWords words plan → IsPlannedOf plan
asked_planned None words plan asks t = absurd asks
asked_planned (Some command) words (plans.Solve solve) asks t =
    planned command.1 solve.settings asks.1.settings t.order
asked_planned (Some command) words (plans.Restart restart) asks t =
    planned command.1 restart.settings asks.1.settings t.order
asked_planned (Some command) words (plans.Worker worker) asks t = tt
asked_planned (Some command) words (plans.Show show) asks t = tt
asked_planned (Some command) words (plans.Gen gen) asks t = planned_gen command.1 gen asks.1

pub taken_planned : (words : List Text) (plan : Plan) → TakenWords words plan → IsPlannedOf plan
taken_planned words plan t = asked_planned _ words plan t.asked.asks t

-- ---- a file that states a problem is not refused, and one with a fault is reported

stated : OneOutcome → (boxed : Option ℕ) (left : Option (List ℕ)) (by : Crewed) (status : Status) (p : Instance)
    → (status ≡ statuses.Refused → ⊥) → (IsSeenCalm by → status ≡ statuses.Stranded → ⊥) → States left boxed p
    → IsComplete boxed left by status
stated one boxed None by status p not live states = record { fault = tt; problem = tt; live = live }
stated one boxed (Some bytes) by status p not live states = record {
  fault = λ f first. absurd ((one bytes boxed).apart p f states first);
  problem = λ q reads is. not is;
  live = live;
}

untold : (boxed : Option ℕ) (left : Option (List ℕ)) (by : Crewed) (status : Status) → IsToldOf status
    → (status ≡ statuses.Refused → ⊥) → (IsSeenCalm by → status ≡ statuses.Stranded → ⊥)
    → IsComplete boxed left by status
untold boxed None by status told not live = record { fault = tt; problem = tt; live = live }
untold boxed (Some bytes) by status told not live = record {
  fault = λ f first. told;
  problem = λ p reads is. not is;
  live = live;
}

refused : OneOutcome → (boxed : Option ℕ) (left : Option (List ℕ)) (by : Crewed) (f : MpsFault)
    → IfSome left (λ bytes. FirstFault bytes boxed f) → IsComplete boxed left by statuses.Refused
refused one boxed None by f first = record { fault = tt; problem = tt; live = λ calm e. absurd (cc e) }
refused one boxed (Some bytes) by f first = record {
  fault = λ g other. inl refl;
  problem = λ p reads. absurd ((one bytes boxed).apart p f reads first);
  live = λ calm e. absurd (cc e);
}

-- status 7 is that of one end alone
stranded_end : (gap : ℕ) (end : End) (text : List ℕ) → AreEndLines gap end statuses.Stranded text → IsStranded end
stranded_end gap (over.Answered b) text t = absurd (cc t.0)
stranded_end gap (over.Limited b) text t = absurd (cc t.0)
stranded_end gap (over.Stranded b) text t = tt
stranded_end gap over.Memory text t = t

module _ (one : OneOutcome) (Idle : Type 0) (Ran : Instance → Outcome → Type 0)
    (Not : Instance → StartFault → Type 0) (asked : Asked) (left : Option (List ℕ))
    (text : List ℕ) (by : Crewed)
    (live : (p : Instance) (o : Outcome) → Ran p o → IsSeenCalm by → ¬ IsStranded o.end) where
  file_complete : (status : Status) → AreFileLines Idle Ran Not asked left status text
      → IsComplete asked.bounds.boxed left by status
  file_complete statuses.Answered t =
      stated one asked.bounds.boxed left by statuses.Answered t.problem (λ e. absurd (cc e)) (λ calm e. absurd (cc e)) t.states
  file_complete statuses.Limited t =
      stated one asked.bounds.boxed left by statuses.Limited t.problem (λ e. absurd (cc e)) (λ calm e. absurd (cc e)) t.states
  file_complete statuses.Stranded t =
      stated one asked.bounds.boxed left by statuses.Stranded t.problem (λ e. absurd (cc e))
      (λ calm e. live t.problem t.outcome t.ran calm (stranded_end asked.bounds.gap t.outcome.end t.lines.first t.lines.end)) t.states
  file_complete statuses.Refused t = refused one asked.bounds.boxed left by t.fault t.first
  file_complete statuses.ReadFault t =
      untold asked.bounds.boxed left by statuses.ReadFault (inr (inl refl)) (λ e. absurd (cc e)) (λ calm e. absurd (cc e))
  file_complete statuses.Memory t =
      untold asked.bounds.boxed left by statuses.Memory (inr (inr refl)) (λ e. absurd (cc e)) (λ calm e. absurd (cc e))
  file_complete statuses.DiskFault t =
      stated one asked.bounds.boxed left by statuses.DiskFault t.problem (λ e. absurd (cc e)) (λ calm e. absurd (cc e)) t.states
  file_complete statuses.NoCheckpoint t = stated one asked.bounds.boxed left by
      statuses.NoCheckpoint t.problem (λ e. absurd (cc e)) (λ calm e. absurd (cc e)) t.states
  file_complete statuses.OtherProblem t = stated one asked.bounds.boxed left by
      statuses.OtherProblem t.problem (λ e. absurd (cc e)) (λ calm e. absurd (cc e)) t.states
  file_complete statuses.BadImage t =
      stated one asked.bounds.boxed left by statuses.BadImage t.problem (λ e. absurd (cc e)) (λ calm e. absurd (cc e)) t.states
  file_complete statuses.Spent t =
      stated one asked.bounds.boxed left by statuses.Spent t.problem (λ e. absurd (cc e)) (λ calm e. absurd (cc e)) t.states
  file_complete statuses.SmallerGap t =
      stated one asked.bounds.boxed left by statuses.SmallerGap t.problem (λ e. absurd (cc e)) (λ calm e. absurd (cc e)) t.states
  file_complete statuses.Usage t = absurd t
  file_complete statuses.WriteFault t = absurd t
  file_complete statuses.LinkFault t = absurd t
  file_complete statuses.BadFrame t = absurd t

solve_complete : OneOutcome → {A : Type 0} (folder : Option A) (asked : Asked) (old new : Outside)
    (status : Status) (text : List ℕ) → AreSolveLines folder asked old new status text
    → IsComplete asked.bounds.boxed old.source.left (crews_at old new) status
solve_complete one None asked old new status text t =
    file_complete one _ _ _ asked old.source.left text (crews_at old new)
    (λ p o ran. run_live _ _ _ (crews_at old new) p _ o ran.ran) status t
solve_complete one (Some folder) asked old new status text t =
    file_complete one _ _ _ asked old.source.left text (crews_at old new)
    (λ p o ran. run_live _ _ _ (crews_at old new) p _ o ran.ran) status t

pub lines_complete : OneOutcome → (plan : Plan) (old new : Outside) (status : Status)
    (text : List ℕ) → AreLinesOf plan old new status text → IsCompleteOf plan old.source.left (crews_at old new) status
lines_complete one (plans.Solve solve) old new status text t =
    solve_complete one solve.checkpoint solve.settings old new status text t
lines_complete one (plans.Restart restart) old new status text t =
    file_complete one _ _ _ restart.settings old.source.left text (crews_at old new)
    (λ p o ran. run_live _ _ _ (crews_at old new) p _ o ran.ran) status t
lines_complete one (plans.Worker worker) old new status text t = tt
lines_complete one (plans.Show show) old new status text t = tt
lines_complete one (plans.Gen gen) old new status text t = tt

-- ---- how far the source is read

pub read_to : (old new : Outside) (ended : Ended) → HasStopped old.source.left new.source.left ended
    → IsReadTo old new (status_of ended)
read_to old new (ends.Lines status told best) stops = inr (inr stops)
read_to old new (ends.Quiet status) stops = inr (inr stops)
read_to old new (ends.Refused refusal told) stops = inr (inr stops)
read_to old new ends.ReadFault stops = inl refl
read_to old new ends.Memory stops = inr (inl refl)
