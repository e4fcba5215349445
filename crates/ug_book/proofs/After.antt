-- What was received is what the rules say, step by step: taken up, carried out, and counted.
use Rattle.std.proofs.Common.{◌≡◌, ℕ, List, [], ◌∷◌, refl, sym, ap, ◌∙◌}
use Rattle.std.specs.Prelude.{Option, Some, None}
use Rattle.ug_pool.specs.declared.entry.Entry.{Entry}
use Rattle.ug_nodes.specs.declared.change.Change.{Change}
use Rattle.ug_frames.specs.declared.report.Report.{Report}
use Rattle.ug_frames.specs.declared.report.Report.TheVariants.{Ready, Solution, Hand, State as Reported, Done, Ended}
use Rattle.ug_ranks.specs.declared.state.State.{State}
use Rattle.ug_ranks.specs.declared.state.State.TheVariants.{Absent, Idle, Racing, Active, Dead}
use Rattle.ug_ranks.specs.States.{state_at}
use Rattle.ug_rules.specs.declared.heard.Heard.{Heard}
use Rattle.ug_rules.specs.declared.heard.Heard.TheVariants.{Kept, Stale, Early, Broken, NotBetter, InRace, Again, Gap, Outside, Unbacked, Short, Memory}
use Rattle.ug_rules.specs.State.{BookState}
use Rattle.ug_rules.specs.Ranks.{ranks_that}
use Rattle.ug_ranks.specs.Looks.{is_racing}
use Rattle.ug_rules.specs.Deaths.{killed, killed_at, lost_by, with_dead}
use Rattle.ug_rules.specs.Hearing.{after_hearing, counted, done_at, handed_at, kept, killed_under, taken_up}
use Rattle.ug_book.specs.Heard.{heard_after, one_more}

lost_counts : (rs : List ℕ) (raced : Option Entry) (b : BookState)
    → (lost_by rs raced b).heard ≡ b.heard
lost_counts (r ∷ rs) raced b = refl
lost_counts [] None b = refl
lost_counts [] (Some entry) b = refl

killed_counts : (s : State) (r : ℕ) (b : BookState) → (killed_at s r b).heard ≡ b.heard
killed_counts Absent r b = refl
killed_counts Idle r b = refl
killed_counts (Racing racer) r b =
    let d = with_dead r b in lost_counts (ranks_that is_racing d.ranks) d.raced d
killed_counts (Active work) r b = refl
killed_counts (Dead how) r b = refl

-- a death counts no report
dead_counts : (r : ℕ) (b : BookState)
    → counted (killed r b) ≡ record (killed r b) { heard = one_more b.heard }
dead_counts r b = ap (λ (n : ℕ). record (killed r b) { heard = one_more n })
    (killed_counts (state_at b.ranks r) r b)

done_counts : (s : State) (r : ℕ) (b : BookState) → (done_at s r b).heard ≡ b.heard
done_counts Absent r b = refl
done_counts Idle r b = refl
done_counts (Racing racer) r b = refl
done_counts (Active work) r b = refl
done_counts (Dead how) r b = refl

handed_counts : (s : State) (r : ℕ) (changes : List Change) (b : BookState)
    → (handed_at s r changes b).heard ≡ b.heard
handed_counts Absent r changes b = refl
handed_counts Idle r changes b = refl
handed_counts (Racing racer) r changes b = refl
handed_counts (Active work) r changes b = refl
handed_counts (Dead how) r changes b = refl

-- a report that is kept counts none either
kept_counts : (r : ℕ) (report : Report) (b : BookState) → (kept r report b).heard ≡ b.heard
kept_counts r Ready b = refl
kept_counts r (Solution ticket x) b = refl
kept_counts r (Hand ticket number changes) b = handed_counts (state_at b.ranks r) r changes b
kept_counts r (Reported ticket count floor) b = refl
kept_counts r (Done ticket told count ending) b = done_counts (state_at b.ranks r) r b
kept_counts r Ended b = refl

pub heard_is : (b : BookState) (answer : Heard) (r : ℕ) (report : Report)
    → record (killed_under answer r (taken_up answer r report b)) {
      heard = heard_after answer b.heard;
    } ≡ after_hearing answer r report b
heard_is b Kept r report = ap (λ (n : ℕ). record (kept r report b) { heard = one_more n })
    (sym (kept_counts r report b))
heard_is b Stale r report = refl
heard_is b Early r report = sym (dead_counts r b)
heard_is b (Broken first) r report = sym (dead_counts r b)
heard_is b (NotBetter was given) r report = refl
heard_is b InRace r report = sym (dead_counts r b)
heard_is b Again r report = refl
heard_is b (Gap want got) r report = sym (dead_counts r b)
heard_is b (Outside column) r report = sym (dead_counts r b)
heard_is b (Unbacked cutoff incumbent) r report = sym (dead_counts r b)
heard_is b (Short said was) r report = sym (dead_counts r b)
heard_is b Memory r report = refl

-- the three steps together
pub heard_so : (b taken ended : BookState) (answer : Heard) (r : ℕ) (report : Report) (n : ℕ)
    → taken ≡ taken_up answer r report b → ended ≡ killed_under answer r taken
    → n ≡ heard_after answer b.heard
    → record ended { heard = n } ≡ after_hearing answer r report b
heard_so b taken ended answer r report n t e h =
    ap (λ (k : BookState). record k { heard = n }) (e ∙ ap (λ k. killed_under answer r k) t)
    ∙ (ap
    (λ (m : ℕ). record (killed_under answer r (taken_up answer r report b)) { heard = m }) h
    ∙ heard_is b answer r report)
