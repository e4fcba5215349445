-- What holds after each answer holds whatever is received.
use Rattle.std.proofs.Common.{◌≡◌, ℕ, refl}
use Rattle.ug_frames.specs.declared.report.Report.{Report}
use Rattle.ug_rules.specs.declared.heard.Heard.{Heard}
use Rattle.ug_rules.specs.declared.heard.Heard.TheVariants.{Kept, Stale, Early, Broken, NotBetter, InRace, Again, Gap, Outside, Unbacked, Short, Memory}
use Rattle.ug_rules.specs.State.{BookState}
use Rattle.ug_rules.specs.Deaths.{killed}
use Rattle.ug_rules.specs.Hearing.{after_hearing, counted, kept}

module _ (Q : BookState → Type 0) (more : (k : BookState) → Q k → Q (counted k)) (b : BookState)
    (r : ℕ) (report : Report) (same : Q b) (death : Q (killed r b)) where
  pub under_answer : (answer : Heard) → (answer ≡ Kept → Q (kept r report b))
      → Q (after_hearing answer r report b)
  under_answer Kept f = more (kept r report b) (f refl)
  under_answer Stale f = more b same
  under_answer Again f = more b same
  under_answer (NotBetter was given) f = more b same
  under_answer Memory f = same
  under_answer Early f = more (killed r b) death
  under_answer (Broken first) f = more (killed r b) death
  under_answer InRace f = more (killed r b) death
  under_answer (Gap want got) f = more (killed r b) death
  under_answer (Outside column) f = more (killed r b) death
  under_answer (Unbacked cutoff incumbent) f = more (killed r b) death
  under_answer (Short said was) f = more (killed r b) death
