-- That a frame can carry what a worker sends.
use Rattle.std.proofs.Common.{ℕ, ℤ, List, sym, ap, subst}
use Rattle.ug_rows.specs.declared.area.Interval.{Interval}
use Rattle.ug_rows.specs.Boxes.{IsBelow}
use Rattle.ug_problem.specs.Feasible.{Feasible}
use Rattle.ug_problem.specs.Instances.{Instance, root_of}
use Rattle.ug_problem.specs.Limits.{IsProblem}
use Rattle.ug_nodes.specs.declared.change.Change.{Change}
use Rattle.ug_nodes.specs.Changes.{IsRising, Spells}
use Rattle.ug_frames.specs.declared.report.Report.TheVariants.{Hand, Solution}
use Rattle.ug_frames.specs.Reports.{IsReport}
use Rattle.ug_frames.proofs.OfProblem.{changes_fit, point_fits}
use Rattle.ug_base.specs.Tasks.{TaskState}
use Rattle.ug_serve.specs.declared.kept.Kept.{Kept}
use Rattle.ug_worker.specs.declared.round_count.RoundCount.{RoundCount}
use Rattle.ug_worker.specs.Engagements.{Engaged, IsFoundBy, IsHandedBy}
use Rattle.ug_worker.proofs.Quiet.{handed_below}
use Rattle.ug_serve.specs.Seats.{Agrees}
use Rattle.ug_serve.proofs.Seating.{handed_agrees}

-- ---- reports

pub solution_carried : (k : Kept) (e f : Engaged) (x : List ℤ) → Agrees k e → IsFoundBy e x f
    → IsReport (Solution k.ticket x)
solution_carried k e f x a h = record {
  given = a.given;
  fields = point_fits f.task.problem x h.own.problem
      (subst (λ (p : Instance). Feasible p x)
      (sym (ap (λ (t : TaskState). t.problem) h.found.same)) h.found.good.feasible);
}

pub handed_area : (k : Kept) (round_count : RoundCount) (e f : Engaged) (number : ℕ) (area : List Interval) → Agrees k e
    → IsHandedBy round_count e number area f → IsBelow area (root_of k.problem)
handed_area k round_count e f number area a h =
    subst (λ (p : Instance). IsBelow area (root_of p)) (handed_agrees k round_count e f number area a h).problem
    (handed_below f.task h.task.handed area h.own h.handed.handed)

pub hand_carried : (k : Kept) (round_count : RoundCount) (e f : Engaged) (number : ℕ) (area : List Interval) (changes : List Change)
    → Agrees k e → IsHandedBy round_count e number area f → IsRising changes
    → Spells (root_of k.problem) changes area → IsReport (Hand k.ticket number changes)
hand_carried k round_count e f number area changes a h rising spells = record {
  given = a.given;
  fields = changes_fit k.problem changes
      (subst IsProblem (handed_agrees k round_count e f number area a h).problem h.own.problem) rising spells.valid;
}
