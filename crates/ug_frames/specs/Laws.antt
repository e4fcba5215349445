-- What makes a stream of frames read in one way.
use Rattle.std.specs.Prelude.{◌≡◌, ℕ, List, ◌++◌}
use Rattle.ug_frames.specs.declared.order.Order.{Order}
use Rattle.ug_frames.specs.declared.report.Report.{Report}
use Rattle.ug_frames.specs.OrderFrames as orders
use Rattle.ug_frames.specs.ReportFrames as reports

-- Bytes that begin with a message's frame begin with no other message's, and what follows it is the
-- same. So each frame is that of one message, and none begins another.
abbrev pub FramesAreUnique : {M : Type 0} → (M → Type 0) → (M → List ℕ) → Type 0
FramesAreUnique {M} IsCarried spelled = (message other : M) (r s : List ℕ)
    → IsCarried message → IsCarried other → spelled message ++ r ≡ spelled other ++ s
    → (message ≡ other) × (r ≡ s)

-- the frames of orders are, and those of reports, and no order's frame begins as a report's does
pub record FramesAreApart : Type 0 where
  pub of_orders : FramesAreUnique orders.IsCarried orders.spelled
  pub of_reports : FramesAreUnique reports.IsCarried reports.spelled
  pub of_both : (order : Order) (report : Report) (r s : List ℕ)
      → orders.IsCarried order → reports.IsCarried report
      → orders.spelled order ++ r ≡ reports.spelled report ++ s → ⊥
