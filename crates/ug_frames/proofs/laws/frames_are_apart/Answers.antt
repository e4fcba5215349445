use Rattle.std.proofs.Common.{◌≡◌, ◌++◌, List, ℕ, arith, refl, sym, ◌∙◌}
use Rattle.ug_frames.specs.OrderFrames as orders
use Rattle.ug_frames.specs.OrderReading.{order_in}
use Rattle.ug_frames.specs.ReportFrames as reports
use Rattle.ug_frames.specs.ReportReading.{report_in}
use Rattle.ug_frames.proofs.Fronts.{unique, body_is}
use Rattle.ug_frames.proofs.OrderReaders.{body_of, order_whole, order_small, tag_small}
use Rattle.ug_frames.proofs.ReportReaders.{body_of as report_body, report_whole, report_small, tag_small as report_tag_small}
use Rattle.ug_frames.proofs.laws.frames_are_apart.Goals as goal

pub returns : goal.returns
returns c = record {
  of_orders = unique orders.IsCarried body_of order_in order_whole order_small;
  of_reports = unique reports.IsCarried report_body report_in report_whole report_small;
  of_both = λ order report r s is so same.
      let bytes : List ℕ = orders.spelled order ++ r in
      let one = body_is orders.IsCarried body_of order_in order_whole order_small bytes order
      (record { carried = is; rest = r; parts = refl }) in
      let two = body_is reports.IsCarried report_body report_in report_whole report_small bytes
      report (record { carried = so; rest = s; parts = same }) in
      let bodies : body_of order ≡ report_body report = sym one ∙ two in
      let tags : orders.tag_of order ≡ reports.tag_of report = cc bodies in
      omega (arith, tags, tag_small order, report_tag_small report);
}
