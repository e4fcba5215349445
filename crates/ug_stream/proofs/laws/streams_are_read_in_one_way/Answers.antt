use Rattle.ug_frames.specs.OrderFrames as orders
use Rattle.ug_frames.specs.OrderReading.{order_in}
use Rattle.ug_frames.specs.ReportFrames as reports
use Rattle.ug_frames.specs.ReportReading.{report_in}
use Rattle.ug_frames.proofs.Fronts.{only_one, unique}
use Rattle.ug_frames.proofs.OrderReaders.{body_of, order_whole, order_small}
use Rattle.ug_frames.proofs.ReportReaders.{body_of as report_body, report_whole, report_small}
use Rattle.ug_stream.proofs.Reading.{in_one_way}
use Rattle.ug_stream.proofs.laws.streams_are_read_in_one_way.Goals as goal

pub returns : goal.returns
returns c = record {
  of_orders = in_one_way orders.IsCarried orders.spelled
      (unique orders.IsCarried body_of order_in order_whole order_small)
      (only_one orders.IsCarried body_of order_in order_whole order_small);
  of_reports = in_one_way reports.IsCarried reports.spelled
      (unique reports.IsCarried report_body report_in report_whole report_small)
      (only_one reports.IsCarried report_body report_in report_whole report_small);
}
