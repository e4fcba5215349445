-- A report read from the bytes that its frame has behind the length.
use Rattle.std.specs.Prelude.{ℕ, ◌*◌, ◌^◌, List, Result, Ok, ◌==◌, if◌then◌else◌}
use Rattle.ug_fields.specs.Reading.{Reading, ◌>>=◌, small_at, long_at, number_at, optional_at}
use Rattle.ug_frames.specs.declared.report.Report.{Report}
use Rattle.ug_frames.specs.declared.report.Report.TheVariants.{Ready, Solution, Hand, State, Done}
use Rattle.ug_frames.specs.declared.report.Report.TheVariants.{Ended}
use Rattle.ug_frames.specs.declared.report.Ending.TheVariants.{Plain}
use Rattle.ug_frames.specs.Reading.{ticket_at, changes_at, point_at, alone}

-- the fields of a Solution
unfoldable pub solution_at : List ℕ → Reading Report
solution_at bytes = do
  ticket ← ticket_at bytes
  point ← point_at ticket.1
  Ok (Solution ticket.0 point.0, point.1)

-- the fields of a Hand
unfoldable pub hand_at : List ℕ → Reading Report
hand_at bytes = do
  ticket ← ticket_at bytes
  number ← long_at 0 ticket.1
  changes ← changes_at number.1
  Ok (Hand ticket.0 number.0 changes.0, changes.1)

-- the fields of a State
unfoldable pub state_at : List ℕ → Reading Report
state_at bytes = do
  ticket ← ticket_at bytes
  nodes ← long_at 1 ticket.1
  floor ← number_at (2 * 10 ^ 37) nodes.1
  Ok (State ticket.0 nodes.0 floor.0, floor.1)

-- the fields of a Done
unfoldable pub done_at : List ℕ → Reading Report
done_at bytes = do
  ticket ← ticket_at bytes
  cutoff ← optional_at (2 * 10 ^ 37) ticket.1
  count ← long_at 0 cutoff.1
  Ok (Done ticket.0 cutoff.0 count.0 Plain, count.1)

-- the fields of the report with this tag
unfoldable pub tagged_at : ℕ → List ℕ → Reading Report
tagged_at tag bytes =
    if tag == 17 then Ok (Ready, bytes) else (
    if tag == 18 then solution_at bytes else (
    if tag == 19 then hand_at bytes else (
    if tag == 20 then state_at bytes else (
    if tag == 21 then done_at bytes else Ok (Ended, bytes)
    ))))

-- the report of these bytes: its tag and its fields
unfoldable pub report_in : List ℕ → Result Report ℕ
report_in bytes = do
  tag ← small_at 17 22 bytes
  alone (tagged_at tag.0 tag.1)
