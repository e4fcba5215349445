-- The frames of reports, which have the tags 17 to 22.
use Rattle.std.specs.Prelude.{ℕ, List, [], ◌∷◌, ◌++◌}
use Rattle.ug_fields.specs.Spelling.{long_field, number_field, optional_field}
use Rattle.ug_frames.specs.declared.report.Report.{Report}
use Rattle.ug_frames.specs.declared.report.Report.TheVariants.{Ready, Solution, Hand, State, Done}
use Rattle.ug_frames.specs.declared.report.Report.TheVariants.{Ended}
use Rattle.ug_frames.specs.declared.report.Ending.{Ending}
use Rattle.ug_frames.specs.declared.report.Ending.TheVariants.{Plain}
use Rattle.ug_frames.specs.Reports.{IsReport}
use Rattle.ug_frames.specs.Fits.{FitsReport}
use Rattle.ug_frames.specs.Spelling.{framed, ticket_fields, changes_fields, point_fields}

-- what says which report it is; a Done by how it ended
abbrev pub done_tag : Ending → ℕ
done_tag Plain = 21

abbrev pub tag_of : Report → ℕ
tag_of Ready = 17
tag_of (Solution ticket point) = 18
tag_of (Hand ticket number changes) = 19
tag_of (State ticket nodes floor) = 20
tag_of (Done ticket cutoff count ending) = done_tag ending
tag_of Ended = 22

-- the fields behind the tag; that a task was worked off has none
unfoldable pub fields_of : Report → List ℕ
fields_of Ready = []
fields_of (Solution ticket point) = ticket_fields ticket ++ point_fields point
fields_of (Hand ticket number changes) =
    ticket_fields ticket ++ long_field number ++ changes_fields changes
fields_of (State ticket nodes floor) =
    ticket_fields ticket ++ long_field nodes ++ number_field floor
fields_of (Done ticket cutoff count Plain) =
    ticket_fields ticket ++ optional_field cutoff ++ long_field count
fields_of Ended = []

-- the frame of a report
abbrev pub spelled : Report → List ℕ
spelled report = framed (tag_of report ∷ fields_of report)

-- a report as it comes in a frame: one that a frame can carry, of numbers of their types
pub record IsCarried (report : Report) : Type 0 where
  pub can : IsReport report
  pub fits : FitsReport report
