-- The law of a crew of workers: what was received from a rank is what a worker sent.
use Rattle.std.specs.Prelude.{◌≡◌, ℕ, List, [], ◌∷◌, ◌++◌, All}
use Rattle.std.specs.List.{flat_map}
use Rattle.ug_io.specs.declared.crew.Exchange.{Exchange}
use Rattle.ug_frames.specs.declared.report.Report.{Report}
use Rattle.ug_frames.specs.ReportFrames as reports
use Rattle.ug_serve.specs.Traces.{IsTrace, ServerState, beginning}
use Rattle.ug_serve.specs.Actions.{Action, Came, Took, Told}
use Rattle.ug_serve.specs.LinkBytes.{heard_in}
use Rattle.ug_serve.specs.Worked.{IsWorked, heard_at, told_at}
use Rattle.ug_serve.specs.Transcripts.{IsTranscript, turned}

-- the reports that were sent, in order
abbrev pub reports_of : List Action → List Report
reports_of [] = []
reports_of (Came bytes ∷ actions) = reports_of actions
reports_of (Took order ∷ actions) = reports_of actions
reports_of (Told report ∷ actions) = report ∷ reports_of actions

-- the bytes that were received from the rank begin with the frames of these reports
pub record AreReportsAt (said : List Exchange) (rank : ℕ) (heard : List Report) : Type 0 where
  pub carried : All reports.IsCarried heard
  pub rest : List ℕ
  pub parts : heard_at rank said ≡ flat_map reports.spelled heard ++ rest

-- a worker did these actions from the beginning, by which these reports were sent and no others,
-- and a prefix of the bytes that were sent to the rank is all that it received until then
pub record IsTeller (said : List Exchange) (rank : ℕ) (heard : List Report) (actions : List Action)
    : Type 0 where
  pub now : ServerState
  pub trace : IsTrace beginning actions now
  pub transcript : IsTranscript (turned [] actions)
  pub told : reports_of actions ≡ heard
  pub ahead : List ℕ
  pub came : told_at rank said ≡ heard_in now.said ++ ahead

-- if a worker is at the rank, the reports that were received from it are all that a worker sent
-- until then, which did and received no more than that one
abbrev pub WorkersAreHeard : Type 0
WorkersAreHeard = (said : List Exchange) (rank : ℕ) (heard : List Report) → IsWorked said rank
    → AreReportsAt said rank heard → (actions : List Action) × IsTeller said rank heard actions
