-- The program's work with real files, children and sockets, whose bytes are not shown.
use Rattle.std.specs.Prelude.{◌≡◌, ℕ, List, Option, None, IfSome, false, replicate}
use Rattle.clap.specs.Walk.{Text}
use Rattle.ug_io.specs.Crews.{CrewSeen}
use Rattle.ug_io.specs.Links.{LinkSeen}
use Rattle.ug_io.specs.Outside.{SinkSeen}
use Rattle.ug_real.specs.declared.process_crew.ProcessCrew.{ProcessCrew}
use Rattle.ug_real.specs.declared.socket_link.SocketLink.{SocketLink}
use Rattle.ug_print.specs.Lines.{memory_line}
use Rattle.ug_top.specs.Outside.{Outside}
use Rattle.ug_top.specs.declared.status.Status.{Status}
use Rattle.ug_top.specs.declared.status.Status.TheVariants.{Memory}
use Rattle.ug_top.specs.Ran.{HasRun, HasTold}

-- how often reading, saving and writing failed, and what is seen of the crew and of the link
pub record FilesSeen : Type 0 where
  pub reads : ℕ
  pub stores : ℕ
  pub writes : ℕ
  pub crew : Option CrewSeen
  pub link : Option LinkSeen

-- who of real children lives, and how often their crew failed
abbrev pub crew_seen : {R W P : Type 0} → ProcessCrew R W P → CrewSeen
crew_seen crew = record { said = None; lives = crew.lives.items; faults = crew.faults.count }

-- whether a real link has ended, and how often it failed
abbrev pub link_seen : {R : Type 0} → SocketLink R → LinkSeen
link_seen link = record { said = None; ended = link.has_ended; faults = link.faults.count }

-- the observation of files, which show no bytes, by how often their calls failed
abbrev pub of_files : ℕ → ℕ → Option CrewSeen → Option LinkSeen → Outside
of_files reads stores crew link = record {
  source = record { left = None; faults = reads };
  disk = record { told = None; faults = stores };
  crew = crew;
  link = link;
}

abbrev pub of_output : ℕ → SinkSeen
of_output writes = record { written = None; faults = writes }

-- none of this many solvers lives yet, and no call of the crew has failed
pub record IsNewCrew (seen : CrewSeen) : Type 0 where
  pub solvers : ℕ
  pub nobody : seen.lives ≡ replicate solvers false
  pub calm : seen.faults ≡ 0

-- the link has not ended, and no call of it has failed
pub record IsNewLink (seen : LinkSeen) : Type 0 where
  pub open_ : seen.ended ≡ false
  pub calm : seen.faults ≡ 0

-- the crew and the link are new, if they are there
pub record AreNew (crew : Option CrewSeen) (link : Option LinkSeen) : Type 0 where
  pub its_crew : IfSome crew IsNewCrew
  pub its_link : IfSome link IsNewLink

-- What the words ask for was done, and this status says how it ended. No call had failed before,
-- the crew and the link were new, and these are all that failed.
pub record HasRunOnFiles (words : List Text) (seen : FilesSeen) (status : Status) : Type 0 where
  pub crew : Option CrewSeen
  pub link : Option LinkSeen
  pub new : AreNew crew link
  pub ran : HasRun words (of_files 0 0 crew link)
      (of_files seen.reads seen.stores seen.crew seen.link) (of_output 0) (of_output seen.writes) status

-- memory ran out before anything was done: no call that reads or saves has failed, and the line for
-- it was written, or standard output failed
pub record IsUnbegun (seen : FilesSeen) (status : Status) : Type 0 where
  pub nothing : of_files seen.reads seen.stores seen.crew seen.link ≡ of_files 0 0 None None
  pub told : HasTold Memory memory_line (of_output 0) (of_output seen.writes) status
