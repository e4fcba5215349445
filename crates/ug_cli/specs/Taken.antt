-- What a command line asks for.
use Rattle.std.specs.Prelude.{◌≡◌, ◌≢◌, ◌↔◌, ℕ, ◌*◌, ◌<◌, ◌≤◌, IsTrue, List, [], map, codes}
use Rattle.std.specs.Prelude.{Bool, true, false}
use Rattle.std.specs.Prelude.{Option, None, Some, option_map, String, string_bytes}
use Rattle.std.specs.declared.alloc.Global.{Global}
use Rattle.std.specs.Int.{div_ceil}
use Rattle.clap.specs.Walk.{Row, Text, first_of}
use Rattle.clap.specs.Simple.{subcommand_of}
use Rattle.clap.specs.Faults.{fault_of}
use Rattle.ug_branch.specs.declared.params.Base.{Base}
use Rattle.ug_branch.specs.declared.params.Base.TheVariants.{Bound, Surrogate}
use Rattle.ug_cli.specs.declared.plan.Limits.{Limits}
use Rattle.ug_cli.specs.declared.plan.Gen.{Gen}
use Rattle.ug_cli.specs.declared.plan.Plan.{Plan}
use Rattle.ug_cli.specs.declared.plan.Plan.TheVariants as plans
use Rattle.ug_cli.specs.declared.plan.Solvers.{Solvers}
use Rattle.ug_cli.specs.declared.plan.Mode.{Mode}
use Rattle.ug_cli.specs.declared.plan.Mode.TheVariants.{Threads, Processes}
use Rattle.ug_cli.specs.declared.plan.Restart.{Restart}
use Rattle.ug_cli.specs.declared.plan.Worker.{Worker}
use Rattle.ug_cli.specs.declared.plan.Asked.{Asked}
use Rattle.ug_cli.specs.declared.plan.Show.{Show}
use Rattle.ug_cli.specs.declared.plan.Solve.{Solve}
use Rattle.ug_cli.specs.declared.usage.Usage.{Usage}
use Rattle.ug_cli.specs.declared.usage.Usage.TheVariants as usages
use Rattle.ug_cli.specs.Numbers.{IsGiven, IsGivenOr, IsGivenIf}
use Rattle.ug_cli.specs.Options.{ug}

-- the words' bytes
abbrev pub texts : List (String Global) → List Text
texts words = map string_bytes words

-- the word of an argument, its default filled in
unfoldable pub word_of : Text → List Row → Option Text
word_of name rows = first_of name rows

-- the word is what the solvers leave out
abbrev pub IsBase : Option Text → Base → Type 0
IsBase word Bound = word ≡ Some (codes "bound")
IsBase word Surrogate = word ≡ Some (codes "surrogate")

-- how many solvers there are, whether they race, what they leave out where they do not, and how
-- many open nodes the pool is to hold
pub record AreRanks (rows : List Row) (ranks : Solvers) : Type 0 where
  pub solvers : IsGiven 1 256 (word_of (codes "solvers") rows) ranks.solvers
  pub racing : IsTrue ranks.racing ↔ (word_of (codes "racing") rows ≡ Some (codes "true"))
  pub base : IsBase (word_of (codes "base") rows) ranks.base
  pub low : IsGivenOr ranks.solvers 1 65536 (word_of (codes "low") rows) ranks.low
  pub high : IsGivenOr (div_ceil (3 * ranks.low) 2) 1 131072 (word_of (codes "high") rows)
      ranks.high

-- how often is saved where no word says it
abbrev pub usual_every : Mode → ℕ
usual_every Threads = 100
usual_every Processes = 10000

-- when checkpoints are saved, when the run ends, the bound for infinite ones, and the gap
pub record AreBounds (rows : List Row) (mode : Mode) (bounds : Limits) : Type 0 where
  pub every : IsGivenOr (usual_every mode) 1 4294967295 (word_of (codes "every") rows) bounds.every
  pub limit : IsGiven 0 1099511627776 (word_of (codes "limit") rows) bounds.limit
  pub boxed : IsGivenIf 0 1000000000 (word_of (codes "box") rows) bounds.boxed
  pub gap : IsGiven 0 1000000000000000000 (word_of (codes "gap") rows) bounds.gap

-- the word is where the solvers run
abbrev pub IsMode : Option Text → Mode → Type 0
IsMode word Threads = word ≡ Some (codes "threads")
IsMode word Processes = word ≡ Some (codes "processes")

-- the settings of a solve
pub record AreSettings (rows : List Row) (settings : Asked) : Type 0 where
  pub mode : IsMode (word_of (codes "mode") rows) settings.mode
  pub ranks : AreRanks rows settings.ranks
  pub bounds : AreBounds rows settings.mode settings.bounds
  pub sockets : word_of (codes "sockets") rows ≡ Some settings.sockets.now

-- a file is solved, and a checkpoint is kept where a folder is given
pub record IsSolve (rows : List Row) (solve : Solve) : Type 0 where
  pub file : word_of (codes "file") rows ≡ Some solve.file.now
  pub checkpoint : word_of (codes "checkpoint") rows
      ≡ option_map (λ folder. folder.now) solve.checkpoint
  pub settings : AreSettings rows solve.settings

-- a file is solved from the checkpoint on that the folder has
pub record IsRestart (rows : List Row) (restart : Restart) : Type 0 where
  pub file : word_of (codes "file") rows ≡ Some restart.file.now
  pub checkpoint : word_of (codes "checkpoint") rows ≡ Some restart.checkpoint.now
  pub settings : AreSettings rows restart.settings

-- a solver works for the coordinator at the socket
pub record IsWorker (rows : List Row) (worker : Worker) : Type 0 where
  pub socket : word_of (codes "socket") rows ≡ Some worker.socket.now

-- the checkpoint is shown that the folder has
pub record IsShow (rows : List Row) (show : Show) : Type 0 where
  pub checkpoint : word_of (codes "checkpoint") rows ≡ Some show.checkpoint.now

-- the instance of a seed and a size is solved
pub record IsGen (rows : List Row) (gen : Gen) : Type 0 where
  pub seed : IsGiven 1 2147483646 (word_of (codes "seed") rows) gen.seed
  pub size : IsGiven 1 40 (word_of (codes "size") rows) gen.size
  pub solvers : IsGiven 1 256 (word_of (codes "solvers") rows) gen.solvers

-- the command of this name asks for the plan
abbrev pub Asks : Text → List Row → Plan → Type 0
Asks name rows (plans.Solve solve) = (name ≡ codes "solve") × IsSolve rows solve
Asks name rows (plans.Restart restart) = (name ≡ codes "restart") × IsRestart rows restart
Asks name rows (plans.Worker worker) = (name ≡ codes "worker") × IsWorker rows worker
Asks name rows (plans.Show show) = (name ≡ codes "show") × IsShow rows show
Asks name rows (plans.Gen gen) = (name ≡ codes "gen") × IsGen rows gen

-- the command that was met, if one was, asks for the plan
abbrev pub AskedIn : Option (Text × List Row) → Plan → Type 0
AskedIn None plan = ⊥
AskedIn (Some command) plan = Asks command.0 command.1 plan

-- the words are a command, and it asks for the plan, whatever its low and its high
pub record AskedBy (words : List Text) (plan : Plan) : Type 0 where
  pub no_fault : fault_of ug words ≡ []
  pub asks : AskedIn (subcommand_of ug words) plan

-- the ranks of a plan that has a low and a high
abbrev pub ranks_of : Plan → Option Solvers
ranks_of (plans.Solve solve) = Some solve.settings.ranks
ranks_of (plans.Restart restart) = Some restart.settings.ranks
ranks_of (plans.Worker worker) = None
ranks_of (plans.Show show) = None
ranks_of (plans.Gen gen) = None

-- the low is at most the high
abbrev pub InOrder : Option Solvers → Type 0
InOrder None = Unit {0}
InOrder (Some ranks) = ranks.low ≤ ranks.high

-- the words are a command that asks for the plan, with its low at most its high
pub record TakenWords (words : List Text) (plan : Plan) : Type 0 where
  pub asked : AskedBy words plan
  pub order : InOrder (ranks_of plan)

-- the words ask for a plan with this low and this high, which is below
pub record IsCrossed (words : List Text) (low high : ℕ) : Type 0 where
  pub plan : Plan
  pub asked : AskedBy words plan
  pub ranks : Solvers
  pub has : ranks_of plan ≡ Some ranks
  pub low_is : ranks.low ≡ low
  pub high_is : ranks.high ≡ high
  pub below : high < low

-- why there is no plan: memory, or the words ask for none, or for one whose high is below its low
abbrev pub IsRefused : List Text → Usage → Type 0
IsRefused words usages.Memory = Unit {0}
IsRefused words usages.Words = (plan : Plan) → AskedBy words plan → ⊥
IsRefused words (usages.HighBelowLow low high) = IsCrossed words low high

-- why a parse gives nothing: memory, or the words are no command
abbrev pub IsUnread : List Text → Usage → Type 0
IsUnread words usages.Memory = Unit {0}
IsUnread words usages.Words = fault_of ug words ≢ []
IsUnread words (usages.HighBelowLow low high) = ⊥

-- words whose high is below their low are taken for no plan
abbrev pub CrossedIsNotTaken : Type 0
CrossedIsNotTaken = (words : List Text) (low high : ℕ) (plan : Plan)
    → IsCrossed words low high → TakenWords words plan → ⊥

-- what a plan needs beside its files: a crew of this many solvers, or a link
pub record Needs : Type 0 where
  pub crew : Option ℕ
  pub link : Bool

-- solvers in processes are a crew
abbrev pub crew_of : Mode → ℕ → Option ℕ
crew_of Threads solvers = None
crew_of Processes solvers = Some solvers

-- only a solve in processes needs a crew, and a solver that works at a socket a link
abbrev pub needs_of : Plan → Needs
needs_of (plans.Solve solve) = record {
  crew = crew_of solve.settings.mode solve.settings.ranks.solvers;
  link = false;
}
needs_of (plans.Restart restart) = record {
  crew = crew_of restart.settings.mode restart.settings.ranks.solvers;
  link = false;
}
needs_of (plans.Worker worker) = record { crew = None; link = true }
needs_of (plans.Show show) = record { crew = None; link = false }
needs_of (plans.Gen gen) = record { crew = None; link = false }

-- all plans that the words ask for need the same
abbrev pub WordsTellTheNeeds : Type 0
WordsTellTheNeeds = (words : List Text) (plan other : Plan) → TakenWords words plan
    → TakenWords words other → needs_of plan ≡ needs_of other
