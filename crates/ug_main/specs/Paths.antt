-- The file and the folder that a plan names.
use Rattle.std.specs.Prelude.{◌≡◌, [], Option, None, Some, option_map, unwrap_or}
use Rattle.clap.specs.Walk.{Text}
use Rattle.ug_cli.specs.declared.plan.Plan.{Plan}
use Rattle.ug_cli.specs.declared.plan.Plan.TheVariants as plans
use Rattle.ug_cli.specs.declared.plan.Solve.{Solve}
use Rattle.ug_main.specs.declared.paths.Paths.{Paths}
use Rattle.ug_main.specs.declared.paths.Purpose.{Purpose}
use Rattle.ug_main.specs.declared.paths.Purpose.TheVariants.{Begin, GoOn, Show}

-- the paths are these
pub record ArePaths (file folder socket : Text) (purpose : Purpose) (paths : Paths) : Type 0 where
  pub files : paths.file.now ≡ file
  pub folders : paths.folder.now ≡ folder
  pub sockets : paths.socket.now ≡ socket
  pub purposes : paths.purpose ≡ purpose

-- a solve's folder, where a checkpoint is kept
abbrev pub folder_of : Solve → Text
folder_of solve = unwrap_or (option_map (λ folder. folder.now) solve.checkpoint) []

-- The paths of a plan, or without a plan. A path that is not named is empty. A run begins in the
-- folder of a solve, and resumes from that of a restart; any other is only shown.
abbrev pub ArePathsOf : Option Plan → Paths → Type 0
ArePathsOf None paths = ArePaths [] [] [] Show paths
ArePathsOf (Some (plans.Solve solve)) paths =
    ArePaths solve.file.now (folder_of solve) [] Begin paths
ArePathsOf (Some (plans.Restart restart)) paths =
    ArePaths restart.file.now restart.checkpoint.now [] GoOn paths
ArePathsOf (Some (plans.Worker worker)) paths = ArePaths [] [] worker.socket.now Show paths
ArePathsOf (Some (plans.Show show)) paths = ArePaths [] show.checkpoint.now [] Show paths
ArePathsOf (Some (plans.Gen gen)) paths = ArePaths [] [] [] Show paths
