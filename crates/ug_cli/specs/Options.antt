-- The commands and their options, as a parse reads them.
use Rattle.std.specs.Prelude.{true, List, [], ◌∷◌, Some, codes}
use Rattle.clap.specs.Simple.{App, new_app, new_shape, new_rule, with_rule, with_subcommand}
use Rattle.clap.specs.Walk.{Rule, Text}
use Rattle.clap.specs.declared.builder.action.ArgAction.TheVariants.{SetTrue}

-- a word that has to be there, in its place
abbrev pub positional : Text → Rule
positional name = record (new_rule name) { required = true }

-- an option without a default
abbrev pub optional : Text → Rule
optional name = record (new_rule name) { long = Some name }

-- an option that has to be there
abbrev pub demanded : Text → Rule
demanded name = record (optional name) { required = true }

-- an option with this default
abbrev pub defaulted : Text → Text → Rule
defaulted name word = record (optional name) { defaults = word ∷ [] }

-- an option without a word
abbrev pub flag : Text → Rule
flag name = record (optional name) { action = Some SetTrue }

-- how many ranks, how they work, and how many open nodes
abbrev pub ranks_rules : List Rule
ranks_rules = defaulted (codes "mode") (codes "threads")
    ∷ defaulted (codes "solvers") (codes "1")
    ∷ flag (codes "racing")
    ∷ defaulted (codes "base") (codes "bound")
    ∷ optional (codes "low")
    ∷ optional (codes "high")
    ∷ []

-- when checkpoints are saved and when the run ends; and the folder of the sockets, which is a fresh
-- one by default
abbrev pub bounds_rules : List Rule
bounds_rules = optional (codes "every")
    ∷ defaulted (codes "limit") (codes "1099511627776")
    ∷ optional (codes "box")
    ∷ defaulted (codes "gap") (codes "0")
    ∷ defaulted (codes "sockets") (codes "")
    ∷ []

-- a command with these arguments added, in their order
abbrev pub with_rules : App → List Rule → App
with_rules command [] = command
with_rules command (rule ∷ rules) = with_rules (with_rule command rule) rules

abbrev pub solve : App
solve = with_rules (with_rules (with_rules (new_app (codes "solve"))
    (positional (codes "file") ∷ optional (codes "checkpoint") ∷ [])) ranks_rules) bounds_rules

abbrev pub restart : App
restart = with_rules (with_rules (with_rules (new_app (codes "restart"))
    (positional (codes "file") ∷ demanded (codes "checkpoint") ∷ [])) ranks_rules) bounds_rules

abbrev pub worker : App
worker = with_rules (new_app (codes "worker")) (demanded (codes "socket") ∷ [])

abbrev pub show : App
show = with_rules (new_app (codes "show")) (demanded (codes "checkpoint") ∷ [])

abbrev pub gen : App
gen = with_rules (new_app (codes "gen"))
    (positional (codes "seed") ∷ positional (codes "size")
    ∷ defaulted (codes "solvers") (codes "1") ∷ [])

-- the program before its commands: it has to be given one, and knows no help and no version
abbrev pub bare : App
bare = record {
  top = record (new_shape (codes "ug")) {
    no_binary_name = true;
    disable_help_flag = true;
    disable_version_flag = true;
    disable_help_subcommand = true;
    subcommand_required = true;
  };
  subs = [];
}

-- the whole command line
abbrev pub ug : App
ug = with_subcommand (with_subcommand (with_subcommand (with_subcommand (with_subcommand bare
    solve.top) restart.top) worker.top) show.top) gen.top
