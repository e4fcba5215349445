-- What a plan asks of a run.
use Rattle.std.specs.Prelude.{ℕ, ◌*◌, ◌<◌, ◌≤◌, ◌^◌, false, IfSome}
use Rattle.std.specs.Int.{div_ceil}
use Rattle.ug_branch.specs.declared.params.Base.TheVariants.{Bound}
use Rattle.ug_problem.specs.Instances.{Instance}
use Rattle.ug_rules.specs.declared.settings.Settings.{Settings}
use Rattle.ug_cli.specs.declared.plan.Asked.{Asked}
use Rattle.ug_cli.specs.declared.plan.Gen.{Gen}
use Rattle.ug_top.specs.Scaled.{scaled_gap}

-- how many open nodes a racer needs to win
abbrev pub enough_to_win : ℕ
enough_to_win = 20

-- the settings of a run of the problem
abbrev pub settings_for : Asked → Instance → Settings
settings_for asked p = record {
  solvers = asked.ranks.solvers;
  racing = asked.ranks.racing;
  base = asked.ranks.base;
  low = asked.ranks.low;
  high = asked.ranks.high;
  every = asked.bounds.every;
  limit = asked.bounds.limit;
  winner = enough_to_win;
  gap = scaled_gap asked.bounds.gap p.objective.scale;
}

-- the settings of a run of a made instance: as of a solve with this many solvers and nothing else
abbrev pub settings_made : ℕ → Settings
settings_made solvers = record {
  solvers = solvers;
  racing = false;
  base = Bound;
  low = solvers;
  high = div_ceil (3 * solvers) 2;
  every = 100;
  limit = 2 ^ 40;
  winner = enough_to_win;
  gap = scaled_gap 0 0;
}

-- there are solvers, the low mark is at most the high one, and a box is within its limit
pub record IsPlanned (asked : Asked) : Type 0 where
  pub some : 0 < asked.ranks.solvers
  pub few : asked.ranks.solvers ≤ 256
  pub marks : asked.ranks.low ≤ asked.ranks.high
  pub boxed : IfSome asked.bounds.boxed (λ u. u ≤ 10 ^ 9)

-- the seed, the size and the solvers are within their limits
pub record IsPlannedGen (gen : Gen) : Type 0 where
  pub least_seed : 1 ≤ gen.seed
  pub greatest_seed : gen.seed ≤ 2147483646
  pub least_size : 1 ≤ gen.size
  pub greatest_size : gen.size ≤ 40
  pub some : 0 < gen.solvers
  pub few : gen.solvers ≤ 256
