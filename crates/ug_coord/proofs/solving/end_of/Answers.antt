use Rattle.std.proofs.Common.{refl, ap, arith}
use Rattle.ug_rules.specs.declared.settings.Settings.{Settings}
use Rattle.ug_coord.proofs.Ends.{stranded}
use Rattle.ug_coord.proofs.solving.end_of.Goals as goal

pub returns-then-out_of_memory-clause-ended : goal.returns-then-out_of_memory-clause-ended
returns-then-out_of_memory-clause-ended c = tt

pub returns-then-out_of_memory-clause-lacks : goal.returns-then-out_of_memory-clause-lacks
returns-then-out_of_memory-clause-lacks c = tt

pub returns-then-out_of_memory-clause-feasible : goal.returns-then-out_of_memory-clause-feasible
returns-then-out_of_memory-clause-feasible c = tt

pub returns-then-out_of_memory-clause-right : goal.returns-then-out_of_memory-clause-right
returns-then-out_of_memory-clause-right c = tt

pub returns-then-is_answered-clause-ended : goal.returns-then-is_answered-clause-ended
returns-then-is_answered-clause-ended c = (refl, c.if-is_answered.ensures.none)

pub returns-then-is_answered-clause-lacks : goal.returns-then-is_answered-clause-lacks
returns-then-is_answered-clause-lacks c = c.if-out_of_memory.false

pub returns-then-is_answered-clause-right : goal.returns-then-is_answered-clause-right
returns-then-is_answered-clause-right c = c.if-is_answered.ensures.right refl

pub returns-then-settings-heard-clause-lacks : goal.returns-then-settings-heard-clause-lacks
returns-then-settings-heard-clause-lacks c = c.if-out_of_memory.false

pub returns-then-settings-heard-clause-right : goal.returns-then-settings-heard-clause-right
returns-then-settings-heard-clause-right c = tt

pub returns-clause-lacks : goal.returns-clause-lacks
returns-clause-lacks c = c.if-out_of_memory.false

pub returns-clause-right : goal.returns-clause-right
returns-clause-right c = tt

pub returns-then-is_answered-clause-feasible : goal.returns-then-is_answered-clause-feasible
returns-then-is_answered-clause-feasible c = c.problem-problem.ensures.book.incumbent

pub returns-then-settings-heard-clause-ended : goal.returns-then-settings-heard-clause-ended
returns-then-settings-heard-clause-ended c = (
  refl,
  record {
    held = c.if-is_answered.ensures.none;
    spent = omega (
      arith,
      c.if-settings-heard.true,
      c.heard.ensures,
      ap (λ (s : Settings). s.limit) c.settings.ensures.value,
    );
  },
)

pub returns-then-settings-heard-clause-feasible : goal.returns-then-settings-heard-clause-feasible
returns-then-settings-heard-clause-feasible c = c.problem-problem.ensures.book.incumbent

pub returns-clause-ended : goal.returns-clause-ended
returns-clause-ended c = (
  refl,
  stranded c.args.book c.if-is_answered.ensures.none
      (omega (
        arith,
        c.if-settings-heard.false,
        c.heard.ensures,
        ap (λ (s : Settings). s.limit) c.settings.ensures.value,
      ))
      (c.requires c.if-out_of_memory.false),
)

pub returns-clause-feasible : goal.returns-clause-feasible
returns-clause-feasible c = c.problem-problem.ensures.book.incumbent
