use Rattle.std.proofs.Common.{subst, arith}
use Rattle.ug_mps.specs.declared.ending.Head.TheVariants as heads
use Rattle.ug_mps.specs.Ending.{BeginsEnd, IsHead}
use Rattle.ug_mps.proofs.EndingLemmas.{last_of, ended_last, passed_last, few_above, not_begun}
use Rattle.ug_mps.proofs.ending.seen_last.Goals as goal

pub returns-in-Ends : goal.returns-in-Ends
returns-in-Ends c = ended_last c.args.bytes.now c.args.line (last_of c.args.bytes.now c.args.line c.requires) (subst BeginsEnd c.behind.ensures c.in-Ends.ensures)

pub returns-then-bytes-gt-LIMIT : goal.returns-then-bytes-gt-LIMIT
returns-then-bytes-gt-LIMIT c =
    passed_last c.args.bytes.now c.args.line (last_of c.args.bytes.now c.args.line c.requires) (subst (λ t. IsHead t heads.Other) c.behind.ensures c.in-Other.ensures) c.if-bytes-gt-LIMIT.true

pub returns-else-bytes-gt-LIMIT : goal.returns-else-bytes-gt-LIMIT
returns-else-bytes-gt-LIMIT c = record {
  last = c.requires;
  other = not_begun _ heads.Other (λ e. cc) (subst (λ t. IsHead t heads.Other) c.behind.ensures c.in-Other.ensures);
  few = omega (arith, c.if-bytes-gt-LIMIT.false);
}

pub returns-in-Open : goal.returns-in-Open
returns-in-Open c = let head = subst (λ t. IsHead t heads.Open) c.behind.ensures c.in-Open.ensures in record {
  last = c.requires;
  other = not_begun _ heads.Open (λ e. cc) head;
  few = few_above c.args.bytes.now c.args.line (last_of c.args.bytes.now c.args.line c.requires) head;
}
