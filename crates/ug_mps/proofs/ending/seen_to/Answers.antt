use Rattle.std.proofs.Common.{refl, subst, arith}
use Rattle.ug_mps.specs.Ending.{BeginsEnd, IsHead}
use Rattle.ug_mps.proofs.EndingLemmas.{line_to, ended_to, passed_to, next_line}
use Rattle.ug_mps.proofs.ending.seen_to.Goals as goal

pub returns-in-Ends : goal.returns-in-Ends
returns-in-Ends c =
    ended_to c.args.bytes.now c.args.line c.args.at (line_to c.args.bytes.now c.args.line c.args.from c.args.at c.requires.line c.requires.feed) (subst BeginsEnd c.behind.ensures c.in-Ends.ensures)

pub returns-then-at-lt-LIMIT : goal.returns-then-at-lt-LIMIT
returns-then-at-lt-LIMIT c =
    let n = next_line c.args.bytes.now c.args.line c.args.at c.head_of.result (line_to c.args.bytes.now c.args.line c.args.from c.args.at c.requires.line c.requires.feed)
    c.in_default.not-Ends (subst (λ t. IsHead t c.head_of.result) c.behind.ensures c.head_of.ensures) c.if-at-lt-LIMIT.true in
    (n.0, refl, n.1)

pub returns-else-at-lt-LIMIT : goal.returns-else-at-lt-LIMIT
returns-else-at-lt-LIMIT c =
    passed_to c.args.bytes.now c.args.line c.args.at c.head_of.result (line_to c.args.bytes.now c.args.line c.args.from c.args.at c.requires.line c.requires.feed)
    c.in_default.not-Ends (subst (λ t. IsHead t c.head_of.result) c.behind.ensures c.head_of.ensures) (omega (arith, c.if-at-lt-LIMIT.false)) c.requires.line.within
