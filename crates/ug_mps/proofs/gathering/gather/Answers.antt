use Rattle.std.proofs.Common.{◌≡◌, ◌≤◌, length, drop, subst, sym, ◌∙◌, arith, rules}
use Rattle.std.proofs.lemmas.Grind.{common_steps}
use Rattle.ug_io.specs.Outside.{Gives}
use Rattle.ug_mps.specs.Ending.{IsEndedAt, IsLineAt}
use Rattle.ug_mps.specs.Enough.{StopsBehind, gather_cause}
use Rattle.ug_mps.proofs.Gathered.{few_more, gives_more, line_goes_on, enough_last, stops_here, stops_behind, stops_last, on_ok}
use Rattle.ug_mps.proofs.gathering.gather.Goals as goal

pub returns-then-n-eq0-clause-enough : goal.returns-then-n-eq0-clause-enough
returns-then-n-eq0-clause-enough g c =
    enough_last _ _ _ _ _ _ c.if-n-eq0.true c.in-Ok-read_on.ensures.came.put c.loop-cut.invariant.came (c.in-Ok-read_on.ensures.came.end c.if-n-eq0.true)

pub returns-then-n-eq0-clause-stops : goal.returns-then-n-eq0-clause-stops
returns-then-n-eq0-clause-stops g c =
    stops_last _ _ _ c.loop-cut.bytes.items _ c.in-Open.begins c.in-Ok-read_on.n (subst (λ l. IsLineAt l c.in-Open.begins (length l)) c.deref.ensures.value c.in-Open.ensures.last)
    c.if-n-eq0.true c.loop-cut.invariant.came c.in-Ok-read_on.ensures.came.taken

pub returns-in-Ended-clause-stops : goal.returns-in-Ended-clause-stops
returns-in-Ended-clause-stops g c =
    let i = c.loop-cut.invariant in
    on_ok _ (StopsBehind (drop c.in-Ended.cut c.loop-cut.bytes.items) (g.S.Source.seen c.loop-cut.input).left (g.S.Source.seen c.ended.new.input).left) _
    (stops_behind _ _ _ c.loop-cut.bytes.items c.loop-cut.line c.loop-cut.from c.in-Ended.cut i.line i.few i.came
    (subst (λ l. IsEndedAt l c.in-Ended.cut) c.deref.ensures.value c.in-Ended.ensures)) c.ended.ensures.stops

pub returns-in-Passed-clause-stops : goal.returns-in-Passed-clause-stops
returns-in-Passed-clause-stops g c =
    let i = c.loop-cut.invariant in
    stops_here _ _ c.loop-cut.bytes.items c.loop-cut.line c.loop-cut.from i.line i.few i.came

pub returns-in-Err-clause-cause : goal.returns-in-Err-clause-cause
returns-in-Err-clause-cause g c =
    subst (λ n. gather_cause c.in-Err.error n (g.S.Source.seen c.read_on.new.input).faults)
    c.loop-cut.invariant.calm c.in-Err.ensures.cause

pub loop-cut-preserved : goal.loop-cut-preserved
loop-cut-preserved g c =
    let i = c.loop-cut.invariant in
    let read = c.in-Ok-read_on.ensures in
    let few : length c.read_on.new.buffer ≤ 65536 = search rules in
    let from : length c.loop-cut.bytes.items ≡ c.len-from.result = search rules in
    record {
      came = subst (λ m. Gives (g.S.Source.seen c.args.input.now).left (g.S.Source.seen c.read_on.new.input).left m) (sym read.came.put)
          (gives_more _ _ _ _ _ i.came read.came.taken);
      line = line_goes_on c.loop-cut.bytes.items c.read_on.new.bytes.items _ c.in-Open.begins c.len-from.result read.came.put
          (subst (λ n. IsLineAt c.loop-cut.bytes.items c.in-Open.begins n) from
          (subst (λ l. IsLineAt l c.in-Open.begins (length l)) c.deref.ensures.value c.in-Open.ensures.last));
      few = omega (arith, few_more _ _ _ _ 65536 read.came.put read.came.within few, c.len-from.ensures);
      room = search rules;
      small = search rules;
      calm = read.cause ∙ i.calm;
    }

pub loop-cut-smaller : goal.loop-cut-smaller
loop-cut-smaller g c = grind (arith, common_steps)

pub read_on-requires-clause-open_ : goal.read_on-requires-clause-open_
read_on-requires-clause-open_ g c = grind (arith, common_steps)
