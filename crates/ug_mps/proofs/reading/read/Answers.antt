use Rattle.std.proofs.Common.{◌≡◌, ◌-◌, ◌+◌, ◌++◌, None, length, sym, ap, subst, arith, ◌∙◌}
use Rattle.std.proofs.lemmas.List.{nil_from_length}
use Rattle.std.proofs.lemmas.Bool.Decides.{nat_tests}
use Rattle.ug_mps.specs.Says.{line_fault, line_says}
use Rattle.ug_mps.specs.Drafts.{Drafts, IsFaultOf}
use Rattle.ug_mps.proofs.Outcome.{ended_form}
use Rattle.ug_mps.proofs.ReadLemmas.{next_line, as_line, taken_more, refused_next, ended_next, finish_reads, finish_refuses, endless_is}
use Rattle.ug_mps.proofs.reading.read.Goals as goal

pub returns-in-Err : goal.returns-in-Err
returns-in-Err c =
    let r = c.loop-rest.invariant in
    let line = ap (λ x. as_line x (length c.args.text.now - length c.cut.result.1.now)) c.content.ensures in
    record {
      read = tt;
      refused = refused_next c.args.text.now c.loop-rest.rest.now c.cut.result.0.now c.cut.result.1.now c.loop-rest.lines r.entries r.taken c.cut.ensures.pieces c.cut.ensures.whole c.args.boxed c.in-Err.error
          (subst (λ l. IsFaultOf (c.loop-rest.lines + 1) (line_fault r.entries l) c.in-Err.error) line (c.in-Err.ensures r.entries r.drafts));
    }

pub finish-requires-clause-ended : goal.finish-requires-clause-ended
finish-requires-clause-ended c =
    let r = c.loop-rest.invariant in
    let took = c.in-Ok.ensures r.entries r.drafts in
    let form = ended_form (line_says r.entries (c.loop-rest.lines + 1) (as_line c.content.result.now (length c.args.text.now - length c.cut.result.1.now)) ++ r.entries) (sym (c.is_ended.ensures _ took.1) ∙ c.if-is_ended.true) in
    (form.0, subst (λ h. Drafts h c.take_line.new.draft) form.1 took.1)

pub returns-then-is_ended-clause-read : goal.returns-then-is_ended-clause-read
returns-then-is_ended-clause-read c =
    let r = c.loop-rest.invariant in
    let line = ap (λ x. as_line x (length c.args.text.now - length c.cut.result.1.now)) c.content.ensures in
    let took = c.in-Ok.ensures r.entries r.drafts in
    let form = ended_form (line_says r.entries (c.loop-rest.lines + 1) (as_line c.content.result.now (length c.args.text.now - length c.cut.result.1.now)) ++ r.entries) (sym (c.is_ended.ensures _ took.1) ∙ c.if-is_ended.true) in
    finish_reads c.args.text.now c.args.boxed (c.loop-rest.lines + 1) form.0 c.finish.result
    (ended_next c.args.text.now c.loop-rest.rest.now c.cut.result.0.now c.cut.result.1.now c.loop-rest.lines r.entries r.taken c.cut.ensures.pieces c.cut.ensures.whole form.0
    (subst (λ l. line_fault r.entries l ≡ None) line took.0) (ap (λ l. line_says r.entries (c.loop-rest.lines + 1) l ++ r.entries) (sym line) ∙ form.1))
    (c.finish.ensures form.0 (subst (λ h. Drafts h c.take_line.new.draft) form.1 took.1))

pub returns-then-is_ended-clause-refused : goal.returns-then-is_ended-clause-refused
returns-then-is_ended-clause-refused c =
    let r = c.loop-rest.invariant in
    let line = ap (λ x. as_line x (length c.args.text.now - length c.cut.result.1.now)) c.content.ensures in
    let took = c.in-Ok.ensures r.entries r.drafts in
    let form = ended_form (line_says r.entries (c.loop-rest.lines + 1) (as_line c.content.result.now (length c.args.text.now - length c.cut.result.1.now)) ++ r.entries) (sym (c.is_ended.ensures _ took.1) ∙ c.if-is_ended.true) in
    finish_refuses c.args.text.now c.args.boxed (c.loop-rest.lines + 1) form.0 c.finish.result
    (ended_next c.args.text.now c.loop-rest.rest.now c.cut.result.0.now c.cut.result.1.now c.loop-rest.lines r.entries r.taken c.cut.ensures.pieces c.cut.ensures.whole form.0
    (subst (λ l. line_fault r.entries l ≡ None) line took.0) (ap (λ l. line_says r.entries (c.loop-rest.lines + 1) l ++ r.entries) (sym line) ∙ form.1))
    (c.finish.ensures form.0 (subst (λ h. Drafts h c.take_line.new.draft) form.1 took.1))

pub loop-rest-preserved : goal.loop-rest-preserved
loop-rest-preserved c =
    let r = c.loop-rest.invariant in
    let line = ap (λ x. as_line x (length c.args.text.now - length c.cut.result.1.now)) c.content.ensures in
    let took = c.in-Ok.ensures r.entries r.drafts in
    let says = line_says r.entries (c.loop-rest.lines + 1) (next_line c.args.text.now c.cut.result.0.now c.cut.result.1.now) in
    let drafts : Drafts (says ++ r.entries) c.take_line.new.draft = subst (λ l. Drafts (line_says r.entries (c.loop-rest.lines + 1) l ++ r.entries) c.take_line.new.draft) line took.1 in
    record {
      entries = says ++ r.entries;
      taken = taken_more c.args.text.now c.loop-rest.rest.now c.cut.result.0.now c.cut.result.1.now c.loop-rest.lines r.entries r.taken c.cut.ensures.pieces c.cut.ensures.whole c.cut.ensures.filled
          (subst (λ l. line_fault r.entries l ≡ None) line took.0) (sym (c.is_ended.ensures _ drafts) ∙ c.if-is_ended.false);
      drafts = drafts;
    }

pub returns-clause-refused : goal.returns-clause-refused
returns-clause-refused c =
    let r = c.loop-rest.invariant in
    let empty = nil_from_length c.loop-rest.rest.now (grind (arith, nat_tests)) in
    endless_is c.args.text.now c.loop-rest.rest.now c.args.boxed c.loop-rest.lines r.entries c.bare_fault.result r.taken empty c.bare_fault.ensures
