use Rattle.ug_top.specs.Ends.{status_of, text_of}
use Rattle.ug_top.proofs.Left.{unmapped}
use Rattle.ug_top.proofs.running.run.Goals as goal

pub returns-clause-did : goal.returns-clause-did
returns-clause-did g c = record {
  due_status = status_of c.in-Some.ended;
  text = text_of c.in-Some.ended;
  due = c.in-Some.ensures.due;
  told = c.tell-status.ensures;
}

pub returns-clause-best : goal.returns-clause-best
returns-clause-best g c = unmapped (λ v. v.items) _ _ _ c.into_best-best.ensures c.in-Some.ensures.best

pub returns-clause-fault : goal.returns-clause-fault
returns-clause-fault g c = unmapped (λ r. r.line) _ _ _ c.refusal-refusal.ensures c.in-Some.ensures.fault
