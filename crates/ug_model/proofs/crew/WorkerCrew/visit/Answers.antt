use Rattle.std.proofs.Common.{◌≡◌, List, Some, IfOk, ap, subst, ◌∙◌}
use Rattle.ug_io.specs.declared.crew.Exchange.{Exchange}
use Rattle.ug_io.specs.Crews.{CrewSeen}
use Rattle.ug_model.specs.WorkerCrews.{HasVisited, crew_seen}
use Rattle.ug_model.proofs.crew.WorkerCrew.visit.Goals as goal

pub returns-in-0-clause-visited : goal.returns-in-0-clause-visited
returns-in-0-clause-visited c =
    let shown : List Exchange → CrewSeen = λ said. record {
      said = Some said;
      lives = c.args.self.now.lives.items;
      faults = c.args.self.now.faults;
    } in
    let seen : crew_seen c.hear.new.self ≡ crew_seen c.args.self.now =
    c.in_ok-count.ensures.none c.in-0.is ∙ ap shown c.step-progress.ensures in
    subst (λ (s : CrewSeen). IfOk c.leave.result (HasVisited s (crew_seen c.leave.new.self) c.hear.new.buffer))
    seen (c.leave.ensures.visited c.hear.new.buffer)
