use Rattle.std.proofs.Common.{◌≡◌, refl, ◌∙◌, rules}
use Rattle.ug_threads.specs.declared.crew.Crew.{Crew}
use Rattle.ug_threads.proofs.Crews.{same_crew, next_waiting, back_now, count_back, count_working, works_now}
use Rattle.ug_threads.proofs.crew.Crew.start_each.Goals as goal

pub loop-pass-preserved-in-Works : goal.loop-pass-preserved-in-Works
loop-pass-preserved-in-Works g c =
    let new : Crew = record { waiting = c.pop.new.self; working = c.push_reserved.new.self; back = c.loop-pass.self.back } in record {
      crew = works_now c.args.table c.loop-pass.self new c.in-Some.pass c.in-Works.handle c.loop-pass.invariant.crew
          c.in-Some.ensures.items c.push_reserved.ensures.items refl c.push_reserved.ensures.capacity refl
          c.in-Works.ensures;
      count = count_working c.loop-pass.self new c.in-Some.pass c.in-Works.handle c.in-Some.ensures.items
          c.push_reserved.ensures.items refl ∙ c.loop-pass.invariant.count;
    }

pub loop-pass-preserved : goal.loop-pass-preserved
loop-pass-preserved g c =
    let new : Crew = record { waiting = c.pop.new.self; working = c.loop-pass.self.working; back = c.push_reserved-in-Left.new.self } in record {
      crew = back_now c.args.table c.loop-pass.self new c.in-Some.pass c.in-Left.pass c.loop-pass.invariant.crew
          c.in-Some.ensures.items c.push_reserved-in-Left.ensures.items refl refl
          c.push_reserved-in-Left.ensures.capacity c.in-Left.ensures;
      count = count_back c.loop-pass.self new c.in-Some.pass c.in-Left.pass c.in-Some.ensures.items
          c.push_reserved-in-Left.ensures.items refl ∙ c.loop-pass.invariant.count;
    }

pub start_one-requires-after_bounds : goal.start_one-requires-after_bounds
start_one-requires-after_bounds g c κs within =
    next_waiting c.args.table c.loop-pass.self c.pop.new.self.items c.in-Some.pass c.loop-pass.invariant.crew
    c.in-Some.ensures.items

pub returns-clause-crew : goal.returns-clause-crew
returns-clause-crew g c =
    let new : Crew = record { waiting = c.pop.new.self; working = c.loop-pass.self.working; back = c.loop-pass.self.back } in
    let same : c.pop.new.self.items ≡ c.loop-pass.self.waiting.items = search rules in
    same_crew c.args.table c.loop-pass.self new same refl refl refl c.loop-pass.invariant.crew
