use Rattle.std.proofs.Common.{◌≡◌, refl, ◌∙◌, rules, vec_capacity}
use Rattle.ug_threads.specs.declared.crew.Crew.{Crew}
use Rattle.ug_threads.proofs.Crews.{again_back, same_crew}
use Rattle.ug_threads.proofs.crew.Crew.sit_alone.Goals as goal

pub returns-in-Some-clause-crew : goal.returns-in-Some-clause-crew
returns-in-Some-clause-crew g c =
    again_back c.args.table c.args.self.now _ c.pop.new.self.items c.in-Some.pass c.sit-pass.result c.requires
    c.in-Some.ensures.items c.push_reserved.ensures.items refl refl refl
    (c.push_reserved.ensures.capacity ∙ c.in-Some.ensures.capacity)
    (c.sit-pass.ensures.at, c.sit-pass.ensures.own)

pub returns-in-None-clause-crew : goal.returns-in-None-clause-crew
returns-in-None-clause-crew g c =
    let new : Crew = record { waiting = c.args.self.now.waiting; working = c.args.self.now.working; back = c.pop.new.self } in
    let same : c.pop.new.self.items ≡ c.args.self.now.back.items = search rules in
    let room : vec_capacity c.pop.new.self ≡ vec_capacity c.args.self.now.back = search rules in
    same_crew c.args.table c.args.self.now new refl refl same room c.requires
