use Rattle.std.proofs.lemmas.Result.{IfErr-weaker, IfOk-weaker}
use Rattle.ug_stock.proofs.Turning.{nodes_all_given, nodes_part_given, none_given, race_all_given, race_not_given, room_kept}
use Rattle.ug_stock.proofs.frontier.Frontier.give_out.Goals as goal

pub returns-in_default-clause-err : goal.returns-in_default-clause-err
returns-in_default-clause-err c = race_not_given c.args.terms c.args.self.now
    c.begin_race.new.self c.in-Race.ensures.turn c.in_default.ensures.err

pub returns-in-Ok-clause-ok : goal.returns-in-Ok-clause-ok
returns-in-Ok-clause-ok c = race_all_given c.args.terms c.args.self.now c.begin_race.new.self
    c.in-Race.ensures.turn c.in-Ok.ensures.ok

pub returns-in-Wait-clause-ok : goal.returns-in-Wait-clause-ok
returns-in-Wait-clause-ok c = none_given c.args.terms c.args.self.now c.in-Wait.ensures.turn

pub returns-in-Nodes-clause-ok : goal.returns-in-Nodes-clause-ok
returns-in-Nodes-clause-ok c = IfOk-weaker c.assign_all.result _ _
    (λ steps all. nodes_all_given c.args.terms c.args.self.now c.assign_all.new.self steps
    c.in-Nodes.ensures.turn all)
    c.assign_all.ensures.ok

pub returns-in-Nodes-clause-err : goal.returns-in-Nodes-clause-err
returns-in-Nodes-clause-err c = IfErr-weaker c.assign_all.result _ _
    (λ stopped part. nodes_part_given c.args.terms c.args.self.now c.assign_all.new.self
    stopped.steps c.in-Nodes.ensures.turn part)
    c.assign_all.ensures.err

pub returns-in-Nodes-clause-room : goal.returns-in-Nodes-clause-room
returns-in-Nodes-clause-room c = room_kept c.args.self.now c.assign_all.new.self
    c.assign_all.ensures.places c.requires.room
