use Rattle.std.proofs.Common.{inl}
use Rattle.ug_top.specs.Outside.{outside}
use Rattle.ug_top.specs.Ends.{status_of, text_of}
use Rattle.ug_top.proofs.Exact.{lines_exact}
use Rattle.ug_top.proofs.Left.{best_for, fault_for}
use Rattle.ug_top.proofs.Runs.{lines_complete, read_to, taken_planned}
use Rattle.ug_top.proofs.running.carry_out.Goals as goal

pub run_plan-requires-clause-planned : goal.run_plan-requires-clause-planned
run_plan-requires-clause-planned g c κs within = taken_planned _ c.in-Ok.plan c.in-Ok.ensures

pub returns-in-Ok-clause-due : goal.returns-in-Ok-clause-due
returns-in-Ok-clause-due g c = inl (record {
  plan = c.in-Ok.plan;
  taken = c.in-Ok.ensures;
  lines = c.run_plan.ensures.lines;
  accounted = c.run_plan.ensures.accounted;
  crew = c.run_plan.ensures.crew;
  alone = c.run_plan.ensures.alone;
  complete = lines_complete c.one_outcome.ensures c.in-Ok.plan
      (outside g.S.Source.seen g.D.Disk.seen g.C.Crew.seen g.L.Link.seen c.args.objects.now)
      (outside g.S.Source.seen g.D.Disk.seen g.C.Crew.seen g.L.Link.seen c.run_plan.new.objects)
      (status_of c.run_plan.result) (text_of c.run_plan.result) c.run_plan.ensures.lines;
  exact = lines_exact c.services_end_in_one_way.ensures c.in-Ok.plan
      (outside g.S.Source.seen g.D.Disk.seen g.C.Crew.seen g.L.Link.seen c.args.objects.now)
      (outside g.S.Source.seen g.D.Disk.seen g.C.Crew.seen g.L.Link.seen c.run_plan.new.objects)
      (status_of c.run_plan.result) (text_of c.run_plan.result) c.run_plan.ensures.lines;
  read = read_to
      (outside g.S.Source.seen g.D.Disk.seen g.C.Crew.seen g.L.Link.seen c.args.objects.now)
      (outside g.S.Source.seen g.D.Disk.seen g.C.Crew.seen g.L.Link.seen c.run_plan.new.objects)
      c.run_plan.result c.run_plan.ensures.stopped;
})

pub returns-in-Ok-clause-best : goal.returns-in-Ok-clause-best
returns-in-Ok-clause-best g c =
    best_for _ c.in-Ok.plan _ _ _ c.in-Ok.ensures c.run_plan.ensures.left.best

pub returns-in-Ok-clause-fault : goal.returns-in-Ok-clause-fault
returns-in-Ok-clause-fault g c =
    fault_for _ c.in-Ok.plan _ _ c.in-Ok.ensures c.run_plan.ensures.left.fault
