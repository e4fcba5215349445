use Rattle.std.proofs.Common.{ℕ, rules, subst, ◌∙◌, arith}
use Rattle.ug_coord.specs.CoordinatorViews.{coordinator_seen}
use Rattle.ug_coord.specs.Coordinators.{IsClosedBelow}
use Rattle.ug_coord.proofs.Closing.{ends_kept, none_closed}
use Rattle.ug_coord.proofs.coordinator.Coordinator.close.Goals as goal

pub loop-rank-init : goal.loop-rank-init
loop-rank-init g c = record {
  closed = λ from old new k. none_closed from (coordinator_seen g.C.Crew.seen c.args.self.now) old new k;
  book = search rules;
  out_of_memory = search rules;
  pacing = search rules;
}

pub loop-rank-preserved : goal.loop-rank-preserved
loop-rank-preserved g c = record {
  closed = λ from old new k. subst
      (λ (n : ℕ). IsClosedBelow n from (coordinator_seen g.C.Crew.seen c.end.new.self) old new) (omega arith)
      (c.end.ensures.closed from old new (c.loop-rank.invariant.closed from old new k));
  book = c.end.ensures.same.0 ∙ c.loop-rank.invariant.book;
  out_of_memory = c.end.ensures.same.1 ∙ c.loop-rank.invariant.out_of_memory;
  pacing = c.end.ensures.pacing ∙ c.loop-rank.invariant.pacing;
}

pub returns-clause-ends : goal.returns-clause-ends
returns-clause-ends g c from old new k =
    ends_kept from (coordinator_seen g.C.Crew.seen c.loop-rank.self) (g.C.Crew.seen c.finish.new.self) old new _
    c.finish.ensures.said c.finish.ensures.calm (search rules) (c.loop-rank.invariant.closed from old new k)
