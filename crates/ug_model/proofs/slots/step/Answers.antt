use Rattle.std.proofs.Common.{rules, ◌≡◌, Some, refl, ap, subst}
use Rattle.ug_model.specs.Queues.{queue_seen}
use Rattle.ug_model.specs.SimWorkers.{IsSteady}
use Rattle.ug_serve.proofs.Servers.{same_server}
use Rattle.ug_model.proofs.slots.step.Goals as goal

pub step_queue-progress-requires : goal.step_queue-progress-requires
step_queue-progress-requires c =
    let same : c.args.place.now ≡ Some c.in-Some.server = search rules in
    same_server queue_seen queue_seen c.in-Some.server _ (record {
      link = ap queue_seen c.give.ensures;
      orders = refl;
      at = refl;
      end = refl;
      post = refl;
    }) (subst IsSteady same c.requires)
