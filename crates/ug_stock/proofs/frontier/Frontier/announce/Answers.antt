use Rattle.std.proofs.Common.{ap, of_z, to_z, arith}
use mir.Syntax.{w128}
use Rattle.ug_stock.specs.Queues.{Queued}
use Rattle.ug_stock.proofs.Counts.{each_told}
use Rattle.ug_stock.proofs.frontier.Frontier.announce.Goals as goal

pub tell_joined-requires : goal.tell_joined-requires
tell_joined-requires c = omega (
  arith,
  each_told (to_z w128 (of_z w128 c.in-Some.cutoff)) c.args.self.now.ranks,
  c.places.ensures,
  ap (λ (queue : Queued). queue.spare) c.in_ok-reserve.ensures.ok,
)

pub returns-clause-room : goal.returns-clause-room
returns-clause-room c = record {
  pool = c.requires.pool;
  orders = omega (
    arith,
    each_told (to_z w128 (of_z w128 c.in-Some.cutoff)) c.args.self.now.ranks,
    c.places.ensures,
    ap (λ (queue : Queued). queue.spare) c.in_ok-reserve.ensures.ok,
    c.tell_joined.ensures.spare,
  );
}
