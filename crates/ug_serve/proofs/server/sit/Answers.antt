use Rattle.std.proofs.Common.{rules, ◌≡◌, false, None, Some, refl, sym, subst}
use Rattle.std.proofs.lemmas.Int.{to_z-of_z}
use mir.Syntax.{w128}
use mir.Val.{of_z, to_z}
use Rattle.ug_serve.specs.Actions.{Free}
use Rattle.ug_serve.specs.SeatViews.{seat_seen}
use Rattle.ug_worker.specs.Releases.{fresh, usual}
use Rattle.ug_serve.specs.Seats.{IsSeated}
use Rattle.ug_serve.specs.Actions.{Basis, SetUp}
use Rattle.ug_serve.proofs.server.sit.Goals as goal

pub seated-requires : goal.seated-requires
seated-requires g c =
    let problem : c.in-Ok.problem ≡ c.args.problem = search rules in
    let basis : Basis = record { problem = c.args.problem; gap = c.args.gap } in
    subst (λ p. IsSeated (seat_seen g.L.Link.seen c.tell.new.self (record {
      problem = p;
      gap = to_z w128 (of_z w128 c.args.gap);
      ticket = record { run = 1; number = 1 };
      racing = false;
      asked = 0;
    })) (fresh (Some usual)) None) (sym problem)
    (subst (λ gap. IsSeated (seat_seen g.L.Link.seen c.tell.new.self (record {
      problem = c.args.problem;
      gap = gap;
      ticket = record { run = 1; number = 1 };
      racing = false;
      asked = 0;
    })) (fresh (Some usual)) None)
    (sym (to_z-of_z w128 c.args.gap c.ranges.gap))
    (record {
      gap = c.requires.gap;
      agrees = tt;
      stands = c.tell.ensures (SetUp basis) (Free basis (fresh (Some usual))) refl c.requires.on;
    }))
