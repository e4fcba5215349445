use Rattle.std.proofs.Common.{◌≡◌, ◌∙◌, ◌∷◌, [], ◌++◌, length, take, ap, refl, subst, sym, arith}
use Rattle.std.specs.Prelude.{None, Some, slice_get}
use Rattle.std.proofs.lemmas.List.{take_more}
use Rattle.std.proofs.lemmas.Option.{slice_get-get_or, slice_get_past}
use Rattle.ug_model.specs.Machines.{store}
use Rattle.ug_laws.specs.Machines.{beginning}
use Rattle.ug_model.specs.Machines.{world_of}
use Rattle.ug_model.specs.DiskHalts.{IsHalted}
use Rattle.ug_model.specs.DiskPlays.{Reaches, IsHaltedAt}
use Rattle.ug_model.proofs.DiskPlays.{one_more, played_lost, stopped_lost}
use Rattle.ug_model.proofs.disk_schedule.play_disk.Goals as goal

pub loop-done-preserved : goal.loop-done-preserved
loop-done-preserved c =
    let events = c.args.events.now in
    let event = c.index-events-done.result in
    let more = take_more events c.loop-done.done event c.loop-done-test.true
    ∙ ap (λ e. take c.loop-done.done events ++ e ∷ []) (sym c.index-events-done.is) in
    one_more (beginning c.args.book (store c.args.saver c.args.disk))
    (world_of c.loop-done.machine) (world_of c.happen.new.self) events c.loop-done.done event
    c.loop-done.invariant c.in-Ok.ensures.happened c.happen.ensures.able more

pub returns-in-Err-clause-stopped : goal.returns-in-Err-clause-stopped
returns-in-Err-clause-stopped c =
    let start = beginning c.args.book (store c.args.saver c.args.disk) in
    let events = c.args.events.now in
    let event = c.index-events-done.result in
    let w = world_of c.loop-done.machine in
    let new = world_of c.happen.new.self in
    let fault = c.stop.result in
    let is : slice_get events c.loop-done.done ≡ Some event =
    slice_get-get_or events c.loop-done.done event c.loop-done-test.true
    ∙ ap Some (sym c.index-events-done.is) in
    record {
      w = w;
      come = subst (λ n. Reaches start events n w) (sym c.stop.ensures.done) c.loop-done.invariant.come;
      new = new;
      halted = subst (λ n. IsHaltedAt (slice_get events n) w new fault.why) (sym c.stop.ensures.done)
          (subst (λ next. IsHaltedAt next w new fault.why) (sym is)
          (subst (λ why. IsHalted w event new why) (sym c.stop.ensures.why) c.in-Err.ensures.halted));
      is_left = c.stop.ensures.left;
    }

pub returns-in-Err-clause-honest : goal.returns-in-Err-clause-honest
returns-in-Err-clause-honest c begins w new come honest halted is =
    stopped_lost (beginning c.args.book (store c.args.saver c.args.disk)) w new
    c.args.events.now _ _ _ begins come honest halted is

pub returns-in-None-clause-played : goal.returns-in-None-clause-played
returns-in-None-clause-played c =
    let start = beginning c.args.book (store c.args.saver c.args.disk) in
    let events = c.args.events.now in
    let t = c.loop-done.auto.done-end in
    let u = c.loop-done-test.false in
    let all : c.loop-done.done ≡ length events = omega (arith, t, u) in
    let w = world_of c.loop-done.machine in
    record {
      w = w;
      come = subst (λ n. Reaches start events n w) all c.loop-done.invariant.come;
      goes_on = sym c.refused.ensures ∙ c.in-None.is;
      is_left = c.end.ensures;
    }

pub returns-in-None-clause-honest : goal.returns-in-None-clause-honest
returns-in-None-clause-honest c begins w come honest is =
    played_lost (beginning c.args.book (store c.args.saver c.args.disk)) w
    c.args.events.now _ begins come honest is

pub returns-in-Some-clause-stopped : goal.returns-in-Some-clause-stopped
returns-in-Some-clause-stopped c =
    let start = beginning c.args.book (store c.args.saver c.args.disk) in
    let events = c.args.events.now in
    let t = c.loop-done.auto.done-end in
    let u = c.loop-done-test.false in
    let fault = c.stop-in-Some.result in
    let all : c.loop-done.done ≡ fault.done =
    omega (arith, t, u, c.stop-in-Some.ensures.done) in
    let none : slice_get events fault.done ≡ None =
    slice_get_past events fault.done (omega (arith, u, all)) in
    let w = world_of c.loop-done.machine in
    record {
      w = w;
      come = subst (λ n. Reaches start events n w) all c.loop-done.invariant.come;
      new = w;
      halted = subst (λ next. IsHaltedAt next w w fault.why) (sym none) (
        record {
          fault = c.in-Some.fault;
          was = sym c.refused.ensures ∙ c.in-Some.is;
          is = c.stop-in-Some.ensures.why;
        },
        refl,
      );
      is_left = c.stop-in-Some.ensures.left;
    }

pub returns-in-Some-clause-honest : goal.returns-in-Some-clause-honest
returns-in-Some-clause-honest c begins w new come honest halted is =
    stopped_lost (beginning c.args.book (store c.args.saver c.args.disk)) w new
    c.args.events.now _ _ _ begins come honest halted is
