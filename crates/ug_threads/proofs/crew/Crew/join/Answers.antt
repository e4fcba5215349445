use Rattle.std.proofs.Common.{refl, rules, subst, sym, ◌≡◌, [], ◌∷◌, List, length, ap, arith}
use Rattle.std.proofs.lemmas.List.{length-append}
use Rattle.std.specs.Vec.Iter.{into_iter_items}
use Rattle.std.specs.declared.thread.PromisedHandle.{PromisedHandle}
use Rattle.ug_desk.specs.Passes.{PassState}
use Rattle.ug_threads.specs.declared.crew.Back.{Back}
use Rattle.ug_threads.specs.Crews.{ArePromised}
use Rattle.ug_threads.proofs.Crews.{IsAmong, among_first, among_last, among_next, back_more, first_promised, joined_at, rest_promised}
use Rattle.ug_threads.proofs.crew.Crew.join.Goals as goal

pub loop-handle-preserved : goal.loop-handle-preserved
loop-handle-preserved g c =
    let fewer = ap (λ (l : List (PromisedHandle PassState Back)). length l) c.in-Some.ensures.steps.0 in
    let put = ap (λ (l : List PassState). length l) c.push_reserved.ensures.items in
    let more = length-append c.loop-handle.back.items (c.join.result ∷ []) in
    record {
      promised = rest_promised c.args.table (into_iter_items c.loop-handle.handle-iterator) (into_iter_items c.next.new.self)
          c.in-Some.handle c.in-Some.ensures.steps.0 c.loop-handle.invariant.promised;
      at = back_more c.args.table c.push_reserved.new.self.items c.loop-handle.back.items c.join.result
          c.push_reserved.ensures.items c.loop-handle.invariant.at
          (joined_at c.args.table c.in-Some.handle.promise c.join.result
          (first_promised c.args.table (into_iter_items c.loop-handle.handle-iterator) (into_iter_items c.next.new.self)
          c.in-Some.handle c.in-Some.ensures.steps.0 c.loop-handle.invariant.promised)
          c.join.ensures);
      each = λ r below. among_next (into_iter_items c.loop-handle.handle-iterator) (into_iter_items c.next.new.self)
          c.in-Some.handle c.loop-handle.back.items c.push_reserved.new.self.items c.join.result r
          c.in-Some.ensures.steps.0 c.push_reserved.ensures.items c.join.ensures.own
          (c.loop-handle.invariant.each r below);
      room = omega (arith, c.loop-handle.invariant.room, fewer, put, more, c.push_reserved.ensures.capacity);
      count = omega (arith, c.loop-handle.invariant.count, fewer, put, more);
    }

pub loop-handle-init : goal.loop-handle-init
loop-handle-init g c =
    let same : into_iter_items c.into_iter-handle-iterator.result ≡ c.args.self.working.items = search rules in
    let few = ap (λ (l : List (PromisedHandle PassState Back)). length l) same in
    let none = ap (λ (l : List PassState). length l) c.requires.none in
    record {
      promised = subst (ArePromised c.args.table) (sym same) c.requires.crew.working;
      at = c.requires.crew.back;
      each = λ r below. subst (λ (l : List (PromisedHandle PassState Back)). IsAmong l c.args.self.back.items r) (sym same)
          (among_first c.args.self r c.requires.none (c.requires.crew.each r below));
      room = omega (arith, c.requires.crew.room, few, none);
      count = refl;
    }

pub returns : goal.returns
returns g c =
    let same : into_iter_items c.into_iter-handle-iterator.result ≡ c.args.self.working.items = search rules in
    let none : length (into_iter_items c.loop-handle.handle-iterator) ≡ 0 = search rules in
    let few = ap (λ (l : List (PromisedHandle PassState Back)). length l) same in
    let gone = ap (λ (l : List PassState). length l) c.requires.none in
    record {
      at = c.loop-handle.invariant.at;
      count_is = omega (arith, c.loop-handle.invariant.count, none, few, gone);
      each = λ r below. among_last (into_iter_items c.loop-handle.handle-iterator) c.loop-handle.back.items r none
          (c.loop-handle.invariant.each r below);
    }
