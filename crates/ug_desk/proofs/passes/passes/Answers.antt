use Rattle.std.proofs.Common.{◌≡◌, ◌<◌, ◌++◌, [], ◌∷◌, List, length, ap, sym, ◌∙◌, subst, arith, rules}
use mir.Syntax.{w128}
use Rattle.std.proofs.lemmas.Int.{to_z-of_z}
use Rattle.std.proofs.lemmas.List.{append_assoc, length-append}
use Rattle.std.specs.Vec.Iter.{into_iter_items}
use Rattle.ug_turn.specs.Locks.{id_of}
use Rattle.ug_desk.specs.Passes.{AreNewPasses, IsNewPass}
use Rattle.ug_desk.specs.LockedBooks.{SeatState}
use Rattle.ug_desk.proofs.Seating.{fresh_at, fresh_floor, fresh_here, new_pass, passes_more}
use Rattle.ug_desk.proofs.passes.passes.Goals as goal

all_seats : (before rest all : List SeatState) (s : SeatState) → before ++ s ∷ rest ≡ all
    → length before < length all
all_seats before rest all s is =
    omega (arith, length-append before (s ∷ rest), ap (λ (l : List SeatState). length l) is)

pub new-requires-clause-rest : goal.new-requires-clause-rest
new-requires-clause-rest c =
    let fresh = fresh_at (id_of c.args.turn.now) c.args.began.now.value c.args.seats.items c.loop-seat.yielded
    (into_iter_items c.next.new.self) c.in-Some.seat
    (ap (λ (rest : List SeatState). c.loop-seat.yielded ++ rest) (sym c.in-Some.ensures.steps.0)
    ∙ (c.loop-seat.invariant.split ∙ search rules)) c.requires.fresh in
    fresh.rest

pub new-requires-clause-own : goal.new-requires-clause-own
new-requires-clause-own c =
    let fresh = fresh_at (id_of c.args.turn.now) c.args.began.now.value c.args.seats.items c.loop-seat.yielded
    (into_iter_items c.next.new.self) c.in-Some.seat
    (ap (λ (rest : List SeatState). c.loop-seat.yielded ++ rest) (sym c.in-Some.ensures.steps.0)
    ∙ (c.loop-seat.invariant.split ∙ search rules)) c.requires.fresh in
    fresh.own ∙ sym c.loop-seat.invariant.rank

pub new-requires-clause-here : goal.new-requires-clause-here
new-requires-clause-here c =
    let whole : c.loop-seat.yielded ++ c.in-Some.seat ∷ into_iter_items c.next.new.self ≡ c.args.seats.items =
    ap (λ (rest : List SeatState). c.loop-seat.yielded ++ rest) (sym c.in-Some.ensures.steps.0)
    ∙ (c.loop-seat.invariant.split ∙ search rules) in
    let fresh = fresh_at (id_of c.args.turn.now) c.args.began.now.value c.args.seats.items c.loop-seat.yielded
    (into_iter_items c.next.new.self) c.in-Some.seat
    (ap (λ (rest : List SeatState). c.loop-seat.yielded ++ rest) (sym c.in-Some.ensures.steps.0)
    ∙ (c.loop-seat.invariant.split ∙ search rules)) c.requires.fresh in
    fresh_here (id_of c.args.turn.now) c.args.began.now.value (length c.loop-seat.yielded) c.loop-seat.rank
    (length c.args.seats.items) c.in-Some.seat fresh c.loop-seat.invariant.rank
    (all_seats c.loop-seat.yielded (into_iter_items c.next.new.self) c.args.seats.items c.in-Some.seat whole)
    c.requires.few.0

pub new-requires-clause-floor : goal.new-requires-clause-floor
new-requires-clause-floor c =
    let fresh = fresh_at (id_of c.args.turn.now) c.args.began.now.value c.args.seats.items c.loop-seat.yielded
    (into_iter_items c.next.new.self) c.in-Some.seat
    (ap (λ (rest : List SeatState). c.loop-seat.yielded ++ rest) (sym c.in-Some.ensures.steps.0)
    ∙ (c.loop-seat.invariant.split ∙ search rules)) c.requires.fresh in
    rw (to_z-of_z w128 c.args.floor c.ranges.floor) (fresh_floor (id_of c.args.turn.now) c.args.began.now.value (length c.loop-seat.yielded) c.args.floor
    c.in-Some.seat fresh c.requires.floor)

pub overflow_add-rank : goal.overflow_add-rank
overflow_add-rank c =
    let whole : c.loop-seat.yielded ++ c.in-Some.seat ∷ into_iter_items c.next.new.self ≡ c.args.seats.items =
    ap (λ (rest : List SeatState). c.loop-seat.yielded ++ rest) (sym c.in-Some.ensures.steps.0)
    ∙ (c.loop-seat.invariant.split ∙ search rules) in
    omega (
      arith,
      c.loop-seat.invariant.rank,
      c.requires.few.1,
      all_seats c.loop-seat.yielded (into_iter_items c.next.new.self) c.args.seats.items c.in-Some.seat whole,
    )

pub loop-seat-preserved : goal.loop-seat-preserved
loop-seat-preserved c =
    let fresh = fresh_at (id_of c.args.turn.now) c.args.began.now.value c.args.seats.items c.loop-seat.yielded
    (into_iter_items c.next.new.self) c.in-Some.seat
    (ap (λ (rest : List SeatState). c.loop-seat.yielded ++ rest) (sym c.in-Some.ensures.steps.0)
    ∙ (c.loop-seat.invariant.split ∙ search rules)) c.requires.fresh in
    record {
      split = append_assoc c.loop-seat.yielded (c.in-Some.seat ∷ []) (into_iter_items c.next.new.self)
          ∙ (ap (λ (rest : List SeatState). c.loop-seat.yielded ++ rest) (sym c.in-Some.ensures.steps.0)
          ∙ c.loop-seat.invariant.split);
      count = omega (
        arith,
        ap (λ (l : List _). length l) c.in_ok-push.ensures.items,
        c.loop-seat.invariant.count,
        length-append c.loop-seat.passes.items (c.new.result ∷ []),
        length-append c.loop-seat.yielded (c.in-Some.seat ∷ []),
      );
      rank = omega (arith, c.loop-seat.invariant.rank, length-append c.loop-seat.yielded (c.in-Some.seat ∷ []));
      each = subst (AreNewPasses (id_of c.args.turn.now) c.args.began.now.value) (sym c.in_ok-push.ensures.items)
          (passes_more (id_of c.args.turn.now) c.args.began.now.value c.loop-seat.passes.items c.new.result
          c.loop-seat.invariant.each
          (subst (λ k. IsNewPass (id_of c.args.turn.now) c.args.began.now.value k c.new.result)
          (sym c.loop-seat.invariant.count)
          (new_pass (id_of c.args.turn.now) c.args.began.now.value (length c.loop-seat.yielded) c.loop-seat.rank
          c.in-Some.seat c.new.result fresh c.loop-seat.invariant.rank c.new.ensures)));
    }
