use Rattle.std.proofs.Common.{◌≡◌, [], ◌∷◌, ap, arith, length, length-append, sym, subst, Some, slice_get}
use Rattle.ug_turn.specs.Seats.{view_of}
use Rattle.ug_turn.proofs.Ends.{closed_of, front_get, last_get, may_gather}
use Rattle.ug_turn.proofs.turn.Turn.close.Goals as goal

pub gather-requires-clause-last : goal.gather-requires-clause-last
gather-requires-clause-last g c =
    let front = c.pop.new.self.items in
    let last = c.in-Some.last in
    may_gather _ last (c.requires.rest (length front) last (subst (λ l. slice_get l (length front) ≡ Some last) (sym c.in-Some.ensures.items) (last_get front last)))

pub gather-requires-clause-rest : goal.gather-requires-clause-rest
gather-requires-clause-rest g c k s e =
    let front = c.pop.new.self.items in
    c.requires.rest k s (subst (λ l. slice_get l k ≡ Some s) (sym c.in-Some.ensures.items) (front_get front (c.in-Some.last ∷ []) k s e))

pub take_home-requires-clause-all : goal.take_home-requires-clause-all
take_home-requires-clause-all g c =
    let front = c.pop.new.self.items in
    let last = c.in-Some.last in
    let rest = (c.requires.rest (length front) last (subst (λ l. slice_get l (length front) ≡ Some last) (sym c.in-Some.ensures.items) (last_get front last))).rest in
    let one = rest.parts in
    let all = c.requires.all in
    let count = ap length c.in-Some.ensures.items in
    let more = length-append front (last ∷ []) in
    let parts = ap (λ v. v.parts) c.gather.ensures.gathered.view in
    omega arith

pub returns : goal.returns
returns g c = closed_of _ _ _ _ c.args.seats.items c.pop.new.self.items c.in-Some.last (view_of c.gather.new.last) c.take_home.result c.in-Some.ensures.items c.gather.ensures.gathered c.take_home.ensures
