use Rattle.std.proofs.Common.{◌<◌, ◌∙◌, arith, refl}
use Rattle.ug_turn.specs.declared.held.Held.{Held}
use Rattle.ug_turn.proofs.Putting.{puts_home_as, written, given, given_seat}
use Rattle.ug_turn.proofs.turn.Turn.put_home.Goals as goal

pub load-requires : goal.load-requires
load-requires g c =
    let t = c.args.self.now.table.shared.table_id in
    let three = c.args.self.now.three in
    let words : 1 < t.words = omega (arith, three) in
    let was = c.args.seat.now.place.me in
    let out = c.requires.out in
    let held : Held g.row.V.Denot g.row.V-Entry.Denot = record { value = c.args.value; said = c.of-said.result } in
    let seat = c.exchange-empty.new.seat in
    let now = written was seat.me held c.exchange-empty.ensures.3 out.slots in
    (c.exchange-empty.ensures.0 ∙ c.requires.lock, words, puts_home_as _ _ _ _ _ _ t.slots seat.id seat.me was.0 held c.args.entry now c.of-said.ensures out.at.role out.at.step_is c.requires.may)

pub returns-clause-view : goal.returns-clause-view
returns-clause-view g c =
    let was = c.args.seat.now.place.me in
    let held : Held g.row.V.Denot g.row.V-Entry.Denot = record { value = c.args.value; said = c.of-said.result } in
    let now = written was c.exchange-empty.new.seat.me held c.exchange-empty.ensures.3 c.requires.out.slots in
    given g.V.Lasting.by g.V.Lasting.cutoff _ _ _ _ was.0 held c.args.entry c.load.ensures.2 now c.of-said.ensures

pub returns-clause-home : goal.returns-clause-home
returns-clause-home g c =
    let was = c.args.seat.now.place.me in
    let held : Held g.row.V.Denot g.row.V-Entry.Denot = record { value = c.args.value; said = c.of-said.result } in
    let now = written was c.exchange-empty.new.seat.me held c.exchange-empty.ensures.3 c.requires.out.slots in
    given_seat g.V.Lasting.by g.V.Lasting.cutoff c.args.seat.now _ c.args.entry c.args.value c.requires.out.at refl c.load.ensures.2.slots
    (given g.V.Lasting.by g.V.Lasting.cutoff _ _ _ _ was.0 held c.args.entry c.load.ensures.2 now c.of-said.ensures)
