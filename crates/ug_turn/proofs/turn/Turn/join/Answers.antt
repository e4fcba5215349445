use Rattle.std.proofs.Common.{◌<◌, ◌∙◌, arith}
use Rattle.ug_turn.proofs.Keeping.{meets}
use Rattle.ug_turn.proofs.Sharing.{tells, told_step, met_of}
use Rattle.ug_turn.proofs.turn.Turn.join.Goals as goal

pub join_seat-requires : goal.join_seat-requires
join_seat-requires g c =
    let t = c.args.self.now.table.shared.table_id in
    let three = c.args.self.now.three in
    let words : 0 < t.words = omega (arith, three) in
    let place = c.args.seat.now.place in
    let note = c.args.note.place in
    (c.requires.lock, c.requires.note_lock, c.requires.note.slots, words, tells _ _ _ _ _ _ place.id place.me.0 note.id note.me.0 c.requires.rest.step c.requires.note.parts)

pub load-requires : goal.load-requires
load-requires g c =
    let t = c.args.self.now.table.shared.table_id in
    let three = c.args.self.now.three in
    let words : 1 < t.words = omega (arith, three) in
    let place = c.join_seat.new.seat in
    (c.join_seat.ensures.0 ∙ c.requires.lock, words, meets _ _ _ _ _ _ t.slots place.id place.me (told_step c.args.seat.now.place.me place.me c.args.note.place.me.0 c.join_seat.ensures.2 c.requires.rest.step))

pub returns-clause-met : goal.returns-clause-met
returns-clause-met g c = met_of _ _ _ _ _ c.args.note.place.me.0 c.join_seat.ensures.2 c.load.ensures.2
