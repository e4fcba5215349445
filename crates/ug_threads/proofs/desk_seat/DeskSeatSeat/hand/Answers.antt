use Rattle.std.proofs.Common.{Some, Result, Ok, Err, rules}
use Rattle.std.specs.Prelude.{OnErr, OnOk}
use Rattle.ug_worker.specs.declared.search.Asked.{Asked}
use Rattle.ug_worker.specs.Engagements.{Stands}
use Rattle.ug_threads.specs.Traces.{IsSeated}
use Rattle.ug_threads.proofs.Traces.{seat_handed, stay_seated}
use Rattle.ug_threads.proofs.desk_seat.DeskSeatSeat.hand.Goals as goal

on_ok : {T E : Type 0} (result : Result T E) (P : Type 0) → P → OnOk result P
on_ok (Ok x) P holds = holds
on_ok (Err e) P holds = tt

on_err : {T E : Type 0} (result : Result T E) (P : Type 0) → P → OnErr result P
on_err (Ok x) P holds = tt
on_err (Err e) P holds = holds

pub returns-clause-ok : goal.returns-clause-ok
returns-clause-ok g c round_count e f s handed =
    on_ok _ _
    (stay_seated c.args.self.now.desk.now c.hand-heard.new.pass c.send_if_due.new.pass
    (record c.args.self.now.asked { count = c.saturating_sub-self.result }) round_count (Some f) c.send_if_due.ensures
    (seat_handed c.args.self.now.desk.now c.args.number c.args.area.now c.hand-heard.result c.args.self.now.pass
    c.hand-heard.new.pass c.args.self.now.asked.count c.saturating_sub-self.result c.args.self.now.asked.racing round_count
    e f c.hand-heard.ensures handed (search rules) s))

pub returns-clause-err : goal.returns-clause-err
returns-clause-err g c =
    let (round_count, e, f, s, handed) = c.requires.at in
    let asked : Asked = record c.args.self.now.asked { count = c.saturating_sub-self.result } in
    let stands : Stands (IsSeated c.args.self.now.desk.now c.send_if_due.new.pass asked) = (
      round_count,
      Some f,
      stay_seated c.args.self.now.desk.now c.hand-heard.new.pass c.send_if_due.new.pass
          (record c.args.self.now.asked { count = c.saturating_sub-self.result }) round_count (Some f) c.send_if_due.ensures
          (seat_handed c.args.self.now.desk.now c.args.number c.args.area.now c.hand-heard.result
          c.args.self.now.pass c.hand-heard.new.pass c.args.self.now.asked.count c.saturating_sub-self.result
          c.args.self.now.asked.racing round_count e f c.hand-heard.ensures handed (search rules) s),
    ) in
    on_err _ _ stands
