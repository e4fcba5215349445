use Rattle.std.proofs.Common.{◌<◌, length}
use Rattle.std.proofs.lemmas.List.{take_more}
use Rattle.ug_stock.proofs.Winners.{no_racer}
use Rattle.ug_stock.proofs.choosing.first.Goals as goal

pub loop-racer-preserved : goal.loop-racer-preserved
loop-racer-preserved c =
    let h : c.loop-racer.racer-index < length c.args.racers.now = c.loop-racer-test.true in
    rw (take_more c.args.racers.now c.loop-racer.racer-index no_racer h) (c.first_of-best.ensures _ c.loop-racer.invariant)
