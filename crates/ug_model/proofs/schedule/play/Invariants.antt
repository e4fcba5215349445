use Rattle.std.proofs.Common.{take}
use Rattle.ug_model.proofs.Plays.{IsUnderWay}
use Rattle.ug_model.proofs.schedule.play.Given as goal

abbrev pub invariant-loop-done : goal.invariant-loop-done
invariant-loop-done l = IsUnderWay l.fn.book (take l.done l.events) l.playing
