use Rattle.std.proofs.Common.{length}
use Rattle.ug_measure.proofs.driver.Crew.decide.Given as goal

abbrev pub decreases-loop-told : goal.decreases-loop-told
decreases-loop-told l = length l.self.book.orders
