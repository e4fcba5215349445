use Rattle.std.proofs.Common.{refl}
use Rattle.ug_coord.proofs.solving.conclude.Goals as goal

pub returns-clause-end : goal.returns-clause-end
returns-clause-end g c = refl

pub returns-clause-concluded : goal.returns-clause-concluded
returns-clause-concluded g c = record {
  saves = c.keep_end-last.new.self.saves;
  moves = c.keep_end-last.ensures.moves;
  became = c.keep_end-last.ensures.became;
  missed = c.missed-missed.ensures;
  unsaved = c.unsaved-unsaved.ensures;
}
