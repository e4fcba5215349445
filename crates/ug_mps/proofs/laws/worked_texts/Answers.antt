use Rattle.ug_mps.proofs.WorkedTexts.{empty, whole, endless, unbounded, scaled, fallen, in_box, unknown_first}
use Rattle.ug_mps.proofs.laws.worked_texts.Goals as goal

pub returns-clause-empty : goal.returns-clause-empty
returns-clause-empty c = empty

pub returns-clause-whole : goal.returns-clause-whole
returns-clause-whole c = whole

pub returns-clause-endless : goal.returns-clause-endless
returns-clause-endless c = endless

pub returns-clause-unbounded : goal.returns-clause-unbounded
returns-clause-unbounded c = unbounded

pub returns-clause-scaled : goal.returns-clause-scaled
returns-clause-scaled c = scaled

pub returns-clause-fallen : goal.returns-clause-fallen
returns-clause-fallen c = fallen

pub returns-clause-in_box : goal.returns-clause-in_box
returns-clause-in_box c = in_box

pub returns-clause-unknown_first : goal.returns-clause-unknown_first
returns-clause-unknown_first c = unknown_first
