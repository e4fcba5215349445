use Rattle.std.proofs.Common.{refl}
use Rattle.ug_mps.proofs.Looks.{missing_here, look_one, look_two, missing_next}
use Rattle.ug_mps.proofs.draft.rows.Rows.look.Goals as goal

pub returns-in_default : goal.returns-in_default
returns-in_default c = record { value = missing_here c.args.self.now.names c.args.pairs.now.first.row.now c.args.pairs.now.second (c.in_default.ensures.none.0 refl) }

pub returns-in_default-second : goal.returns-in_default-second
returns-in_default-second c = record { value = look_one c.args.self.now.names c.args.pairs.now.first.row.now c.in-Some.first c.args.pairs.now.second c.in_default-second.is c.in-Some.ensures.found }

pub returns-in-Some-find : goal.returns-in-Some-find
returns-in-Some-find c = record { value = look_two c.args.self.now.names c.args.pairs.now.first.row.now c.in-Some.first c.in-Some-find.place c.args.pairs.now.second c.in-Some-second.pair c.in-Some-second.is c.in-Some.ensures.found c.in-Some-find.ensures.found }

pub returns-in-None : goal.returns-in-None
returns-in-None c = record { value = missing_next c.args.self.now.names c.args.pairs.now.first.row.now c.in-Some.first c.args.pairs.now.second c.in-Some-second.pair c.in-Some-second.is c.in-Some.ensures.found (c.in-None.ensures.none.0 refl) }
