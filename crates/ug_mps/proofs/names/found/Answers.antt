use Rattle.std.proofs.Common.{refl}
use Rattle.ug_mps.proofs.NamesLemmas.{gone_in_gap}
use Rattle.ug_mps.proofs.names.found.Goals as goal

pub returns-in-Err-clause-none : goal.returns-in-Err-clause-none
returns-in-Err-clause-none c = (λ _. gone_in_gap c.args.names.now c.args.order.now c.requires c.args.name.now c.in-Err.field-0 c.in-Err.ensures, λ _. refl)
