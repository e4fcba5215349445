use Rattle.ug_serve.proofs.Endings.{services_end_in_one_way}
use Rattle.ug_serve.proofs.laws.services_end_in_one_way.Goals as goal

pub returns : goal.returns
returns c = services_end_in_one_way
