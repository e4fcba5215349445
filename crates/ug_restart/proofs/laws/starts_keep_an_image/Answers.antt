use Rattle.ug_restart.specs.Starts.{IsBegun, IsGoneOn}
use Rattle.ug_restart.proofs.Keeps.{keeps_image}
use Rattle.ug_restart.proofs.laws.starts_keep_an_image.Goals as goal

pub returns-clause-begin : goal.returns-clause-begin
returns-clause-begin c p settings old new = keeps_image (IsBegun p settings old) old new

pub returns-clause-restart : goal.returns-clause-restart
returns-clause-restart c p settings old new = keeps_image (IsGoneOn p settings old) old new
