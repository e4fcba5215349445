use Rattle.ug_laws.proofs.Begins as begins
use Rattle.ug_laws.proofs.disk_law.runs_begin.Goals as goal

pub returns-clause-new : goal.returns-clause-new
returns-clause-new c = begins.new_runs_begin

pub returns-clause-next : goal.returns-clause-next
returns-clause-next c = begins.next_runs_begin
