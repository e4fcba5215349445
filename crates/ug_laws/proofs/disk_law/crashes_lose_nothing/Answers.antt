use Rattle.ug_laws.proofs.DiskLaws as laws
use Rattle.ug_laws.proofs.DiskFinds as finds
use Rattle.ug_laws.proofs.disk_law.crashes_lose_nothing.Goals as goal

pub returns-clause-nothing : goal.returns-clause-nothing
returns-clause-nothing c = laws.crashes_lose_nothing

pub returns-clause-found : goal.returns-clause-found
returns-clause-found c = finds.images_are_found

pub returns-clause-runs : goal.returns-clause-runs
returns-clause-runs c = finds.runs_rise
