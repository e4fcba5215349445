use Rattle.ug_disk.proofs.Images.{grows, real_written}
use Rattle.ug_disk.proofs.LawLemmas.{ends_as_it_goes, write_loosens}
use Rattle.ug_disk.proofs.laws.writes_add_images.Goals as goal

pub returns-clause-adds : goal.returns-clause-adds
returns-clause-adds c = grows

pub returns-clause-ends : goal.returns-clause-ends
returns-clause-ends c = ends_as_it_goes

pub returns-clause-real : goal.returns-clause-real
returns-clause-real c = real_written

pub returns-clause-loose : goal.returns-clause-loose
returns-clause-loose c = write_loosens
