-- What no call changes of a book.
use Rattle.std.specs.Prelude.{◌≡◌}
use Rattle.ug_rows.specs.Sums.{box_floor}
use Rattle.ug_problem.specs.Instances.{root_of}
use Rattle.ug_stock.specs.declared.run.Run.{Run}

-- its floor is that of the root box
abbrev pub KnowsFloor : Run → Type 0
KnowsFloor run = run.floor ≡ box_floor run.problem.objective (root_of run.problem)
