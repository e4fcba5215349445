use Rattle.std.proofs.Common.{List, subst, sym, arith}
use Rattle.ug_problem.specs.declared.entries.ColumnEntry.{ColumnEntry}
use Rattle.ug_problem.specs.Locks.{AreWithin}
use Rattle.ug_problem.proofs.locks.add_list.Goals as goal

pub locking_rows-requires : goal.locking_rows-requires
locking_rows-requires c =
    subst (λ (s : List ColumnEntry). AreWithin c.args.rows.now s) (sym c.entries_of.ensures)
    (c.requires.within c.len.result (omega (arith, c.requires.there)))
