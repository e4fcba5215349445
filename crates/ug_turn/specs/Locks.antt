-- What contracts say of a lock.
use Rattle.std.specs.Prelude.{ℕ}
use Rattle.atomic_table.specs.Seated.{TableId}
use Rattle.ug_turn.specs.declared.turn.Turn.{Turn}

module _ {V O E : Type 0} where
  -- which lock it is
  abbrev pub id_of : Turn V O E → TableId
  id_of turn = turn.table.shared.table_id

  -- how many passes it was made with
  abbrev pub passes_of : Turn V O E → ℕ
  passes_of turn = turn.table.shared.key.passes
