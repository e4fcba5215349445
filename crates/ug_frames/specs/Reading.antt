-- The parts of a frame read from left to right, each with what is left behind it. A reading that
-- fails says how many bytes are left from the bad part on.
use Rattle.std.specs.Prelude.{ℕ, ℤ, ◌+◌, ◌/◌, ◌%◌, ◌^◌, Bool, ◌&&◌, List, length, Result}
use Rattle.std.specs.Prelude.{Ok, Err, nat_le, int_le, ◌==◌, if◌then◌else◌}
use Rattle.ug_nodes.specs.declared.name.Ticket.{Ticket}
use Rattle.ug_nodes.specs.declared.change.Change.{Change}
use Rattle.ug_branch.specs.declared.params.Params.{Params}
use Rattle.ug_branch.specs.declared.params.Pick.TheVariants.{Place, Width}
use Rattle.ug_branch.specs.declared.params.End.TheVariants.{Lowest, Highest}
use Rattle.ug_branch.specs.declared.params.Half.TheVariants.{Lower, Upper}
use Rattle.ug_branch.specs.declared.params.Base.TheVariants.{Bound, Surrogate}
use Rattle.ug_fields.specs.Reading.{Reading, ◌>>=◌, small_at, count_at, unsigned_at, bound_at}
use Rattle.ug_fields.specs.Reading.{long_at, many_at}

-- a ticket: its run and its number, which count from 1
unfoldable pub ticket_at : List ℕ → Reading Ticket
ticket_at bytes = do
  run ← long_at 1 bytes
  number ← long_at 1 run.1
  Ok (record { run = run.0; number = number.0 }, number.1)

-- the params of a number
abbrev pub params_of : ℕ → Params
params_of n = record {
  pick = if n % 2 == 0 then Place else Width;
  end = if n / 2 % 2 == 0 then Lowest else Highest;
  half = if n / 4 % 2 == 0 then Lower else Upper;
  base = if n / 8 % 2 == 0 then Bound else Surrogate;
}

-- params
unfoldable pub params_at : List ℕ → Reading Params
params_at bytes = do
  number ← small_at 0 15 bytes
  Ok (params_of number.0, number.1)

-- whether others have the same box
unfoldable pub race_at : List ℕ → Reading Bool
race_at bytes = do
  race ← small_at 0 1 bytes
  Ok (race.0 == 1, race.1)

-- a number of four bytes that is at least 1
unfoldable pub positive_at : List ℕ → Reading ℕ
positive_at bytes = do
  n ← unsigned_at bytes
  if nat_le 1 n.0 then Ok n else Err (length bytes)

-- a change of one of the first 10,000 columns, whatever else it says
unfoldable pub any_change_at : List ℕ → Reading Change
any_change_at bytes = do
  column ← count_at 9999 bytes
  low ← bound_at column.1
  high ← bound_at low.1
  Ok (record { column = column.0; low = low.0; high = high.0 }, high.1)

-- whether the change has closed bounds and a column from this one on
abbrev pub is_change : ℕ → Change → Bool
is_change least c = nat_le least c.column && int_le c.low c.high

-- a change with closed bounds and a column from this one on
unfoldable pub change_at : ℕ → List ℕ → Reading Change
change_at least bytes = do
  change ← any_change_at bytes
  if is_change least change.0 then Ok change else Err (length bytes)

-- this many changes, each column behind the one before it
abbrev pub changes_from : ℕ → List ℕ → Reading (List Change × ℕ)
changes_from n bytes = many_at change_at (λ least (c : Change). c.column + 1) n 0 bytes

-- changes: how many there are, and each
unfoldable pub changes_at : List ℕ → Reading (List Change)
changes_at bytes = do
  n ← count_at (10 ^ 4) bytes
  changes ← changes_from n.0 n.1
  Ok (changes.0.0, changes.1)

-- this many values
abbrev pub values_at : ℕ → List ℕ → Reading (List ℤ × Unit {0})
values_at n bytes =
    many_at (λ (state : Unit {0}). bound_at) (λ state (value : ℤ). state) n tt bytes

-- a point: how many values it has, and each
unfoldable pub point_at : List ℕ → Reading (List ℤ)
point_at bytes = do
  n ← count_at (10 ^ 4) bytes
  values ← values_at n.0 n.1
  Ok (values.0.0, values.1)

-- a message that has nothing behind it
unfoldable pub alone : {M : Type 0} → Reading M → Result M ℕ
alone read = do
  message ← read
  if length message.1 == 0 then Ok message.0 else Err (length message.1)
