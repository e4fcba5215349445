-- An image read from left to right, up to the first field that is cut short or breaks a rule. A
-- reading that fails says how many bytes are left from that field on.
use Rattle.std.specs.Prelude.{ℕ, ℤ, pos, ◌+◌, ◌*◌, ◌^◌, Bool, true, false, ◌&&◌, ◌||◌}
use Rattle.std.specs.Prelude.{not, List, [], ◌∷◌, length, take, drop, Option, Some, None, Result}
use Rattle.std.specs.Prelude.{Ok, Err, nat_lt, nat_le, int_le, ◌==◌, if◌then◌else◌}
use Rattle.std.specs.List.{list_all}
use Rattle.ug_rows.specs.declared.area.Interval.{Interval}
use Rattle.ug_rows.specs.Boxes.{interval_at}
use Rattle.ug_rows.specs.Rows.{sum_at}
use Rattle.ug_problem.specs.declared.column.Column.{Column}
use Rattle.ug_problem.specs.declared.column.NamedRow.{NamedRow}
use Rattle.ug_problem.specs.Instances.{Instance, root_of}
use Rattle.ug_nodes.specs.declared.name.Name.{Name}
use Rattle.ug_nodes.specs.declared.change.Change.{Change}
use Rattle.ug_fields.specs.Reading.{Reading, ◌>>=◌, small_at, count_at, unsigned_at, signed_at}
use Rattle.ug_fields.specs.Reading.{bound_at, long_at, amount_at, flagged_at, many_at}
use Rattle.ug_records.specs.Reading.{record_at}
use Rattle.ug_image.specs.declared.counts.Counts.{Counts}
use Rattle.ug_image.specs.declared.image.SavedNode.{SavedNode}
use Rattle.ug_image.specs.declared.image.Image.{Image}

-- the record of a problem, before the bytes behind it
unfoldable pub within_record : Result Instance ℕ → List ℕ → Reading Instance
within_record (Ok p) rest = Ok (p, rest)
within_record (Err left) rest = Err (left + length rest)

-- this many bytes of a record, where they are there; else the field that counts them is bad, from
-- which on this many bytes are left
unfoldable pub record_in : ℕ → ℕ → List ℕ → Reading Instance
record_in left n bytes =
    if nat_lt (length bytes) n then Err left
    else within_record (record_at (take n bytes)) (drop n bytes)

-- a problem: how long its record is, and the record
unfoldable pub problem_at : List ℕ → Reading Instance
problem_at bytes = do
  n ← count_at (2 ^ 32) bytes
  record_in (length bytes) n.0 n.1

-- this many values
abbrev pub values_at : ℕ → List ℕ → Reading (List ℤ × Unit {0})
values_at n bytes =
    many_at (λ (state : Unit {0}). bound_at) (λ state (value : ℤ). state) n tt bytes

-- a point: how many values it has, and each
unfoldable pub point_at : List ℕ → Reading (List ℤ)
point_at bytes = do
  n ← count_at (10 ^ 4) bytes
  values ← values_at n.0 n.1
  Ok (values.0.0, values.1)

-- whether there is one value per column, each within its bounds
abbrev pub is_inside : List Column → List ℤ → Bool
is_inside [] [] = true
is_inside [] (_ ∷ _) = false
is_inside (_ ∷ _) [] = false
is_inside (column ∷ columns) (value ∷ values) =
    (int_le column.low value && int_le value column.high) && is_inside columns values

-- whether a sum is at least the side, where there is one
abbrev pub is_at_least : Option ℤ → ℤ → Bool
is_at_least None sum = true
is_at_least (Some low) sum = int_le low sum

-- whether a sum is at most the side, where there is one
abbrev pub is_at_most : Option ℤ → ℤ → Bool
is_at_most None sum = true
is_at_most (Some high) sum = int_le sum high

-- whether the point satisfies the row
abbrev pub keeps : List ℤ → NamedRow → Bool
keeps x named = is_at_least named.row.low (sum_at named.row.terms x)
    && is_at_most named.row.high (sum_at named.row.terms x)

-- whether the point is feasible
unfoldable pub is_feasible : Instance → List ℤ → Bool
is_feasible p x = is_inside p.columns x && list_all (keeps x) p.rows

-- a point that is feasible
unfoldable pub feasible_at : Instance → List ℕ → Reading (List ℤ)
feasible_at p bytes = do
  point ← point_at bytes
  if is_feasible p point.0 then Ok point else Err (length bytes)

-- the best point, where there is one
abbrev pub best_at : Instance → List ℕ → Reading (Option (List ℤ))
best_at p bytes = flagged_at (feasible_at p) bytes

-- how many reports were received: none before version 2
unfoldable pub heard_at : ℕ → List ℕ → Reading ℕ
heard_at version bytes = if nat_lt 1 version then long_at 0 bytes else Ok (0, bytes)

-- the gap: 0 before version 3
unfoldable pub gap_at : ℕ → List ℕ → Reading ℤ
gap_at version bytes = if nat_lt 2 version then amount_at (4 * 10 ^ 37) bytes else Ok (pos 0, bytes)

-- how many reports were received, the gap, and how many nodes there are
unfoldable pub counts_at : ℕ → List ℕ → Reading Counts
counts_at version bytes = do
  heard ← heard_at version bytes
  gap ← gap_at version heard.1
  nodes ← long_at 0 gap.1
  Ok (record { heard = heard.0; gap = gap.0; nodes = nodes.0 }, nodes.1)

-- whether the bounds are closed and within the side
abbrev pub is_closed_within : Interval → ℤ → ℤ → Bool
is_closed_within side low high =
    (int_le side.low low && int_le low high) && int_le high side.high

-- whether all of the side is within the bounds
abbrev pub is_whole : Interval → ℤ → ℤ → Bool
is_whole side low high = int_le low side.low && int_le side.high high

-- whether the bounds are closed, within the side, and others than it has
abbrev pub narrows : Interval → ℤ → ℤ → Bool
narrows side low high = is_closed_within side low high && not (is_whole side low high)

-- whether the change is one of a box below the root, of a column from this one on
unfoldable pub is_change : List Interval → ℕ → Change → Bool
is_change root least c = (nat_le least c.column && nat_lt c.column (length root))
    && narrows (interval_at root c.column) c.low c.high

-- a change, whatever it says
unfoldable pub any_change_at : List ℕ → Reading Change
any_change_at bytes = do
  column ← unsigned_at bytes
  low ← signed_at column.1
  high ← signed_at low.1
  Ok (record { column = column.0; low = low.0; high = high.0 }, high.1)

-- a change of a box below the root, of a column from this one on
unfoldable pub change_at : List Interval → ℕ → List ℕ → Reading Change
change_at root least bytes = do
  change ← any_change_at bytes
  if is_change root least change.0 then Ok change else Err (length bytes)

-- this many changes, each column behind the one before it
abbrev pub changes_from : List Interval → ℕ → List ℕ → Reading (List Change × ℕ)
changes_from root n bytes =
    many_at (change_at root) (λ least (c : Change). c.column + 1) n 0 bytes

-- changes: how many there are, and each
unfoldable pub changes_at : List Interval → List ℕ → Reading (List Change)
changes_at root bytes = do
  n ← count_at (10 ^ 4) bytes
  changes ← changes_from root n.0 n.1
  Ok (changes.0.0, changes.1)

-- whether the name follows the one before it, where there is one
abbrev pub is_behind : Option Name → Name → Bool
is_behind None name = true
is_behind (Some last) name = nat_lt last.ticket.number name.ticket.number
    || ((last.ticket.number == name.ticket.number) && nat_lt last.hand name.hand)

-- a name of the run, whatever it is
unfoldable pub any_name_at : ℕ → List ℕ → Reading Name
any_name_at run bytes = do
  number ← long_at 0 bytes
  hand ← long_at 0 number.1
  Ok (record { ticket = record { run = run; number = number.0 }; hand = hand.0 }, hand.1)

-- a name of the run, behind the one before it
unfoldable pub name_at : ℕ → Option Name → List ℕ → Reading Name
name_at run last bytes = do
  name ← any_name_at run bytes
  if is_behind last name.0 then Ok name else Err (length bytes)

-- a node of the run, behind the one of this name
unfoldable pub node_at : ℕ → List Interval → Option Name → List ℕ → Reading SavedNode
node_at run root last bytes = do
  name ← name_at run last bytes
  changes ← changes_at root name.1
  Ok (record { name = name.0; changes = changes.0 }, changes.1)

-- this many nodes, each behind the one before it
abbrev pub named_at : ℕ → List Interval → ℕ → List ℕ → Reading (List SavedNode × Option Name)
named_at run root n bytes =
    many_at (node_at run root) (λ last (node : SavedNode). Some node.name) n None bytes

-- starting node k of the run
unfoldable pub starting_at : ℕ → List Interval → ℕ → List ℕ → Reading SavedNode
starting_at run root k bytes = do
  changes ← changes_at root bytes
  Ok (
    record {
      name = record { ticket = record { run = run; number = 0 }; hand = k };
      changes = changes.0;
    },
    changes.1,
  )

-- this many nodes without names
abbrev pub bare_at : ℕ → List Interval → ℕ → List ℕ → Reading (List SavedNode × ℕ)
bare_at run root n bytes =
    many_at (starting_at run root) (λ k (node : SavedNode). k + 1) n 0 bytes

-- the nodes: from version 2 on they have names
unfoldable pub nodes_at : ℕ → ℕ → List Interval → ℕ → List ℕ → Reading (List SavedNode)
nodes_at version run root n bytes =
    if nat_lt 1 version
    then (named_at run root n bytes >>= λ nodes. Ok (nodes.0.0, nodes.1))
    else (bare_at run root n bytes >>= λ nodes. Ok (nodes.0.0, nodes.1))

-- the fields behind the problem of an image in this version, with this run and sequence
unfoldable pub behind_problem : ℕ → ℕ → ℕ → Instance → List ℕ → Reading Image
behind_problem version run sequence problem bytes = do
  best ← best_at problem bytes
  counts ← counts_at version best.1
  nodes ← nodes_at version run (root_of problem) counts.0.nodes counts.1
  Ok (
    record {
      run = run;
      sequence = sequence;
      problem = problem;
      best = best.0;
      heard = counts.0.heard;
      gap = counts.0.gap;
      nodes = nodes.0;
    },
    nodes.1,
  )

-- the fields of an image, and what follows them
unfoldable pub fields_at : List ℕ → Reading Image
fields_at bytes = do
  version ← small_at 1 3 bytes
  run ← long_at 1 version.1
  sequence ← long_at 1 run.1
  problem ← problem_at sequence.1
  behind_problem version.0 run.0 sequence.0 problem.0 problem.1

-- a whole image: its fields, and nothing behind them
unfoldable pub image_at : List ℕ → Result Image ℕ
image_at bytes = do
  image ← fields_at bytes
  if length image.1 == 0 then Ok image.0 else Err (length image.1)
