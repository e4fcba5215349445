-- An order read from the bytes that its frame has behind the length.
use Rattle.std.specs.Prelude.{ℕ, ◌*◌, ◌^◌, List, [], Result, Ok, ◌==◌}
use Rattle.std.specs.Prelude.{if◌then◌else◌}
use Rattle.ug_nodes.specs.declared.name.Ticket.{Ticket}
use Rattle.ug_fields.specs.Reading.{Reading, ◌>>=◌, small_at, number_at, amount_at, optional_at}
use Rattle.ug_frames.specs.declared.order.Order.{Order}
use Rattle.ug_frames.specs.declared.order.Order.TheVariants.{Setup, Work, Incumbent, CollectIn}
use Rattle.ug_frames.specs.declared.order.Order.TheVariants.{CollectOut, Winner, Stop, End}
use Rattle.ug_frames.specs.Reading.{ticket_at, params_at, race_at, positive_at, changes_at, alone}

-- the fields of a Setup: all that is behind the gap is its record
unfoldable pub setup_at : List ℕ → Reading Order
setup_at bytes = do
  gap ← amount_at (4 * 10 ^ 37) bytes
  Ok (Setup gap.0 gap.1, [])

-- the fields of a Work
unfoldable pub work_at : List ℕ → Reading Order
work_at bytes = do
  ticket ← ticket_at bytes
  params ← params_at ticket.1
  race ← race_at params.1
  cutoff ← optional_at (2 * 10 ^ 37) race.1
  changes ← changes_at cutoff.1
  Ok (Work ticket.0 params.0 race.0 cutoff.0 changes.0, changes.1)

-- the field of an Incumbent
unfoldable pub incumbent_at : List ℕ → Reading Order
incumbent_at bytes = do
  cutoff ← number_at (2 * 10 ^ 37) bytes
  Ok (Incumbent cutoff.0, cutoff.1)

-- the fields of a CollectIn
unfoldable pub collect_at : List ℕ → Reading Order
collect_at bytes = do
  ticket ← ticket_at bytes
  count ← positive_at ticket.1
  Ok (CollectIn ticket.0 count.0, count.1)

-- the order with this tag that has its ticket alone
abbrev pub ticket_order : ℕ → Ticket → Order
ticket_order tag ticket =
    if tag == 5 then CollectOut ticket else (if tag == 6 then Winner ticket else Stop ticket)

-- the field of an order that has its ticket alone
unfoldable pub ticket_order_at : ℕ → List ℕ → Reading Order
ticket_order_at tag bytes = do
  ticket ← ticket_at bytes
  Ok (ticket_order tag ticket.0, ticket.1)

-- the fields of the order with this tag
unfoldable pub tagged_at : ℕ → List ℕ → Reading Order
tagged_at tag bytes =
    if tag == 1 then setup_at bytes else (
    if tag == 2 then work_at bytes else (
    if tag == 3 then incumbent_at bytes else (
    if tag == 4 then collect_at bytes else (
    if tag == 8 then Ok (End, bytes) else ticket_order_at tag bytes
    ))))

-- the order of these bytes: its tag and its fields
unfoldable pub order_in : List ℕ → Result Order ℕ
order_in bytes = do
  tag ← small_at 1 8 bytes
  alone (tagged_at tag.0 tag.1)
