-- How many bytes the fields of a message have.
use Rattle.std.proofs.Common.{◌≡◌, ℕ, ℤ, zero, suc, ◌+◌, ◌*◌, ◌^◌, ◌<◌, ◌≤◌, List, [], ◌∷◌, ◌++◌, length, Option, None, Some, refl, arith}
use Rattle.std.specs.List.{flat_map}
use Rattle.std.proofs.lemmas.List.{length-append}
use Rattle.ug_nodes.specs.declared.name.Ticket.{Ticket}
use Rattle.ug_nodes.specs.declared.change.Change.{Change}
use Rattle.ug_nodes.specs.Changes.{IsRising, change_at, no_change}
use Rattle.ug_fields.specs.Spelling.{count_field, bound_field, long_field, number_field, optional_field}
use Rattle.ug_fields.proofs.Simple.{count_long, bound_long, long_long, number_long}
use Rattle.ug_frames.specs.declared.order.Order.{Order}
use Rattle.ug_frames.specs.declared.order.Order.TheVariants.{Setup, Work, Incumbent, CollectIn, CollectOut, Winner, Stop, End}
use Rattle.ug_frames.specs.declared.report.Report.{Report}
use Rattle.ug_frames.specs.declared.report.Report.TheVariants.{Ready, Solution, Hand, State, Done, Ended}
use Rattle.ug_frames.specs.declared.report.Ending.TheVariants.{Plain}
use Rattle.ug_frames.specs.Ranges.{AreChanges}
use Rattle.ug_frames.specs.Orders.{IsOrder}
use Rattle.ug_frames.specs.Reports.{IsReport}
use Rattle.ug_frames.specs.Spelling.{ticket_fields, params_field, race_field, change_fields, changes_fields, point_fields}
use Rattle.ug_frames.specs.OrderFrames.{fields_of}
use Rattle.ug_frames.specs.ReportFrames.{fields_of as report_fields}

pub ticket_long : (ticket : Ticket) → length (ticket_fields ticket) ≡ 16
unfolding ticket_fields
ticket_long ticket = omega (
  arith,
  length-append (long_field ticket.run) (long_field ticket.number),
  long_long ticket.run,
  long_long ticket.number,
)

pub optional_long : (cutoff : Option ℤ) → length (optional_field cutoff) ≤ 17
optional_long None = omega arith
optional_long (Some z) = omega (arith, number_long z)

pub change_long : (c : Change) → length (change_fields c) ≡ 12
unfolding change_fields
change_long c = omega (
  arith,
  length-append (count_field c.column ++ bound_field c.low) (bound_field c.high),
  length-append (count_field c.column) (bound_field c.low),
  count_long c.column,
  bound_long c.low,
  bound_long c.high,
)

each_long : (changes : List Change) → length (flat_map change_fields changes) ≡ 12 * length changes
each_long [] = refl
each_long (c ∷ changes) = omega (
  arith,
  length-append (change_fields c) (flat_map change_fields changes),
  change_long c,
  each_long changes,
)

pub changes_long : (changes : List Change)
    → length (changes_fields changes) ≡ 4 + 12 * length changes
unfolding changes_fields
changes_long changes = omega (
  arith,
  length-append (count_field (length changes)) (flat_map change_fields changes),
  count_long (length changes),
  each_long changes,
)

values_long : (x : List ℤ) → length (flat_map bound_field x) ≡ 4 * length x
values_long [] = refl
values_long (v ∷ x) = omega (
  arith,
  length-append (bound_field v) (flat_map bound_field x),
  bound_long v,
  values_long x,
)

pub point_long : (x : List ℤ) → length (point_fields x) ≡ 4 + 4 * length x
unfolding point_fields
point_long x = omega (
  arith,
  length-append (count_field (length x)) (flat_map bound_field x),
  count_long (length x),
  values_long x,
)

-- ---- whole messages

-- how many bytes the fields of an order have
abbrev pub length_of : Order → ℕ
length_of (Setup gap bytes) = 16 + length bytes
length_of (Work ticket params race cutoff changes) =
    18 + length (optional_field cutoff) + length (changes_fields changes)
length_of (Incumbent cutoff) = 16
length_of (CollectIn ticket count) = 20
length_of (CollectOut ticket) = 16
length_of (Winner ticket) = 16
length_of (Stop ticket) = 16
length_of End = 0

pub length_is : (order : Order) → length (fields_of order) ≡ length_of order
unfolding fields_of
length_is (Setup gap bytes) = omega (arith, length-append (number_field gap) bytes, number_long gap)
length_is (Work ticket params race cutoff changes) = omega (
  arith,
  length-append (ticket_fields ticket ++ params_field params ++ race_field race
      ++ optional_field cutoff) (changes_fields changes),
  length-append (ticket_fields ticket ++ params_field params ++ race_field race)
      (optional_field cutoff),
  length-append (ticket_fields ticket ++ params_field params) (race_field race),
  length-append (ticket_fields ticket) (params_field params),
  ticket_long ticket,
)
length_is (Incumbent cutoff) = number_long cutoff
length_is (CollectIn ticket count) = omega (
  arith,
  length-append (ticket_fields ticket) (count_field count),
  ticket_long ticket,
  count_long count,
)
length_is (CollectOut ticket) = ticket_long ticket
length_is (Winner ticket) = ticket_long ticket
length_is (Stop ticket) = ticket_long ticket
length_is End = refl

-- how many bytes the fields of a report have
abbrev pub report_length_of : Report → ℕ
report_length_of Ready = 0
report_length_of (Solution ticket point) = 16 + length (point_fields point)
report_length_of (Hand ticket number changes) = 24 + length (changes_fields changes)
report_length_of (State ticket nodes floor) = 40
report_length_of (Done ticket cutoff count ending) = 24 + length (optional_field cutoff)
report_length_of Ended = 0

pub report_length_is : (report : Report) → length (report_fields report) ≡ report_length_of report
unfolding report_fields
report_length_is Ready = refl
report_length_is (Solution ticket point) = omega (
  arith,
  length-append (ticket_fields ticket) (point_fields point),
  ticket_long ticket,
)
report_length_is (Hand ticket number changes) = omega (
  arith,
  length-append (ticket_fields ticket ++ long_field number) (changes_fields changes),
  length-append (ticket_fields ticket) (long_field number),
  ticket_long ticket,
  long_long number,
)
report_length_is (State ticket nodes floor) = omega (
  arith,
  length-append (ticket_fields ticket ++ long_field nodes) (number_field floor),
  length-append (ticket_fields ticket) (long_field nodes),
  ticket_long ticket,
  long_long nodes,
  number_long floor,
)
report_length_is (Done ticket cutoff count Plain) = omega (
  arith,
  length-append (ticket_fields ticket ++ optional_field cutoff) (long_field count),
  length-append (ticket_fields ticket) (optional_field cutoff),
  ticket_long ticket,
  long_long count,
)
report_length_is Ended = refl

-- ---- changes of a frame are 10,000 at most

-- change k is of column k or one behind it
at_least_place : (cs : List Change) → IsRising cs → (k : ℕ) → k < length cs
    → k ≤ (change_at cs k).column
at_least_place cs rising zero here = omega arith
at_least_place cs rising (suc k) here =
    omega (
      arith,
      at_least_place cs rising k (omega (arith, here)),
      rising k (suc k) (omega arith) here,
    )

pub few : (cs : List Change) → AreChanges cs → length cs ≤ 10 ^ 4
few [] are = omega arith
few (c ∷ cs) are =
    omega (
      arith,
      at_least_place (c ∷ cs) are.rising (length cs) (omega arith),
      (are.each (length cs) no_change (omega arith)).column,
    )

changes_few : (changes : List Change) → AreChanges changes
    → length (changes_fields changes) ≤ 120004
changes_few changes are = omega (arith, changes_long changes, few changes are)

-- a frame can carry as many bytes as an order's fields have, and its tag
pub length_few : (order : Order) → IsOrder order → length_of order ≤ 67108859
length_few (Setup gap bytes) is = omega (arith, is.fields.1)
length_few (Work ticket params race cutoff changes) is =
    omega (arith, optional_long cutoff, changes_few changes is.fields.1)
length_few (Incumbent cutoff) is = omega arith
length_few (CollectIn ticket count) is = omega arith
length_few (CollectOut ticket) is = omega arith
length_few (Winner ticket) is = omega arith
length_few (Stop ticket) is = omega arith
length_few End is = omega arith

-- and as many as a report's have
pub report_length_few : (report : Report) → IsReport report → report_length_of report ≤ 67108859
report_length_few Ready is = omega arith
report_length_few (Solution ticket point) is = omega (arith, point_long point, is.fields.few)
report_length_few (Hand ticket number changes) is = omega (arith, changes_few changes is.fields)
report_length_few (State ticket nodes floor) is = omega arith
report_length_few (Done ticket cutoff count ending) is = omega (arith, optional_long cutoff)
report_length_few Ended is = omega arith
