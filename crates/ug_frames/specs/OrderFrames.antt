-- The frames of orders, which have the tags 1 to 8.
use Rattle.std.specs.Prelude.{ℕ, List, [], ◌∷◌, ◌++◌}
use Rattle.ug_fields.specs.Spelling.{count_field, number_field, optional_field}
use Rattle.ug_frames.specs.declared.order.Order.{Order}
use Rattle.ug_frames.specs.declared.order.Order.TheVariants.{Setup, Work, Incumbent, CollectIn}
use Rattle.ug_frames.specs.declared.order.Order.TheVariants.{CollectOut, Winner, Stop, End}
use Rattle.ug_frames.specs.Orders.{IsOrder}
use Rattle.ug_frames.specs.Fits.{FitsOrder}
use Rattle.ug_frames.specs.Spelling.{framed, ticket_fields, params_field, race_field}
use Rattle.ug_frames.specs.Spelling.{changes_fields}

-- what says which order it is
abbrev pub tag_of : Order → ℕ
tag_of (Setup gap bytes) = 1
tag_of (Work ticket params race cutoff changes) = 2
tag_of (Incumbent cutoff) = 3
tag_of (CollectIn ticket count) = 4
tag_of (CollectOut ticket) = 5
tag_of (Winner ticket) = 6
tag_of (Stop ticket) = 7
tag_of End = 8

-- the fields behind the tag
unfoldable pub fields_of : Order → List ℕ
fields_of (Setup gap bytes) = number_field gap ++ bytes
fields_of (Work ticket params race cutoff changes) =
    ticket_fields ticket ++ params_field params ++ race_field race
    ++ optional_field cutoff ++ changes_fields changes
fields_of (Incumbent cutoff) = number_field cutoff
fields_of (CollectIn ticket count) = ticket_fields ticket ++ count_field count
fields_of (CollectOut ticket) = ticket_fields ticket
fields_of (Winner ticket) = ticket_fields ticket
fields_of (Stop ticket) = ticket_fields ticket
fields_of End = []

-- the frame of an order
abbrev pub spelled : Order → List ℕ
spelled order = framed (tag_of order ∷ fields_of order)

-- an order as it comes in a frame: one that a frame can carry, of numbers of their types
pub record IsCarried (order : Order) : Type 0 where
  pub can : IsOrder order
  pub fits : FitsOrder order
