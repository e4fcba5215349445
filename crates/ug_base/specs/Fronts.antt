-- All but the last of some items.
use Rattle.std.specs.Prelude.{◌-◌, List, length, take}

-- all items but the last
abbrev pub front_of : {A : Type 0} → List A → List A
front_of items = take (length items - 1) items
