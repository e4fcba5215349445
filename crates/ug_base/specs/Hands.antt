-- What handing does: the first of the boxes left is no longer left, and is the last of the boxes
-- handed. A task hands none where it would have none left; it gives the last one too.
use Rattle.std.specs.Prelude.{◌≡◌, ◌<◌, ◌≤◌, List, [], ◌∷◌, ◌++◌, length, Option, Some, None}
use Rattle.ug_rows.specs.declared.area.Interval.{Interval}
use Rattle.ug_base.specs.declared.handed.Handed.{Handed}
use Rattle.ug_base.specs.declared.open_box.OpenBox.{OpenBox}
use Rattle.ug_propagate.specs.Working.{WorkState}
use Rattle.ug_base.specs.Chains.{areas_of}
use Rattle.ug_base.specs.Points.{measure_of}
use Rattle.ug_base.specs.Tasks.{TaskState}

-- the box of the first part is moved behind those handed, and the other parts are left
pub record IsMoved (work : WorkState) (old new : List OpenBox)
    (handed_old handed_new : List (List Interval)) (area : List Interval) : Type 0 where
  pub open_box : OpenBox
  pub rest : List OpenBox
  pub first : old ≡ open_box ∷ rest
  pub left : new ≡ rest
  pub boxes : areas_of work old ≡ area ∷ areas_of work new
  pub last : handed_new ≡ handed_old ++ area ∷ []

-- the first of the boxes left is handed, and its number is its place among the boxes handed;
-- nothing else changed
pub record IsGiven (old new : TaskState) (given : Handed) : Type 0 where
  pub boxes : old.boxes ≡ given.area ∷ new.boxes
  pub handed : new.handed ≡ old.handed ++ given.area ∷ []
  pub number : given.number ≡ length old.handed
  pub same : new ≡ record old { boxes = new.boxes; handed = new.handed }

-- the same, of two boxes left or more
pub record IsHanded (old new : TaskState) (handed : Handed) : Type 0 where
  pub two : 2 ≤ length old.boxes
  pub given : IsGiven old new handed

-- no box was left; nothing changed
pub record IsNoneGiven (old new : TaskState) : Type 0 where
  pub none : old.boxes ≡ []
  pub same : new ≡ old

-- what giving with this answer did
abbrev pub DidGive : TaskState → TaskState → Option Handed → Type 0
DidGive old new None = IsNoneGiven old new
DidGive old new (Some given) = IsGiven old new given

-- fewer than two boxes were left; nothing changed
pub record IsNoneHanded (old new : TaskState) : Type 0 where
  pub few : length old.boxes < 2
  pub same : new ≡ old

-- what handing with this answer did
abbrev pub DidHand : TaskState → TaskState → Option Handed → Type 0
DidHand old new None = IsNoneHanded old new
DidHand old new (Some given) = IsHanded old new given

-- a box handed leaves less to search
abbrev pub HandsLess : TaskState → TaskState → Option Handed → Type 0
HandsLess old new None = Unit {0}
HandsLess old new (Some given) = measure_of new.boxes < measure_of old.boxes
