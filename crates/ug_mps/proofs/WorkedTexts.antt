-- The definitions on worked texts, by computing them.
use Rattle.std.proofs.Common.{ℕ, inl, inr, List, [], ◌∷◌, ◌++◌, Option, Some, None, refl, lit<}
use Rattle.std.specs.Prelude.{codes}
use Rattle.ug_drafts.specs.declared.fault.Kind.TheVariants.{NoEnd, Unbounded, Unknown}
use Rattle.ug_drafts.specs.FirstFaults.{fault_at}
use Rattle.ug_mps.specs.BoundWords.{numbered_change}
use Rattle.ug_mps.specs.Entries.{Entry}
use Rattle.ug_mps.specs.Says.{history}
use Rattle.ug_mps.specs.Reads.{lines_before, Reads, FirstFault}
use Rattle.ug_mps.specs.Examples.{knapsack, knapsack_rows, text_of, fractions_text, fractions, falling_text, falling, unknown_text}

-- what a history is, where there is one
abbrev said_of : Option (List Entry) → List Entry
said_of None = []
said_of (Some h) = h

-- what the first k lines say
abbrev said : List ℕ → ℕ → List Entry
said text k = said_of (history (lines_before text k))

pub empty : FirstFault [] None (fault_at 0 NoEnd None)
empty = inr (inl ([], record { all = record { there = lit< tt; said = refl }; open_ = refl }, refl))

abbrev whole_text : List ℕ
whole_text = text_of (knapsack_rows ++ codes " UP D C 10" ∷ codes "ENDATA" ∷ [])

pub whole : Reads whole_text None knapsack
unfolding numbered_change
whole = (24, said whole_text 23, record { there = lit< tt; said = refl }, refl, refl)

abbrev endless_text : List ℕ
endless_text = text_of (knapsack_rows ++ codes " UP D C 10" ∷ [])

pub endless : FirstFault endless_text None (fault_at 23 NoEnd None)
unfolding numbered_change
endless = inr (inl (said endless_text 23, record { all = record { there = lit< tt; said = refl }; open_ = refl }, refl))

abbrev unbounded_text : List ℕ
unbounded_text = text_of (knapsack_rows ++ codes "ENDATA" ∷ [])

pub unbounded : FirstFault unbounded_text None (fault_at 14 Unbounded (Some (codes "C")))
unfolding numbered_change
unbounded = inr (inr (23, said unbounded_text 22, record { there = lit< tt; said = refl }, refl))

pub scaled : Reads fractions_text None fractions
unfolding numbered_change
scaled = (13, said fractions_text 12, record { there = lit< tt; said = refl }, refl, refl)

pub fallen : FirstFault falling_text None (fault_at 5 Unbounded (Some (codes "X")))
unfolding numbered_change
fallen = inr (inr (8, said falling_text 7, record { there = lit< tt; said = refl }, refl))

pub in_box : Reads falling_text (Some 50) falling
unfolding numbered_change
in_box = (8, said falling_text 7, record { there = lit< tt; said = refl }, refl, refl)

pub unknown_first : FirstFault unknown_text None (fault_at 5 Unknown (Some (codes "Q")))
unknown_first = inl (
  4,
  said unknown_text 4,
  record { kind = Unknown; word = Some (codes "Q") },
  record { there = lit< tt; before = record { there = lit< tt; said = refl }; open_ = refl; fault = refl },
  refl,
)
