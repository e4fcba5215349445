-- A slot of a disk: what a read of it gives, and what a crash may leave of it.
use Rattle.std.specs.Prelude.{◌≡◌, ◌⊎◌, ℕ, ◌+◌, ◌<◌, ◌≤◌, max, List, [], ◌∷◌, ◌++◌, length, take}
use Rattle.std.specs.Prelude.{drop, slice_index}
use Rattle.std.specs.List.{Any}
use Rattle.ug_disk.specs.declared.slot.Span.{Span}

-- What a slot has: the bytes that a read gives, the least and the greatest length that a crash may
-- leave, and the places that were written since the last sync.
pub record SlotState : Type 0 where
  pub bytes : List ℕ
  pub shortest : ℕ
  pub longest : ℕ
  pub loose : List Span

-- the place lies in one of these
abbrev pub IsLoose : List Span → ℕ → Type 0
IsLoose spans place = Any (λ span. (span.from ≤ place) × (place < span.end)) spans

-- A crash may leave this image of the slot: its length is in between, and of the bytes at the last
-- sync each that was not written since is there.
pub record MayLeave (slot : SlotState) (image : List ℕ) : Type 0 where
  pub no_shorter : slot.shortest ≤ length image
  pub no_longer : length image ≤ slot.longest
  pub kept : (place : ℕ) → place < slot.shortest
      → IsLoose slot.loose place ⊎ (slice_index image place ≡ slice_index slot.bytes place)

-- what a read gives is one of the images that a crash may leave
abbrev pub IsReal : SlotState → Type 0
IsReal slot = MayLeave slot slot.bytes

-- the slot after a sync that succeeded: a crash leaves what a read gives
abbrev pub synced : List ℕ → SlotState
synced bytes =
    record { bytes = bytes; shortest = length bytes; longest = length bytes; loose = [] }

-- the slot where n bytes are being written at a place, or their write failed
abbrev pub loosened : ℕ → ℕ → SlotState → SlotState
loosened at n slot = record slot {
  longest = max slot.longest (at + n);
  loose = slot.loose ++ record { from = at; end = at + n } ∷ [];
}

-- the bytes with others in their place, or behind their end
abbrev pub put_at : ℕ → List ℕ → List ℕ → List ℕ
put_at at piece bytes = take at bytes ++ piece ++ drop (at + length piece) bytes

-- the slot after a write that succeeded
abbrev pub written : ℕ → List ℕ → SlotState → SlotState
written at piece slot =
    record (loosened at (length piece) slot) { bytes = put_at at piece slot.bytes }
