use Rattle.std.proofs.Common.{◌≡◌, ◌<◌, ◌⊎◌, ℕ, slice_index}
use Rattle.ug_disk.specs.Slots.{IsLoose}
use Rattle.ug_disk.proofs.stored.keep.Given as goal

abbrev pub invariant-loop-place : goal.invariant-loop-place
invariant-loop-place l = (k : ℕ) → k < l.place
    → IsLoose l.loose k ⊎ (slice_index l.image k ≡ slice_index l.bytes k)
