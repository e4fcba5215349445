-- Seats that stand by the numbers of their passes.
use Rattle.std.specs.Prelude.{◌≡◌, ℕ, ◌-◌, ◌^◌, List, Some, length, slice_get}
use Rattle.atomic_table.specs.Seated.{TableId}
use Rattle.ug_turn.specs.declared.seat.Seat.{Seat}
use Rattle.ug_turn.specs.Seats.{IsAtRestAt, IsOut, lock_of, view_of}

-- the seat is at rest at this lock, and of pass k
pub record IsPass {V O E : Type 0} (lock : TableId) (k : ℕ) (s : Seat V O E) : Type 0 where
  pub at : IsAtRestAt lock s
  pub pass : (view_of s).pass ≡ k

-- each is so, and of the pass of its place
abbrev pub ArePasses : {V O E : Type 0} → TableId → List (Seat V O E) → Type 0
ArePasses {V} {O} {E} lock seats =
    (k : ℕ) (s : Seat V O E) → slice_get seats k ≡ Some s → IsPass lock k s

-- out with the seat, which is at this lock and of pass k, is what began so and has these entries
pub record HasOut {V O E : Type 0} (lock : TableId) (k : ℕ) (s : Seat V O E) (start : O)
    (entries : List E) : Type 0 where
  pub lock_is : lock_of s ≡ lock
  pub out : IsOut s
  pub pass : (view_of s).pass ≡ k
  pub opened : (view_of s).opening ≡ Some start
  pub replayed : entries ≡ (view_of s).seen
  pub level : (view_of s).level ≡ 2 ^ 64 - 1 - length entries
