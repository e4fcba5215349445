-- What a decoder finds behind a frame's length, and what it says of what it read there.
use Rattle.std.specs.Prelude.{◌≡◌, ℕ, ◌≤◌, List, length, take, drop, Result, Ok, Err}
use Rattle.std.specs.Prelude.{alloc_error}
use Rattle.std.specs.declared.alloc.AllocError.{AllocError}
use Rattle.ug_fields.specs.declared.fault.Fault.{Fault}
use Rattle.ug_fields.specs.declared.fault.Fault.TheVariants as fault
use Rattle.ug_frames.specs.declared.front.Front.{Front}
use Rattle.ug_frames.specs.declared.front.Front.TheVariants.{CutShort, Bad, There}
use Rattle.ug_frames.specs.declared.decoded.Decoded.{Decoded}
use Rattle.ug_frames.specs.declared.decoded.Decoded.TheVariants as decoded
use Rattle.ug_frames.specs.Fronts.{length_told, IsLength, IsCutShort, IsThere}

-- what follows the length of the frame at the front
abbrev pub IsFront : List ℕ → Front → Type 0
IsFront bytes CutShort = IsCutShort bytes
IsFront bytes Bad = (4 ≤ length bytes) × ¬ IsLength (length_told bytes)
IsFront bytes (There frame) =
    IsThere bytes × (frame.now ≡ take (length_told bytes) (drop 4 bytes))

-- the result for a frame of this many bytes, by what was read of it
abbrev pub whole_of : {M : Type 0} → Result M Fault → ℕ → Result (Decoded M) AllocError
whole_of (Ok message) used = Ok (decoded.Whole message used)
whole_of (Err fault.Memory) used = Err alloc_error
whole_of (Err (fault.Bad left)) used = Ok decoded.Bad
