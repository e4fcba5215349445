-- The contract of a link: each byte received or sent, in one order, if the link shows them.
use Rattle.std.specs.Prelude.{◌≡◌, ℕ, ◌<◌, ◌≤◌, Bool, true, false, List, ◌++◌, length, map, take}
use Rattle.std.specs.Prelude.{Option}
use Rattle.std.specs.Option.{option_map}
use Rattle.ug_io.specs.declared.link.Said.{Said}
use Rattle.ug_io.specs.declared.link.Said.TheVariants.{Heard, Told}
use Rattle.ug_io.specs.declared.link.Got.{Got}
use Rattle.ug_io.specs.declared.link.Got.TheVariants.{Bytes, Nothing, End}

-- a link as it is seen: the bytes received and sent, in order, if it shows them; whether it has
-- ended; and the number of failed calls
pub record LinkSeen : Type 0 where
  pub said : Option (List Said)
  pub ended : Bool
  pub faults : ℕ

-- these bytes were received
abbrev pub heard : List ℕ → List Said
heard bytes = map Heard bytes

-- these bytes were sent
abbrev pub told : List ℕ → List Said
told bytes = map Told bytes

-- this was said next
abbrev pub Adds : Option (List Said) → Option (List Said) → List Said → Type 0
Adds old new more = new ≡ option_map (λ said. said ++ more) old

-- nothing was said, and it has ended or not as before
pub record IsSilent (old new : LinkSeen) : Type 0 where
  pub said : new.said ≡ old.said
  pub ended : new.ended ≡ old.ended

-- `n` bytes were received, which are a prefix of the buffer
pub record HasHeard (old new : LinkSeen) (buffer : List ℕ) (n : ℕ) : Type 0 where
  pub some : 0 < n
  pub within : n ≤ length buffer
  pub said : Adds old.said new.said (heard (take n buffer))
  pub ended : new.ended ≡ old.ended

-- the link has ended, and nothing was said
pub record IsAtEnd (old new : LinkSeen) : Type 0 where
  pub said : new.said ≡ old.said
  pub ended : new.ended ≡ true

-- the result of a read: nothing is received only if it did not wait
abbrev pub HasRead : Bool → LinkSeen → LinkSeen → List ℕ → Got → Type 0
HasRead wait old new buffer (Bytes n) = HasHeard old new buffer n
HasRead wait old new buffer Nothing = (wait ≡ false) × IsSilent old new
HasRead wait old new buffer End = IsAtEnd old new

-- the first `n` of the bytes were sent, at least one if there is one
pub record HasTold (old new : LinkSeen) (bytes : List ℕ) (n : ℕ) : Type 0 where
  pub some : 0 < length bytes → 0 < n
  pub within : n ≤ length bytes
  pub said : Adds old.said new.said (told (take n bytes))
  pub ended : new.ended ≡ old.ended
