-- Bytes that go over a link in several calls.
use Rattle.std.specs.Prelude.{◌≡◌, List, ℕ, ◌++◌}
use Rattle.ug_io.specs.Links.{Adds, LinkSeen, told}

-- all the bytes were sent
pub record HasToldAll (old new : LinkSeen) (bytes : List ℕ) : Type 0 where
  pub said : Adds old.said new.said (told bytes)
  pub ended : new.ended ≡ old.ended

-- a prefix of the bytes was sent
pub record HasToldFront (old new : LinkSeen) (bytes : List ℕ) : Type 0 where
  pub front : List ℕ
  pub rest : List ℕ
  pub parts : bytes ≡ front ++ rest
  pub told : HasToldAll old new front
