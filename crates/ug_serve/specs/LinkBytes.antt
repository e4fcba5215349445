-- The bytes that went over a link.
use Rattle.std.specs.Prelude.{ℕ, List, [], ◌∷◌}
use Rattle.ug_io.specs.declared.link.Said.{Said}
use Rattle.ug_io.specs.declared.link.Said.TheVariants.{Heard, Told}

-- the bytes that were received, in order
abbrev pub heard_in : List Said → List ℕ
heard_in [] = []
heard_in (Heard byte ∷ said) = byte ∷ heard_in said
heard_in (Told byte ∷ said) = heard_in said

-- the bytes that were sent, in order
abbrev pub told_in : List Said → List ℕ
told_in [] = []
told_in (Heard byte ∷ said) = told_in said
told_in (Told byte ∷ said) = byte ∷ told_in said
