-- What of a body is not given yet.
use Rattle.std.specs.Prelude.{ℕ, ◌-◌, List, ◌++◌, drop}
use Rattle.std.specs.Int.{w64, to_be_bytes}
use Rattle.ug_checkpoint.specs.declared.body.Body.{Body}

-- the rest of the image's length, and the rest of the image
abbrev pub rest_of : Body → List ℕ
rest_of body = drop (8 - body.left) (to_be_bytes w64 body.count) ++ body.blocks
