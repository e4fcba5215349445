-- What a reader of a field is to the field's spelling.
use Rattle.std.specs.Prelude.{◌≡◌, ℕ, ◌<◌, ◌≤◌, List, ◌++◌, length, get_or, Ok, Err}
use Rattle.ug_fields.specs.Reading.{Reading}

-- each is a byte
abbrev pub IsBytes : List ℕ → Type 0
IsBytes bytes = (i : ℕ) → get_or bytes i 0 < 256

-- the spelling is the front of the bytes, and the rest follows it
pub record Takes (bytes text rest : List ℕ) : Type 0 where
  pub parts : bytes ≡ text ++ rest
  pub rest_fits : IsBytes rest

-- the reader gives good values alone, whose spelling it took; it reads each good value's spelling;
-- and where it fails, no more is left than there was
pub record IsReader {X : Type 0} (Good : X → Type 0) (field : X → List ℕ)
    (read : List ℕ → Reading X) : Type 0 where
  pub taken : (bytes : List ℕ) (x : X) (rest : List ℕ) → IsBytes bytes → read bytes ≡ Ok (x, rest)
      → Takes bytes (field x) rest × Good x
  pub again : (x : X) (rest : List ℕ) → Good x → read (field x ++ rest) ≡ Ok (x, rest)
  pub within : (bytes : List ℕ) (left : ℕ) → IsBytes bytes → read bytes ≡ Err left
      → left ≤ length bytes
