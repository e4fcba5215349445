-- Fields read from the front of bytes, each with what is left behind it.
use Rattle.std.specs.Prelude.{ℕ, ℤ, pos, zero, suc, ◌^◌, ◌&&◌, List, [], ◌∷◌, length, take, drop}
use Rattle.std.specs.Prelude.{Option, Some, None, Result, Ok, Err, nat_lt, nat_le, int_le}
use Rattle.std.specs.Prelude.{if◌then◌else◌, unsigned_abs, ◌≡◌}
use Rattle.std.specs.List.{list_all}
use Rattle.std.specs.Int.{w32, w64, w128, from_be_bytes, cast_signed}
use Rattle.ug_lines.specs.Words.{is_word_byte}
use Rattle.ug_fields.specs.declared.fault.Fault.{Fault}
use Rattle.ug_fields.specs.declared.fault.Fault.TheVariants as fault

-- a reading: a value and the bytes behind it, or how many bytes are left from the bad field on
abbrev pub Reading : Type 0 → Type 0
Reading A = Result (A × List ℕ) ℕ

infixl 10 ◌>>=◌
abbrev pub ◌>>=◌ : {A B : Type 0} → Result A ℕ → (A → Result B ℕ) → Result B ℕ
(Ok x) >>= f = f x
(Err left) >>= f = Err left

-- what a function returned, seen by view, is what reading gives, unless memory ran out
abbrev pub Fails : {Y : Type 0} → Fault → Result Y ℕ → Type 0
Fails fault.Memory read = Unit {0}
Fails (fault.Bad left) read = read ≡ Err left

abbrev pub Gives : {X Y : Type 0} → (X → Y) → Result X Fault → Result Y ℕ → Type 0
Gives view (Ok x) read = read ≡ Ok (view x)
Gives view (Err e) read = Fails e read

-- a byte from one value to another
unfoldable pub small_at : ℕ → ℕ → List ℕ → Reading ℕ
small_at least most [] = Err 0
small_at least most (b ∷ rest) =
    if nat_le least b && nat_le b most then Ok (b, rest) else Err (length (b ∷ rest))

-- a count of at most this many, in four bytes
unfoldable pub count_at : ℕ → List ℕ → Reading ℕ
count_at most bytes =
    if nat_lt (length bytes) 4 then Err (length bytes)
    else (
    if nat_le (from_be_bytes w32 (take 4 bytes)) most
    then Ok (from_be_bytes w32 (take 4 bytes), drop 4 bytes)
    else Err (length bytes)
    )

-- any number of four bytes
unfoldable pub unsigned_at : List ℕ → Reading ℕ
unsigned_at bytes =
    if nat_lt (length bytes) 4 then Err (length bytes)
    else Ok (from_be_bytes w32 (take 4 bytes), drop 4 bytes)

-- any signed number of four bytes
unfoldable pub signed_at : List ℕ → Reading ℤ
signed_at bytes = do
  n ← unsigned_at bytes
  Ok (cast_signed w32 n.0, n.1)

-- a bound: a signed number of four bytes, of at most 10^9
unfoldable pub bound_at : List ℕ → Reading ℤ
bound_at bytes =
    if nat_lt (length bytes) 4 then Err (length bytes)
    else (
    if nat_le (unsigned_abs (cast_signed w32 (from_be_bytes w32 (take 4 bytes)))) (10 ^ 9)
    then Ok (cast_signed w32 (from_be_bytes w32 (take 4 bytes)), drop 4 bytes)
    else Err (length bytes)
    )

-- a number of at least this, in eight bytes
unfoldable pub long_at : ℕ → List ℕ → Reading ℕ
long_at least bytes =
    if nat_lt (length bytes) 8 then Err (length bytes)
    else (
    if nat_le least (from_be_bytes w64 (take 8 bytes))
    then Ok (from_be_bytes w64 (take 8 bytes), drop 8 bytes)
    else Err (length bytes)
    )

-- the number of sixteen bytes
unfoldable pub number_of : List ℕ → ℤ
number_of bytes = cast_signed w128 (from_be_bytes w128 bytes)

-- a signed number of at most so much, in sixteen bytes
unfoldable pub number_at : ℕ → List ℕ → Reading ℤ
number_at most bytes =
    if nat_lt (length bytes) 16 then Err (length bytes)
    else (
    if nat_le (unsigned_abs (number_of (take 16 bytes))) most
    then Ok (number_of (take 16 bytes), drop 16 bytes)
    else Err (length bytes)
    )

-- a number from 0 to so much, in sixteen bytes
unfoldable pub amount_at : ℕ → List ℕ → Reading ℤ
amount_at most bytes = do
  number ← number_at most bytes
  if int_le (pos 0) number.0 then Ok number else Err (length bytes)

-- this many bytes of a word
unfoldable pub word_at : ℕ → List ℕ → Reading (List ℕ)
word_at n bytes =
    if nat_lt (length bytes) n then Err (length bytes)
    else (
    if list_all is_word_byte (take n bytes) then Ok (take n bytes, drop n bytes)
    else Err (length bytes)
    )

-- a name: its length, and this many bytes of a word
unfoldable pub name_at : List ℕ → Reading (List ℕ)
name_at bytes = do
  n ← small_at 1 255 bytes
  word_at n.0 n.1

-- a value, where the flag ahead of it says that there is one
unfoldable pub flagged_if : {X : Type 0} → (List ℕ → Reading X) → ℕ → List ℕ → Reading (Option X)
flagged_if read zero bytes = Ok (None, bytes)
flagged_if read (suc n) bytes = do
  value ← read bytes
  Ok (Some value.0, value.1)

-- a value or none: a flag, and the value where there is one
unfoldable pub flagged_at : {X : Type 0} → (List ℕ → Reading X) → List ℕ → Reading (Option X)
flagged_at read bytes = do
  flag ← small_at 0 1 bytes
  flagged_if read flag.0 flag.1

-- a number of at most so much, or none
abbrev pub optional_at : ℕ → List ℕ → Reading (Option ℤ)
optional_at most bytes = flagged_at (number_at most) bytes

-- this many values, one after the other, each read by what stands after the one before it, and what
-- stands then
unfoldable pub many_at : {S X : Type 0} → (S → List ℕ → Reading X) → (S → X → S) → ℕ → S → List ℕ
    → Reading (List X × S)
many_at next after zero state bytes = Ok (([], state), bytes)
many_at next after (suc n) state bytes = do
  first ← next state bytes
  others ← many_at next after n (after state first.0) first.1
  Ok ((first.0 ∷ others.0.0, others.0.1), others.1)
