-- A value that was read is one of four bytes.
use Rattle.std.proofs.Common.{◌≡◌, ℕ, ℤ, ◌^◌, ltb, leb, List, length, take, drop, Ok, ap, arith, unsigned_abs, FitsSigned}
use Rattle.std.specs.Int.{from_be_bytes, cast_signed, w32}
use Rattle.std.proofs.lemmas.Bool.{leb-true}
use Rattle.std.proofs.lemmas.Int.{fits_signed_from_abs}
use Rattle.ug_fields.specs.Reading.{bound_at}
use Rattle.ug_fields.proofs.Tests.{passed}

pub bound_fits : (bytes : List ℕ) (x : ℤ) (rest : List ℕ) → bound_at bytes ≡ Ok (x, rest)
    → FitsSigned w32 x
unfolding bound_at
bound_fits bytes x rest e =
    let value : ℤ = cast_signed w32 (from_be_bytes w32 (take 4 bytes)) in
    let g = passed (ltb (length bytes) 4) (leb (unsigned_abs value) (10 ^ 9)) (length bytes)
    (value, drop 4 bytes) (x, rest) e in
    let same : value ≡ x = λ i. (g.2 i).0 in
    fits_signed_from_abs w32 x
    (omega (arith, leb-true (unsigned_abs value) (10 ^ 9) g.1, ap unsigned_abs same))
