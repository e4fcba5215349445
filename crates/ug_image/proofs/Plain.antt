-- The fields of an image that not every version has, each read as it is spelled.
use Rattle.std.proofs.Common.{◌≡◌, ℕ, ℤ, pos, negsuc, ◌*◌, ◌^◌, ◌<◌, ◌≤◌, Bool, true, false, ltb, [], Ok, refl, arith, unsigned_abs}
use Rattle.std.specs.Prelude.{◌≤ℤ◌, FitsSigned, if◌then◌else◌}
use Rattle.std.specs.Int.{w128}
use Rattle.std.proofs.lemmas.Bool.{ltb-false, ltb-true}
use Rattle.std.proofs.lemmas.Int.{ints, fits_signed_from_abs}
use Rattle.ug_problem.specs.Better.{IsGap}
use Rattle.ug_fields.specs.Reading.{long_at, amount_at}
use Rattle.ug_fields.specs.Readers.{IsReader}
use Rattle.ug_fields.specs.Spelling.{long_field, number_field}
use Rattle.ug_fields.proofs.Takes.{made, reworded}
use Rattle.ug_fields.proofs.Tests.{le_tells}
use Rattle.ug_fields.proofs.Simple.{long_reader, amount_reader}
use Rattle.ug_image.specs.Spelling.{heard_field, gap_field}
use Rattle.ug_image.specs.Reading.{heard_at, gap_at}

abbrev pub IsNone : ℕ → ℕ → Type 0
IsNone version n = (n < 2 ^ 64) × (version ≤ 1 → n ≡ 0)

heard_by : (version : ℕ) (there : Bool) → ltb 1 version ≡ there
    → IsReader (IsNone version) (λ n. if there then long_field n else [])
    (λ bytes. if there then long_at 0 bytes else Ok (0, bytes))
heard_by version true e =
    let above = ltb-true _ _ e in
    reworded (λ n. (0 ≤ n) × (n < 2 ^ 64)) long_field (IsNone version) long_field (long_at 0)
    (λ n good. refl) (λ n good. (good.1, λ low. absurd (omega (arith, above, low))))
    (λ n is. (omega arith, is.0)) (long_reader 0)
heard_by version false e =
    let low = ltb-false _ _ e in
    made (IsNone version) 0 (omega arith, λ l. refl) (λ n is. is.1 (omega (arith, low)))

pub heard_reader : (version : ℕ) → IsReader (IsNone version) (heard_field version)
    (heard_at version)
unfolding heard_at heard_field
heard_reader version = heard_by version (ltb 1 version) refl

gap_small : (z : ℤ) → IsGap z → unsigned_abs z ≤ 4 * 10 ^ 37
gap_small (pos n) is = grind (arith, ints, is.high)
gap_small (negsuc n) is = absurd (grind (arith, ints, is.low))

pub gap_fits : (z : ℤ) → IsGap z → FitsSigned w128 z
gap_fits z is = fits_signed_from_abs w128 z (omega (arith, gap_small z is))

is_gap : (z : ℤ) → unsigned_abs z ≤ 4 * 10 ^ 37 → pos 0 ≤ℤ z → IsGap z
is_gap (pos n) small low = record { low = low; high = grind (arith, ints, small) }
is_gap (negsuc n) small low = absurd (grind (arith, ints, low))

amount_is_gap : IsReader IsGap number_field (amount_at (4 * 10 ^ 37))
amount_is_gap =
    reworded (λ z. (unsigned_abs z ≤ 4 * 10 ^ 37) × (pos 0 ≤ℤ z)) number_field IsGap number_field _
    (λ z good. refl) (λ z good. is_gap z good.0 good.1) (λ z is. (gap_small z is, is.low))
    (amount_reader (4 * 10 ^ 37) (omega arith))

abbrev pub IsGapOf : ℕ → ℤ → Type 0
IsGapOf version z = IsGap z × (version ≤ 2 → z ≡ pos 0)

no_gap : IsGap (pos 0)
no_gap = record { low = le_tells _ _ refl; high = le_tells _ _ refl }

gap_by : (version : ℕ) (there : Bool) → ltb 2 version ≡ there
    → IsReader (IsGapOf version) (λ z. if there then number_field z else [])
    (λ bytes. if there then amount_at (4 * 10 ^ 37) bytes else Ok (pos 0, bytes))
gap_by version true e =
    let above = ltb-true _ _ e in
    reworded IsGap number_field (IsGapOf version) number_field (amount_at (4 * 10 ^ 37))
    (λ z good. refl) (λ z good. (good, λ low. absurd (omega (arith, above, low))))
    (λ z is. is.0) amount_is_gap
gap_by version false e =
    let low = ltb-false _ _ e in
    made (IsGapOf version) (pos 0) (no_gap, λ l. refl) (λ z is. is.1 (omega (arith, low)))

pub gap_reader : (version : ℕ) → IsReader (IsGapOf version) (gap_field version) (gap_at version)
unfolding gap_at gap_field
gap_reader version = gap_by version (ltb 2 version) refl
