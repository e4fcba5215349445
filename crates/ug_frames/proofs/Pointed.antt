-- Points, read as they are spelled.
use Rattle.std.proofs.Common.{ℤ, zero, suc, ◌^◌, ◌<◌, ◌≤◌, List, [], ◌∷◌, ◌++◌, length, refl, arith}
use Rattle.std.specs.List.{flat_map, All}
use Rattle.ug_fields.specs.Reading.{bound_at}
use Rattle.ug_fields.specs.Readers.{IsReader}
use Rattle.ug_fields.specs.Spelling.{count_field, bound_field}
use Rattle.ug_fields.proofs.Takes.{reworded}
use Rattle.ug_fields.proofs.Simple.{bound_reader}
use Rattle.ug_fields.proofs.Counted.{counted}
use Rattle.ug_fields.proofs.Parts.{head_of, tail_of}
use Rattle.ug_fields.proofs.Runs.{Chain}
use Rattle.ug_frames.specs.Ranges.{IsColumnValue, IsPoint}
use Rattle.ug_frames.specs.Spelling.{point_fields}
use Rattle.ug_frames.specs.Reading.{point_at}

abbrev same : Unit {0} → ℤ → Unit {0}
same state value = state

abbrev IsSmall : Unit {0} → ℤ → Type 0
IsSmall state value = IsColumnValue value

each_small : (x : List ℤ) → Chain IsSmall same tt x → All IsColumnValue x
unfolding Chain
each_small [] c k d here = absurd (omega (arith, here))
each_small (v ∷ x) c zero d here = c.0
each_small (v ∷ x) c (suc k) d here = each_small x c.1 k d (omega (arith, here))

chain_of : (x : List ℤ) → All IsColumnValue x → Chain IsSmall same tt x
unfolding Chain
chain_of [] all = tt
chain_of (v ∷ x) all = (
  head_of IsColumnValue v x all,
  chain_of x (tail_of IsColumnValue v x all),
)

pub point_reader : IsReader IsPoint point_fields point_at
unfolding point_at point_fields
point_reader =
    reworded (λ (x : List ℤ). ((length x ≤ 10 ^ 4) × (length x < 2 ^ 32))
    × Chain IsSmall same tt x)
    (λ x. count_field (length x) ++ flat_map bound_field x) IsPoint
    (λ x. count_field (length x) ++ flat_map bound_field x) _
    (λ x good. refl) (λ x good. record { few = good.0.0; small = each_small x good.1 })
    (λ x is. ((is.few, omega (arith, is.few)), chain_of x is.small))
    (counted (10 ^ 4) (λ (state : Unit {0}). bound_at) same IsSmall bound_field
    (λ state. bound_reader) tt)
