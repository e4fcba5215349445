-- What amounts set is within the limit.
use Rattle.std.proofs.Common.{ℤ, ◌^◌, Bool, false, Option, Some, None, nat_le, unsigned_abs, ⊎_elim}
use Rattle.std.specs.Prelude.{option_and_then}
use Rattle.std.specs.Option.{option_map}
use Rattle.std.proofs.lemmas.Bool.{cases_Bool, leb-true}
use Rattle.ug_problem.specs.Fractions.{floor_of, ceiling_of}
use Rattle.ug_drafts.specs.declared.bound.Bound.{Bound}
use Rattle.ug_drafts.specs.declared.bound.Amount.{Amount}
use Rattle.ug_drafts.specs.declared.bound.Amount.TheVariants as amounts
use Rattle.ug_drafts.specs.Bounds.{finite, upper_bound, lower_bound, sets, sets_both, IsSmall, IsBoundChange}

-- a statement about a value, if there is one
abbrev pub If : {A : Type 0} → (A → Type 0) → Option A → Type 0
If P None = Unit {0}
If P (Some x) = P x

pub finite_small : (z : ℤ) → If IsSmall (finite z)
finite_small z = ⊎_elim
    (λ t. rw t (leb-true (unsigned_abs z) (10 ^ 9) t))
    (λ f. rw f tt)
    (cases_Bool (nat_le (unsigned_abs z) (10 ^ 9)))

pub upper_small : (a : Amount) → If IsSmall (upper_bound a)
upper_small amounts.BelowAll = tt
upper_small amounts.AboveAll = tt
upper_small (amounts.Number d) = finite_small (floor_of d)

pub lower_small : (a : Amount) → If IsSmall (lower_bound a)
lower_small amounts.BelowAll = tt
lower_small amounts.AboveAll = tt
lower_small (amounts.Number d) = finite_small (ceiling_of d)

pub sets_high : (o : Option Bound) (f i : Bool) → If IsSmall o → If IsBoundChange (option_map (λ b. sets None (Some b) f i) o)
sets_high None f i h = tt
sets_high (Some b) f i h = record { low = tt; high = h }

pub sets_low : (o : Option Bound) (f i : Bool) → If IsSmall o → If IsBoundChange (option_map (λ b. sets (Some b) None f i) o)
sets_low None f i h = tt
sets_low (Some b) f i h = record { low = h; high = tt }

both_small : (o p : Option Bound) → If IsSmall o → If IsSmall p → If IsBoundChange (option_and_then (λ low. option_map (λ high. sets (Some low) (Some high) false false) p) o)
both_small None p h k = tt
both_small (Some b) None h k = tt
both_small (Some b) (Some c) h k = record { low = h; high = k }

pub sets_both_small : (a : Amount) → If IsBoundChange (sets_both a)
sets_both_small amounts.BelowAll = tt
sets_both_small amounts.AboveAll = tt
sets_both_small (amounts.Number d) = both_small (finite (ceiling_of d)) (finite (floor_of d)) (finite_small (ceiling_of d)) (finite_small (floor_of d))
