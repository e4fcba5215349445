-- What bounds set is within the limit.
use Rattle.std.proofs.Common.{◌≡◌, true, false, Option, Some, None, subst, arith}
use Rattle.ug_lines.specs.declared.kinds.BoundKind.{BoundKind}
use Rattle.ug_lines.specs.declared.kinds.BoundKind.TheVariants.{Upper, Lower, Fixed, IntegerLower, IntegerUpper, Free, MinusInfinity, PlusInfinity, Binary}
use Rattle.ug_drafts.specs.declared.bound.Amount.{Amount}
use Rattle.ug_drafts.specs.declared.bound.BoundChange.{BoundChange}
use Rattle.ug_drafts.specs.Bounds.{is_negative, upper_bound, lower_bound, IsBoundChange}
use Rattle.ug_drafts.proofs.BoundsLemmas.{If, upper_small, lower_small, sets_high, sets_low, sets_both_small}
use Rattle.ug_mps.specs.BoundWords.{bare_change, change_of, numbered_change}

change_small : (kind : BoundKind) (a : Option Amount) → If IsBoundChange (change_of kind a)
unfolding bare_change numbered_change
change_small Upper (Some a) = sets_high (upper_bound a) (is_negative a) false (upper_small a)
change_small IntegerUpper (Some a) = sets_high (upper_bound a) (is_negative a) true (upper_small a)
change_small Lower (Some a) = sets_low (lower_bound a) false false (lower_small a)
change_small IntegerLower (Some a) = sets_low (lower_bound a) false true (lower_small a)
change_small Fixed (Some a) = sets_both_small a
change_small Free (Some a) = tt
change_small MinusInfinity (Some a) = tt
change_small PlusInfinity (Some a) = tt
change_small Binary (Some a) = tt
change_small Upper None = tt
change_small IntegerUpper None = tt
change_small Lower None = tt
change_small IntegerLower None = tt
change_small Fixed None = tt
change_small Free None = record { low = tt; high = tt }
change_small MinusInfinity None = record { low = tt; high = tt }
change_small PlusInfinity None = record { low = tt; high = tt }
change_small Binary None = record { low = omega arith; high = omega arith }

pub small_of : (kind : BoundKind) (a : Option Amount) (c : BoundChange) → change_of kind a ≡ Some c → IsBoundChange c
small_of kind a c e = subst (λ o. If IsBoundChange o) e (change_small kind a)
