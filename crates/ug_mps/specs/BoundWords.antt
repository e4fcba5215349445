-- What the words of a bound say, and what they set.
use Rattle.std.specs.Prelude.{ℕ, pos, ◌||◌, Bool, true, false, List, Option, Some, None, codes}
use Rattle.std.specs.Prelude.{if◌then◌else◌}
use Rattle.std.specs.Option.{option_map}
use Rattle.std.specs.Float.Parse.{without_sign}
use Rattle.std.specs.Str.Parse.{starts_with_minus}
use Rattle.ug_lines.specs.declared.kinds.BoundKind.{BoundKind}
use Rattle.ug_lines.specs.declared.kinds.BoundKind.TheVariants.{Upper, Lower, Fixed, IntegerLower}
use Rattle.ug_lines.specs.declared.kinds.BoundKind.TheVariants.{IntegerUpper, Free, MinusInfinity}
use Rattle.ug_lines.specs.declared.kinds.BoundKind.TheVariants.{PlusInfinity, Binary}
use Rattle.ug_lines.specs.Kinds.{is_in_any_case}
use Rattle.ug_problem.specs.Decimals.{decimal_of}
use Rattle.ug_drafts.specs.declared.bound.Bound.TheVariants.{Infinite, Finite}
use Rattle.ug_drafts.specs.declared.bound.Amount.{Amount}
use Rattle.ug_drafts.specs.declared.bound.BoundChange.{BoundChange}
use Rattle.ug_drafts.specs.Bounds.{infinity, amount, sets, sets_upper, sets_lower, sets_both}

-- the word is inf or infinity, in any case, with or without a sign
abbrev pub is_infinite_word : List ℕ → Bool
is_infinite_word word =
    is_in_any_case (without_sign word) (codes "INF")
    || is_in_any_case (without_sign word) (codes "INFINITY")

-- the amount that a word says, if it says one
abbrev pub amount_of : List ℕ → Option Amount
amount_of word = if is_infinite_word word then Some (infinity (starts_with_minus word))
    else option_map amount (decimal_of word)

-- what a bound with a number sets; nothing where the number is too wide
unfoldable pub numbered_change : BoundKind → Amount → Option BoundChange
numbered_change Upper a = sets_upper false a
numbered_change IntegerUpper a = sets_upper true a
numbered_change Lower a = sets_lower false a
numbered_change IntegerLower a = sets_lower true a
numbered_change Fixed a = sets_both a
numbered_change _ a = None

-- what a bound without a number sets
unfoldable pub bare_change : BoundKind → Option BoundChange
bare_change Free = Some (sets (Some Infinite) (Some Infinite) false false)
bare_change MinusInfinity = Some (sets (Some Infinite) None false false)
bare_change PlusInfinity = Some (sets None (Some Infinite) false false)
bare_change Binary = Some (sets (Some (Finite (pos 0))) (Some (Finite (pos 1))) false true)
bare_change _ = None

-- what a bound sets, by its type and its amount, if it has one; nothing where that is too wide
abbrev pub change_of : BoundKind → Option Amount → Option BoundChange
change_of kind None = bare_change kind
change_of kind (Some a) = numbered_change kind a
