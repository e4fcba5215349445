-- Being at most another is an order on whole numbers.
use Rattle.std.proofs.Common.{ℤ, ◌≤ℤ◌, arith}
use Rattle.std.proofs.lemmas.Int.{ints}

pub at_most_itself : (a : ℤ) → a ≤ℤ a
at_most_itself a = omega (arith, ints)

pub at_most_trans : (a b c : ℤ) → a ≤ℤ b → b ≤ℤ c → a ≤ℤ c
at_most_trans a b c h k = omega (arith, ints)
