-- The numbers of a row times a power of ten.
use Rattle.std.specs.Prelude.{ℕ, ℤ, All, IfSome}
use Rattle.ug_problem.specs.declared.decimal.Decimal.{Decimal}
use Rattle.ug_problem.specs.Decimals.{IsDecimal}
use Rattle.ug_problem.specs.Fractions.{IsScaled}
use Rattle.ug_drafts.specs.declared.row.Factor.{Factor}
use Rattle.ug_drafts.specs.RowNumbers.{Numbers}

-- the numbers of the row are exact decimals
pub record AreDecimals (n : Numbers) : Type 0 where
  pub terms : All (λ (f : Factor). IsDecimal f.number) n.terms
  pub side : IsDecimal n.side
  pub range : IfSome n.range IsDecimal

-- the number times 10^s is whole
abbrev pub IsWhole : ℕ → Decimal → Type 0
IsWhole s d = (z : ℤ) × IsScaled s d z

-- all numbers of the row times 10^s are whole
pub record AreWhole (s : ℕ) (n : Numbers) : Type 0 where
  pub terms : All (λ (f : Factor). IsWhole s f.number) n.terms
  pub side : IsWhole s n.side
  pub range : IfSome n.range (IsWhole s)
