-- The scale of a row is the least that makes its numbers whole.
use Rattle.std.proofs.Common.{ℕ, ◌≤◌, ◌↔◌, List, [], ◌∷◌, All, IfSome, Option, Some, None, arith}
use Rattle.std.proofs.lemmas.List.Elements.{All-nil, All-cons, All-head, All-tail}
use Rattle.ug_problem.specs.declared.decimal.Decimal.{Decimal}
use Rattle.ug_problem.specs.Decimals.{IsDecimal}
use Rattle.ug_problem.specs.Fractions.{places_of, scaled}
use Rattle.ug_problem.proofs.Bounds.{scaled_is_exact, whole_from_places}
use Rattle.ug_drafts.specs.declared.row.Factor.{Factor}
use Rattle.ug_drafts.specs.Scales.{AreDecimals, IsWhole, AreWhole}
use Rattle.ug_drafts.specs.RowNumbers.{Numbers, places_if, most_places, scale_of}

-- ---- enough

whole : (s : ℕ) (d : Decimal) → places_of d ≤ s → IsWhole s d
whole s d h = (scaled s d, scaled_is_exact s d h)

factors_whole : (s : ℕ) (fs : List Factor) → most_places fs ≤ s → All (λ (f : Factor). IsWhole s f.number) fs
factors_whole s [] h = All-nil (λ (f : Factor). IsWhole s f.number)
factors_whole s (f ∷ fs) h = All-cons (λ (f : Factor). IsWhole s f.number) f fs (whole s f.number (omega arith)) (factors_whole s fs (omega arith))

range_whole : (s : ℕ) (o : Option Decimal) → places_if o ≤ s → IfSome o (IsWhole s)
range_whole s None h = tt
range_whole s (Some d) h = whole s d h

-- ---- no less

factors_places : (s : ℕ) (fs : List Factor) → All (λ (f : Factor). IsDecimal f.number) fs → All (λ (f : Factor). IsWhole s f.number) fs → most_places fs ≤ s
factors_places s [] d w = omega arith
factors_places s (f ∷ fs) d w =
    let is = All-head (λ (f : Factor). IsWhole s f.number) f fs w in
    let first : places_of f.number ≤ s = whole_from_places s f.number is.0 (All-head (λ (f : Factor). IsDecimal f.number) f fs d) is.1 in
    let rest : most_places fs ≤ s = factors_places s fs (All-tail (λ (f : Factor). IsDecimal f.number) f fs d) (All-tail (λ (f : Factor). IsWhole s f.number) f fs w) in
    omega (arith, first, rest)

range_places : (s : ℕ) (o : Option Decimal) → IfSome o IsDecimal → IfSome o (IsWhole s) → places_if o ≤ s
range_places s None d w = omega arith
range_places s (Some z) d w = whole_from_places s z w.0 d w.1

pub least_scale : (s : ℕ) (n : Numbers) → AreDecimals n → ((scale_of n ≤ s) ↔ AreWhole s n)
least_scale s n d = (
  λ h. record {
    terms = factors_whole s n.terms (omega arith);
    side = whole s n.side (omega arith);
    range = range_whole s n.range (omega arith);
  },
  λ w.
      let terms : most_places n.terms ≤ s = factors_places s n.terms d.terms w.terms in
      let side : places_of n.side ≤ s = whole_from_places s n.side w.side.0 d.side w.side.1 in
      let range : places_if n.range ≤ s = range_places s n.range d.range w.range in
      omega (arith, terms, side, range),
)
