-- What one row does to a box.
use Rattle.std.proofs.Common.{◌≡◌, ◌≢◌, refl, sym, subst, inl, inr, ℕ, suc, ◌<◌, ℤ, pos, ◌≤ℤ◌, ◌<ℤ◌, List, [], ◌∷◌, length, Option, Some, None, IfSome, MatchOption, if◌then◌else◌, arith}
use Rattle.std.proofs.lemmas.Int.{ints}
use Rattle.ug_rows.specs.declared.area.Interval.{Interval}
use Rattle.ug_rows.specs.declared.row.Term.{Term}
use Rattle.ug_rows.specs.declared.row.Row.{Row}
use Rattle.ug_rows.specs.declared.sums.Extreme.TheVariants.{Least, Greatest}
use Rattle.ug_rows.specs.Boxes.{IsInside, IsNonEmpty}
use Rattle.ug_rows.specs.Rows.{IsAmong, IsLinear, Keeps, sum_at, term_at}
use Rattle.ug_rows.specs.Sums.{least_sum, greatest_sum}
use Rattle.ug_rows.proofs.EndBounds.{AreThere, there_from_index, end_bound}
use Rattle.ug_propagate.specs.declared.tight.Tight.{Tight}
use Rattle.ug_propagate.specs.declared.tight.Tight.TheVariants.{Kept, Empty}
use Rattle.ug_propagate.specs.declared.tight.Reason.{Reason}
use Rattle.ug_propagate.specs.declared.tight.Side.{Side}
use Rattle.ug_propagate.specs.declared.tight.Side.TheVariants.{Low, High}
use Rattle.ug_propagate.specs.Rounds.{reason_of, under_high, over_low, then_low, term_step, over_terms, exceeds, falls_short, row_step}
use Rattle.ug_propagate.specs.Claims.{Holds, IsMissed}
use Rattle.ug_propagate.proofs.Parts.{IsPart, part_same, part_trans, part_nonempty, if_lt}
use Rattle.ug_propagate.proofs.Terms.{IsCut, high_cuts, low_cuts, high_holds, low_holds}

-- these are terms of the row over `width` columns, with coefficients that are not 0
abbrev pub AreOf : ℕ → List Term → List Term → Type 0
AreOf width terms [] = Unit {0}
AreOf width terms (t ∷ rest) =
    IsAmong t terms × (t.column < width) × (t.factor ≢ pos 0) × AreOf width terms rest

-- the terms are over `width` columns, with coefficients that are not 0
pub record IsUsable (width : ℕ) (terms : List Term) : Type 0 where
  pub there : AreThere width terms
  pub each : AreOf width terms terms

of_more : (width : ℕ) (u : Term) (terms rest : List Term) → AreOf width terms rest → AreOf width (u ∷ terms) rest
of_more width u terms [] h = tt
of_more width u terms (t ∷ rest) h = (inr h.0, h.1, h.2, of_more width u terms rest h.3)

of_itself : (width : ℕ) (terms : List Term) → AreThere width terms
    → ((k : ℕ) → k < length terms → (term_at terms k).factor ≢ pos 0) → AreOf width terms terms
of_itself width [] there nonzero = tt
of_itself width (t ∷ terms) there nonzero = (
  inl refl,
  there.0,
  nonzero 0 (omega arith),
  of_more width t terms terms (of_itself width terms there.1 (λ k lt. nonzero (suc k) (omega arith))),
)

pub usable_terms : (width : ℕ) (terms : List Term) → IsLinear width terms
    → ((k : ℕ) → k < length terms → (term_at terms k).factor ≢ pos 0) → IsUsable width terms
usable_terms width terms linear nonzero =
    let there : AreThere width terms = there_from_index width terms linear.within in
    record { there = there; each = of_itself width terms there nonzero }

-- a part of the box that has each point of it that satisfies the row
pub record IsPartFor (row : Row) (inner outer : List Interval) : Type 0 where
  pub part : IsPart inner outer
  pub kept : (x : List ℤ) → Keeps row x → IsInside outer x → IsInside inner x

-- such a part of the box, over which no sum of the row satisfies the side of the reason
pub record IsMissedIn (name : Option ℕ) (row : Row) (area : List Interval) (reason : Reason) : Type 0 where
  pub named : reason.row ≡ name
  pub inner : List Interval
  pub part : IsPartFor row inner area
  pub missed : IsMissed reason.side row inner

-- such a part of the box is left, or the row shows that nothing is
abbrev pub IsPropagationOf : Option ℕ → Row → List Interval → Tight → Type 0
IsPropagationOf name row area (Kept left) = IsPartFor row left area
IsPropagationOf name row area (Empty reason) = IsMissedIn name row area reason

missed_for : (name : Option ℕ) (row : Row) (inner area : List Interval) (side : Side) (reason : Reason)
    → reason ≡ reason_of name side → IsPartFor row inner area → IsMissed side row inner → IsMissedIn name row area reason
missed_for name row inner area side reason same part missed =
    subst (IsMissedIn name row area) (sym same)
    (record { named = refl; inner = inner; part = part; missed = missed })

cut_propagation : (name : Option ℕ) (row : Row) (inner area : List Interval) (side : Side) (o : Tight)
    → IsPartFor row inner area → IsCut inner (reason_of name side) (IsMissed side row inner) o
    → ((x : List ℤ) → Keeps row x → IsInside inner x → Holds o x) → IsPropagationOf name row area o
cut_propagation name row inner area side (Kept left) part h holds = record {
  part = part_trans left inner area h part.part;
  kept = λ x keeps i. holds x keeps (part.kept x keeps i);
}
cut_propagation name row inner area side (Empty told) part h holds = missed_for name row inner area side told h.0 part h.1

-- the terms are over the columns of a part as well
there_in : (row : Row) (left area : List Interval) → IsUsable (length area) row.terms → IsPartFor row left area
    → AreThere (length left) row.terms
there_in row left area usable h =
    let P : ℕ → Type 0 = λ (w : ℕ). AreThere w row.terms in
    subst P (sym h.part.width) usable.there

then_low_propagate : (name : Option ℕ) (row : Row) (t : Term) (area : List Interval) (o : Tight)
    → IsUsable (length area) row.terms → IsAmong t row.terms → t.column < length area → t.factor ≢ pos 0
    → IsPropagationOf name row area o → IsPropagationOf name row area (then_low name row t o)
then_low_propagate name row t area (Empty reason) usable among there ne h = h
then_low_propagate name row t area (Kept left) usable among there ne h =
    let within : t.column < length left = omega (arith, h.part.width) in
    cut_propagation name row left area Low (over_low name row.terms row.low t left) h
    (low_cuts name row.terms row.low t left (part_nonempty left area h.part) within ne)
    (λ x keeps i. low_holds name row.terms row.low t left x i (there_in row left area usable h) among within ne keeps.low)

term_propagation : (name : Option ℕ) (row : Row) (t : Term) (area : List Interval) (o : Tight)
    → IsUsable (length area) row.terms → IsAmong t row.terms → t.column < length area → t.factor ≢ pos 0
    → IsPropagationOf name row area o → IsPropagationOf name row area (term_step name row t o)
term_propagation name row t area (Empty reason) usable among there ne h = h
term_propagation name row t area (Kept left) usable among there ne h =
    let within : t.column < length left = omega (arith, h.part.width) in
    then_low_propagate name row t area (under_high name row.terms row.high t left) usable among there ne
    (cut_propagation name row left area High (under_high name row.terms row.high t left) h
    (high_cuts name row.terms row.high t left (part_nonempty left area h.part) within ne)
    (λ x keeps i. high_holds name row.terms row.high t left x i (there_in row left area usable h) among within ne keeps.high))

terms_propagation : (name : Option ℕ) (row : Row) (rest : List Term) (area : List Interval) (o : Tight)
    → IsUsable (length area) row.terms → AreOf (length area) row.terms rest → IsPropagationOf name row area o
    → IsPropagationOf name row area (over_terms name row rest o)
terms_propagation name row [] area o usable of h = h
terms_propagation name row (t ∷ rest) area o usable of h =
    terms_propagation name row rest area (term_step name row t o) usable of.3
    (term_propagation name row t area o usable of.0 of.1 of.2 h)

-- the box itself is such a part
whole_part : (row : Row) (area : List Interval) → IsNonEmpty area → IsPartFor row area area
whole_part row area n = record { part = part_same area n; kept = λ x keeps i. i }

-- a choice by whether a sum is above the high side
pub if_exceeds : {A : Type 0} (P : A → Type 0) (high : Option ℤ) (sum : ℤ) (x y : A)
    → (MatchOption high ⊥ (λ h. h <ℤ sum) → P x) → (IfSome high (λ h. sum ≤ℤ h) → P y)
    → P (if exceeds high sum then x else y)
if_exceeds P None sum x y f g = g tt
if_exceeds P (Some high) sum x y f g = if_lt P high sum x y f g

pub if_falls_short : {A : Type 0} (P : A → Type 0) (low : Option ℤ) (sum : ℤ) (x y : A)
    → (MatchOption low ⊥ (λ l. sum <ℤ l) → P x) → (IfSome low (λ l. l ≤ℤ sum) → P y)
    → P (if falls_short low sum then x else y)
if_falls_short P None sum x y f g = g tt
if_falls_short P (Some low) sum x y f g = if_lt P sum low x y f g

pub row_propagation : (name : Option ℕ) (row : Row) (area : List Interval) → IsNonEmpty area → IsUsable (length area) row.terms
    → IsPropagationOf name row area (row_step name row area)
row_propagation name row area n usable =
    let P : Tight → Type 0 = IsPropagationOf name row area in
    if_exceeds P row.high (least_sum row.terms area) _ _
    (λ missed. missed_for name row area area High (reason_of name High) refl (whole_part row area n) missed)
    (λ within. if_falls_short P row.low (greatest_sum row.terms area) _ _
    (λ missed. missed_for name row area area Low (reason_of name Low) refl (whole_part row area n) missed)
    (λ both. terms_propagation name row row.terms area (Kept area) usable usable.each (whole_part row area n)))

not_exceeded : (high : Option ℤ) (least sum : ℤ) → least ≤ℤ sum → MatchOption high ⊥ (λ h. h <ℤ least) → IfSome high (λ h. sum ≤ℤ h) → ⊥
not_exceeded None least sum h k m = k
not_exceeded (Some high) least sum h k m = omega (arith, ints)

not_short : (low : Option ℤ) (greatest sum : ℤ) → sum ≤ℤ greatest → MatchOption low ⊥ (λ l. greatest <ℤ l) → IfSome low (λ l. l ≤ℤ sum) → ⊥
not_short None greatest sum h k m = k
not_short (Some low) greatest sum h k m = omega (arith, ints)

-- a box over which no sum of a row satisfies a side has no point that satisfies the row
pub missed_none : (row : Row) (side : Side) (area : List Interval) (x : List ℤ) → AreThere (length area) row.terms
    → IsMissed side row area → Keeps row x → IsInside area x → ⊥
missed_none row Low area x there missed keeps i =
    not_short row.low (greatest_sum row.terms area) (sum_at row.terms x) (end_bound Greatest row.terms area x there i)
    missed keeps.low
missed_none row High area x there missed keeps i =
    not_exceeded row.high (least_sum row.terms area) (sum_at row.terms x) (end_bound Least row.terms area x there i)
    missed keeps.high

-- if the box is left, the row's least and greatest are within its sides
pub record Passes (row : Row) (area : List Interval) : Type 0 where
  pub high : IfSome row.high (λ h. least_sum row.terms area ≤ℤ h)
  pub low : IfSome row.low (λ l. l ≤ℤ greatest_sum row.terms area)

abbrev pub IsPassed : Row → List Interval → Tight → Type 0
IsPassed row area (Kept _) = Passes row area
IsPassed row area (Empty _) = Unit {0}

passed_all : (row : Row) (area : List Interval) (o : Tight) → Passes row area → IsPassed row area o
passed_all row area (Kept _) h = h
passed_all row area (Empty _) h = tt

pub row_passes : (name : Option ℕ) (row : Row) (area : List Interval) → IsPassed row area (row_step name row area)
row_passes name row area =
    let P : Tight → Type 0 = IsPassed row area in
    if_exceeds P row.high (least_sum row.terms area) _ _
    (λ missed. tt)
    (λ within. if_falls_short P row.low (greatest_sum row.terms area) _ _
    (λ missed. tt)
    (λ both. passed_all row area (over_terms name row row.terms (Kept area)) (record { high = within; low = both })))
