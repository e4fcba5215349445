-- Running sums, and how they change with one column of the box.
use Rattle.std.proofs.Common.{true, ◌≡◌, ◌≢◌, refl, sym, subst, ◌∙◌, ap, inl, inr, ℕ, suc, ◌+◌, ◌*◌, ◌^◌, ◌<◌, ◌≤◌, ◌⊎◌, ℤ, pos, negsuc, ◌+ℤ◌, ◌-ℤ◌, ◌*ℤ◌, unsigned_abs, List, [], ◌∷◌, ◌++◌, length, map, set, arith}
use Rattle.std.proofs.lemmas.Int.{ints}
use Rattle.std.proofs.lemmas.Bool.{cases_eq}
use Rattle.std.proofs.lemmas.List.{get_or-set_other, get_or-set_same, get_or-map, get_or_append_left, get_or_at, get_or_push, length_push, length-map, length-set, map_push, map-set}
use Rattle.ug_rows.specs.declared.area.Interval.{Interval}
use Rattle.ug_rows.specs.declared.row.Term.{Term}
use Rattle.ug_rows.specs.declared.sums.Extreme.{Extreme}
use Rattle.ug_rows.specs.declared.sums.Extreme.TheVariants.{Least, Greatest}
use Rattle.ug_rows.specs.Boxes.{HasSmallEnds, interval_at, no_interval}
use Rattle.ug_rows.specs.Rows.{IsAmong, IsLinear, term_at}
use Rattle.ug_rows.specs.Sums.{end_of, end_product, end_sum, least_sum, greatest_sum}
use Rattle.ug_rows.proofs.Replaced.{among_at, product_new, sum_small, sum_with, sum_without}
use Rattle.ug_problem.specs.declared.column.NamedRow.{NamedRow}
use Rattle.ug_problem.specs.declared.entries.ColumnEntry.{ColumnEntry}
use Rattle.ug_problem.specs.Instances.{Instance, no_row, row_at}
use Rattle.ug_problem.specs.Limits.{IsProblem}
use Rattle.ug_problem.specs.ColumnEntries.{AreColumnEntries, entry_at, term_of, terms_of, terms_of_rows}
use Rattle.ug_problem.proofs.Linear.{linear_row, linear_objective}
use Rattle.ug_propagate.specs.declared.measure.Moves.{Moves}
use Rattle.ug_propagate.specs.declared.rows.ShortExtremes.{ShortExtremes}
use Rattle.ug_propagate.specs.declared.sums.Extremes.{Extremes}
use Rattle.ug_propagate.specs.Running.{AreFirstSums, AreMoves, AreSums, HasMoved, IsRunning, IsSummed, SumsState, extremes_at, move_of, no_extremes, no_short, short_at, widened}
use Rattle.ug_propagate.specs.Shorts.{AreShort, IsShortRow}
use Rattle.ug_propagate.proofs.Machine.{times_difference}
use Rattle.ug_propagate.proofs.Slacks.{small_put}
use Rattle.ug_propagate.proofs.Sizes.{factor_within, short_sum}

-- the terms of a row
pub terms_inner : (p : Instance) (r : ℕ) → r < length p.rows → (row_at p r).terms ≡ terms_of p r
terms_inner p r there =
    let terms : NamedRow → List Term = λ (named : NamedRow). named.row.terms in
    let within : r < length (terms_of_rows p.rows) = omega (arith, length-map p.rows terms) in
    sym (get_or_append_left (terms_of_rows p.rows) (p.objective.terms ∷ []) [] r within
    ∙ get_or-map terms p.rows r no_row [] there)

-- the terms of the objective
pub terms_last : (p : Instance) (r : ℕ) → length p.rows ≤ r → r ≤ length p.rows → p.objective.terms ≡ terms_of p r
terms_last p r least most =
    let terms : NamedRow → List Term = λ (named : NamedRow). named.row.terms in
    sym (get_or_at (terms_of_rows p.rows) p.objective.terms [] [] r (length-map p.rows terms ∙ omega arith))

pub named_inner : (p : Instance) (r : ℕ) → r < length p.rows → terms_of p r ≡ (row_at p r).terms
named_inner p r there = sym (terms_inner p r there)

pub named_last : (p : Instance) → terms_of p (length p.rows) ≡ p.objective.terms
named_last p = sym (terms_last p (length p.rows) (omega arith) (omega arith))

-- the sums of one row more
pub sums_push : (p : Instance) (area : List Interval) (r : ℕ) (sums : List Extremes) (ends : Extremes)
    → AreFirstSums p area r sums → IsSummed (terms_of p r) area ends → AreFirstSums p area (r + 1) (sums ++ ends ∷ [])
sums_push p area r sums ends h here = record {
  count = length_push sums ends ∙ ap (λ (n : ℕ). n + 1) h.count;
  each = λ k less. elim (cases_eq k r) [
    | inl same ↦
        let at : extremes_at (sums ++ ends ∷ []) k ≡ ends = get_or_push sums ends no_extremes k (h.count ∙ sym same) in
        let P : ℕ → Type 0 = λ (n : ℕ). IsSummed (terms_of p n) area ends in
        let Q : Extremes → Type 0 = λ (e : Extremes). IsSummed (terms_of p k) area e in
        subst Q (sym at) (subst P (sym same) here)
    | inr other ↦
        let at : extremes_at (sums ++ ends ∷ []) k ≡ extremes_at sums k =
        get_or_append_left sums (ends ∷ []) no_extremes k (omega (arith, h.count, less)) in
        let Q : Extremes → Type 0 = λ (e : Extremes). IsSummed (terms_of p k) area e in
        subst Q (sym at) (h.each k (omega arith))
  ];
}

pub sums_whole : (p : Instance) (area : List Interval) (n : ℕ) (sums : List Extremes) → length area ≡ length p.columns
    → n ≡ length p.rows + 1 → AreFirstSums p area n sums → AreSums p area sums
sums_whole p area n sums wide all h = record {
  width = wide;
  count = h.count ∙ all;
  each = λ r there. h.each r (omega arith);
}

-- among the first i standings one is of row r, or none is
abbrev pub IsPassed : List ColumnEntry → ℕ → ℕ → Type 0
IsPassed entries i r = (k : ℕ) × (k < i) × ((entry_at entries k).row ≡ r)

abbrev pub IsAhead : List ColumnEntry → ℕ → ℕ → Type 0
IsAhead entries i r = (k : ℕ) → k < i → (entry_at entries k).row ≢ r

-- row r has its new sums where it was passed, and its old ones where it is ahead
abbrev pub IsShifted : Instance → ℕ → List Interval → Interval → List ColumnEntry → ℕ → ℕ → Extremes → Type 0
IsShifted p j area side entries i r ends =
    (IsPassed entries i r × IsSummed (terms_of p r) (set area j side) ends)
    ⊎ (IsAhead entries i r × IsSummed (terms_of p r) area ends)

-- the sums on the way from a box to that in which column j has another interval
pub record AreShifted (p : Instance) (j : ℕ) (area : List Interval) (side : Interval) (entries : List ColumnEntry) (i : ℕ)
    (sums : List Extremes) : Type 0 where
  pub count : length sums ≡ length p.rows + 1
  pub each : (r : ℕ) → r ≤ length p.rows → IsShifted p j area side entries i r (extremes_at sums r)

pub shift_begins : (p : Instance) (j : ℕ) (area : List Interval) (side : Interval) (entries : List ColumnEntry) (sums : List Extremes)
    → AreSums p area sums → AreShifted p j area side entries 0 sums
shift_begins p j area side entries sums h = record {
  count = h.count;
  each = λ r there. inr ((λ k less. absurd (omega arith)), h.each r there);
}

-- the row of the next standing is ahead
next_is_ahead : (p : Instance) (j : ℕ) (area : List Interval) (side : Interval) (entries : List ColumnEntry) (i r : ℕ) (ends : Extremes)
    → AreColumnEntries p j entries → i < length entries → (entry_at entries i).row ≡ r
    → IsShifted p j area side entries i r ends → IsSummed (terms_of p r) area ends
next_is_ahead p j area side entries i r ends are there same (inl passed) =
    absurd (let h : (entry_at entries passed.0.0).row < (entry_at entries i).row = are.rising passed.0.0 i passed.0.1 there in
    omega (arith, h, same, passed.0.2))
next_is_ahead p j area side entries i r ends are there same (inr ahead) = ahead.1

pub linear_terms : (p : Instance) (r : ℕ) → IsProblem p → r ≤ length p.rows → IsLinear (length p.columns) (terms_of p r)
linear_terms p r problem there = elim (cases_eq r (length p.rows)) [
  | inl e ↦ subst (IsLinear (length p.columns)) (terms_last p r (omega arith) there) (linear_objective p problem)
  | inr ne ↦ subst (IsLinear (length p.columns)) (terms_inner p r (omega arith)) (linear_row p r problem (omega arith))
]

pub record IsReady (entry : ColumnEntry) (sums : List Extremes) : Type 0 where
  pub there : entry.row < length sums
  pub least : unsigned_abs (extremes_at sums entry.row).least ≤ 3 * 10 ^ 37
  pub greatest : unsigned_abs (extremes_at sums entry.row).greatest ≤ 3 * 10 ^ 37
  pub factor : unsigned_abs entry.factor ≤ 10 ^ 24

pub among_small : (width : ℕ) (ts : List Term) (t : Term) → ((k : ℕ) → k < length ts → unsigned_abs (term_at ts k).factor ≤ 10 ^ 24)
    → IsAmong t ts → unsigned_abs t.factor ≤ 10 ^ 24
among_small width [] t small among = absurd among
among_small width (u ∷ ts) t small (inl same) = subst (λ (v : Term). unsigned_abs v.factor ≤ 10 ^ 24) (sym same) (small 0 (omega arith))
among_small width (u ∷ ts) t small (inr later) = among_small width ts t (λ k there. small (suc k) (omega arith)) later

-- the next row may be shifted
pub next_ready : (p : Instance) (j : ℕ) (area : List Interval) (side : Interval) (entries : List ColumnEntry) (i : ℕ) (sums : List Extremes)
    → IsProblem p → AreColumnEntries p j entries → i < length entries → AreShifted p j area side entries i sums
    → IsReady (entry_at entries i) sums
next_ready p j area side entries i sums problem are there h =
    let r : ℕ = (entry_at entries i).row in
    let within : r ≤ length p.rows = are.within i there in
    let linear : IsLinear (length p.columns) (terms_of p r) = linear_terms p r problem within in
    let now : IsSummed (terms_of p r) area (extremes_at sums r) =
    next_is_ahead p j area side entries i r (extremes_at sums r) are there refl (h.each r within) in
    let least : unsigned_abs (least_sum (terms_of p r) area) ≤ 3 * 10 ^ 37 =
    sum_small Least (length p.columns) (terms_of p r) area linear now.small in
    let greatest : unsigned_abs (greatest_sum (terms_of p r) area) ≤ 3 * 10 ^ 37 =
    sum_small Greatest (length p.columns) (terms_of p r) area linear now.small in
    record {
      there = omega (arith, h.count, within);
      least = subst (λ (v : ℤ). unsigned_abs v ≤ 3 * 10 ^ 37) (sym now.least) least;
      greatest = subst (λ (v : ℤ). unsigned_abs v ≤ 3 * 10 ^ 37) (sym now.greatest) greatest;
      factor = among_small (length p.columns) (terms_of p r) (term_of j (entry_at entries i)) linear.small (are.each i there);
    }

gained : (least sum old new next : ℤ) → next ≡ least +ℤ (new -ℤ old) → least ≡ sum → next ≡ (sum -ℤ old) +ℤ new
gained least sum old new next e same = omega (arith, ints)

-- a coefficient times how far an end goes is how its product changes
pub moved_product : (e : Extreme) (f : ℤ) (before after : Interval) (moves : Moves) → AreMoves before after moves
    → f *ℤ move_of e f moves ≡ (f *ℤ end_of e f after) -ℤ (f *ℤ end_of e f before)
moved_product Least (pos n) before after moves h =
    ap (λ (v : ℤ). pos n *ℤ v) h.low ∙ times_difference (pos n) before.low after.low
moved_product Least (negsuc n) before after moves h =
    ap (λ (v : ℤ). negsuc n *ℤ v) h.high ∙ times_difference (negsuc n) before.high after.high
moved_product Greatest (pos n) before after moves h =
    ap (λ (v : ℤ). pos n *ℤ v) h.high ∙ times_difference (pos n) before.high after.high
moved_product Greatest (negsuc n) before after moves h =
    ap (λ (v : ℤ). negsuc n *ℤ v) h.low ∙ times_difference (negsuc n) before.low after.low

-- a sum that changes so is one that changes with the product
pub moved_sum : (e : Extreme) (f sum : ℤ) (before after : Interval) (moves : Moves) → AreMoves before after moves
    → sum +ℤ (f *ℤ move_of e f moves) ≡ sum +ℤ ((f *ℤ end_of e f after) -ℤ (f *ℤ end_of e f before))
moved_sum e f sum before after moves h = ap (λ (v : ℤ). sum +ℤ v) (moved_product e f before after moves h)

-- the same where the coefficient may be named otherwise
pub moved_so : (e : Extreme) (f g sum new : ℤ) (before after : Interval) (moves : Moves) → AreMoves before after moves → g ≡ f
    → new ≡ sum +ℤ (g *ℤ move_of e g moves) → new ≡ sum +ℤ ((f *ℤ end_of e f after) -ℤ (f *ℤ end_of e f before))
moved_so e f g sum new before after moves went same h =
    let P : ℤ → Type 0 = λ (v : ℤ). new ≡ sum +ℤ (v *ℤ move_of e v moves) in
    subst P same h ∙ moved_sum e f sum before after moves went

-- a row with a term of the column has its new sums
pub summed_new : (width j : ℕ) (ts : List Term) (t : Term) (area : List Interval) (side : Interval) (old ends : Extremes)
    → IsLinear width ts → IsAmong t ts → t.column ≡ j → j < length area → HasSmallEnds side → IsSummed ts area old
    → ends.least ≡ old.least +ℤ ((t.factor *ℤ end_of Least t.factor side) -ℤ (t.factor *ℤ end_of Least t.factor (interval_at area j)))
    → ends.greatest ≡ old.greatest +ℤ ((t.factor *ℤ end_of Greatest t.factor side) -ℤ (t.factor *ℤ end_of Greatest t.factor (interval_at area j)))
    → IsSummed ts (set area j side) ends
summed_new width j ts t area side old ends linear among column there small h least greatest =
    let P : ℕ → Type 0 = λ (c : ℕ). IsSummed ts (set area c side) ends in
    let at : t.column < length area = omega (arith, column, there) in
    let before : interval_at area t.column ≡ interval_at area j = ap (λ (c : ℕ). interval_at area c) column in
    let change : (e : Extreme) → end_sum e ts (set area t.column side)
    ≡ (end_sum e ts area -ℤ (t.factor *ℤ end_of e t.factor (interval_at area j))) +ℤ (t.factor *ℤ end_of e t.factor side) =
    λ (e : Extreme). sum_with e width ts t area side linear among
    ∙ ap (λ (v : ℤ). (end_sum e ts area -ℤ end_product e t area) +ℤ v) (product_new e t area side at)
    ∙ ap (λ (s : Interval). (end_sum e ts area -ℤ (t.factor *ℤ end_of e t.factor s)) +ℤ (t.factor *ℤ end_of e t.factor side)) before in
    subst P column (record {
      small = small_put ts area t.column side at h.small small;
      least = gained old.least (least_sum ts area) _ _ ends.least least h.least ∙ sym (change Least);
      greatest = gained old.greatest (greatest_sum ts area) _ _ ends.greatest greatest h.greatest ∙ sym (change Greatest);
    })

-- a row that was passed stays so, and one that is ahead and not this one stays ahead
step_other : (p : Instance) (j : ℕ) (area : List Interval) (side : Interval) (entries : List ColumnEntry) (i r : ℕ) (ends : Extremes)
    → (entry_at entries i).row ≢ r → IsShifted p j area side entries i r ends
    → IsShifted p j area side entries (i + 1) r ends
step_other p j area side entries i r ends ne (inl passed) =
    inl ((passed.0.0, omega (arith, passed.0.1), passed.0.2), passed.1)
step_other p j area side entries i r ends ne (inr ahead) =
    inr (
      (λ k less. elim (cases_eq k i) [
        | inl e ↦ λ same. ne (ap (λ (n : ℕ). (entry_at entries n).row) (sym e) ∙ same)
        | inr other ↦ ahead.0 k (omega arith)
      ]),
      ahead.1,
    )

pub shift_step : (p : Instance) (j : ℕ) (area : List Interval) (side : Interval) (entries : List ColumnEntry) (i : ℕ)
    (sums new : List Extremes) (moves : Moves) → IsProblem p → AreColumnEntries p j entries → i < length entries
    → j < length area → AreMoves (interval_at area j) side moves
    → HasMoved (entry_at entries i).factor moves (entry_at entries i).row sums new
    → AreShifted p j area side entries i sums → AreShifted p j area side entries (i + 1) new
shift_step p j area side entries i sums new moves problem are there at went moved h =
    let row : ℕ = (entry_at entries i).row in
    let f : ℤ = (entry_at entries i).factor in
    let within : row ≤ length p.rows = are.within i there in
    let long : row < length sums = omega (arith, h.count, within) in
    record {
      count = ap (λ (xs : List Extremes). length xs) moved.put ∙ length-set sums row moved.ends ∙ h.count;
      each = λ r inner. elim (cases_eq r row) [
        | inl same ↦
            let here : extremes_at new r ≡ moved.ends =
            ap (λ (xs : List Extremes). extremes_at xs r) moved.put
            ∙ ap (λ (n : ℕ). extremes_at (set sums row moved.ends) n) same
            ∙ get_or-set_same sums row moved.ends no_extremes long in
            let old : IsSummed (terms_of p row) area (extremes_at sums row) =
            next_is_ahead p j area side entries i row (extremes_at sums row) are there refl (h.each row within) in
            let now : IsSummed (terms_of p row) (set area j side) moved.ends =
            summed_new (length p.columns) j (terms_of p row) (term_of j (entry_at entries i)) area side (extremes_at sums row)
            moved.ends (linear_terms p row problem within) (are.each i there) refl at went.small old
            (moved.least ∙ moved_sum Least f (extremes_at sums row).least (interval_at area j) side moves went)
            (moved.greatest ∙ moved_sum Greatest f (extremes_at sums row).greatest (interval_at area j) side moves went) in
            let Q : ℕ → Type 0 = λ (n : ℕ). IsSummed (terms_of p n) (set area j side) moved.ends in
            let R : Extremes → Type 0 = λ (e : Extremes). IsSummed (terms_of p r) (set area j side) e in
            inl ((i, omega arith, sym same), subst R (sym here) (subst Q (sym same) now))
        | inr other ↦
            let here : extremes_at new r ≡ extremes_at sums r =
            ap (λ (xs : List Extremes). extremes_at xs r) moved.put ∙ get_or-set_other sums row r moved.ends no_extremes other in
            let S : Extremes → Type 0 = λ (e : Extremes). IsShifted p j area side entries (i + 1) r e in
            subst S (sym here)
            (step_other p j area side entries i r (extremes_at sums r) (λ e. other (sym e)) (h.each r inner))
      ];
    }

-- a row without a term of the column has the sums that it had
pub summed_other : (j : ℕ) (ts : List Term) (area : List Interval) (side : Interval) (ends : Extremes)
    → ((k : ℕ) → k < length ts → (term_at ts k).column ≢ j) → IsSummed ts area ends → IsSummed ts (set area j side) ends
summed_other j ts area side ends other h = record {
  small = λ k there.
      let same : interval_at (set area j side) (term_at ts k).column ≡ interval_at area (term_at ts k).column =
      get_or-set_other area j (term_at ts k).column side no_interval (other k there) in
      subst HasSmallEnds (sym same) (h.small k there);
  least = h.least ∙ sym (sum_without Least ts area j side other);
  greatest = h.greatest ∙ sym (sum_without Greatest ts area j side other);
}

shift_done : (p : Instance) (j : ℕ) (area : List Interval) (side : Interval) (entries : List ColumnEntry) (r i : ℕ) (ends : Extremes)
    → AreColumnEntries p j entries → length entries ≤ i → r ≤ length p.rows → IsShifted p j area side entries i r ends
    → IsSummed (terms_of p r) (set area j side) ends
shift_done p j area side entries r i ends are all there (inl passed) = passed.1
shift_done p j area side entries r i ends are all there (inr ahead) =
    summed_other j (terms_of p r) area side ends
    (λ k within same.
    let at = are.all r (term_at (terms_of p r) k) (among_at (terms_of p r) k within) same in
    ahead.0 at.0 (omega (arith, at.1)) at.2)
    ahead.1

pub shift_ends : (p : Instance) (j : ℕ) (area : List Interval) (side : Interval) (entries : List ColumnEntry) (i : ℕ)
    (sums : List Extremes) → length area ≡ length p.columns → AreColumnEntries p j entries → length entries ≤ i
    → AreShifted p j area side entries i sums → AreSums p (set area j side) sums
shift_ends p j area side entries i sums wide are all h = record {
  width = length-set area j side ∙ wide;
  count = h.count;
  each = λ r there. shift_done p j area side entries r i (extremes_at sums r) are all there (h.each r there);
}

-- running sums are the sums over their box
pub sums_of : (p : Instance) (state : SumsState) → IsRunning p state → AreSums p state.area state.sums
sums_of p state h = record { width = h.width; count = h.count; each = h.each }

-- and sums over a box are running, where they fit if they are kept in 64 bits
pub running_of : (p : Instance) (state : SumsState) → AreSums p state.area state.sums → (state.short ≡ true → AreShort p) → IsRunning p state
running_of p state h short = record { width = h.width; count = h.count; each = h.each; short = short }

-- the sums of one row more, in 64 bits
pub short_sums_push : (p : Instance) (area : List Interval) (r : ℕ) (sums : List ShortExtremes) (ends : ShortExtremes)
    → AreFirstSums p area r (map widened sums) → IsSummed (terms_of p r) area (widened ends)
    → AreFirstSums p area (r + 1) (map widened (sums ++ ends ∷ []))
short_sums_push p area r sums ends h here =
    subst (λ (xs : List Extremes). AreFirstSums p area (r + 1) xs) (sym (map_push widened sums ends))
    (sums_push p area r (map widened sums) (widened ends) h here)

abbrev pub extreme_of : Extreme → Extremes → ℤ
extreme_of Least ends = ends.least
extreme_of Greatest ends = ends.greatest

-- sums of a short row are at most 2^60
pub summed_short : (e : Extreme) (ts : List Term) (area : List Interval) (ends : Extremes) → IsShortRow ts → IsSummed ts area ends
    → unsigned_abs (extreme_of e ends) ≤ 2 ^ 60
summed_short Least ts area ends short h =
    subst (λ (v : ℤ). unsigned_abs v ≤ 2 ^ 60) (sym h.least) (short_sum Least ts area short h.small)
summed_short Greatest ts area ends short h =
    subst (λ (v : ℤ). unsigned_abs v ≤ 2 ^ 60) (sym h.greatest) (short_sum Greatest ts area short h.small)

pub record IsShortReady (entry : ColumnEntry) (sums : List ShortExtremes) : Type 0 where
  pub there : entry.row < length sums
  pub least : unsigned_abs (short_at sums entry.row).least ≤ 2 ^ 60
  pub greatest : unsigned_abs (short_at sums entry.row).greatest ≤ 2 ^ 60
  pub factor : unsigned_abs entry.factor ≤ 2 ^ 29

-- the next row may be shifted in 64 bits
pub short_ready : (p : Instance) (j : ℕ) (area : List Interval) (side : Interval) (entries : List ColumnEntry) (i : ℕ)
    (sums : List ShortExtremes) → AreShort p → AreColumnEntries p j entries → i < length entries
    → AreShifted p j area side entries i (map widened sums) → IsShortReady (entry_at entries i) sums
short_ready p j area side entries i sums short are there h =
    let r : ℕ = (entry_at entries i).row in
    let within : r ≤ length p.rows = are.within i there in
    let now : IsSummed (terms_of p r) area (extremes_at (map widened sums) r) =
    next_is_ahead p j area side entries i r (extremes_at (map widened sums) r) are there refl (h.each r within) in
    let long : r < length sums = omega (arith, length-map sums widened, h.count, within) in
    let at : extremes_at (map widened sums) r ≡ widened (short_at sums r) = get_or-map widened sums r no_short no_extremes long in
    record {
      there = long;
      least = subst (λ (ends : Extremes). unsigned_abs ends.least ≤ 2 ^ 60) at (summed_short Least (terms_of p r) area _ (short r within) now);
      greatest = subst (λ (ends : Extremes). unsigned_abs ends.greatest ≤ 2 ^ 60) at
          (summed_short Greatest (terms_of p r) area _ (short r within) now);
      factor = omega (arith, factor_within (terms_of p r) (term_of j (entry_at entries i)) (are.each i there), short r within);
    }

-- a row that moved in 64 bits moved, whatever name the coefficient has
pub moved_short : (factor same : ℤ) (moves : Moves) (r : ℕ) (old new : List ShortExtremes) (ends : ShortExtremes) → same ≡ factor
    → r < length old → new ≡ set old r ends → ends.least ≡ (short_at old r).least +ℤ (same *ℤ move_of Least same moves)
    → ends.greatest ≡ (short_at old r).greatest +ℤ (same *ℤ move_of Greatest same moves)
    → HasMoved factor moves r (map widened old) (map widened new)
moved_short factor same moves r old new ends named there put least greatest =
    let at : widened (short_at old r) ≡ extremes_at (map widened old) r = sym (get_or-map widened old r no_short no_extremes there) in
    subst (λ (f : ℤ). HasMoved f moves r (map widened old) (map widened new)) named (record {
      ends = widened ends;
      put = ap (λ (sums : List ShortExtremes). map widened sums) put ∙ map-set widened old r ends;
      least = least ∙ ap (λ (e : Extremes). e.least +ℤ (same *ℤ move_of Least same moves)) at;
      greatest = greatest ∙ ap (λ (e : Extremes). e.greatest +ℤ (same *ℤ move_of Greatest same moves)) at;
    })

-- sums of 64 bits are read
pub short_read : (sums : List ShortExtremes) (r : ℕ) (ends : ShortExtremes) → r < length (map widened sums)
    → ends ≡ short_at sums r → widened ends ≡ extremes_at (map widened sums) r
short_read sums r ends there same =
    let within : r < length sums = omega (arith, length-map sums widened, there) in
    ap widened same ∙ sym (get_or-map widened sums r no_short no_extremes within)
