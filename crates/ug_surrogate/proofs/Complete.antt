-- Rows that are all there: how they come about, and that they are within the limits of a problem.
use Rattle.std.proofs.Common.{◌≡◌, ◌∙◌, refl, sym, ap, subst, inl, inr, ℕ, zero, suc, ◌+◌, ◌^◌, ◌<◌, ◌≤◌, ◌++◌, ℤ, List, [], ◌∷◌, length, unsigned_abs, All, Bool, true, false, cond, Option, Some, None, IfSome, IfNone, IsSome, arith, get_or, take, min, ◌-◌}
use Rattle.std.specs.Bool.{OnFalse, OnTrue, nat_lt}
use Rattle.std.proofs.lemmas.Bool.{and_parts, cases_lt, cond_both, false≢true, leb-true, ltb-false}
use Rattle.std.proofs.lemmas.List.{get_or-set_other, get_or-set_same, get_or_append_left, length-append, length-set, take_more}
use Rattle.std.proofs.lemmas.List.Elements.{All-nil}
use Rattle.std.proofs.lemmas.List.Sums.{sum_by-cons, sum_by_push}
use Rattle.ug_rows.specs.declared.area.Interval.{Interval}
use Rattle.ug_rows.specs.declared.row.Row.{Row}
use Rattle.ug_rows.specs.declared.row.Term.{Term}
use Rattle.ug_problem.specs.declared.column.NamedRow.{NamedRow}
use Rattle.ug_problem.specs.Instances.{Instance, IsRow, no_row, row_at}
use Rattle.ug_problem.specs.Limits.{FirstNarrow, IsNarrow, IsProblem}
use Rattle.ug_surrogate.specs.declared.implying.ImpliedError.{ImpliedError}
use Rattle.ug_surrogate.specs.declared.implying.ImpliedError.TheVariants.{Memory, TooBig, TooWide}
use Rattle.ug_surrogate.specs.declared.multipliers.Multipliers.{Multipliers}
use Rattle.ug_surrogate.specs.declared.rounding.Sides.{Sides}
use Rattle.ug_surrogate.specs.declared.rounding.Narrowed.{Narrowed}
use Rattle.ug_surrogate.specs.declared.rounding.Narrowed.TheVariants.{To, Empty}
use Rattle.ug_surrogate.specs.Complete.{AreTightened, HasNoRow, HasTightened, IsAdded, IsComplete, IsTightened, IsTightenedAt, IsLeftAt, IsRoom, IsRowOf, IsWithRowOf, IsWithRowsOf, are_within_limit, cutoff_for, is_within_limit, row_left, term_count, with_sides}
use Rattle.ug_surrogate.specs.Implied.{IsNotImplied}
use Rattle.ug_surrogate.specs.Rounding.{IsCommonDivisor, rounded_by}
use Rattle.ug_surrogate.specs.Stronger.{IsPushed}

-- sides that are the row's own make no other row
pub own_sides : (row : Row) (sides : Sides) → sides.low ≡ row.low → sides.high ≡ row.high
    → with_sides row sides ≡ row
own_sides row sides low high =
    ap (λ (l : Option ℤ). record { terms = row.terms; low = l; high = sides.high }) low
    ∙ ap (λ (h : Option ℤ). record { terms = row.terms; low = row.low; high = h }) high

same_of_both : (b : Bool) (x y : Row) → x ≡ y → cond b x y ≡ y
same_of_both true x y e = e
same_of_both false x y e = refl

pub left_with_own : (row : Row) (sides : Sides) → sides.low ≡ row.low → sides.high ≡ row.high
    → row_left row (To sides) ≡ row
left_with_own row sides low high =
    same_of_both (are_within_limit sides) (with_sides row sides) row (own_sides row sides low high)

-- the rows below r are rounded, and the others are the problem's
pub record AreTightenedBelow (p : Instance) (area : List Interval) (rows : List NamedRow) (r : ℕ)
    : Type 0 where
  pub count : length rows ≡ length p.rows
  pub below : (k : ℕ) → k < r → HasTightened p area rows k
  pub others : (k : ℕ) → r ≤ k → get_or rows k no_row ≡ get_or p.rows k no_row

pub none_tightened : (p : Instance) (area : List Interval) (rows : List NamedRow) → rows ≡ p.rows
    → AreTightenedBelow p area rows 0
none_tightened p area rows same = record {
  count = ap length same;
  below = λ k lt. absurd (omega arith);
  others = λ k le. ap (λ (ns : List NamedRow). get_or ns k no_row) same;
}

-- what holds of each below r and of r holds of each below r + 1
each_below : (P : ℕ → Type 0) (r : ℕ) → ((k : ℕ) → k < r → P k) → P r → (k : ℕ) → k < r + 1 → P k
each_below P r below here k lt = elim (cases_lt k r) [
  | inl less ↦ below k less
  | inr more ↦ let e : r ≡ k = omega arith in subst P e here
]

has_tightened_of : (p : Instance) (area : List Interval) (old new : List NamedRow) (k : ℕ)
    → get_or new k no_row ≡ get_or old k no_row → HasTightened p area old k
    → HasTightened p area new k
has_tightened_of p area old new k same has = record {
  name = ap (λ (n : NamedRow). n.name) same ∙ has.name;
  row = subst (λ (n : NamedRow). IsTightened area (row_at p k) n.row) (sym same) has.row;
}

-- row r put in its place
pub one_tightened : (p : Instance) (area : List Interval) (old new : List NamedRow) (r : ℕ)
    → r < length p.rows → AreTightenedBelow p area old r → IsTightenedAt p area r old new
    → AreTightenedBelow p area new (r + 1)
one_tightened p area old new r there before at =
    let named : NamedRow = record (get_or old r no_row) { row = at.row } in
    let within : r < length old = omega (arith, before.count) in
    let here : get_or new r no_row ≡ named =
    ap (λ (ns : List NamedRow). get_or ns r no_row) at.put
    ∙ get_or-set_same old r named no_row within in
    let apart : (k : ℕ) → (k ≡ r → ⊥) → get_or new k no_row ≡ get_or old k no_row =
    λ k other. ap (λ (ns : List NamedRow). get_or ns k no_row) at.put
    ∙ get_or-set_other old r k named no_row other in
    record {
      count = ap length at.put ∙ (length-set old r named ∙ before.count);
      below = each_below (HasTightened p area new) r
          (λ k lt. has_tightened_of p area old new k (apart k (λ e. omega (arith, e)))
          (before.below k lt))
          (record {
            name = ap (λ (n : NamedRow). n.name) here
                ∙ ap (λ (n : NamedRow). n.name) (before.others r (omega arith));
            row = subst (λ (n : NamedRow). IsTightened area (row_at p r) n.row) (sym here)
                at.tightened;
          });
      others = λ k le. apart k (λ e. omega (arith, e)) ∙ before.others k (omega arith);
    }

-- row r left as it is
pub none_more_tightened : (p : Instance) (area : List Interval) (old new : List NamedRow) (r : ℕ)
    → AreTightenedBelow p area old r → IsLeftAt p area r old new
    → AreTightenedBelow p area new (r + 1)
none_more_tightened p area old new r before left =
    subst (λ (ns : List NamedRow). AreTightenedBelow p area ns (r + 1)) (sym left.same) (record {
      count = before.count;
      below = each_below (HasTightened p area old) r before.below (record {
        name = ap (λ (n : NamedRow). n.name) (before.others r (omega arith));
        row = subst (λ (n : NamedRow). IsTightened area (row_at p r) n.row)
            (sym (before.others r (omega arith))) left.tightened;
      });
      others = λ k le. before.others k (omega arith);
    })

pub all_tightened : (p : Instance) (area : List Interval) (rows : List NamedRow) (r : ℕ)
    → length p.rows ≤ r → AreTightenedBelow p area rows r → AreTightened p area rows
all_tightened p area rows r all below = record {
  count = below.count;
  each = λ k lt. below.below k (omega arith);
}

-- no row has changed before, and this one does not
pub same_if_left : (p : Instance) (area : List Interval) (old new : List NamedRow) (r : ℕ)
    (before now : Bool)
    → OnFalse before (old ≡ p.rows) → now ≡ false → OnFalse now (IsLeftAt p area r old new)
    → OnFalse before (new ≡ p.rows)
same_if_left p area old new r true now same unset left = tt
same_if_left p area old new r false now same unset left =
    (subst (λ (b : Bool). OnFalse b (IsLeftAt p area r old new)) unset left).same ∙ same

pub same_as_old : (rows old new : List NamedRow) (changed : Bool) → old ≡ rows
    → OnFalse changed (new ≡ rows)
    → OnFalse changed (new ≡ old)
same_as_old rows old new true same h = tt
same_as_old rows old new false same h = h ∙ sym same

-- the rows of one list more
pub one_list_more : (p : Instance) (lists : List Multipliers) (m : Multipliers) (cutoff : ℤ)
    (old mid new : List NamedRow) → IsWithRowsOf p lists cutoff old mid
    → IsWithRowOf p m cutoff mid new
    → IsWithRowsOf p (lists ++ m ∷ []) cutoff old new
one_list_more p [] m cutoff old mid new before step =
    (new, subst (λ (rows : List NamedRow). IsWithRowOf p m cutoff rows new) before step, refl)
one_list_more p (l ∷ lists) m cutoff old mid new before step =
    (before.0, before.1, one_list_more p lists m cutoff before.0 mid new before.2 step)

pub lists_more : (p : Instance) (lists : List Multipliers) (i : ℕ) (m : Multipliers) (cutoff : ℤ)
    (old mid new : List NamedRow) → i < length lists
    → IsWithRowsOf p (take i lists) cutoff old mid → IsWithRowOf p (get_or lists i m) cutoff mid new
    → IsWithRowsOf p (take (i + 1) lists) cutoff old new
lists_more p lists i m cutoff old mid new there before step =
    subst (λ (ms : List Multipliers). IsWithRowsOf p ms cutoff old new)
    (sym (take_more lists i m there))
    (one_list_more p (take i lists) (get_or lists i m) cutoff old mid new before step)

-- a row is pushed for which there is room
pub pushed_row : (p : Instance) (m : Multipliers) (cutoff : ℤ) (old new : List NamedRow) (row : Row)
    → IsRowOf p m cutoff row → IsRoom p old row → IsPushed row old new
    → IsWithRowOf p m cutoff old new
pushed_row p m cutoff old new row implied room pushed = inl (record {
  named = pushed.named;
  put = pushed.put;
  implied = subst (IsRowOf p m cutoff) (sym pushed.row) implied;
  room = subst (IsRoom p old) (sym pushed.row) room;
})

pub no_fewer_rows : (p : Instance) (lists : List Multipliers) (cutoff : ℤ) (old new : List NamedRow)
    → IsWithRowsOf p lists cutoff old new → length old ≤ length new
no_fewer_rows p [] cutoff old new h = omega (arith, ap length h)
no_fewer_rows p (m ∷ lists) cutoff old new (next, step, rest) = elim step [
  | inl added ↦ omega (
    arith,
    ap length added.put,
    length-append old (added.named ∷ []),
    no_fewer_rows p lists cutoff next new rest,
  )
  | inr left ↦ omega (arith, ap length left.same, no_fewer_rows p lists cutoff next new rest)
]

-- if there are no more rows, they are the same
pub no_rows_added : (p : Instance) (lists : List Multipliers) (cutoff : ℤ) (old new : List NamedRow)
    → IsWithRowsOf p lists cutoff old new → length new ≤ length old → new ≡ old
no_rows_added p [] cutoff old new h short = h
no_rows_added p (m ∷ lists) cutoff old new (next, step, rest) short = elim step [
  | inl added ↦ absurd (omega (
    arith,
    short,
    ap length added.put,
    length-append old (added.named ∷ []),
    no_fewer_rows p lists cutoff next new rest,
  ))
  | inr left ↦ no_rows_added p lists cutoff next new rest
      (omega (arith, short, ap length left.same)) ∙ left.same
]

-- if no row has changed and none was added, the rows are the same
pub same_if_none_added : (p : Instance) (lists : List Multipliers) (cutoff : ℤ)
    (old mid new : List NamedRow)
    (changed more : Bool) → changed ≡ false → OnFalse changed (mid ≡ old)
    → IsWithRowsOf p lists cutoff mid new
    → more ≡ nat_lt (length old) (length new) → OnFalse more (new ≡ old)
same_if_none_added p lists cutoff old mid new changed true unset same added e = tt
same_if_none_added p lists cutoff old mid new changed false unset same added e =
    let before : mid ≡ old = subst (λ (b : Bool). OnFalse b (mid ≡ old)) unset same in
    no_rows_added p lists cutoff mid new added
    (omega (arith, ltb-false (length old) (length new) (sym e), ap length before)) ∙ before

-- the rows are within the limits of a problem
pub record AreWithin (p : Instance) (rows : List NamedRow) : Type 0 where
  pub count : length rows ≤ 10 ^ 4
  pub terms : term_count rows + length p.objective.terms ≤ 10 ^ 6
  pub narrow : FirstNarrow rows (length rows)

left_short : (row : Row) (narrowed : Narrowed) → length (row_left row narrowed).terms ≤ length
    row.terms
left_short row (To sides) =
    cond_both (are_within_limit sides) (with_sides row sides) row
    (λ (n : Row). length n.terms ≤ length row.terms)
    (λ _. omega arith) (λ _. omega arith)
left_short row Empty = omega arith

side_within : (side : Option ℤ) → is_within_limit side ≡ true
    → IfSome side (λ s. unsigned_abs s ≤ 10 ^ 37)
side_within None h = tt
side_within (Some s) h = leb-true (unsigned_abs s) (10 ^ 37) h

left_narrow : (row : Row) (narrowed : Narrowed) → IsNarrow row → IsNarrow (row_left row narrowed)
left_narrow row (To sides) narrow =
    cond_both (are_within_limit sides) (with_sides row sides) row IsNarrow
    (λ small. let both = and_parts (is_within_limit sides.low) (is_within_limit sides.high) small in
    record {
      factors = narrow.factors;
      low = side_within sides.low both.0;
      high = side_within sides.high both.1;
    })
    (λ _. narrow)
left_narrow row Empty narrow = record {
  factors = All-nil (λ (t : Term). unsigned_abs t.factor ≤ 10 ^ 24);
  low = tt;
  high = omega arith;
}

count_of_cons : (n : NamedRow) (ns : List NamedRow)
    → term_count (n ∷ ns) ≡ length n.row.terms + term_count ns
count_of_cons n ns = sum_by-cons (λ (named : NamedRow). length named.row.terms) n ns

pub count_of_more : (ns : List NamedRow) (n : NamedRow)
    → term_count (ns ++ n ∷ []) ≡ term_count ns + length n.row.terms
count_of_more ns n = sum_by_push (λ (named : NamedRow). length named.row.terms) ns n

fewer_terms : (xs ys : List NamedRow) → length xs ≡ length ys
    → ((k : ℕ) → k < length ys → length (get_or xs k no_row).row.terms ≤ length
    (get_or ys k no_row).row.terms)
    → term_count xs ≤ term_count ys
fewer_terms [] ys e each = omega arith
fewer_terms (x ∷ xs) [] e each = absurd (omega (arith, e))
fewer_terms (x ∷ xs) (y ∷ ys) e each =
    omega (
      arith,
      count_of_cons x xs,
      count_of_cons y ys,
      each 0 (omega arith),
      fewer_terms xs ys (omega (arith, e)) (λ k lt. each (suc k) (omega arith)),
    )

tightened_within : (p : Instance) (area : List Interval) (rows : List NamedRow) → IsProblem p
    → AreTightened p area rows → AreWithin p rows
tightened_within p area rows problem are = record {
  count = omega (arith, are.count, problem.counts.rows);
  terms = omega (
    arith,
    problem.counts.terms,
    fewer_terms rows p.rows are.count (λ k lt.
        let is = (are.each k lt).row in
        subst (λ (n : Row). length n.terms ≤ length (row_at p k).terms) (sym is.row)
        (left_short (row_at p k) (rounded_by is.divisor (row_at p k) area))),
  );
  narrow = λ k lt.
      let is = (are.each k (omega (arith, are.count))).row in
      subst IsNarrow (sym is.row)
      (left_narrow (row_at p k) (rounded_by is.divisor (row_at p k) area)
      (problem.rows k (omega (arith, are.count))));
}

added_within : (p : Instance) (m : Multipliers) (cutoff : ℤ) (old new : List NamedRow)
    → IsAdded p m cutoff old new → AreWithin p old → AreWithin p new
added_within p m cutoff old new added within =
    let named : NamedRow = added.named in
    subst (AreWithin p) (sym added.put) (record {
      count = omega (arith, length-append old (named ∷ []), added.room.count);
      terms = omega (arith, count_of_more old named, added.room.terms);
      narrow = λ k lt. elim (cases_lt k (length old)) [
        | inl less ↦ subst (λ (n : NamedRow). IsNarrow n.row)
            (sym (get_or_append_left old (named ∷ []) no_row k less))
            (within.narrow k less)
        | inr more ↦
            let e : k ≡ length old = omega (arith, length-append old (named ∷ [])) in
            subst (λ (n : NamedRow). IsNarrow n.row) (sym (last_of old named k e))
            added.implied.implied.narrow
      ];
    })
  where
    last_of : (ns : List NamedRow) (n : NamedRow) (k : ℕ) → k ≡ length ns
        → get_or (ns ++ n ∷ []) k no_row ≡ n
    last_of [] n k e = ap (λ (i : ℕ). get_or (n ∷ []) i no_row) e
    last_of (x ∷ ns) n zero e = absurd (omega (arith, e))
    last_of (x ∷ ns) n (suc k) e = last_of ns n k (omega (arith, e))

lists_within : (p : Instance) (lists : List Multipliers) (cutoff : ℤ) (old new : List NamedRow)
    → IsWithRowsOf p lists cutoff old new → AreWithin p old → AreWithin p new
lists_within p [] cutoff old new h within = subst (AreWithin p) (sym h) within
lists_within p (m ∷ lists) cutoff old new (next, step, rest) within = elim step [
  | inl added ↦ lists_within p lists cutoff next new rest
      (added_within p m cutoff old next added within)
  | inr left ↦ lists_within p lists cutoff next new rest
      (subst (AreWithin p) (sym left.same) within)
]

-- rows that are all there make a problem
pub complete_problem : (p : Instance) (area : List Interval) (cutoff : Option ℤ)
    (lists : List Multipliers)
    (rows : List NamedRow) → IsProblem p → All (IsRow (length p.columns)) rows
    → IsComplete p area cutoff lists rows → IsProblem (record p { rows = rows })
complete_problem p area cutoff lists rows problem formed complete =
    let within : AreWithin p rows =
    lists_within p lists (cutoff_for p area cutoff) complete.own rows complete.behind
    (tightened_within p area complete.own problem complete.tightened) in
    record {
      formed = record {
        columns = problem.formed.columns;
        rows = formed;
        objective = problem.formed.objective;
        scale = problem.formed.scale;
      };
      counts = record {
        columns = problem.counts.columns;
        rows = within.count;
        terms = within.terms;
      };
      rows = within.narrow;
      objective = problem.objective;
    }

-- the count of terms, no higher than a word, with one row more
pub counted_more : (start : ℕ) (rows : List NamedRow) (i terms : ℕ) → i < length rows
    → terms ≡ min (start + term_count (take i rows)) (2 ^ 64 - 1)
    → min (terms + length (get_or rows i no_row).row.terms) (2 ^ 64 - 1)
    ≡ min (start + term_count (take (i + 1) rows)) (2 ^ 64 - 1)
counted_more start rows i terms there e =
    let more = ap term_count (take_more rows i no_row there)
    ∙ count_of_more (take i rows) (get_or rows i no_row) in
    omega (arith, e, more)

-- what a row that rounding leaves is
pub tightened_to : (area : List Interval) (old new : Row) (narrowed : Narrowed)
    → (g : ℕ) × IsCommonDivisor old.terms area g × (narrowed ≡ rounded_by g old area)
    → row_left old narrowed ≡ new → IsTightened area old new
tightened_to area old new narrowed (g, common, same) left = record {
  divisor = g;
  common = common;
  row = sym left ∙ ap (row_left old) same;
}

-- one row more is rounded, whether it changed or not
pub next_tightened : (p : Instance) (area : List Interval) (old new : List NamedRow) (r : ℕ)
    (changed : Bool)
    → r < length p.rows → AreTightenedBelow p area old r
    → OnTrue changed (IsTightenedAt p area r old new)
    → OnFalse changed (IsLeftAt p area r old new) → AreTightenedBelow p area new (r + 1)
next_tightened p area old new r true there before at left = one_tightened p area old new r there
    before at
next_tightened p area old new r false there before at left = none_more_tightened p area old new r
    before left

-- why multipliers imply no row, if it is not for memory
pub no_row_of : (p : Instance) (m : Multipliers) (cutoff : ℤ) (e : ImpliedError)
    → (e ≡ Memory → ⊥)
    → IsNotImplied p m cutoff e → HasNoRow p m cutoff
no_row_of p m cutoff Memory other h = absurd (other refl)
no_row_of p m cutoff (TooBig told) other h = inr (inl (record { place = told; passed = h }))
no_row_of p m cutoff TooWide other h = inr (inr h)

-- the cutoff that rows are made under may be named in either way
pub complete_under : (p : Instance) (area : List Interval) (cutoff : Option ℤ) (over : ℤ)
    (lists : List Multipliers) (rows : List NamedRow) → over ≡ cutoff_for p area cutoff
    → IsComplete p area (Some over) lists rows → IsComplete p area cutoff lists rows
complete_under p area cutoff over lists rows same complete = record {
  own = complete.own;
  tightened = complete.tightened;
  behind = subst (λ (z : ℤ). IsWithRowsOf p lists z complete.own rows) same complete.behind;
}

pub not_none : {X : Type 0} (P : Type 0) (o : Option X) → IsSome o → IfNone o P
not_none P (Some x) some = tt
not_none P None some = absurd (false≢true some)
