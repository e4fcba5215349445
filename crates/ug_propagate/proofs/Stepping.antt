-- What a change of one column keeps of a working box.
use Rattle.std.proofs.Common.{◌≡◌, ◌≢◌, refl, sym, subst, ◌∙◌, ap, inl, inr, ℕ, ◌+◌, ◌<◌, ◌≤◌, ℤ, pos, negsuc, ◌-ℤ◌, ◌*ℤ◌, ◌≤ℤ◌, List, [], ◌∷◌, ◌++◌, length, take, drop, set, append_assoc, arith}
use Rattle.std.proofs.lemmas.Int.{ints}
use Rattle.std.proofs.lemmas.Bool.{cases_eq}
use Rattle.std.proofs.lemmas.List.{append-nil, drop_all, drop-append-le, get_or-set_other, get_or-set_same, length-set, length_push, set-get_or, set-set, take_all, take-append-le}
use Rattle.std.proofs.lemmas.List.Elements.{All-append, All-cons, All-nil}
use Rattle.ug_rows.specs.declared.area.Interval.{Interval}
use Rattle.ug_rows.specs.declared.row.Term.{Term}
use Rattle.ug_rows.specs.declared.sums.Extreme.TheVariants.{Least, Greatest}
use Rattle.ug_rows.specs.Boxes.{HasSmallEnds, IsBelow, IsClosedWithin, interval_at, no_interval}
use Rattle.ug_rows.specs.Rows.{term_at}
use Rattle.ug_rows.specs.Sums.{end_of}
use Rattle.ug_rows.proofs.EndBounds.{mul_neg, mul_pos}
use Rattle.ug_rows.proofs.Replaced.{sum_without}
use Rattle.ug_rows.proofs.Orders.{at_most_trans}
use Rattle.ug_problem.specs.Instances.{Instance}
use Rattle.ug_problem.specs.Limits.{IsProblem}
use Rattle.ug_problem.specs.ColumnEntries.{terms_of}
use Rattle.ug_propagate.proofs.Running.{linear_terms}
use Rattle.ug_propagate.specs.declared.row_sides.RowSides.{RowSides}
use Rattle.ug_propagate.specs.declared.row_sides.Propagated.TheVariants.{Same}
use Rattle.ug_propagate.specs.declared.measure.Slack.{Slack}
use Rattle.ug_propagate.specs.declared.working.Trailed.{Trailed}
use Rattle.ug_propagate.specs.declared.tight.Tight.TheVariants.{Kept}
use Rattle.ug_propagate.specs.Rounds.{row_step}
use Rattle.ug_propagate.proofs.Still.{row_within, terms_still}
use Rattle.ug_propagate.specs.Steps.{IsPropagable, IsSlackOf, IsTermOf, high_of, low_of, row_of, span_of}
use Rattle.ug_propagate.specs.Working.{AreTrailed, AreMaxSpans, FitsWhereSame, HasBits, HasChanged, HasUndone, WentBack, IsAtFixpoint, IsBox, IsLater, IsStep, WorkState, max_span_at, undone}

pub undone_append : (area : List Interval) (xs ys : List Trailed) → undone area (xs ++ ys) ≡ undone (undone area ys) xs
undone_append area [] ys = refl
undone_append area (x ∷ xs) ys = ap (λ (a : List Interval). set a x.column x.before) (undone_append area xs ys)

undone_width : (area : List Interval) (xs : List Trailed) → length (undone area xs) ≡ length area
undone_width area [] = refl
undone_width area (x ∷ xs) = length-set (undone area xs) x.column x.before ∙ undone_width area xs

abbrev is_there : ℕ → Trailed → Type 0
is_there width change = change.column < width

pub later_same : (work : WorkState) → IsLater work work
later_same work = record {
  more = [];
  trail = sym (append-nil work.trail);
  back = refl;
  there = All-nil (is_there (length work.sums.area));
  max_span = refl;
}

-- a box is as wide as it was
pub later_width : (old new : WorkState) → IsLater old new → length old.sums.area ≡ length new.sums.area
later_width old new h = sym (ap (λ (a : List Interval). length a) h.back) ∙ undone_width new.sums.area h.more

pub later_trans : (a b c : WorkState) → IsLater a b → IsLater b c → IsLater a c
later_trans a b c h k = record {
  more = h.more ++ k.more;
  trail = k.trail ∙ ap (λ (t : List Trailed). t ++ k.more) h.trail ∙ append_assoc a.trail h.more k.more;
  back = undone_append c.sums.area h.more k.more ∙ ap (λ (x : List Interval). undone x h.more) k.back ∙ h.back;
  there = All-append (is_there (length a.sums.area)) h.more k.more h.there
      (subst (λ (n : ℕ). AreTrailed n k.more) (sym (later_width a b h)) k.there);
  max_span = k.max_span ∙ h.max_span;
}

pub later_change : (p : Instance) (j : ℕ) (side : Interval) (old new : WorkState) → j < length old.sums.area
    → HasChanged p j side old new → IsLater old new
later_change p j side old new within h =
    let area : List Interval = old.sums.area in
    let before : Interval = interval_at area j in
    record {
      more = record { column = j; before = before } ∷ [];
      trail = h.trail;
      back = ap (λ (a : List Interval). set a j before) h.area ∙ set-set area j side before ∙ set-get_or area j no_interval;
      there = All-cons (is_there (length area)) (record { column = j; before = before }) [] within (All-nil (is_there (length area)));
      max_span = h.max_span;
    }

spread : (g l m n : ℤ) → g ≤ℤ m → n ≤ℤ l → (g -ℤ l) ≤ℤ (m -ℤ n)
spread g l m n h k = omega (arith, ints)

-- the span of a coefficient over an interval within another is at most that over the other
span_inner : (f : ℤ) (inner outer : Interval) → outer.low ≤ℤ inner.low → inner.high ≤ℤ outer.high
    → ((f *ℤ end_of Greatest f inner) -ℤ (f *ℤ end_of Least f inner)) ≤ℤ ((f *ℤ end_of Greatest f outer) -ℤ (f *ℤ end_of Least f outer))
span_inner (pos n) inner outer low high =
    spread _ _ _ _ (mul_pos n inner.high outer.high high) (mul_pos n outer.low inner.low low)
span_inner (negsuc n) inner outer low high =
    spread _ _ _ _ (mul_neg n outer.low inner.low low) (mul_neg n inner.high outer.high high)

-- so no span grows where one column is cut
pub span_cut : (t : Term) (area : List Interval) (j : ℕ) (side : Interval) (most : ℤ) → j < length area
    → IsClosedWithin side (interval_at area j) → span_of t area ≤ℤ most → span_of t (set area j side) ≤ℤ most
span_cut t area j side most there closed h = elim (cases_eq t.column j) [
  | inl same ↦
      let at : interval_at (set area j side) t.column ≡ side =
      ap (λ (k : ℕ). interval_at (set area j side) k) same ∙ get_or-set_same area j side no_interval there in
      let was : interval_at area j ≡ interval_at area t.column = ap (λ (k : ℕ). interval_at area k) (sym same) in
      let span : Interval → ℤ = λ (s : Interval). (t.factor *ℤ end_of Greatest t.factor s) -ℤ (t.factor *ℤ end_of Least t.factor s) in
      let P : Interval → Type 0 = λ (s : Interval). span s ≤ℤ most in
      let Q : Interval → Type 0 = λ (s : Interval). IsClosedWithin side s in
      subst P (sym at) (at_most_trans (span side) (span (interval_at area t.column)) most
      (let c : Q (interval_at area t.column) = subst Q was closed in span_inner t.factor side (interval_at area t.column) c.low c.high) h)
  | inr other ↦
      let at : interval_at (set area j side) t.column ≡ interval_at area t.column =
      get_or-set_other area j t.column side no_interval other in
      let P : Interval → Type 0 = λ (s : Interval).
      ((t.factor *ℤ end_of Greatest t.factor s) -ℤ (t.factor *ℤ end_of Least t.factor s)) ≤ℤ most in
      subst P (sym at) h
]

pub max_span_cut : (p : Instance) (area : List Interval) (max_span : List ℤ) (j : ℕ) (side : Interval) → j < length area
    → IsClosedWithin side (interval_at area j) → AreMaxSpans p area max_span → AreMaxSpans p (set area j side) max_span
max_span_cut p area max_span j side there closed h = record {
  count = h.count;
  each = λ r k inner within.
      span_cut (term_at (terms_of p r) k) area j side (max_span_at max_span r) there closed (h.each r k inner within);
}

-- a row without a term of the column stays at fixpoint
pub rest_other : (row_sides : RowSides) (ts : List Term) (area : List Interval) (j : ℕ) (side : Interval)
    → ((k : ℕ) → k < length ts → (term_at ts k).column ≢ j) → IsAtFixpoint row_sides ts area → IsAtFixpoint row_sides ts (set area j side)
rest_other row_sides ts area j side other h =
    let same : (k : ℕ) → k < length ts → interval_at (set area j side) (term_at ts k).column ≡ interval_at area (term_at ts k).column =
    λ (k : ℕ) (there : k < length ts). get_or-set_other area j (term_at ts k).column side no_interval (other k there) in
    record {
      slack = h.slack;
      is = record {
        small = λ k there. subst HasSmallEnds (sym (same k there)) (h.is.small k there);
        high = h.is.high ∙ ap (λ (s : ℤ). high_of row_sides.high -ℤ s) (sym (sum_without Least ts area j side other));
        low = h.is.low ∙ ap (λ (s : ℤ). s -ℤ low_of row_sides.low) (sym (sum_without Greatest ts area j side other));
        high_size = h.is.high_size;
        low_size = h.is.low_size;
      };
      high = h.high;
      low = h.low;
      each = λ k there.
          let t : Term = term_at ts k in
          let P : Interval → Type 0 = λ (s : Interval).
          (((t.factor *ℤ end_of Greatest t.factor s) -ℤ (t.factor *ℤ end_of Least t.factor s)) ≤ℤ h.slack.high)
          × (((t.factor *ℤ end_of Greatest t.factor s) -ℤ (t.factor *ℤ end_of Least t.factor s)) ≤ℤ h.slack.low) in
          subst P (sym (same k there)) (h.each k there);
    }

pub bits_enqueued : (p : Instance) (old new : List ℕ) → length new ≡ length old → HasBits p old → HasBits p new
bits_enqueued p old new same h = record { enough = omega (arith, h.enough, same); few = omega (arith, h.few, same) }

pub step_same : (p : Instance) (work : WorkState) → IsBox p work → IsStep p work work
step_same p work box = record { box = box; later = later_same work; at_fixpoint = λ cutoff h. h }

pub step_trans : (p : Instance) (a b c : WorkState) → IsStep p a b → IsStep p b c → IsStep p a c
step_trans p a b c h k = record {
  box = k.box;
  later = later_trans a b c h.later k.later;
  at_fixpoint = λ cutoff r. k.at_fixpoint cutoff (h.at_fixpoint cutoff r);
}

-- the box is as wide as it was
width_later : (p : Instance) (old new : WorkState) → IsBox p old → IsStep p old new → length old.sums.area ≡ length new.sums.area
width_later p old new box step = box.sums.width ∙ sym step.box.sums.width

pub propagable_later : (p : Instance) (old new : WorkState) (row_sides : RowSides) (ts : List Term) → IsBox p old → IsStep p old new
    → IsPropagable (length old.sums.area) row_sides ts → IsPropagable (length new.sums.area) row_sides ts
propagable_later p old new row_sides ts box step h = subst (λ (n : ℕ). IsPropagable n row_sides ts) (width_later p old new box step) h

pub term_later : (p : Instance) (old new : WorkState) (t : Term) → IsBox p old → IsStep p old new
    → IsTermOf (length old.sums.area) t → IsTermOf (length new.sums.area) t
term_later p old new t box step h = subst (λ (n : ℕ). IsTermOf n t) (width_later p old new box step) h

-- nothing was changed at the first i terms, and they fit within the slack
pub record IsUnchanged (ts : List Term) (i : ℕ) (old new : WorkState) (slack now : Slack) : Type 0 where
  pub work : new ≡ old
  pub slack_is : now ≡ slack
  pub fit : (k : ℕ) → k < i → (span_of (term_at ts k) old.sums.area ≤ℤ slack.high) × (span_of (term_at ts k) old.sums.area ≤ℤ slack.low)

pub unchanged_first : (ts : List Term) (work : WorkState) (slack : Slack) → IsUnchanged ts 0 work work slack slack
unchanged_first ts work slack = record { work = refl; slack_is = refl; fit = λ k less. absurd (omega arith) }

pub unchanged_more : (ts : List Term) (i : ℕ) (old mid new : WorkState) (slack now : Slack) → IsUnchanged ts i old mid slack now → new ≡ mid
    → FitsWhereSame Same (term_at ts i) mid.sums.area now → IsUnchanged ts (i + 1) old new slack now
unchanged_more ts i old mid new slack now h same fits =
    let P : WorkState → Slack → Type 0 = λ (w : WorkState) (r : Slack).
    (span_of (term_at ts i) w.sums.area ≤ℤ r.high) × (span_of (term_at ts i) w.sums.area ≤ℤ r.low) in
    record {
      work = same ∙ h.work;
      slack_is = h.slack_is;
      fit = λ k less. elim (cases_eq k i) [
        | inl e ↦
            let here : P old slack = subst (λ (r : Slack). P old r) h.slack_is (subst (λ (w : WorkState). P w now) h.work fits) in
            let Q : ℕ → Type 0 = λ (n : ℕ).
            (span_of (term_at ts n) old.sums.area ≤ℤ slack.high) × (span_of (term_at ts n) old.sums.area ≤ℤ slack.low) in
            subst Q (sym e) here
        | inr ne ↦ h.fit k (omega arith)
      ];
    }

-- a row whose widest span is within the slack of both sides is at fixpoint
pub max_span_at_fixpoint : (p : Instance) (r : ℕ) (row_sides : RowSides) (ts : List Term) (work : WorkState) (slack : Slack) → IsBox p work
    → r ≤ length p.rows → ts ≡ terms_of p r → IsSlackOf row_sides ts work.sums.area slack → pos 0 ≤ℤ slack.high → pos 0 ≤ℤ slack.low
    → max_span_at work.max_span r ≤ℤ slack.high → max_span_at work.max_span r ≤ℤ slack.low → IsAtFixpoint row_sides ts work.sums.area
max_span_at_fixpoint p r row_sides ts work slack box there same is high low up down =
    let area : List Interval = work.sums.area in
    let P : List Term → Type 0 = λ (us : List Term). (k : ℕ) → k < length us → span_of (term_at us k) area ≤ℤ max_span_at work.max_span r in
    let max_spans : P ts = subst P (sym same) (λ k within. box.max_span.each r k there within) in
    record {
      slack = slack;
      is = is;
      high = high;
      low = low;
      each = λ k within. (
        at_most_trans (span_of (term_at ts k) area) (max_span_at work.max_span r) slack.high (max_spans k within) up,
        at_most_trans (span_of (term_at ts k) area) (max_span_at work.max_span r) slack.low (max_spans k within) down,
      );
    }

-- the propagation of a row that is at fixpoint gives the box itself
pub rest_is : (row_sides : RowSides) (ts : List Term) (area : List Interval) → ((k : ℕ) → k < length ts → (term_at ts k).factor ≢ pos 0)
    → IsAtFixpoint row_sides ts area → row_step row_sides.row (row_of row_sides ts) area ≡ Kept area
rest_is row_sides ts area nonzero h =
    row_within row_sides ts area h.slack h.is h.high h.low
    ∙ terms_still row_sides ts ts area h.slack h.is nonzero (λ k there. (h.each k there).0) (λ k there. (h.each k there).1)

-- on the way back to the first `depth` changes
pub record GoesBack (depth : ℕ) (old new : WorkState) : Type 0 where
  pub deep : depth ≤ length new.trail
  pub trail : take depth new.trail ≡ take depth old.trail
  pub area : undone new.sums.area (drop depth new.trail) ≡ undone old.sums.area (drop depth old.trail)
  pub max_span : new.max_span ≡ old.max_span
  pub queued : new.queued ≡ old.queued

pub back_begins : (depth : ℕ) (work : WorkState) → depth ≤ length work.trail → GoesBack depth work work
back_begins depth work deep = record { deep = deep; trail = refl; area = refl; max_span = refl; queued = refl }

pub back_step : (depth : ℕ) (old mid new : WorkState) → depth < length mid.trail → HasUndone mid new → GoesBack depth old mid
    → GoesBack depth old new
back_step depth old mid new more h k =
    let long : length mid.trail ≡ length new.trail + 1 =
    ap (λ (t : List Trailed). length t) h.trail ∙ length_push new.trail h.change in
    let deep : depth ≤ length new.trail = omega arith in
    let cut : drop depth mid.trail ≡ drop depth new.trail ++ h.change ∷ [] =
    ap (λ (t : List Trailed). drop depth t) h.trail ∙ drop-append-le depth new.trail (h.change ∷ []) deep in
    record {
      deep = deep;
      trail = sym (take-append-le depth new.trail (h.change ∷ []) deep)
          ∙ sym (ap (λ (t : List Trailed). take depth t) h.trail) ∙ k.trail;
      area = ap (λ (a : List Interval). undone a (drop depth new.trail)) h.area
          ∙ sym (undone_append mid.sums.area (drop depth new.trail) (h.change ∷ []))
          ∙ sym (ap (λ (t : List Trailed). undone mid.sums.area t) cut) ∙ k.area;
      max_span = h.max_span ∙ k.max_span;
      queued = h.queued ∙ k.queued;
    }

pub back_ends : (depth : ℕ) (old new : WorkState) → length new.trail ≤ depth → GoesBack depth old new → WentBack depth old new
back_ends depth old new short h = record {
  trail = sym (take_all depth new.trail short) ∙ h.trail;
  area = sym (ap (λ (t : List Trailed). undone new.sums.area t) (drop_all depth new.trail short)) ∙ h.area;
  max_span = h.max_span;
  queued = h.queued;
}

-- a box below another reaches no further
pub max_span_below : (p : Instance) (inner outer : List Interval) (max_span : List ℤ) → IsProblem p → length outer ≡ length p.columns
    → IsBelow inner outer → AreMaxSpans p outer max_span → AreMaxSpans p inner max_span
max_span_below p inner outer max_span problem wide below h = record {
  count = h.count;
  each = λ r k there within.
      let t : Term = term_at (terms_of p r) k in
      let column : t.column < length outer = omega (arith, (linear_terms p r problem there).within k within, wide) in
      let n = below.each t.column column in
      at_most_trans (span_of t inner) (span_of t outer) (max_span_at max_span r)
      (span_inner t.factor (interval_at inner t.column) (interval_at outer t.column) n.low n.high)
      (h.each r k there within);
}
