-- Changes, read as they are spelled.
use Rattle.std.proofs.Common.{◌≡◌, ℕ, ℤ, pos, negsuc, ◌+◌, ◌^◌, ◌<◌, ◌≤◌, Bool, true, false, List, [], ◌++◌, length, append_assoc, refl, sym, ◌∙◌, ap, subst, arith, leb, ltb}
use Rattle.std.specs.Prelude.{◌&&◌, ◌≤ℤ◌, FitsSigned, not, int_le}
use Rattle.std.specs.List.{flat_map}
use Rattle.std.specs.Int.{w32}
use Rattle.std.proofs.lemmas.Bool.{ltb-true, lt-ltb, leb-true, le-leb}
use Rattle.std.proofs.lemmas.List.{append-nil}
use Rattle.std.proofs.lemmas.Int.{ints}
use Rattle.ug_rows.specs.declared.area.Interval.{Interval}
use Rattle.ug_rows.specs.Boxes.{interval_at}
use Rattle.ug_rows.proofs.Orders.{at_most_itself}
use Rattle.ug_nodes.specs.declared.change.Change.{Change}
use Rattle.ug_nodes.specs.Changes.{IsChangeOf, change_bounds}
use Rattle.ug_fields.specs.Reading.{unsigned_at, signed_at}
use Rattle.ug_fields.specs.Readers.{IsReader}
use Rattle.ug_fields.specs.Spelling.{count_field, bound_field}
use Rattle.ug_fields.proofs.Takes.{made, reworded, joined}
use Rattle.ug_fields.proofs.Tests.{both_true, and_true, le_tells, le_told}
use Rattle.ug_fields.proofs.Tested.{tested}
use Rattle.ug_fields.proofs.Simple.{unsigned_reader, signed_reader}
use Rattle.ug_fields.proofs.Counted.{counted}
use Rattle.ug_fields.proofs.Runs.{Chain}
use Rattle.ug_image.specs.Spelling.{change_fields, changes_fields}
use Rattle.ug_image.specs.Reading as read
use Rattle.ug_image.specs.Reading.{is_closed_within, is_whole, is_change, any_change_at, changes_at}

-- a change is made of numbers of four bytes
pub record FitsFields (c : Change) : Type 0 where
  pub column : c.column < 2 ^ 32
  pub low : FitsSigned w32 c.low
  pub high : FitsSigned w32 c.high

any_reader : IsReader FitsFields change_fields any_change_at
unfolding any_change_at
any_reader =
    reworded (λ (c : Change). Unit {0} × ((c.column < 2 ^ 32)
    × (FitsSigned w32 c.low × (FitsSigned w32 c.high × Unit {0}))))
    (λ c. count_field c.column ++ (bound_field c.low ++ (bound_field c.high ++ [])))
    FitsFields change_fields _
    (λ c good. ap (λ t. count_field c.column ++ (bound_field c.low ++ t))
    (append-nil (bound_field c.high))
    ∙ sym (append_assoc (count_field c.column) (bound_field c.low) (bound_field c.high)))
    (λ c good. record { column = good.1.0; low = good.1.1.0; high = good.1.1.1.0 })
    (λ c is. (tt, (is.column, (is.low, (is.high, tt)))))
    (joined (λ (c : Change). c.column) (λ n. n < 2 ^ 32) count_field unsigned_at
    (λ c. Unit {0}) (λ c. FitsSigned w32 c.low × (FitsSigned w32 c.high × Unit {0}))
    (λ c. bound_field c.low ++ (bound_field c.high ++ [])) _ unsigned_reader
    (λ column small. joined (λ (c : Change). c.low) (FitsSigned w32) bound_field signed_at
    (λ c. Unit {0} × (c.column ≡ column)) (λ c. FitsSigned w32 c.high × Unit {0})
    (λ c. bound_field c.high ++ []) _ signed_reader
    (λ low fits. joined (λ (c : Change). c.high) (FitsSigned w32) bound_field signed_at
    (λ c. (Unit {0} × (c.column ≡ column)) × (c.low ≡ low)) (λ c. Unit {0}) (λ c. []) _
    signed_reader
    (λ high fit. made
    (λ (c : Change). (((Unit {0} × (c.column ≡ column)) × (c.low ≡ low)) × (c.high ≡ high))
    × Unit {0})
    (record { column = column; low = low; high = high }) ((((tt, refl), refl), refl), tt)
    (λ c is. λ i. record { column = is.0.0.0.1 i; low = is.0.0.1 i; high = is.0.1 i })))))

-- a change of a box below the root, of a column from this one on
pub record IsNextChange (root : List Interval) (least : ℕ) (c : Change) : Type 0 where
  pub fits : FitsFields c
  pub behind : least ≤ c.column
  pub valid : IsChangeOf root c

not_true : (b : Bool) → not b ≡ true → b ≡ false
not_true false e = refl
not_true true e = absurd cc

not_false : (b : Bool) → (b ≡ true → ⊥) → not b ≡ true
not_false false h = refl
not_false true h = absurd (h refl)

le_both : (a b : ℤ) → a ≤ℤ b → b ≤ℤ a → a ≡ b
le_both (pos a) (pos b) h g = ap pos (grind (arith, ints, h, g))
le_both (pos a) (negsuc b) h g = absurd (grind (arith, ints, h))
le_both (negsuc a) (pos b) h g = absurd (grind (arith, ints, g))
le_both (negsuc a) (negsuc b) h g = ap negsuc (grind (arith, ints, h, g))

change_tells : (root : List Interval) (least : ℕ) (c : Change) → is_change root least c ≡ true
    → (least ≤ c.column) × IsChangeOf root c
unfolding is_change
change_tells root least c e =
    let side = interval_at root c.column in
    let b = both_true (leb least c.column && ltb c.column (length root)) _ e in
    let place = both_true (leb least c.column) (ltb c.column (length root)) b.0 in
    let n = both_true (is_closed_within side c.low c.high) (not (is_whole side c.low c.high)) b.1 in
    let closed = both_true (int_le side.low c.low && int_le c.low c.high) (int_le c.high side.high)
    n.0 in
    let lows = both_true (int_le side.low c.low) (int_le c.low c.high) closed.0 in (
      leb-true _ _ place.0,
      record {
        differs = record {
          there = ltb-true _ _ place.1;
          other = λ (same : change_bounds c ≡ side).
              let whole : is_whole side c.low c.high ≡ true = and_true _ _
              (le_told c.low side.low (subst (λ z. c.low ≤ℤ z) (λ i. (same i).low) (at_most_itself c.low)))
              (le_told side.high c.high (subst (λ z. z ≤ℤ c.high) (λ i. (same i).high)
              (at_most_itself c.high))) in
              let none = not_true (is_whole side c.low c.high) n.1 in
              absurd (cc (whole, none));
        };
        within = record {
          low = le_tells _ _ lows.0;
          high = le_tells _ _ closed.1;
          some = le_tells _ _ lows.1;
        };
      },
    )

change_told : (root : List Interval) (least : ℕ) (c : Change) → least ≤ c.column
    → IsChangeOf root c → is_change root least c ≡ true
unfolding is_change
change_told root least c behind valid =
    let side = interval_at root c.column in
    and_true _ _
    (and_true _ _ (le-leb _ _ behind) (lt-ltb _ _ valid.differs.there))
    (and_true _ _
    (and_true _ _
    (and_true _ _ (le_told _ _ valid.within.low) (le_told _ _ valid.within.some))
    (le_told _ _ valid.within.high))
    (not_false (is_whole side c.low c.high) (λ whole.
    let w = both_true (int_le c.low side.low) (int_le side.high c.high) whole in
    let low : c.low ≡ side.low = le_both _ _ (le_tells _ _ w.0) valid.within.low in
    let high : c.high ≡ side.high = le_both _ _ valid.within.high (le_tells _ _ w.1) in
    valid.differs.other (λ i. record { low = low i; high = high i }))))

pub change_reader : (root : List Interval) (least : ℕ)
    → IsReader (IsNextChange root least) change_fields (read.change_at root least)
unfolding read.change_at
change_reader root least =
    reworded (λ c. FitsFields c × (is_change root least c ≡ true)) change_fields
    (IsNextChange root least) change_fields _
    (λ c good. refl)
    (λ c good.
    let t = change_tells root least c good.1 in
    record { fits = good.0; behind = t.0; valid = t.1 })
    (λ c is. (is.fits, change_told root least c is.behind is.valid))
    (tested FitsFields change_fields any_change_at (is_change root least) any_reader)

abbrev pub past : ℕ → Change → ℕ
past least c = c.column + 1

-- changes of which each is of a column behind the one before it, and not more than 10,000
pub record AreReadChanges (root : List Interval) (changes : List Change) : Type 0 where
  pub few : length changes ≤ 10 ^ 4
  pub chain : Chain (IsNextChange root) past 0 changes

pub changes_reader : (root : List Interval)
    → IsReader (AreReadChanges root) changes_fields (changes_at root)
unfolding changes_at changes_fields
changes_reader root =
    reworded (λ (changes : List Change). ((length changes ≤ 10 ^ 4) × (length changes < 2 ^ 32))
    × Chain (IsNextChange root) past 0 changes)
    (λ changes. count_field (length changes) ++ flat_map change_fields changes)
    (AreReadChanges root) _ _
    (λ changes good. refl)
    (λ changes good. record { few = good.0.0; chain = good.1 })
    (λ changes are. ((are.few, omega (arith, are.few)), are.chain))
    (counted (10 ^ 4) (read.change_at root) past (IsNextChange root) change_fields
    (change_reader root) 0)
