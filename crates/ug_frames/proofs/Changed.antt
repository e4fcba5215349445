-- Changes, read as they are spelled.
use Rattle.std.proofs.Common.{◌≡◌, ℕ, ℤ, zero, suc, ◌+◌, ◌^◌, ◌<◌, ◌≤◌, true, List, [], ◌∷◌, ◌++◌, length, Ok, append_assoc, refl, sym, ◌∙◌, ap, arith, leb, unsigned_abs}
use Rattle.std.specs.Prelude.{int_le}
use Rattle.std.specs.List.{flat_map, All}
use Rattle.std.proofs.lemmas.Bool.{leb-true, le-leb}
use Rattle.std.proofs.lemmas.List.{append-nil}
use Rattle.ug_nodes.specs.declared.change.Change.{Change}
use Rattle.ug_nodes.specs.Changes.{IsRising, change_at}
use Rattle.ug_fields.specs.Reading.{count_at, bound_at}
use Rattle.ug_fields.specs.Readers.{IsReader, IsBytes}
use Rattle.ug_fields.specs.Spelling.{count_field, bound_field}
use Rattle.ug_fields.proofs.Takes.{made, reworded, joined}
use Rattle.ug_fields.proofs.Tests.{both_true, and_true, le_tells, le_told}
use Rattle.ug_fields.proofs.Tested.{tested}
use Rattle.ug_fields.proofs.Simple.{count_reader, bound_reader}
use Rattle.ug_fields.proofs.Counted.{counted}
use Rattle.ug_fields.proofs.Parts.{head_of, tail_of}
use Rattle.ug_fields.proofs.Runs.{Chain, many_reader}
use Rattle.ug_frames.specs.Ranges.{IsSmallChange, AreChanges}
use Rattle.ug_frames.specs.Spelling.{change_fields, changes_fields}
use Rattle.ug_frames.specs.Reading as read
use Rattle.ug_frames.specs.Reading.{is_change, any_change_at, changes_from, changes_at}
use Rattle.ug_frames.proofs.Lengths.{few}

abbrev IsColumn : ℕ → Type 0
IsColumn n = (n ≤ 9999) × (n < 2 ^ 32)

abbrev IsBound : ℤ → Type 0
IsBound z = unsigned_abs z ≤ 10 ^ 9

-- a change of small numbers
pub record IsAnyChange (c : Change) : Type 0 where
  pub column : IsColumn c.column
  pub low : IsBound c.low
  pub high : IsBound c.high

any_reader : IsReader IsAnyChange change_fields any_change_at
unfolding any_change_at change_fields
any_reader =
    reworded (λ (c : Change). Unit {0} × (IsColumn c.column
    × (IsBound c.low × (IsBound c.high × Unit {0}))))
    (λ c. count_field c.column ++ (bound_field c.low ++ (bound_field c.high ++ [])))
    IsAnyChange change_fields _
    (λ c good. ap (λ t. count_field c.column ++ (bound_field c.low ++ t))
    (append-nil (bound_field c.high))
    ∙ sym (append_assoc (count_field c.column) (bound_field c.low) (bound_field c.high)))
    (λ c good. record { column = good.1.0; low = good.1.1.0; high = good.1.1.1.0 })
    (λ c is. (tt, (is.column, (is.low, (is.high, tt)))))
    (joined (λ (c : Change). c.column) IsColumn count_field (count_at 9999)
    (λ c. Unit {0}) (λ c. IsBound c.low × (IsBound c.high × Unit {0}))
    (λ c. bound_field c.low ++ (bound_field c.high ++ [])) _ (count_reader 9999)
    (λ column small. joined (λ (c : Change). c.low) IsBound bound_field bound_at
    (λ c. Unit {0} × (c.column ≡ column)) (λ c. IsBound c.high × Unit {0})
    (λ c. bound_field c.high ++ []) _ bound_reader
    (λ low fits. joined (λ (c : Change). c.high) IsBound bound_field bound_at
    (λ c. (Unit {0} × (c.column ≡ column)) × (c.low ≡ low)) (λ c. Unit {0}) (λ c. []) _
    bound_reader
    (λ high fit. made
    (λ (c : Change). (((Unit {0} × (c.column ≡ column)) × (c.low ≡ low)) × (c.high ≡ high))
    × Unit {0})
    (record { column = column; low = low; high = high }) ((((tt, refl), refl), refl), tt)
    (λ c is. λ i. record { column = is.0.0.0.1 i; low = is.0.0.1 i; high = is.0.1 i })))))

-- a change that a frame can carry, of a column from this one on
pub record IsNextChange (least : ℕ) (c : Change) : Type 0 where
  pub small : IsSmallChange c
  pub behind : least ≤ c.column

change_tells : (least : ℕ) (c : Change) → IsAnyChange c → is_change least c ≡ true
    → IsNextChange least c
change_tells least c any e =
    let b = both_true (leb least c.column) (int_le c.low c.high) e in record {
      small = record {
        column = omega (arith, any.column.0);
        closed = le_tells _ _ b.1;
        low = any.low;
        high = any.high;
      };
      behind = leb-true _ _ b.0;
    }

change_told : (least : ℕ) (c : Change) → IsNextChange least c
    → IsAnyChange c × (is_change least c ≡ true)
change_told least c is = (
  record {
    column = (omega (arith, is.small.column), omega (arith, is.small.column));
    low = is.small.low;
    high = is.small.high;
  },
  and_true _ _ (le-leb _ _ is.behind) (le_told _ _ is.small.closed),
)

pub change_reader : (least : ℕ)
    → IsReader (IsNextChange least) change_fields (read.change_at least)
unfolding read.change_at
change_reader least =
    reworded (λ c. IsAnyChange c × (is_change least c ≡ true)) change_fields
    (IsNextChange least) change_fields _
    (λ c good. refl) (λ c good. change_tells least c good.0 good.1)
    (λ c is. change_told least c is)
    (tested IsAnyChange change_fields any_change_at (is_change least) any_reader)

abbrev pub past : ℕ → Change → ℕ
past least c = c.column + 1

-- ---- changes that were read, one behind the other, are those that a frame can carry

chain_least : (least : ℕ) (cs : List Change) → Chain IsNextChange past least cs
    → (k : ℕ) → k < length cs → least ≤ (change_at cs k).column
unfolding Chain
chain_least least [] c k here = absurd (omega (arith, here))
chain_least least (x ∷ cs) c zero here = c.0.behind
chain_least least (x ∷ cs) c (suc k) here =
    let behind = chain_least (x.column + 1) cs c.1 k (omega (arith, here)) in
    omega (arith, behind, c.0.behind)

rises : (least : ℕ) (cs : List Change) → Chain IsNextChange past least cs → IsRising cs
unfolding Chain
rises least [] c i k before here = absurd (omega (arith, here))
rises least (x ∷ cs) c i zero before here = absurd (omega (arith, before))
rises least (x ∷ cs) c zero (suc k) before here =
    let behind = chain_least (x.column + 1) cs c.1 k (omega (arith, here)) in
    omega (arith, behind)
rises least (x ∷ cs) c (suc i) (suc k) before here =
    rises (x.column + 1) cs c.1 i k (omega (arith, before)) (omega (arith, here))

each_small : (least : ℕ) (cs : List Change) → Chain IsNextChange past least cs
    → All IsSmallChange cs
unfolding Chain
each_small least [] c k d here = absurd (omega (arith, here))
each_small least (x ∷ cs) c zero d here = c.0.small
each_small least (x ∷ cs) c (suc k) d here =
    each_small (x.column + 1) cs c.1 k d (omega (arith, here))

chain_of : (least : ℕ) (cs : List Change)
    → ((k : ℕ) → k < length cs → least ≤ (change_at cs k).column)
    → IsRising cs → All IsSmallChange cs → Chain IsNextChange past least cs
unfolding Chain
chain_of least [] behind rising small = tt
chain_of least (c ∷ cs) behind rising small = (
  record { small = head_of IsSmallChange c cs small; behind = behind 0 (omega arith) },
  chain_of (c.column + 1) cs
      (λ k here. let more = rising 0 (suc k) (omega arith) (omega (arith, here)) in
      omega (arith, more))
      (λ i k before here. rising (suc i) (suc k) (omega (arith, before)) (omega (arith, here)))
      (tail_of IsSmallChange c cs small),
)

abbrev AreRead : List Change → Type 0
AreRead changes = ((length changes ≤ 10 ^ 4) × (length changes < 2 ^ 32))
    × Chain IsNextChange past 0 changes

pub changes_reader : IsReader AreChanges changes_fields changes_at
unfolding changes_at changes_fields
changes_reader =
    reworded AreRead (λ changes. count_field (length changes) ++ flat_map change_fields changes)
    AreChanges _ _
    (λ changes good. refl)
    (λ changes good. record {
      rising = rises 0 changes good.1;
      each = each_small 0 changes good.1;
    })
    (λ changes are.
    let short = few changes are in (
      (short, omega (arith, short)),
      chain_of 0 changes (λ k here. omega arith) are.rising are.each,
    ))
    (counted (10 ^ 4) read.change_at past IsNextChange change_fields change_reader 0)

pub changes_rise : (n : ℕ) (bytes rest : List ℕ) (changes : List Change) (least : ℕ)
    → IsBytes bytes → changes_from n bytes ≡ Ok ((changes, least), rest) → IsRising changes
changes_rise n bytes rest changes least h e =
    let t = (many_reader read.change_at past IsNextChange change_fields change_reader n 0).taken
    bytes (changes, least) rest h e in
    rises 0 changes t.1.1
