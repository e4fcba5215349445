-- Columns and terms, each read as it is spelled.
use Rattle.std.proofs.Common.{◌≡◌, ℕ, ◌^◌, ◌<◌, ◌≤◌, Bool, true, false, leb, ltb, [], ◌++◌, refl, sym, ◌∙◌, ap, append_assoc, unsigned_abs, inl, inr, arith}
use Rattle.std.specs.Prelude.{◌&&◌, ◌||◌, ◌⊎◌}
use Rattle.std.proofs.lemmas.Bool.{ltb-true, lt-ltb, leb-true, le-leb}
use Rattle.std.proofs.lemmas.List.{append-nil}
use Rattle.ug_lines.specs.Words.{is_word_byte}
use Rattle.ug_rows.specs.declared.row.Term.{Term}
use Rattle.ug_problem.specs.declared.column.Column.{Column}
use Rattle.ug_problem.specs.Instances.{IsName, IsColumn, IsWordByte}
use Rattle.ug_fields.specs.Reading.{unsigned_at, bound_at, number_at, name_at}
use Rattle.ug_fields.specs.Readers.{IsReader}
use Rattle.ug_fields.specs.Spelling.{count_field, bound_field, number_field, name_field}
use Rattle.ug_fields.specs.Laws.{IsNameField}
use Rattle.ug_fields.proofs.Takes.{reworded, made, joined}
use Rattle.ug_fields.proofs.Tests.{both_true, and_true}
use Rattle.ug_fields.proofs.Tested.{tested}
use Rattle.ug_fields.proofs.Simple.{unsigned_reader, bound_reader, number_reader}
use Rattle.ug_fields.proofs.Named as field
use Rattle.ug_records.specs.Reading.{place_at, factor_at, column_at, term_at}
use Rattle.ug_records.specs.Spelling.{term_fields, column_fields}

or_true : (a b : Bool) → (a || b) ≡ true → (a ≡ true) ⊎ (b ≡ true)
or_true true b e = inl refl
or_true false b e = inr e

or_right : (a : Bool) → (a || true) ≡ true
or_right true = refl
or_right false = refl

word_byte : (b : ℕ) → is_word_byte b ≡ true → IsWordByte b
word_byte b e =
    elim (or_true (leb 33 b && leb b 126) (leb 128 b) e) [
      | inl low ↦ let t = both_true (leb 33 b) (leb b 126) low in inl
          (leb-true _ _ t.0, leb-true _ _ t.1)
      | inr high ↦ inr (leb-true _ _ high)
    ]

is_word : (b : ℕ) → IsWordByte b → is_word_byte b ≡ true
is_word b (inl range) = rw (le-leb _ _ range.0, le-leb _ _ range.1) refl
is_word b (inr high) = rw (le-leb _ _ high) (or_right (leb 33 b && leb b 126))

pub name_reader : IsReader IsName name_field name_at
name_reader =
    reworded IsNameField name_field IsName name_field name_at
    (λ w good. refl)
    (λ w good. record {
      some = good.some;
      short = good.short;
      bytes = λ k d here. word_byte _ (good.bytes k d here);
    })
    (λ w is. record {
      some = is.some;
      short = is.short;
      bytes = λ k d here. is_word _ (is.bytes k d here);
    })
    field.name_reader

place_reader : (width least : ℕ) → IsReader (λ c. (least ≤ c) × (c < width) × (c < 2 ^ 32))
    count_field (place_at width least)
unfolding place_at
place_reader width least =
    reworded (λ c. (c < 2 ^ 32) × ((leb least c && ltb c width) ≡ true)) count_field
    (λ c. (least ≤ c) × (c < width) × (c < 2 ^ 32)) count_field _
    (λ c good. refl)
    (λ c good.
    let b = both_true (leb least c) (ltb c width) good.1 in
    (leb-true _ _ b.0, ltb-true _ _ b.1, good.0))
    (λ c is. (is.2, and_true _ _ (le-leb _ _ is.0) (lt-ltb _ _ is.1)))
    (tested (λ c. c < 2 ^ 32) count_field unsigned_at (λ c. leb least c && ltb c width)
    unsigned_reader)

factor_reader : IsReader (λ z. (1 ≤ unsigned_abs z) × (unsigned_abs z ≤ 10 ^ 24)) number_field
    factor_at
unfolding factor_at
factor_reader =
    reworded (λ z. (unsigned_abs z ≤ 10 ^ 24) × (leb 1 (unsigned_abs z) ≡ true)) number_field
    (λ z. (1 ≤ unsigned_abs z) × (unsigned_abs z ≤ 10 ^ 24)) number_field _
    (λ z good. refl)
    (λ z good. (leb-true _ _ good.1, good.0))
    (λ z is. (is.1, le-leb _ _ is.0))
    (tested (λ z. unsigned_abs z ≤ 10 ^ 24) number_field (number_at (10 ^ 24))
    (λ z. leb 1 (unsigned_abs z)) (number_reader (10 ^ 24) (omega arith)))

pub column_reader : IsReader IsColumn column_fields column_at
unfolding column_at
column_reader =
    reworded (λ (c : Column). Unit {0}
    × (IsName c.name × ((unsigned_abs c.low ≤ 10 ^ 9)
    × ((unsigned_abs c.high ≤ 10 ^ 9) × Unit {0}))))
    (λ c. name_field c.name ++ (bound_field c.low ++ (bound_field c.high ++ []))) IsColumn
    column_fields _
    (λ c good. ap (λ t. name_field c.name ++ (bound_field c.low ++ t))
    (append-nil (bound_field c.high))
    ∙ sym (append_assoc (name_field c.name) (bound_field c.low) (bound_field c.high)))
    (λ c good. record { name = good.1.0; low = good.1.1.0; high = good.1.1.1.0 })
    (λ c is. (tt, (is.name, (is.low, (is.high, tt)))))
    (joined (λ (c : Column). c.name) IsName name_field name_at (λ c. Unit {0})
    (λ c. (unsigned_abs c.low ≤ 10 ^ 9) × ((unsigned_abs c.high ≤ 10 ^ 9) × Unit {0}))
    (λ c. bound_field c.low ++ (bound_field c.high ++ [])) _ name_reader
    (λ name is. joined (λ (c : Column). c.low) (λ z. unsigned_abs z ≤ 10 ^ 9) bound_field bound_at
    (λ c. Unit {0} × (c.name ≡ name)) (λ c. (unsigned_abs c.high ≤ 10 ^ 9) × Unit {0})
    (λ c. bound_field c.high ++ []) _ bound_reader
    (λ low small. joined (λ (c : Column). c.high) (λ z. unsigned_abs z ≤ 10 ^ 9) bound_field
    bound_at
    (λ c. (Unit {0} × (c.name ≡ name)) × (c.low ≡ low)) (λ c. Unit {0}) (λ c. []) _ bound_reader
    (λ high little. made (λ (c : Column). (((Unit {0} × (c.name ≡ name)) × (c.low ≡ low))
    × (c.high ≡ high)) × Unit {0})
    (record { name = name; low = low; high = high }) ((((tt, refl), refl), refl), tt)
    (λ c is. λ i. record { name = is.0.0.0.1 i; low = is.0.0.1 i; high = is.0.1 i })))))

-- a term of a column from the least on, below the width
pub record IsNext (width least : ℕ) (t : Term) : Type 0 where
  pub behind : least ≤ t.column
  pub there : t.column < width
  pub short : t.column < 2 ^ 32
  pub some : 1 ≤ unsigned_abs t.factor
  pub small : unsigned_abs t.factor ≤ 10 ^ 24

pub term_reader : (width least : ℕ) → IsReader (IsNext width least) term_fields
    (term_at width least)
unfolding term_at
term_reader width least =
    reworded (λ (t : Term). Unit {0}
    × (((least ≤ t.column) × (t.column < width) × (t.column < 2 ^ 32))
    × (((1 ≤ unsigned_abs t.factor) × (unsigned_abs t.factor ≤ 10 ^ 24)) × Unit {0})))
    (λ t. count_field t.column ++ (number_field t.factor ++ [])) (IsNext width least) term_fields _
    (λ t good. ap (λ x. count_field t.column ++ x) (append-nil (number_field t.factor)))
    (λ t good. record {
      behind = good.1.0.0;
      there = good.1.0.1;
      short = good.1.0.2;
      some =
          good.1.1.0.0;
      small = good.1.1.0.1;
    })
    (λ t is. (tt, ((is.behind, is.there, is.short), ((is.some, is.small), tt))))
    (joined (λ (t : Term). t.column) (λ c. (least ≤ c) × (c < width) × (c < 2 ^ 32)) count_field
    (place_at width least) (λ t. Unit {0})
    (λ t. ((1 ≤ unsigned_abs t.factor) × (unsigned_abs t.factor ≤ 10 ^ 24)) × Unit {0})
    (λ t. number_field t.factor ++ []) _ (place_reader width least)
    (λ column is. joined (λ (t : Term). t.factor)
    (λ z. (1 ≤ unsigned_abs z) × (unsigned_abs z ≤ 10 ^ 24)) number_field factor_at
    (λ t. Unit {0} × (t.column ≡ column)) (λ t. Unit {0}) (λ t. []) _ factor_reader
    (λ factor small. made (λ (t : Term). ((Unit {0} × (t.column ≡ column)) × (t.factor ≡ factor))
    × Unit {0})
    (record { column = column; factor = factor }) (((tt, refl), refl), tt)
    (λ t is. λ i. record { column = is.0.0.1 i; factor = is.0.1 i }))))
