-- Terms, rows, the objective and the whole record, each read as it is spelled.
use Rattle.std.proofs.Common.{◌≡◌, ℕ, ℤ, zero, suc, ◌+◌, ◌^◌, ◌<◌, ◌≤◌, Bool, true, false, List, [], ◌∷◌, ◌++◌, length, Option, IfSome, refl, sym, ◌∙◌, ap, arith, unsigned_abs}
use Rattle.std.specs.Prelude.{◌==◌}
use Rattle.std.specs.List.{flat_map}
use Rattle.std.proofs.lemmas.List.{append-nil}
use Rattle.ug_rows.specs.declared.row.Term.{Term}
use Rattle.ug_rows.specs.declared.row.Objective.{Objective}
use Rattle.ug_problem.specs.declared.column.NamedRow.{NamedRow}
use Rattle.ug_problem.specs.Instances.{IsName}
use Rattle.ug_fields.specs.Reading.{count_at, number_at, small_at, name_at, optional_at}
use Rattle.ug_fields.specs.Readers.{IsReader}
use Rattle.ug_fields.specs.Spelling.{count_field, number_field, name_field, optional_field}
use Rattle.ug_fields.proofs.Parts.{four}
use Rattle.ug_fields.proofs.Takes.{reworded, made, joined}
use Rattle.ug_fields.proofs.Simple.{count_reader, number_reader, small_reader}
use Rattle.ug_fields.proofs.Flagged.{optional_reader}
use Rattle.ug_fields.proofs.Runs.{Chain, after_all, many_reader}
use Rattle.ug_records.specs.Reading.{term_at, terms_from, terms_at, row_at, objective_at}
use Rattle.ug_records.specs.Spelling.{sense_field, term_fields, terms_fields, row_fields, objective_fields}
use Rattle.ug_records.proofs.Composed.{IsNext, name_reader, term_reader}

abbrev pub past : ℕ → Term → ℕ
past least t = t.column + 1

-- terms of which each follows the one before it, and no more than there is room for
pub record AreRead (width room : ℕ) (terms : List Term) : Type 0 where
  pub few : length terms ≤ room
  pub short : length terms < 2 ^ 32
  pub chain : Chain (IsNext width) past 0 terms

pub terms_reader : (width room : ℕ) → IsReader (AreRead width room) terms_fields
    (terms_at width room)
unfolding terms_at terms_fields
terms_reader width room =
    reworded (λ (terms : List Term). Unit {0} × (((length terms ≤ room) × (length terms < 2 ^ 32))
    × Chain (IsNext width) past 0 terms))
    (λ terms. count_field (length terms) ++ (flat_map term_fields terms ++ [])) (AreRead width room)
    terms_fields _
    (λ terms good. ap (λ t. count_field (length terms) ++ t)
    (append-nil (flat_map term_fields terms)))
    (λ terms good. record { few = good.1.0.0; short = good.1.0.1; chain = good.1.1 })
    (λ terms is. (tt, ((is.few, is.short), is.chain)))
    (joined (λ (terms : List Term). length terms) (λ n. (n ≤ room) × (n < 2 ^ 32)) count_field
    (count_at room) (λ terms. Unit {0})
    (Chain (IsNext width) past 0) (λ terms. flat_map term_fields terms ++ []) _ (count_reader room)
    (λ n small. reworded (λ (terms : List Term). (Unit {0} × (length terms ≡ n))
    × (((length terms ≡ n) × Chain (IsNext width) past 0 terms
    × (after_all past 0 terms ≡ after_all past 0 terms)) × Unit {0}))
    (λ terms. flat_map term_fields terms ++ [])
    (λ (terms : List Term). (Unit {0} × (length terms ≡ n)) × Chain (IsNext width) past 0 terms)
    (λ terms. flat_map term_fields terms ++ []) _
    (λ terms good. refl) (λ terms good. (good.0, good.1.0.1))
    (λ terms good. (good.0, ((good.0.1, good.1, refl), tt)))
    (joined (λ (terms : List Term). (terms, after_all past 0 terms))
    (λ x. (length x.0 ≡ n) × Chain (IsNext width) past 0 x.0 × (x.1 ≡ after_all past 0 x.0))
    (λ x. flat_map term_fields x.0) (terms_from width n)
    (λ terms. Unit {0} × (length terms ≡ n)) (λ terms. Unit {0}) (λ terms. []) _
    (many_reader (λ least. term_at width least) past (IsNext width) term_fields (term_reader width)
    n 0)
    (λ x run. made (λ (terms : List Term).
    ((Unit {0} × (length terms ≡ n)) × ((terms, after_all past 0 terms) ≡ x)) × Unit {0})
    x.0 (((tt, run.0), λ i. (x.0, sym run.2 i)), tt) (λ terms is. λ i. (is.0.1 i).0)))))

abbrev pub IsGoodSide : Option ℤ → Type 0
IsGoodSide side = IfSome side (λ z. unsigned_abs z ≤ 10 ^ 37)

side_reader : IsReader IsGoodSide optional_field (optional_at (10 ^ 37))
side_reader = optional_reader (10 ^ 37) (omega arith)

constant_reader : IsReader (λ z. unsigned_abs z ≤ 10 ^ 37) number_field (number_at (10 ^ 37))
constant_reader = number_reader (10 ^ 37) (omega arith)

-- a row that is read where there is room for this many terms
pub record IsReadRow (width room : ℕ) (named : NamedRow) : Type 0 where
  pub name : IsName named.name
  pub low : IsGoodSide named.row.low
  pub high : IsGoodSide named.row.high
  pub terms : AreRead width room named.row.terms

pub row_reader : (width room : ℕ) → IsReader (IsReadRow width room) row_fields (row_at width room)
unfolding row_at
row_reader width room =
    reworded (λ (r : NamedRow). Unit {0}
    × (IsName r.name × (IsGoodSide r.row.low
    × (IsGoodSide r.row.high × (AreRead width room r.row.terms × Unit {0})))))
    (λ r. name_field r.name
    ++ (optional_field r.row.low ++ (optional_field r.row.high ++ (terms_fields r.row.terms ++ []))))
    (IsReadRow width room) row_fields _
    (λ r good. sym (four (name_field r.name) (optional_field r.row.low) (optional_field r.row.high)
    (terms_fields r.row.terms) []) ∙ append-nil (row_fields r))
    (λ r good. record {
      name = good.1.0;
      low = good.1.1.0;
      high = good.1.1.1.0;
      terms =
          good.1.1.1.1.0;
    })
    (λ r is. (tt, (is.name, (is.low, (is.high, (is.terms, tt))))))
    (joined (λ (r : NamedRow). r.name) IsName name_field name_at (λ r. Unit {0})
    (λ r. IsGoodSide r.row.low
    × (IsGoodSide r.row.high × (AreRead width room r.row.terms × Unit {0})))
    (λ r. optional_field r.row.low ++ (optional_field r.row.high ++ (terms_fields r.row.terms ++ []))) _
    name_reader
    (λ name is. joined (λ (r : NamedRow). r.row.low) IsGoodSide optional_field (optional_at (10 ^ 37))
    (λ r. Unit {0} × (r.name ≡ name))
    (λ r. IsGoodSide r.row.high × (AreRead width room r.row.terms × Unit {0}))
    (λ r. optional_field r.row.high ++ (terms_fields r.row.terms ++ [])) _ side_reader
    (λ low lows. joined (λ (r : NamedRow). r.row.high) IsGoodSide optional_field (optional_at (10 ^ 37))
    (λ r. (Unit {0} × (r.name ≡ name)) × (r.row.low ≡ low))
    (λ r. AreRead width room r.row.terms × Unit {0})
    (λ r. terms_fields r.row.terms ++ []) _ side_reader
    (λ high highs. joined (λ (r : NamedRow). r.row.terms) (AreRead width room) terms_fields
    (terms_at width room)
    (λ r. ((Unit {0} × (r.name ≡ name)) × (r.row.low ≡ low)) × (r.row.high ≡ high)) (λ r. Unit {0})
    (λ r. []) _ (terms_reader width room)
    (λ terms are. made (λ (r : NamedRow).
    ((((Unit {0} × (r.name ≡ name)) × (r.row.low ≡ low)) × (r.row.high ≡ high))
    × (r.row.terms ≡ terms)) × Unit {0})
    (record { name = name; row = record { terms = terms; low = low; high = high } })
    (((((tt, refl), refl), refl), refl), tt)
    (λ r is. λ i. record {
      name = is.0.0.0.0.1 i;
      row = record
          { terms = is.0.1 i; low = is.0.0.0.1 i; high = is.0.0.1 i };
    }))))))

-- the objective, where there is room for this many terms
pub record IsReadObjective (width room : ℕ) (o : Objective) : Type 0 where
  pub scale : o.scale ≤ 60
  pub constant : unsigned_abs o.constant ≤ 10 ^ 37
  pub terms : AreRead width room o.terms

number_of_sense : Bool → ℕ
number_of_sense false = 0
number_of_sense true = 1

sense_small : (m : Bool) → (0 ≤ number_of_sense m) × (number_of_sense m ≤ 1)
unfolding number_of_sense
sense_small false = (omega arith, omega arith)
sense_small true = (omega arith, omega arith)

sense_spelled : (m : Bool) → ◌≡◌ {A = List ℕ} (number_of_sense m ∷ []) (sense_field m)
unfolding number_of_sense
sense_spelled false = refl
sense_spelled true = refl

sense_back : (n : ℕ) → n ≤ 1 → number_of_sense (n == 1) ≡ n
unfolding number_of_sense
sense_back zero small = refl
sense_back (suc zero) small = refl
sense_back (suc (suc n)) small = absurd (omega (arith, small))

sense_again : (m : Bool) → m ≡ (number_of_sense m == 1)
unfolding number_of_sense
sense_again false = refl
sense_again true = refl

pub objective_reader : (width room : ℕ) → IsReader (IsReadObjective width room) objective_fields
    (objective_at width room)
unfolding objective_at objective_fields
objective_reader width room =
    reworded (λ (o : Objective). Unit {0}
    × (((0 ≤ number_of_sense o.maximise) × (number_of_sense o.maximise ≤ 1))
    × (((0 ≤ o.scale) × (o.scale ≤ 60))
    × ((unsigned_abs o.constant ≤ 10 ^ 37) × (AreRead width room o.terms × Unit {0})))))
    (λ o. (number_of_sense o.maximise ∷ [])
    ++ ((o.scale ∷ []) ++ (number_field o.constant ++ (terms_fields o.terms ++ []))))
    (IsReadObjective width room) objective_fields _
    (λ o good. ap (λ sense.
    sense ++ ((o.scale ∷ []) ++ (number_field o.constant ++ (terms_fields o.terms ++ []))))
    (sense_spelled o.maximise)
    ∙ sym (four (sense_field o.maximise) (o.scale ∷ []) (number_field o.constant)
    (terms_fields o.terms) [])
    ∙ append-nil (sense_field o.maximise ++ (o.scale ∷ []) ++ number_field
    o.constant ++ terms_fields o.terms))
    (λ o good. record { scale = good.1.1.0.1; constant = good.1.1.1.0; terms = good.1.1.1.1.0 })
    (λ o is. (
      tt,
      (
        sense_small o.maximise,
        ((omega arith, is.scale), (is.constant, (is.terms, tt))),
      ),
    ))
    (joined (λ (o : Objective). number_of_sense o.maximise) (λ n. (0 ≤ n) × (n ≤ 1)) (λ n. n ∷ [])
    (small_at 0 1) (λ o. Unit {0})
    (λ o. ((0 ≤ o.scale) × (o.scale ≤ 60))
    × ((unsigned_abs o.constant ≤ 10 ^ 37) × (AreRead width room o.terms × Unit {0})))
    (λ o. (o.scale ∷ []) ++ (number_field o.constant ++ (terms_fields o.terms ++ []))) _
    (small_reader 0 1)
    (λ sense is_sense. joined (λ (o : Objective). o.scale) (λ n. (0 ≤ n) × (n ≤ 60)) (λ n. n ∷ [])
    (small_at 0 60) (λ o. Unit {0} × (number_of_sense o.maximise ≡ sense))
    (λ o. (unsigned_abs o.constant ≤ 10 ^ 37) × (AreRead width room o.terms × Unit {0}))
    (λ o. number_field o.constant ++ (terms_fields o.terms ++ [])) _ (small_reader 0 60)
    (λ scale is_scale. joined (λ (o : Objective). o.constant) (λ z. unsigned_abs z ≤ 10 ^ 37)
    number_field (number_at (10 ^ 37)) (λ o. (Unit {0} × (number_of_sense o.maximise ≡ sense))
    × (o.scale ≡ scale))
    (λ o. AreRead width room o.terms × Unit {0})
    (λ o. terms_fields o.terms ++ []) _ constant_reader
    (λ constant small. joined (λ (o : Objective). o.terms) (AreRead width room) terms_fields
    (terms_at width room)
    (λ o. ((Unit {0} × (number_of_sense o.maximise ≡ sense)) × (o.scale ≡ scale))
    × (o.constant ≡ constant)) (λ o. Unit {0}) (λ o. []) _ (terms_reader width room)
    (λ terms are. made (λ (o : Objective).
    ((((Unit {0} × (number_of_sense o.maximise ≡ sense)) × (o.scale ≡ scale))
    × (o.constant ≡ constant)) × (o.terms ≡ terms)) × Unit {0})
    (record { terms = terms; constant = constant; maximise = sense == 1; scale = scale })
    (((((tt, sense_back sense is_sense.1), refl), refl), refl), tt)
    (λ o is.
    let sense-is : o.maximise ≡ (sense == 1) = sense_again o.maximise
    ∙ ap (λ n. n == 1) is.0.0.0.0.1 in
    λ i. record {
      terms = is.0.1 i;
      constant = is.0.0.1 i;
      maximise = sense-is i;
      scale = is.0.0.0.1
          i;
    }))))))
