-- Tickets, params, races, counts and gaps, each read as it is spelled.
use Rattle.std.proofs.Common.{◌≡◌, ℕ, ℤ, pos, negsuc, zero, suc, ◌+◌, ◌*◌, ◌^◌, ◌<◌, ◌≤◌, Bool, true, false, eqb, leb, [], ◌∷◌, ◌++◌, refl, sym, ◌∙◌, ap, arith, unsigned_abs}
use Rattle.std.specs.Prelude.{◌≤ℤ◌, if◌then◌else◌}
use Rattle.std.proofs.lemmas.Bool.{leb-true, le-leb}
use Rattle.std.proofs.lemmas.Int.{ints}
use Rattle.std.proofs.lemmas.List.{append-nil}
use Rattle.ug_problem.specs.Better.{IsGap}
use Rattle.ug_nodes.specs.declared.name.Ticket.{Ticket}
use Rattle.ug_branch.specs.declared.params.Params.{Params}
use Rattle.ug_branch.specs.declared.params.Pick.{Pick}
use Rattle.ug_branch.specs.declared.params.Pick.TheVariants.{Place, Width}
use Rattle.ug_branch.specs.declared.params.End.{End}
use Rattle.ug_branch.specs.declared.params.End.TheVariants.{Lowest, Highest}
use Rattle.ug_branch.specs.declared.params.Half.{Half}
use Rattle.ug_branch.specs.declared.params.Half.TheVariants.{Lower, Upper}
use Rattle.ug_branch.specs.declared.params.Base.{Base}
use Rattle.ug_branch.specs.declared.params.Base.TheVariants.{Bound, Surrogate}
use Rattle.ug_branch.specs.Numbers.{pick_bit, end_bit, half_bit, number_of, base_bit}
use Rattle.ug_fields.specs.Reading.{small_at, unsigned_at, long_at, amount_at}
use Rattle.ug_fields.specs.Readers.{IsReader}
use Rattle.ug_fields.specs.Spelling.{count_field, long_field, number_field}
use Rattle.ug_fields.proofs.Takes.{made, reworded, joined}
use Rattle.ug_fields.proofs.Tested.{tested}
use Rattle.ug_fields.proofs.Simple.{small_reader, unsigned_reader, long_reader, amount_reader}
use Rattle.ug_frames.specs.Ranges.{IsGiven}
use Rattle.ug_frames.specs.Fits.{FitsTicket}
use Rattle.ug_frames.specs.Spelling.{ticket_fields, params_field, race_field}
use Rattle.ug_frames.specs.Reading.{ticket_at, params_of, params_at, race_at, positive_at}

-- ---- tickets

abbrev IsCount : ℕ → Type 0
IsCount n = (1 ≤ n) × (n < 2 ^ 64)

-- a ticket that was given, of numbers of eight bytes
pub record IsToldTicket (ticket : Ticket) : Type 0 where
  pub run : IsCount ticket.run
  pub number : IsCount ticket.number

pub given : (ticket : Ticket) → IsToldTicket ticket → IsGiven ticket
given ticket told = record { run = told.run.0; number = told.number.0 }

pub fits : (ticket : Ticket) → IsToldTicket ticket → FitsTicket ticket
fits ticket told = record { run = told.run.1; number = told.number.1 }

pub told : (ticket : Ticket) → IsGiven ticket → FitsTicket ticket → IsToldTicket ticket
told ticket given fits = record {
  run = (given.run, fits.run);
  number = (given.number, fits.number);
}

pub ticket_reader : IsReader IsToldTicket ticket_fields ticket_at
unfolding ticket_at ticket_fields
ticket_reader =
    reworded (λ (t : Ticket). Unit {0} × (IsCount t.run × (IsCount t.number × Unit {0})))
    (λ t. long_field t.run ++ (long_field t.number ++ [])) IsToldTicket ticket_fields _
    (λ t good. ap (λ x. long_field t.run ++ x) (append-nil (long_field t.number)))
    (λ t good. record { run = good.1.0; number = good.1.1.0 })
    (λ t is. (tt, (is.run, (is.number, tt))))
    (joined (λ (t : Ticket). t.run) IsCount long_field (long_at 1)
    (λ t. Unit {0}) (λ t. IsCount t.number × Unit {0}) (λ t. long_field t.number ++ []) _
    (long_reader 1)
    (λ run small. joined (λ (t : Ticket). t.number) IsCount long_field (long_at 1)
    (λ t. Unit {0} × (t.run ≡ run)) (λ t. Unit {0}) (λ t. []) _ (long_reader 1)
    (λ number fine. made (λ (t : Ticket). ((Unit {0} × (t.run ≡ run)) × (t.number ≡ number))
    × Unit {0})
    (record { run = run; number = number }) (((tt, refl), refl), tt)
    (λ t is. λ i. record { run = is.0.0.1 i; number = is.0.1 i }))))

-- ---- params

number_is : (n : ℕ) → n ≤ 15 → number_of (params_of n) ≡ n
number_is zero small = refl
number_is (suc zero) small = refl
number_is (suc (suc zero)) small = refl
number_is (suc (suc (suc zero))) small = refl
number_is (suc (suc (suc (suc zero)))) small = refl
number_is (suc (suc (suc (suc (suc zero))))) small = refl
number_is (suc (suc (suc (suc (suc (suc zero)))))) small = refl
number_is (suc (suc (suc (suc (suc (suc (suc zero))))))) small = refl
number_is (suc (suc (suc (suc (suc (suc (suc (suc zero)))))))) small = refl
number_is (suc (suc (suc (suc (suc (suc (suc (suc (suc zero))))))))) small = refl
number_is (suc (suc (suc (suc (suc (suc (suc (suc (suc (suc zero)))))))))) small = refl
number_is (suc (suc (suc (suc (suc (suc (suc (suc (suc (suc (suc zero))))))))))) small = refl
number_is (suc (suc (suc (suc (suc (suc (suc (suc (suc (suc (suc (suc zero)))))))))))) small = refl
number_is (suc (suc (suc (suc (suc (suc (suc (suc (suc (suc (suc (suc (suc zero))))))))))))) small = refl
number_is (suc (suc (suc (suc (suc (suc (suc (suc (suc (suc (suc (suc (suc (suc zero)))))))))))))) small = refl
number_is (suc (suc (suc (suc (suc (suc (suc (suc (suc (suc (suc (suc (suc (suc (suc zero))))))))))))))) small = refl
number_is (suc (suc (suc (suc (suc (suc (suc (suc (suc (suc (suc (suc (suc (suc (suc (suc n)))))))))))))))) small = absurd (omega (arith, small))

params_by : (pick : Pick) (end : End) (half : Half) (base : Base)
    → params_of (pick_bit pick + 2 * end_bit end + 4 * half_bit half + 8 * base_bit base)
    ≡ record { pick = pick; end = end; half = half; base = base }
params_by Place Lowest Lower Bound = refl
params_by Place Lowest Upper Bound = refl
params_by Place Highest Lower Bound = refl
params_by Place Highest Upper Bound = refl
params_by Width Lowest Lower Bound = refl
params_by Width Lowest Upper Bound = refl
params_by Width Highest Lower Bound = refl
params_by Width Highest Upper Bound = refl
params_by Place Lowest Lower Surrogate = refl
params_by Place Lowest Upper Surrogate = refl
params_by Place Highest Lower Surrogate = refl
params_by Place Highest Upper Surrogate = refl
params_by Width Lowest Lower Surrogate = refl
params_by Width Lowest Upper Surrogate = refl
params_by Width Highest Lower Surrogate = refl
params_by Width Highest Upper Surrogate = refl

number_by : (pick : Pick) (end : End) (half : Half) (base : Base)
    → pick_bit pick + 2 * end_bit end + 4 * half_bit half + 8 * base_bit base ≤ 15
number_by Place Lowest Lower Bound = omega arith
number_by Place Lowest Upper Bound = omega arith
number_by Place Highest Lower Bound = omega arith
number_by Place Highest Upper Bound = omega arith
number_by Width Lowest Lower Bound = omega arith
number_by Width Lowest Upper Bound = omega arith
number_by Width Highest Lower Bound = omega arith
number_by Width Highest Upper Bound = omega arith
number_by Place Lowest Lower Surrogate = omega arith
number_by Place Lowest Upper Surrogate = omega arith
number_by Place Highest Lower Surrogate = omega arith
number_by Place Highest Upper Surrogate = omega arith
number_by Width Lowest Lower Surrogate = omega arith
number_by Width Lowest Upper Surrogate = omega arith
number_by Width Highest Lower Surrogate = omega arith
number_by Width Highest Upper Surrogate = omega arith

abbrev pub IsAny : {X : Type 0} → X → Type 0
IsAny x = Unit {0}

pub params_reader : IsReader (IsAny {X = Params}) params_field params_at
unfolding params_at
params_reader =
    reworded (λ (p : Params). Unit {0} × (((0 ≤ number_of p) × (number_of p ≤ 15)) × Unit {0}))
    (λ p. (number_of p ∷ []) ++ []) IsAny params_field _
    (λ p good. refl) (λ p good. tt)
    (λ p is. (tt, ((omega arith, number_by p.pick p.end p.half p.base), tt)))
    (joined number_of (λ n. (0 ≤ n) × (n ≤ 15)) (λ n. n ∷ []) (small_at 0 15)
    (λ p. Unit {0}) (λ p. Unit {0}) (λ p. []) _ (small_reader 0 15)
    (λ n small. made (λ (p : Params). (Unit {0} × (number_of p ≡ n)) × Unit {0}) (params_of n)
    ((tt, number_is n small.1), tt)
    (λ p is. sym (params_by p.pick p.end p.half p.base) ∙ ap params_of is.0.1)))

-- ---- races

abbrev flag : Bool → ℕ
flag race = if race then 1 else 0

flag_is : (n : ℕ) → n ≤ 1 → flag (eqb n 1) ≡ n
flag_is zero small = refl
flag_is (suc zero) small = refl
flag_is (suc (suc n)) small = absurd (omega (arith, small))

race_is : (race : Bool) → race ≡ eqb (flag race) 1
race_is true = refl
race_is false = refl

flag_small : (race : Bool) → flag race ≤ 1
flag_small true = omega arith
flag_small false = omega arith

pub race_reader : IsReader (IsAny {X = Bool}) race_field race_at
unfolding race_at
race_reader =
    reworded (λ race. Unit {0} × (((0 ≤ flag race) × (flag race ≤ 1)) × Unit {0}))
    (λ race. (flag race ∷ []) ++ []) IsAny race_field _
    (λ race good. refl) (λ race good. tt)
    (λ race is. (tt, ((omega arith, flag_small race), tt)))
    (joined flag (λ n. (0 ≤ n) × (n ≤ 1)) (λ n. n ∷ []) (small_at 0 1)
    (λ race. Unit {0}) (λ race. Unit {0}) (λ race. []) _ (small_reader 0 1)
    (λ n small. made (λ (race : Bool). (Unit {0} × (flag race ≡ n)) × Unit {0}) (eqb n 1)
    ((tt, flag_is n small.1), tt)
    (λ race is. race_is race ∙ ap (λ m. eqb m 1) is.0.1)))

-- ---- counts and gaps

pub positive_reader : IsReader (λ n. (1 ≤ n) × (n < 2 ^ 32)) count_field positive_at
unfolding positive_at
positive_reader =
    reworded (λ n. (n < 2 ^ 32) × (leb 1 n ≡ true)) count_field (λ n. (1 ≤ n) × (n < 2 ^ 32))
    count_field _
    (λ n good. refl) (λ n good. (leb-true 1 n good.1, good.0))
    (λ n is. (is.1, le-leb 1 n is.0))
    (tested (λ n. n < 2 ^ 32) count_field unsigned_at (leb 1) unsigned_reader)

gap_small : (z : ℤ) → IsGap z → unsigned_abs z ≤ 4 * 10 ^ 37
gap_small (pos n) is = grind (arith, ints, is.high)
gap_small (negsuc n) is = absurd (grind (arith, ints, is.low))

is_gap : (z : ℤ) → unsigned_abs z ≤ 4 * 10 ^ 37 → pos 0 ≤ℤ z → IsGap z
is_gap (pos n) small low = record { low = low; high = grind (arith, ints, small) }
is_gap (negsuc n) small low = absurd (grind (arith, ints, low))

pub gap_reader : IsReader IsGap number_field (amount_at (4 * 10 ^ 37))
gap_reader =
    reworded (λ z. (unsigned_abs z ≤ 4 * 10 ^ 37) × (pos 0 ≤ℤ z)) number_field IsGap number_field _
    (λ z good. refl) (λ z good. is_gap z good.0 good.1) (λ z is. (gap_small z is, is.low))
    (amount_reader (4 * 10 ^ 37) (omega arith))
