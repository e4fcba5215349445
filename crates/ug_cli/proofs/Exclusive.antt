-- The numbers of a plan are those that the words spell, and no others.
use Rattle.std.proofs.Common.{◌≡◌, ℕ, ◌*◌, ◌^◌, ◌<◌, ◌≤◌, List, Option, None, Some, codes, false, refl, sym, ap, ◌∙◌, arith}
use Rattle.std.specs.Int.{div_ceil}
use Rattle.std.proofs.lemmas.Fmt.{decimal_injective}
use Rattle.clap.specs.Walk.{Row, Text}
use Rattle.ug_cli.specs.declared.plan.Plan.{Plan}
use Rattle.ug_cli.specs.declared.plan.Plan.TheVariants as plans
use Rattle.ug_cli.specs.declared.plan.Solvers.{Solvers}
use Rattle.ug_cli.specs.Numbers.{IsGiven, IsGivenOr, IsNumber}
use Rattle.ug_cli.specs.declared.plan.Asked.{Asked}
use Rattle.ug_cli.specs.declared.plan.Mode.{Mode}
use Rattle.ug_cli.specs.declared.plan.Mode.TheVariants.{Threads, Processes}
use Rattle.ug_cli.specs.Taken.{AreRanks, AreSettings, AskedIn, InOrder, IsMode, crew_of, needs_of, ranks_of, word_of}

one_number : (least most : ℕ) (word : Text) (a b : ℕ) → most < 2 ^ 64 → IsNumber least most word a
    → IsNumber least most word b → a ≡ b
one_number least most word a b wide x y =
    decimal_injective a b (omega (arith, x.high)) (omega (arith, y.high)) (sym x.spelled ∙ y.spelled)

one_given : (least most : ℕ) (word : Option Text) (a b : ℕ) → most < 2 ^ 64 → IsGiven least most word a
    → IsGiven least most word b → a ≡ b
one_given least most None a b wide x y = absurd x
one_given least most (Some word) a b wide x y = one_number least most word a b wide x y

one_given_or : (other another least most : ℕ) (word : Option Text) (a b : ℕ) → most < 2 ^ 64 → other ≡ another
    → IsGivenOr other least most word a → IsGivenOr another least most word b → a ≡ b
one_given_or other another least most None a b wide e x y = x ∙ (e ∙ sym y)
one_given_or other another least most (Some word) a b wide e x y = one_number least most word a b wide x y

-- two readings of the ranks have one low and one high
one_reading : (rows : List Row) (a b : Solvers) → AreRanks rows a → AreRanks rows b → (a.low ≡ b.low) × (a.high ≡ b.high)
one_reading rows a b x y =
    let solvers = one_given 1 256 (word_of (codes "solvers") rows) a.solvers b.solvers (omega arith) x.solvers y.solvers in
    let low = one_given_or a.solvers b.solvers 1 65536 (word_of (codes "low") rows) a.low b.low (omega arith) solvers x.low y.low in
    let high = one_given_or (div_ceil (3 * a.low) 2) (div_ceil (3 * b.low) 2) 1 131072 (word_of (codes "high") rows) a.high b.high
    (omega arith) (ap (λ n. div_ceil (3 * n) 2) low) x.high y.high in
    (low, high)

clash : (rows : List Row) (a b : Solvers) → AreRanks rows a → AreRanks rows b → a.high < a.low → b.low ≤ b.high → ⊥
clash rows a b x y below order = let same = one_reading rows a b x y in absurd (omega (arith, same.0, same.1))

below_of : (a r : Solvers) → Some a ≡ Some r → r.high < r.low → a.high < a.low
below_of a r e below = let same : a ≡ r = cc in rw same below

pub not_both : (command : Option (Text × List Row)) (p q : Plan) (r : Solvers) → AskedIn command p → AskedIn command q
    → ranks_of p ≡ Some r → r.high < r.low → InOrder (ranks_of q) → ⊥
not_both None p q r x y e below order = x
not_both (Some c) (plans.Solve a) (plans.Solve b) r x y e below order =
    clash c.1 a.settings.ranks b.settings.ranks x.1.settings.ranks y.1.settings.ranks (below_of a.settings.ranks r e below) order
not_both (Some c) (plans.Solve a) (plans.Restart b) r x y e below order = let f = sym x.0 ∙ y.0 in cc
not_both (Some c) (plans.Solve a) (plans.Worker b) r x y e below order = let f = sym x.0 ∙ y.0 in cc
not_both (Some c) (plans.Solve a) (plans.Show b) r x y e below order = let f = sym x.0 ∙ y.0 in cc
not_both (Some c) (plans.Solve a) (plans.Gen b) r x y e below order = let f = sym x.0 ∙ y.0 in cc
not_both (Some c) (plans.Restart a) (plans.Solve b) r x y e below order = let f = sym x.0 ∙ y.0 in cc
not_both (Some c) (plans.Restart a) (plans.Restart b) r x y e below order =
    clash c.1 a.settings.ranks b.settings.ranks x.1.settings.ranks y.1.settings.ranks (below_of a.settings.ranks r e below) order
not_both (Some c) (plans.Restart a) (plans.Worker b) r x y e below order = let f = sym x.0 ∙ y.0 in cc
not_both (Some c) (plans.Restart a) (plans.Show b) r x y e below order = let f = sym x.0 ∙ y.0 in cc
not_both (Some c) (plans.Restart a) (plans.Gen b) r x y e below order = let f = sym x.0 ∙ y.0 in cc
not_both (Some c) (plans.Worker a) q r x y e below order = cc
not_both (Some c) (plans.Show a) q r x y e below order = cc
not_both (Some c) (plans.Gen a) q r x y e below order = cc

-- ---- what a plan needs

one_mode : (word : Option Text) (a b : Mode) → IsMode word a → IsMode word b → a ≡ b
one_mode word Threads Threads x y = refl
one_mode word Threads Processes x y = let f = sym x ∙ y in cc
one_mode word Processes Threads x y = let f = sym x ∙ y in cc
one_mode word Processes Processes x y = refl

one_crew : (rows : List Row) (a b : Asked) → AreSettings rows a → AreSettings rows b
    → crew_of a.mode a.ranks.solvers ≡ crew_of b.mode b.ranks.solvers
one_crew rows a b x y =
    ap (λ (m : Mode). crew_of m a.ranks.solvers) (one_mode (word_of (codes "mode") rows) a.mode b.mode x.mode y.mode)
    ∙ ap (λ (n : ℕ). crew_of b.mode n) (one_given 1 256 (word_of (codes "solvers") rows) a.ranks.solvers
    b.ranks.solvers (omega arith) x.ranks.solvers y.ranks.solvers)

pub same_needs : (command : Option (Text × List Row)) (p q : Plan) → AskedIn command p → AskedIn command q
    → needs_of p ≡ needs_of q
same_needs None p q x y = absurd x
same_needs (Some c) (plans.Solve a) (plans.Solve b) x y =
    ap (λ (crew : Option ℕ). record { crew = crew; link = false }) (one_crew c.1 a.settings b.settings x.1.settings
    y.1.settings)
same_needs (Some c) (plans.Solve a) (plans.Restart b) x y = let f = sym x.0 ∙ y.0 in cc
same_needs (Some c) (plans.Solve a) (plans.Worker b) x y = let f = sym x.0 ∙ y.0 in cc
same_needs (Some c) (plans.Solve a) (plans.Show b) x y = let f = sym x.0 ∙ y.0 in cc
same_needs (Some c) (plans.Solve a) (plans.Gen b) x y = let f = sym x.0 ∙ y.0 in cc
same_needs (Some c) (plans.Restart a) (plans.Solve b) x y = let f = sym x.0 ∙ y.0 in cc
same_needs (Some c) (plans.Restart a) (plans.Restart b) x y =
    ap (λ (crew : Option ℕ). record { crew = crew; link = false }) (one_crew c.1 a.settings b.settings x.1.settings
    y.1.settings)
same_needs (Some c) (plans.Restart a) (plans.Worker b) x y = let f = sym x.0 ∙ y.0 in cc
same_needs (Some c) (plans.Restart a) (plans.Show b) x y = let f = sym x.0 ∙ y.0 in cc
same_needs (Some c) (plans.Restart a) (plans.Gen b) x y = let f = sym x.0 ∙ y.0 in cc
same_needs (Some c) (plans.Worker a) (plans.Solve b) x y = let f = sym x.0 ∙ y.0 in cc
same_needs (Some c) (plans.Worker a) (plans.Restart b) x y = let f = sym x.0 ∙ y.0 in cc
same_needs (Some c) (plans.Worker a) (plans.Worker b) x y = refl
same_needs (Some c) (plans.Worker a) (plans.Show b) x y = let f = sym x.0 ∙ y.0 in cc
same_needs (Some c) (plans.Worker a) (plans.Gen b) x y = let f = sym x.0 ∙ y.0 in cc
same_needs (Some c) (plans.Show a) (plans.Solve b) x y = let f = sym x.0 ∙ y.0 in cc
same_needs (Some c) (plans.Show a) (plans.Restart b) x y = let f = sym x.0 ∙ y.0 in cc
same_needs (Some c) (plans.Show a) (plans.Worker b) x y = let f = sym x.0 ∙ y.0 in cc
same_needs (Some c) (plans.Show a) (plans.Show b) x y = refl
same_needs (Some c) (plans.Show a) (plans.Gen b) x y = let f = sym x.0 ∙ y.0 in cc
same_needs (Some c) (plans.Gen a) (plans.Solve b) x y = let f = sym x.0 ∙ y.0 in cc
same_needs (Some c) (plans.Gen a) (plans.Restart b) x y = let f = sym x.0 ∙ y.0 in cc
same_needs (Some c) (plans.Gen a) (plans.Worker b) x y = let f = sym x.0 ∙ y.0 in cc
same_needs (Some c) (plans.Gen a) (plans.Show b) x y = let f = sym x.0 ∙ y.0 in cc
same_needs (Some c) (plans.Gen a) (plans.Gen b) x y = refl
