-- After any number of assignments that can be made, nothing is lost.
use Rattle.std.proofs.Common.{◌≡◌, ℕ, zero, suc, ◌+◌, ◌-◌, ◌^◌, ◌<◌, ◌≤◌, min, List, [], ◌∷◌, ◌++◌, length, set, refl, ap, sym, ◌∙◌, subst, arith}
use Rattle.std.proofs.Math.Nat.{le-min, min-le_left, min-le_right}
use Rattle.std.proofs.lemmas.List.{length-append}
use Rattle.ug_pool.specs.declared.entry.Entry.{Entry}
use Rattle.ug_ranks.specs.declared.state.Work.{Work}
use Rattle.ug_ranks.specs.declared.state.State.{State}
use Rattle.ug_ranks.specs.declared.state.State.TheVariants.{Idle, Active}
use Rattle.ug_ranks.specs.States.{state_at}
use Rattle.ug_ranks.specs.Changes.{work_of}
use Rattle.ug_rules.specs.State.{BookState, ticket_with}
use Rattle.ug_rules.specs.Ranks.{of_ranks, rank_if, ranks_that}
use Rattle.ug_ranks.specs.Looks.{is_idle}
use Rattle.ug_rules.specs.Books.{Keeps}
use Rattle.ug_rules.specs.Deciding.{assigned, assigned_by, assigned_times, assignments, given_to, usual_params}
use Rattle.ug_rules.proofs.FirstLemmas.{first_idle}
use Rattle.ug_rules.proofs.GivenLemmas.{CanBeGiven, given_book, given_stays_sound}

-- a fact that each step keeps is kept by all of them
pub keeps_both : (a b c : BookState) → Keeps a b → Keeps b c → Keeps a c
keeps_both a b c f g = record {
  book = λ h. g.book (f.book h);
  sound = λ h s. g.sound (f.book h) (f.sound h s);
}

pub keeps_itself : (b : BookState) → Keeps b b
keeps_itself b = record { book = λ h. h; sound = λ h s. s }

-- one idle rank fewer
pub fewer_from : (k : ℕ) (ss : List State) (r : ℕ) (w : Work) → r < length ss → state_at ss r ≡ Idle
    → length (of_ranks (rank_if is_idle) k (set ss r (Active w))) + 1
    ≡ length (of_ranks (rank_if is_idle) k ss)
fewer_from k [] r w l e = absurd (omega (arith, l))
fewer_from k (s ∷ ss) zero w l e = subst
    (λ t. length (of_ranks (rank_if is_idle) (k + 1) ss) + 1
    ≡ length (rank_if is_idle k t ++ of_ranks (rank_if is_idle) (k + 1) ss))
    (sym e) (omega arith)
fewer_from k (s ∷ ss) (suc r) w l e =
    let rest = fewer_from (k + 1) ss r w (omega (arith, l)) e in
    let old = length-append (rank_if is_idle k s) (of_ranks (rank_if is_idle) (k + 1) ss) in
    let new = length-append (rank_if is_idle k s)
    (of_ranks (rank_if is_idle) (k + 1) (set ss r (Active w))) in
    omega (arith, rest, old, new)

-- who is next, and what it is given
pub record IsNext (b : BookState) (rank : ℕ) (entry : Entry) (rest : List Entry) : Type 0 where
  pub can : CanBeGiven b rank entry rest
  pub is : assigned b ≡ given_to rank entry rest b

abbrev pub Next : BookState → Type 0
Next b = (rank : ℕ) × (entry : Entry) × (rest : List Entry) × IsNext b rank entry rest

pub next : (b : BookState) → 0 < assignments b → Next b
next b some = by (ranks_that is_idle b.ranks) b.pool refl refl
  where
    idle_some : 0 < length (ranks_that is_idle b.ranks)
    idle_some = omega (
      arith,
      some,
      min-le_left (length (ranks_that is_idle b.ranks))
          (min (length b.pool) (2 ^ 64 - 1 - b.last)),
    )

    rest_some : 0 < min (length b.pool) (2 ^ 64 - 1 - b.last)
    rest_some = omega (
      arith,
      some,
      min-le_right (length (ranks_that is_idle b.ranks))
          (min (length b.pool) (2 ^ 64 - 1 - b.last)),
    )

    pool_some : 0 < length b.pool
    pool_some = omega (arith, rest_some, min-le_left (length b.pool) (2 ^ 64 - 1 - b.last))

    number_some : b.last + 1 < 2 ^ 64
    number_some = omega (arith, rest_some, min-le_right (length b.pool) (2 ^ 64 - 1 - b.last))

    by : (rs : List ℕ) (es : List Entry) → ranks_that is_idle b.ranks ≡ rs → b.pool ≡ es → Next b
    by [] es idle pool = absurd (omega (arith, idle_some, ap (λ (qs : List ℕ). length qs) idle))
    by (r ∷ rs) [] idle pool = absurd
        (omega (arith, pool_some, ap (λ (xs : List Entry). length xs) pool))
    by (r ∷ rs) (e ∷ es) idle pool =
        let first = first_idle b.ranks r rs idle in (
          r,
          e,
          es,
          record {
            can = record { there = first.0; idle = first.1; pool = pool; number = number_some };
            is = ap (λ qs. assigned_by qs b.pool b) idle
                ∙ ap (λ xs. assigned_by (r ∷ rs) xs b) pool;
          },
        )

-- one fewer can be made then
fewer_left : (b : BookState) (r : ℕ) (e : Entry) (es : List Entry) → CanBeGiven b r e es → (n : ℕ)
    → suc n ≤ assignments b → n ≤ assignments (given_to r e es b)
fewer_left b r e es can n some =
    let w : Work = work_of (ticket_with b (b.last + 1)) e.node e.floor (usual_params b) in
    let ranks = fewer_from 0 b.ranks r w can.there can.idle in
    let pool : length b.pool ≡ length es + 1 =
    ap (λ (xs : List Entry). length xs) can.pool ∙ omega arith in
    let inner = min (length b.pool) (2 ^ 64 - 1 - b.last) in
    let left = min-le_left (length (ranks_that is_idle b.ranks)) inner in
    let right = min-le_right (length (ranks_that is_idle b.ranks)) inner in
    let pools = min-le_left (length b.pool) (2 ^ 64 - 1 - b.last) in
    let numbers = min-le_right (length b.pool) (2 ^ 64 - 1 - b.last) in
    le-min (omega (arith, some, left, ranks))
    (le-min (omega (arith, some, right, pools, pool)) (omega (arith, some, right, numbers)))

pub assigned_keeps : (n : ℕ) (b : BookState) → n ≤ assignments b → Keeps b (assigned_times n b)
assigned_keeps zero b h = keeps_itself b
assigned_keeps (suc n) b h =
    let t = next b (omega (arith, h)) in
    let is = t.3 in
    let new = given_to t.0 t.1 t.2 b in
    let one : Keeps b new = record {
      book = given_book b t.0 t.1 t.2 is.can;
      sound = λ book s. given_stays_sound b t.0 t.1 t.2 is.can s;
    } in
    let more = assigned_keeps n new (fewer_left b t.0 t.1 t.2 is.can n h) in
    subst (λ c. Keeps b (assigned_times n c)) (sym is.is)
    (keeps_both b new (assigned_times n new) one more)
