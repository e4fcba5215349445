-- After a race began, nothing is lost: the one node held is that which is raced.
use Rattle.std.proofs.Common.{◌≡◌, inl, inr, ℕ, zero, suc, ◌+◌, ◌^◌, ◌<◌, ◌≤◌, Bool, true, false, List, [], ◌∷◌, ◌++◌, length, refl, ap, sym, ◌∙◌, subst, arith}
use Rattle.std.specs.Prelude.{All, Contains, ◌&&◌, IsSome, Option, Some, None, nat_eq, nat_lt}
use Rattle.std.proofs.lemmas.Bool.{eqb-true, false≢true, ltb-true}
use Rattle.std.proofs.lemmas.List.{length-append}
use Rattle.std.proofs.lemmas.List.Elements.{All-get_or}
use Rattle.ug_problem.specs.Instances.{root_of}
use Rattle.ug_problem.specs.Incumbents.{one_kept}
use Rattle.ug_nodes.specs.declared.name.Name.{Name}
use Rattle.ug_nodes.specs.declared.node.Node.{Node}
use Rattle.ug_pool.specs.declared.entry.Entry.{Entry}
use Rattle.ug_nodes.specs.Primitive.{times}
use Rattle.ug_ranks.specs.States.{state_at}
use Rattle.ug_ledger.specs.Ledgers.{Current, IsCurrent}
use Rattle.ug_ledger.specs.Moves.{HasEnded}
use Rattle.ug_ledger.proofs.LessLemmas.{alone_keeps_work, ended_ledger, ended_sound}
use Rattle.ug_rules.specs.State.{BookState, held_nodes, ledger_of, nodes_in, nodes_of, raced_node}
use Rattle.ug_rules.specs.Ranks.{ranks_that}
use Rattle.ug_ranks.specs.Looks.{is_absent, is_idle, is_racing}
use Rattle.ug_rules.specs.Books.{HasItsFloor, IsBook, IsSoundBook, Keeps}
use Rattle.ug_rules.specs.Deciding.{is_race_due, is_race_set, race_begun, race_begun_with, raced_by_all}
use Rattle.ug_rules.proofs.WorkLemmas.{works_at}
use Rattle.ug_rules.proofs.HeldLemmas.{current_cases, current_is, held_cases, in_pool, in_race, raced_is, still}
use Rattle.ug_rules.proofs.CountLemmas.{of_held, times_adds}
use Rattle.ug_rules.proofs.RacerLemmas.{are_racing}
use Rattle.ug_rules.proofs.AssignedLemmas.{keeps_itself}
use Rattle.ug_rules.proofs.RaceBegun.{IsInRace, few_idle, idle_rise, opens, race_open, some_open}

and_true : (a b : Bool) → (a && b) ≡ true → (a ≡ true) × (b ≡ true)
and_true true b e = (refl, e)
and_true false b e = absurd (false≢true e)

-- one node alone is held, with the pool, no ticket was given, and two ranks at least are idle
pub record IsBegin (b : BookState) : Type 0 where
  pub last : b.last ≡ 0
  pub one : length (held_nodes b) ≡ 1
  pub idle : 1 < length (ranks_that is_idle b.ranks)

pub begin_is : (b : BookState) → is_race_due b ≡ true → IsBegin b
begin_is b due =
    let parts = and_true (is_race_set b) _ due in
    let set = (and_true b.settings.racing _ parts.0).1 in
    let both = and_true (nat_eq b.last 0) (nat_eq (length (held_nodes b)) 1) set in
    let ranks = and_true (nat_eq (length (ranks_that is_absent b.ranks)) 0)
    (nat_lt 1 (length (ranks_that is_idle b.ranks))) parts.1 in
    record {
      last = eqb-true b.last 0 both.0;
      one = eqb-true (length (held_nodes b)) 1 both.1;
      idle = ltb-true 1 (length (ranks_that is_idle b.ranks)) ranks.1;
    }

pub empty : {A : Type 0} (xs : List A) → length xs ≡ 0 → xs ≡ []
empty [] e = refl
empty (x ∷ xs) e = absurd (omega (arith, e))

none_of : (raced : Option Entry) → length (raced_node raced) ≡ 0 → raced ≡ None
none_of None e = refl
none_of (Some entry) e = absurd (omega (arith, e))

-- the pool's one node is all that is held
pub record IsAlone (b : BookState) (entry : Entry) : Type 0 where
  pub pool : b.pool ≡ entry ∷ []
  pub none : nodes_of b.ranks ≡ []
  pub raced : b.raced ≡ None

pub alone_is : (b : BookState) (entry : Entry) (rest : List Entry) → b.pool ≡ entry ∷ rest
    → length (held_nodes b) ≡ 1 → IsAlone b entry
alone_is b entry rest e one =
    let outer = length-append (nodes_in b.pool ++ nodes_of b.ranks) (raced_node b.raced) in
    let inner = length-append (nodes_in b.pool) (nodes_of b.ranks) in
    let pool : length (nodes_in b.pool) ≡ suc (length (nodes_in rest)) =
    ap (λ es. length (nodes_in es)) e in
    record {
      pool = e ∙ ap (λ es. entry ∷ es) (nodes_empty rest (omega (arith, outer, inner, pool, one)));
      none = empty (nodes_of b.ranks) (omega (arith, outer, inner, pool, one));
      raced = none_of b.raced (omega (arith, outer, inner, pool, one));
    }
  where
    nodes_empty : (es : List Entry) → length (nodes_in es) ≡ 0 → es ≡ []
    nodes_empty [] z = refl
    nodes_empty (x ∷ xs) z = absurd (omega (arith, z))

module _ (b : BookState) (entry : Entry) (h : IsBook b) (a : IsAlone b entry) where
  -- the node is raced, if by none as yet
  abbrev moved : BookState
  moved = record b { pool = []; raced = Some entry }

  only : (n : Node) → Contains (held_nodes moved) n → n ≡ entry.node
  only n at = held_cases moved (n ≡ entry.node) n
      (λ pool. absurd (omega (arith, pool.1)))
      (λ work. absurd (omega (arith, (subst (λ ns. Contains ns n) a.none work).1)))
      (λ race. sym (raced_is entry n race)) at

  in_old : Contains (held_nodes b) entry.node
  in_old = in_pool b entry.node
      (subst (λ es. Contains (nodes_in es) entry.node) (sym a.pool) (0, omega arith, refl))

  in_new : Contains (held_nodes moved) entry.node
  in_new = in_race moved entry.node (0, omega arith, refl)

  moved_old : (n : Node) → Contains (held_nodes moved) n → Contains (held_nodes b) n
  moved_old n at = subst (λ m. Contains (held_nodes b) m) (sym (only n at)) in_old

  moved_kept : (n : Node) → Contains (held_nodes b) n → Contains (held_nodes moved) n
  moved_kept n at = held_cases b (Contains (held_nodes moved) n) n
      (λ pool. subst (λ m. Contains (held_nodes moved) m)
      (one (subst (λ es. Contains (nodes_in es) n) a.pool pool)) in_new)
      (λ work. absurd (omega (arith, (subst (λ ns. Contains ns n) a.none work).1)))
      (λ race. absurd (omega
      (arith, (subst (λ raced. Contains (raced_node raced) n) a.raced race).1))) at
    where
      one : Contains (entry.node ∷ []) n → entry.node ≡ n
      one (zero, l, same) = same
      one (suc k, l, same) = absurd (omega (arith, l))

  moved_times : (name : Name) → times name (held_nodes moved) ≤ times name (held_nodes b)
  moved_times name =
      let f = times name in
      let adds = times_adds name in
      let pool : f (nodes_in b.pool) ≡ f (entry.node ∷ []) = ap (λ es. f (nodes_in es)) a.pool in
      let raced : f (raced_node b.raced) ≡ f [] = ap (λ raced. f (raced_node raced)) a.raced in
      omega (arith, of_held f adds b, of_held f adds moved, pool, raced)

  none_current : (q : ℕ) (d : Current) → IsCurrent (ledger_of moved) q d → ⊥
  none_current q d at = elim
      (current_cases (Some entry) (state_at b.ranks q) d (current_is moved q d at)) [
        | inl t ↦
            let there = works_at b.ranks q t.work t.state in
            omega (arith, (subst (λ ns. Contains ns t.work.node) a.none there).1)
        | inr t ↦
            let some = h.race.racing (are_racing b.ranks (q, ap is_racing t.state)) in
            false≢true (subst (λ raced. IsSome raced) a.raced some)
      ]

  has_ended : HasEnded (ledger_of b) (ledger_of moved)
  has_ended = record {
    less = record {
      held = moved_old;
      counts = moved_times;
      current = λ q d at. absurd (none_current q d at);
      still = λ q d at. still moved q d at;
      last = refl;
    };
    kept = moved_kept;
    work = alone_keeps_work (ledger_of b) (ledger_of moved) entry.node only;
  }

  in_race_moved : IsInRace moved entry
  in_race_moved = record {
    problem = h.problem;
    run = h.run;
    settings = h.settings;
    incumbent = h.incumbent;
    ranks = h.ranks;
    floors = h.floors.ranks;
    floor = All-get_or (HasItsFloor b.problem) (entry ∷ []) 0 entry (omega arith)
        (subst (λ es. All (HasItsFloor b.problem) es) a.pool h.floors.pool);
    ledger = ended_ledger (root_of b.problem) (ledger_of b) (ledger_of moved) has_ended h.ledger;
    raced = refl;
    pool = refl;
    none = a.none;
    number = h.number;
    orders = h.orders;
  }

  moved_sound : IsSoundBook b → IsSoundBook moved
  moved_sound s = ended_sound b.problem b.settings.gap (one_kept b.best) (ledger_of b)
      (ledger_of moved) has_ended s

  module _ (begin : IsBegin b) where
    abbrev after : BookState
    after = raced_by_all (ranks_that is_idle b.ranks) entry moved

    left : b.last + length (ranks_that is_idle b.ranks) < 2 ^ 64
    left = omega (arith, begin.last, few_idle b.ranks, h.ranks, h.settings.few)

    begun_book : IsBook after
    begun_book =
        let t = opens (ranks_that is_idle b.ranks) 0 moved entry in_race_moved
        (idle_rise b.ranks) left in
        race_open after entry t.opened
        (some_open (ranks_that is_idle b.ranks) 0 moved entry in_race_moved
        (idle_rise b.ranks) left (omega (arith, begin.idle)))

    begun_sound : IsSoundBook b → IsSoundBook after
    begun_sound s =
        let t = opens (ranks_that is_idle b.ranks) 0 moved entry in_race_moved
        (idle_rise b.ranks) left in
        t.sound (moved_sound s)

pub begun_keeps : (b : BookState) → IsBook b → is_race_due b ≡ true → Keeps b (race_begun b)
begun_keeps b h due = by b.pool refl
  where
    by : (es : List Entry) → b.pool ≡ es → Keeps b (race_begun_with es b)
    by [] e = keeps_itself b
    by (entry ∷ rest) e =
        let begin = begin_is b due in
        let a = alone_is b entry rest e begin.one in
        let same : rest ≡ [] = tail_is (sym e ∙ a.pool) in
        subst (λ (xs : List Entry). Keeps b (race_begun_with (entry ∷ xs) b)) (sym same) (record {
          book = λ book. begun_book b entry h a begin;
          sound = λ book s. begun_sound b entry h a begin s;
        })
      where
        tail_is : entry ∷ rest ≡ entry ∷ [] → rest ≡ []
        tail_is e = empty rest (omega (arith, ap (λ (xs : List Entry). length xs) e))
