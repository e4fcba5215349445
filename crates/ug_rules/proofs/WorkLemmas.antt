-- On which nodes ranks work, after one state was written, and after some ranks became idle.
use Rattle.std.proofs.Common.{◌≡◌, ◌≢◌, inl, inr, ℕ, zero, suc, ◌<◌, Bool, true, false, List, [], ◌∷◌, ◌++◌, length, set, map, refl, ap, sym, ◌∙◌, subst, arith}
use Rattle.std.specs.Prelude.{if◌then◌else◌, Contains}
use Rattle.std.proofs.lemmas.Bool.{cases_eq, cases_Bool}
use Rattle.std.proofs.lemmas.List.{get_or-set_same, get_or-set_other}
use Rattle.std.proofs.lemmas.List.Elements.{Contains-append_left, Contains-append_right, Contains-append_cases}
use Rattle.ug_nodes.specs.declared.node.Node.{Node}
use Rattle.ug_ranks.specs.declared.state.Work.{Work}
use Rattle.ug_ranks.specs.declared.state.Off.TheVariants.{Died}
use Rattle.ug_ranks.specs.declared.state.State.{State}
use Rattle.ug_ranks.specs.declared.state.State.TheVariants.{Absent, Idle, Racing, Active, Dead}
use Rattle.ug_ranks.specs.States.{state_at}
use Rattle.ug_rules.specs.State.{node_at, nodes_of}

-- some rank works on the node
pub record WorksOn (states : List State) (n : Node) : Type 0 where
  pub rank : ℕ
  pub work : Work
  pub state : state_at states rank ≡ Active work
  pub node : work.node ≡ n

-- the state is not that of work
abbrev pub IsFree : State → Type 0
IsFree s = (w : Work) → s ≢ Active w

pub dead_is_free : IsFree (Dead Died)
dead_is_free w e = cc

pub idle_is_free : IsFree Idle
idle_is_free w e = cc

-- the node that a state works on
node_there : (s : State) (n : Node) → Contains (node_at s) n
    → (w : Work) × (s ≡ Active w) × (w.node ≡ n)
node_there (Active w) n (zero, l, e) = (w, refl, e)
node_there (Active w) n (suc k, l, e) = absurd (omega (arith, l))
node_there Absent n h = absurd (omega (arith, h.1))
node_there Idle n h = absurd (omega (arith, h.1))
node_there (Racing k) n h = absurd (omega (arith, h.1))
node_there (Dead how) n h = absurd (omega (arith, h.1))

pub works_from : (ss : List State) (n : Node) → Contains (nodes_of ss) n → WorksOn ss n
works_from [] n h = absurd (omega (arith, h.1))
works_from (s ∷ ss) n h = elim (Contains-append_cases (node_at s) (nodes_of ss) n h) [
  | inl a ↦
      let t = node_there s n a in
      record { rank = zero; work = t.0; state = t.1; node = t.2 }
  | inr b ↦
      let t = works_from ss n b in
      record { rank = suc t.rank; work = t.work; state = t.state; node = t.node }
]

pub works_at : (ss : List State) (r : ℕ) (w : Work) → state_at ss r ≡ Active w
    → Contains (nodes_of ss) w.node
works_at [] r w e = absurd (dead_is_free w e)
works_at (s ∷ ss) zero w e = Contains-append_left (node_at s) (nodes_of ss) w.node
    (subst (λ (t : State). Contains (node_at t) w.node) (sym e) (0, omega arith, refl))
works_at (s ∷ ss) (suc r) w e =
    Contains-append_right (node_at s) (nodes_of ss) w.node (works_at ss r w e)

pub works_to : (ss : List State) (n : Node) → WorksOn ss n → Contains (nodes_of ss) n
works_to ss n t = subst (λ m. Contains (nodes_of ss) m) t.node (works_at ss t.rank t.work t.state)

-- the state of a rank after one was written
pub state_here : (ss : List State) (r : ℕ) (s : State) → r < length ss → state_at (set ss r s) r ≡ s
state_here ss r s l = get_or-set_same ss r s (Dead Died) l

pub state_there : (ss : List State) (r : ℕ) (s : State) (q : ℕ) → q ≢ r
    → state_at (set ss r s) q ≡ state_at ss q
state_there ss r s q ne = get_or-set_other ss r q s (Dead Died) ne

-- a node worked on after the state of a free rank was written is that of another rank
pub free_old : (ss : List State) (r : ℕ) (s : State) (n : Node) → r < length ss → IsFree s
    → WorksOn (set ss r s) n → (t : WorksOn ss n) × (t.rank ≢ r)
free_old ss r s n l free t = elim (cases_eq t.rank r) [
  | inl e ↦
      let here = subst (λ q. state_at (set ss r s) q ≡ Active t.work) e t.state in
      absurd (free t.work (sym (state_here ss r s l) ∙ here))
  | inr ne ↦ (
    record {
      rank = t.rank;
      work = t.work;
      state = sym (state_there ss r s t.rank ne) ∙ t.state;
      node = t.node;
    },
    ne,
  )
]

-- and each such node stays
pub others_kept : (ss : List State) (r : ℕ) (s : State) (n : Node) (t : WorksOn ss n)
    → t.rank ≢ r → WorksOn (set ss r s) n
others_kept ss r s n t ne = record {
  rank = t.rank;
  work = t.work;
  state = state_there ss r s t.rank ne ∙ t.state;
  node = t.node;
}

-- the ranks that pass the test are idle
abbrev pub idled : (State → Bool) → List State → List State
idled test ss = map (λ (state : State). if test state then Idle else state) ss

pub state_idled : (test : State → Bool) → test (Dead Died) ≡ false → (ss : List State) (q : ℕ)
    → state_at (idled test ss) q ≡ (if test (state_at ss q) then Idle else state_at ss q)
state_idled test e [] q = rw e refl
state_idled test e (s ∷ ss) zero = refl
state_idled test e (s ∷ ss) (suc q) = state_idled test e ss q

-- for a rank that passes, and for one that does not
pub state_passed : (test : State → Bool) → test (Dead Died) ≡ false → (ss : List State) (q : ℕ)
    → test (state_at ss q) ≡ true → state_at (idled test ss) q ≡ Idle
state_passed test e ss q h =
    state_idled test e ss q ∙ ap (λ (b : Bool). if b then Idle else state_at ss q) h

pub state_failed : (test : State → Bool) → test (Dead Died) ≡ false → (ss : List State) (q : ℕ)
    → test (state_at ss q) ≡ false → state_at (idled test ss) q ≡ state_at ss q
state_failed test e ss q h =
    state_idled test e ss q ∙ ap (λ (b : Bool). if b then Idle else state_at ss q) h

-- a node worked on after it is that of a rank that does not pass
pub idled_old : (test : State → Bool) → test (Dead Died) ≡ false → (ss : List State) (n : Node)
    → WorksOn (idled test ss) n → (t : WorksOn ss n) × (test (Active t.work) ≡ false)
idled_old test e ss n t = elim (cases_Bool (test (state_at ss t.rank))) [
  | inl passed ↦
      absurd (idle_is_free t.work (sym (state_passed test e ss t.rank passed) ∙ t.state))
  | inr failed ↦
      let same = sym (state_failed test e ss t.rank failed) ∙ t.state in (
        record { rank = t.rank; work = t.work; state = same; node = t.node },
        subst (λ s. test s ≡ false) same failed,
      )
]

pub idled_kept : (test : State → Bool) → test (Dead Died) ≡ false → (ss : List State) (n : Node)
    (t : WorksOn ss n) → test (Active t.work) ≡ false → WorksOn (idled test ss) n
idled_kept test e ss n t h =
    let failed = subst (λ s. test s ≡ false) (sym t.state) h in
    record {
      rank = t.rank;
      work = t.work;
      state = state_failed test e ss t.rank failed ∙ t.state;
      node = t.node;
    }

-- if the new state works on the same node, the nodes are the same
pub same_nodes : (ss : List State) (r : ℕ) (s : State) → node_at s ≡ node_at (state_at ss r)
    → nodes_of (set ss r s) ≡ nodes_of ss
same_nodes [] r s e = refl
same_nodes (t ∷ ss) zero s e = ap (λ ns. ns ++ nodes_of ss) e
same_nodes (t ∷ ss) (suc r) s e = ap (λ ns. node_at t ++ ns) (same_nodes ss r s e)
