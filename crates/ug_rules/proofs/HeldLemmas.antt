-- If a held node stands, and for what the tickets are current.
use Rattle.std.proofs.Common.{◌≡◌, ◌⊎◌, inl, inr, ℕ, zero, suc, List, [], ◌∷◌, ◌++◌, map, refl, ap, sym, ◌∙◌, subst, arith}
use Rattle.std.specs.Prelude.{Contains, Option, Some, None, slice_index_or}
use Rattle.std.proofs.lemmas.List.Elements.{Contains-append_left, Contains-append_right, Contains-append_cases}
use Rattle.std.proofs.lemmas.Option.{none-some, same_Some}
use Rattle.ug_nodes.specs.declared.node.Node.{Node}
use Rattle.ug_pool.specs.declared.entry.Entry.{Entry}
use Rattle.ug_ranks.specs.declared.state.Racer.{Racer}
use Rattle.ug_ranks.specs.declared.state.Work.{Work}
use Rattle.ug_ranks.specs.declared.state.State.{State}
use Rattle.ug_ranks.specs.declared.state.State.TheVariants.{Absent, Idle, Racing, Active, Dead}
use Rattle.ug_ranks.specs.States.{state_at}
use Rattle.ug_ledger.specs.Ledgers.{Current, IsCurrent}
use Rattle.ug_rules.specs.State.{BookState, current_for, current_of, held_nodes, ledger_of, nodes_in, nodes_of, raced_node}
use Rattle.ug_rules.proofs.WorkLemmas.{works_at}

-- a held node is in the pool, with a rank, or raced
pub in_pool : (b : BookState) (n : Node) → Contains (nodes_in b.pool) n → Contains (held_nodes b) n
in_pool b n h = Contains-append_left (nodes_in b.pool ++ nodes_of b.ranks) (raced_node b.raced) n
    (Contains-append_left (nodes_in b.pool) (nodes_of b.ranks) n h)

pub in_work : (b : BookState) (n : Node) → Contains (nodes_of b.ranks) n → Contains (held_nodes b) n
in_work b n h = Contains-append_left (nodes_in b.pool ++ nodes_of b.ranks) (raced_node b.raced) n
    (Contains-append_right (nodes_in b.pool) (nodes_of b.ranks) n h)

pub in_race : (b : BookState) (n : Node) → Contains (raced_node b.raced) n
    → Contains (held_nodes b) n
in_race b n h = Contains-append_right (nodes_in b.pool ++ nodes_of b.ranks) (raced_node b.raced) n h

-- what follows from each of the three follows
pub held_cases : (b : BookState) (P : Type 0) (n : Node) → (Contains (nodes_in b.pool) n → P)
    → (Contains (nodes_of b.ranks) n → P) → (Contains (raced_node b.raced) n → P)
    → Contains (held_nodes b) n → P
held_cases b P n f g k h = elim (Contains-append_cases (nodes_in b.pool ++ nodes_of b.ranks)
    (raced_node b.raced) n h) [
      | inl o ↦ elim (Contains-append_cases (nodes_in b.pool) (nodes_of b.ranks) n o) [
        | inl p ↦ f p
        | inr w ↦ g w
      ]
      | inr r ↦ k r
    ]

-- a ticket is current by the state of its rank
pub current_by : (raced : Option Entry) (ss : List State) (q : ℕ)
    → slice_index_or (map (current_of raced) ss) q None ≡ current_of raced (state_at ss q)
current_by raced [] q = refl
current_by raced (s ∷ ss) zero = refl
current_by raced (s ∷ ss) (suc q) = current_by raced ss q

pub is_current : (b : BookState) (q : ℕ) (d : Current)
    → current_of b.raced (state_at b.ranks q) ≡ Some d → IsCurrent (ledger_of b) q d
is_current b q d e = current_by b.raced b.ranks q ∙ e

pub current_is : (b : BookState) (q : ℕ) (d : Current) → IsCurrent (ledger_of b) q d
    → current_of b.raced (state_at b.ranks q) ≡ Some d
current_is b q d h = sym (current_by b.raced b.ranks q) ∙ h

-- the state is that of work for which d reports the ticket
pub record IsOfWork (s : State) (d : Current) : Type 0 where
  pub work : Work
  pub state : s ≡ Active work
  pub told : current_for work ≡ d

-- or that of a racer
pub record IsOfRacer (raced : Option Entry) (s : State) (d : Current) : Type 0 where
  pub racer : Racer
  pub entry : Entry
  pub state : s ≡ Racing racer
  pub is_raced : raced ≡ Some entry
  pub node : entry.node ≡ d.node

pub current_cases : (raced : Option Entry) (s : State) (d : Current) → current_of raced s ≡ Some d
    → IsOfWork s d ⊎ IsOfRacer raced s d
current_cases raced (Active w) d e =
    inl (record { work = w; state = refl; told = same_Some (current_for w) d e })
current_cases (Some entry) (Racing k) d e = inr (record {
  racer = k;
  entry = entry;
  state = refl;
  is_raced = refl;
  node = ap (λ (c : Current). c.node) (same_Some _ d e);
})
current_cases None (Racing k) d e = absurd (none-some d e)
current_cases raced Absent d e = absurd (none-some d e)
current_cases raced Idle d e = absurd (none-some d e)
current_cases raced (Dead how) d e = absurd (none-some d e)

-- the node that is raced
pub raced_there : (raced : Option Entry) (entry : Entry) → raced ≡ Some entry
    → Contains (raced_node raced) entry.node
raced_there raced entry e =
    subst (λ o. Contains (raced_node o) entry.node) (sym e) (0, omega arith, refl)

pub raced_is : (entry : Entry) (n : Node) → Contains (raced_node (Some entry)) n → entry.node ≡ n
raced_is entry n (zero, l, e) = e
raced_is entry n (suc k, l, e) = absurd (omega (arith, l))

-- the node of a current ticket is held
pub still : (b : BookState) (q : ℕ) (d : Current) → IsCurrent (ledger_of b) q d
    → Contains (held_nodes b) d.node
still b q d h = elim (current_cases b.raced (state_at b.ranks q) d (current_is b q d h)) [
  | inl t ↦ subst (λ (c : Current). Contains (held_nodes b) c.node) t.told
      (in_work b t.work.node (works_at b.ranks q t.work t.state))
  | inr t ↦ subst (λ n. Contains (held_nodes b) n) t.node
      (in_race b t.entry.node (raced_there b.raced t.entry t.is_raced))
]
