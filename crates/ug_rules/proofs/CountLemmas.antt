-- What adds up over lists of nodes, such as their number, after one state was written, some ranks
-- became idle, and an entry was put into the pool.
use Rattle.std.proofs.Common.{◌≡◌, ℕ, zero, suc, ◌+◌, ◌<◌, ◌≤◌, inl, inr, Bool, not, cond, List, [], ◌∷◌, ◌++◌, length, filter, set, refl, ap, ◌∙◌, arith}
use Rattle.std.proofs.lemmas.Bool.{cases_Bool}
use Rattle.std.proofs.lemmas.List.Sums.{sum_by-append}
use Rattle.ug_nodes.specs.declared.name.Name.{Name}
use Rattle.ug_nodes.specs.declared.node.Node.{Node}
use Rattle.ug_nodes.specs.Lines.{is_same_name}
use Rattle.ug_nodes.specs.Names.{own_name}
use Rattle.ug_pool.specs.declared.entry.Entry.{Entry}
use Rattle.ug_pool.specs.Pools.{is_before, with_entry}
use Rattle.ug_ranks.specs.declared.state.State.{State}
use Rattle.ug_ranks.specs.States.{state_at}
use Rattle.ug_nodes.specs.Primitive.{times}
use Rattle.ug_rules.specs.State.{BookState, held_nodes, node_at, nodes_in, nodes_of, raced_node}
use Rattle.ug_rules.proofs.WorkLemmas.{idled}

-- the nodes of entries side by side
nodes_append : (es fs : List Entry) → nodes_in (es ++ fs) ≡ nodes_in es ++ nodes_in fs
nodes_append [] fs = refl
nodes_append (e ∷ es) fs = ap (λ ns. e.node ∷ ns) (nodes_append es fs)

-- it adds up: of two lists side by side it is the sum
abbrev pub AddsUp : (List Node → ℕ) → Type 0
AddsUp f = (ms ns : List Node) → f (ms ++ ns) ≡ f ms + f ns

pub times_adds : (name : Name) → AddsUp (times name)
times_adds name ms ns =
    sum_by-append (λ (n : Node). cond (is_same_name (own_name n.line) name) 1 0) ms ns

module _ (f : List Node → ℕ) (adds : AddsUp f) where
  pub of_held : (b : BookState)
      → f (held_nodes b) ≡ f (nodes_in b.pool) + f (nodes_of b.ranks) + f (raced_node b.raced)
  of_held b = adds (nodes_in b.pool ++ nodes_of b.ranks) (raced_node b.raced)
      ∙ ap (λ k. k + f (raced_node b.raced)) (adds (nodes_in b.pool) (nodes_of b.ranks))

  pub of_none : f [] ≡ 0
  of_none = omega (arith, adds [] [])

  -- what the written rank had goes, and what it has comes
  pub of_set : (ss : List State) (r : ℕ) (s : State) → r < length ss
      → f (nodes_of (set ss r s)) + f (node_at (state_at ss r)) ≡ f (nodes_of ss) + f (node_at s)
  of_set [] r s l = absurd (omega (arith, l))
  of_set (t ∷ ss) zero s l =
      omega (arith, adds (node_at s) (nodes_of ss), adds (node_at t) (nodes_of ss))
  of_set (t ∷ ss) (suc r) s l =
      let more = of_set ss r s (omega (arith, l)) in
      omega (arith, more, adds (node_at t) (nodes_of (set ss r s)), adds (node_at t) (nodes_of ss))

  -- ranks that became idle have no more than before
  pub of_idled : (test : State → Bool) (ss : List State)
      → f (nodes_of (idled test ss)) ≤ f (nodes_of ss)
  of_idled test [] = omega arith
  of_idled test (s ∷ ss) =
      let rest = of_idled test ss in
      let all = adds (node_at s) (nodes_of ss) in
      elim (cases_Bool (test s)) [
        | inl is ↦ rw is (omega (arith, rest, all))
        | inr fails ↦
            let now = adds (node_at s) (nodes_of (idled test ss)) in
            rw fails (omega (arith, rest, all, now))
      ]

  -- what a test picks has no more
  of_both : (p : Entry → Bool) (es : List Entry)
      → f (nodes_in (filter (λ e. not (p e)) es)) + f (nodes_in (filter p es)) ≡ f (nodes_in es)
  of_both p [] = omega (arith, of_none)
  of_both p (e ∷ es) =
      let rest = of_both p es in
      let all = adds (e.node ∷ []) (nodes_in es) in
      elim (cases_Bool (p e)) [
        | inl is ↦ rw is (omega (arith, rest, all, adds (e.node ∷ []) (nodes_in (filter p es))))
        | inr fails ↦ rw fails
            (omega (arith, rest, all, adds (e.node ∷ []) (nodes_in (filter (λ e. not (p e)) es))))
      ]

  pub of_passed : (p : Entry → Bool) (es : List Entry)
      → f (nodes_in (filter p es)) ≤ f (nodes_in es)
  of_passed p es = omega (arith, of_both p es)

  pub of_failed : (p : Entry → Bool) (es : List Entry)
      → f (nodes_in (filter (λ e. not (p e)) es)) ≤ f (nodes_in es)
  of_failed p es = omega (arith, of_both p es)

  -- an entry more has its node more
  pub of_entry : (e : Entry) (es : List Entry)
      → f (nodes_in (with_entry e es)) ≡ f (nodes_in es) + f (e.node ∷ [])
  of_entry e es =
      let ahead = filter (λ other. not (is_before e other)) es in
      let behind = filter (λ other. is_before e other) es in
      let split = ap f (nodes_append ahead (e ∷ behind))
      ∙ adds (nodes_in ahead) (nodes_in (e ∷ behind)) in
      let own = adds (e.node ∷ []) (nodes_in behind) in
      let both = of_both (λ other. is_before e other) es in
      omega (arith, split, own, both)
