-- The nodes of the first entries, and of the first ranks, with one more.
use Rattle.std.proofs.Common.{◌≡◌, ℕ, zero, suc, ◌+◌, ◌<◌, List, [], ◌∷◌, ◌++◌, length, take, refl, sym, ap, ◌∙◌, arith}
use Rattle.std.specs.Prelude.{slice_get}
use Rattle.std.proofs.lemmas.List.{append-nil, append_assoc}
use Rattle.ug_nodes.specs.declared.node.Node.{Node}
use Rattle.ug_pool.specs.declared.entry.Entry.{Entry}
use Rattle.ug_ranks.specs.declared.state.State.{State}
use Rattle.ug_ranks.specs.States.{state_at}
use Rattle.ug_rules.specs.State.{node_at, nodes_in, nodes_of, raced_node}

pub one_entry_more : (es : List Entry) (k : ℕ) → k < length es
    → nodes_in (take (k + 1) es) ≡ nodes_in (take k es) ++ raced_node (slice_get es k)
one_entry_more [] k there = absurd (omega (arith, there))
one_entry_more (e ∷ es) zero there = refl
one_entry_more (e ∷ es) (suc k) there =
    let more : suc k + 1 ≡ suc (k + 1) = omega arith in
    ap (λ (n : ℕ). nodes_in (take n (e ∷ es))) more
    ∙ ap (λ (ns : List Node). e.node ∷ ns) (one_entry_more es k (omega (arith, there)))

pub one_rank_more : (ss : List State) (k : ℕ) → k < length ss
    → nodes_of (take (k + 1) ss) ≡ nodes_of (take k ss) ++ node_at (state_at ss k)
one_rank_more [] k there = absurd (omega (arith, there))
one_rank_more (s ∷ ss) zero there = append-nil (node_at s)
one_rank_more (s ∷ ss) (suc k) there =
    let more : suc k + 1 ≡ suc (k + 1) = omega arith in
    ap (λ (n : ℕ). nodes_of (take n (s ∷ ss))) more
    ∙ ap (λ (ns : List Node). node_at s ++ ns) (one_rank_more ss k (omega (arith, there)))
    ∙ sym (append_assoc (node_at s) (nodes_of (take k ss)) (node_at (state_at ss k)))
