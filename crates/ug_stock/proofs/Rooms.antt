-- How much room a death wants, and leaves.
use Rattle.std.proofs.Common.{◌≡◌, ℕ, ◌+◌, ◌<◌, ◌≤◌, ℤ, true, not, List, length, refl, sym, arith}
use Rattle.std.specs.Prelude.{Some, None, slice_set}
use Rattle.std.proofs.lemmas.Bool.{false≢true}
use Rattle.std.proofs.lemmas.Option.{none-some}
use Rattle.std.proofs.lemmas.List.{length-append}
use Rattle.ug_nodes.specs.declared.node.Node.{Node}
use Rattle.std.proofs.lemmas.List.Filters.{length-filter_both}
use Rattle.ug_nodes.specs.declared.name.Name.{Name}
use Rattle.ug_nodes.specs.Lines.{is_ancestor}
use Rattle.ug_pool.specs.declared.entry.Entry.{Entry}
use Rattle.ug_pool.specs.Pools.{without_below}
use Rattle.ug_ranks.specs.declared.state.Off.TheVariants.{Died}
use Rattle.ug_ranks.specs.declared.state.State.{State}
use Rattle.ug_ranks.specs.declared.state.State.TheVariants.{Absent, Idle, Racing, Active, Dead}
use Rattle.ug_ranks.specs.States.{held_by, state_at}
use Rattle.ug_rules.specs.State.{BookState, node_at, nodes_of}
use Rattle.ug_ranks.specs.Looks.{is_racing}
use Rattle.ug_rules.specs.Deaths.{killed_at, race_lost, with_dead}
use Rattle.ug_rules.proofs.CountLemmas.{of_set}

one_held : (s : State) (t : Node × ℤ) → held_by s ≡ Some t → length (node_at s) ≡ 1
one_held (Active w) t e = refl
one_held Absent t e = absurd (none-some t e)
one_held Idle t e = absurd (none-some t e)
one_held (Racing k) t e = absurd (none-some t e)
one_held (Dead how) t e = absurd (none-some t e)

none_held : (s : State) → held_by s ≡ None → length (node_at s) ≡ 0
none_held (Active w) e = absurd (none-some (w.node, w.floor) (sym e))
none_held Absent e = refl
none_held Idle e = refl
none_held (Racing k) e = refl
none_held (Dead how) e = refl

-- one node fewer is worked on where the rank that was lost worked
pub one_less : (ss : List State) (r : ℕ) (t : Node × ℤ) → r < length ss
    → held_by (state_at ss r) ≡ Some t
    → length (nodes_of (slice_set ss r (Dead Died))) + 1 ≡ length (nodes_of ss)
one_less ss r t there e = omega (
  arith,
  one_held (state_at ss r) t e,
  of_set (λ ns. length ns) (λ ms ns. length-append ms ns) ss r (Dead Died) there,
)

-- and as many where it did not
pub none_less : (ss : List State) (r : ℕ) → r < length ss → held_by (state_at ss r) ≡ None
    → length (nodes_of (slice_set ss r (Dead Died))) ≡ length (nodes_of ss)
none_less ss r there e = omega (
  arith,
  none_held (state_at ss r) e,
  of_set (λ ns. length ns) (λ ms ns. length-append ms ns) ss r (Dead Died) there,
)

-- if a racer is lost its race may be lost
pub racer_dies : (s : State) (r : ℕ) (b : BookState) → is_racing s ≡ true
    → killed_at s r b ≡ race_lost (with_dead r b)
racer_dies (Racing k) r b e = refl
racer_dies Absent r b e = absurd (false≢true e)
racer_dies Idle r b e = absurd (false≢true e)
racer_dies (Active w) r b e = absurd (false≢true e)
racer_dies (Dead how) r b e = absurd (false≢true e)

-- those that stay are no more
pub no_more : (line : List Name) (es : List Entry) → length (without_below line es) ≤ length es
no_more line es = omega (
  arith,
  length-filter_both (λ (entry : Entry). not (is_ancestor line entry.node.line))
      (λ (entry : Entry). not (not (is_ancestor line entry.node.line))) (λ entry. refl) es,
)
