-- A hand that is kept: its node is in the pool, and its box taken.
use Rattle.std.proofs.Common.{◌≡◌, ◌⊎◌, inl, inr, ℕ, ◌+◌, ◌<◌, ◌≤◌, List, [], ◌∷◌, length, refl, ap, sym, subst, arith}
use Rattle.std.specs.Prelude.{Contains, slice_set}
use Rattle.std.proofs.lemmas.List.{length-map, length-set, map-set}
use Rattle.std.proofs.lemmas.List.Elements.{All-set}
use Rattle.ug_rows.specs.declared.area.Interval.{Interval}
use Rattle.ug_rows.specs.Sums.{box_floor}
use Rattle.ug_problem.specs.Instances.{root_of}
use Rattle.ug_problem.specs.Incumbents.{one_kept}
use Rattle.ug_nodes.specs.declared.change.Change.{Change}
use Rattle.ug_nodes.specs.declared.name.Name.{Name}
use Rattle.ug_nodes.specs.declared.node.Node.{Node}
use Rattle.ug_nodes.specs.Changes.{IsRising, area_by}
use Rattle.ug_pool.specs.declared.entry.Entry.{Entry}
use Rattle.ug_pool.specs.Pools.{with_entry}
use Rattle.ug_ranks.specs.declared.state.Work.{Work}
use Rattle.ug_ranks.specs.declared.state.State.{State}
use Rattle.ug_ranks.specs.declared.state.State.TheVariants.{Active}
use Rattle.ug_ranks.specs.States.{state_at}
use Rattle.ug_ranks.specs.Changes.{grown}
use Rattle.ug_nodes.specs.Primitive.{times}
use Rattle.ug_ledger.specs.Moves.{HasHanded, handed_node}
use Rattle.ug_ledger.proofs.HandedWork.{handed_ledger, handed_sound}
use Rattle.ug_rules.specs.State.{BookState, current_for, current_of, held_nodes, ledger_of, node_at, nodes_of}
use Rattle.ug_rules.specs.Hearing.{IsNextHand, handed_at}
use Rattle.ug_ranks.specs.Looks.{is_racing}
use Rattle.ug_rules.specs.Books.{HasItsFloor, IsBook, IsSoundBook, KeepsItsFloor}
use Rattle.ug_rules.proofs.WorkLemmas.{same_nodes}
use Rattle.ug_rules.proofs.HeldLemmas.{held_cases, in_pool, in_race, in_work}
use Rattle.ug_rules.proofs.CountLemmas.{of_entry, of_held, times_adds}
use Rattle.ug_rules.proofs.PoolLemmas.{all_put, entry_kept, entry_new, entry_old, put_in_order}
use Rattle.ug_rules.proofs.RacerLemmas.{set_same_races}
use Rattle.ug_rules.proofs.OwnLemmas.{own_current}
use Rattle.ug_rules.proofs.BookLemmas.{book_changed, floor_at, no_race, none_races, nothing_raced}

module _ (b : BookState) (r : ℕ) (work : Work) (there : r < length b.ranks)
    (is : state_at b.ranks r ≡ Active work) (number : ℕ) (changes : List Change)
    (next : IsNextHand b work number changes) where
  abbrev area : List Interval
  area = area_by (root_of b.problem) changes

  -- the work with the box taken
  abbrev more : State
  more = grown area (Active work)

  abbrev handed : Node
  handed = handed_node (current_for work) changes

  abbrev entry : Entry
  entry = record { floor = box_floor b.problem.objective area; node = handed }

  -- the book where this is the rank's state
  abbrev handed_as : State → BookState
  handed_as s =
      record b { pool = with_entry entry b.pool; ranks = slice_set b.ranks r s }

  abbrev new : BookState
  new = handed_as more

  is_new : handed_at (Active work) r changes b ≡ new
  is_new = ap handed_as (ap (grown area) is)

  nodes : nodes_of new.ranks ≡ nodes_of b.ranks
  nodes = same_nodes b.ranks r more (sym (ap node_at is))

  held : (n : Node) → Contains (held_nodes new) n → Contains (held_nodes b) n ⊎ (n ≡ handed)
  held n h = held_cases new (Contains (held_nodes b) n ⊎ (n ≡ handed)) n
      (λ p. elim (entry_old entry b.pool n p) [
        | inl o ↦ inl (in_pool b n o)
        | inr e ↦ inr (sym e)
      ])
      (λ w. inl (in_work b n (subst (λ ns. Contains ns n) nodes w)))
      (λ k. inl (in_race b n k)) h

  kept_held : (n : Node) → Contains (held_nodes b) n → Contains (held_nodes new) n
  kept_held n h = held_cases b (Contains (held_nodes new) n) n
      (λ p. in_pool new n (entry_kept entry b.pool n p))
      (λ w. in_work new n (subst (λ ns. Contains ns n) (sym nodes) w))
      (λ k. in_race new n k) h

  counts : (name : Name) → times name (held_nodes new)
      ≤ times name (held_nodes b) + times name (handed ∷ [])
  counts name =
      let f = times name in
      let adds = times_adds name in
      let same : f (nodes_of new.ranks) ≡ f (nodes_of b.ranks) = ap f nodes in
      omega (arith, of_held f adds new, of_held f adds b, of_entry f adds entry b.pool, same)

  -- the ledger's move
  moved : HasHanded (root_of b.problem) (ledger_of b) (ledger_of new) r (current_for work) changes
  moved = record {
    there = subst (λ k. r < k) (sym (length-map b.ranks (current_of b.raced))) there;
    current = own_current b r work there is;
    below = next.below.below;
    held = held;
    kept = kept_held;
    node = in_pool new handed (entry_new entry b.pool);
    counts = counts;
    ranks = map-set (current_of b.raced) b.ranks r more;
    last = refl;
  }

  pub hand_is_handed : HasHanded (root_of b.problem) (ledger_of b)
      (ledger_of (handed_at (Active work) r changes b)) r (current_for work) changes
  hand_is_handed = subst (λ (k : BookState).
      HasHanded (root_of b.problem) (ledger_of b) (ledger_of k) r (current_for work) changes)
      (sym is_new) moved

  -- the book is one, and sound where it was
  pub hand_keeps : IsRising changes → IsBook b → IsBook (handed_at (Active work) r changes b)
  hand_keeps rising h =
      let p = b.problem in
      let own = subst (KeepsItsFloor p) is (floor_at b r there h.floors) in
      subst IsBook (sym is_new)
      (book_changed b new.pool new.ranks b.raced b.orders h h.orders (length-set b.ranks r more)
      (put_in_order entry b.pool h.order)
      (record {
        pool = all_put (HasItsFloor p) entry b.pool
            (record { rising = rising; changes = next.below.valid; floor = refl }) h.floors.pool;
        ranks = All-set (KeepsItsFloor p) b.ranks r more
            (record { rising = own.rising; changes = own.changes; floor = own.floor })
            h.floors.ranks;
        raced = h.floors.raced;
      })
      (handed_ledger (root_of p) r (current_for work) changes (ledger_of b) (ledger_of new) moved
      h.ledger)
      (no_race new
      (λ t. none_races b r work h.race is
      (set_same_races b.ranks r more there (sym (ap is_racing is)) t))
      (nothing_raced b r work h.race is)))

  pub hand_sound : IsSoundBook b → IsSoundBook (handed_at (Active work) r changes b)
  hand_sound s = subst IsSoundBook (sym is_new)
      (handed_sound b.problem b.settings.gap (one_kept b.best) r (current_for work) changes
      (ledger_of b) (ledger_of new) moved s)
