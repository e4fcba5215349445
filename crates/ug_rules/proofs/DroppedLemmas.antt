-- After the nodes whose floor is at least the incumbent's cutoff were dropped, no better point is
-- lost.
use Rattle.std.proofs.Common.{◌≡◌, ◌⊎◌, inl, inr, ℤ, ◌≤ℤ◌, ◌<ℤ◌, ◌≤◌, int_lt, List, [], length, refl, ap, ◌∙◌, subst, arith}
use Rattle.std.proofs.lemmas.Int.{ints}
use Rattle.std.specs.Prelude.{All, Contains, IfSome, Option, Some, None}
use Rattle.std.proofs.lemmas.Bool.{cases_Bool}
use Rattle.std.proofs.lemmas.List.{length-map}
use Rattle.std.proofs.lemmas.List.Elements.{All-contains, All-filter}
use Rattle.ug_rows.specs.Sums.{box_floor}
use Rattle.ug_rows.specs.Rows.{value_of}
use Rattle.ug_problem.specs.Instances.{Instance, bounds_of, root_of}
use Rattle.ug_problem.specs.Incumbents.{one_kept}
use Rattle.ug_problem.proofs.Incumbents.{one_point}
use Rattle.ug_problem.specs.Limits.{IsProblem}
use Rattle.ug_problem.specs.Better.{best_cutoff}
use Rattle.ug_problem.proofs.Cutoffs.{better_is_good}
use Rattle.ug_problem.proofs.Floors.{floor_bound}
use Rattle.ug_nodes.specs.declared.name.Name.{Name}
use Rattle.ug_nodes.specs.declared.node.Node.{Node}
use Rattle.ug_nodes.specs.Nodes.{box_of}
use Rattle.ug_nodes.proofs.Areas.{area_by_width}
use Rattle.ug_pool.specs.declared.entry.Entry.{Entry}
use Rattle.ug_pool.specs.Pools.{IsInOrder}
use Rattle.ug_pool.proofs.Rises.{filter_in_order}
use Rattle.ug_nodes.specs.Primitive.{times}
use Rattle.ug_ledger.specs.Moves.{HasDropped, HasNoBetter}
use Rattle.ug_ledger.proofs.LessLemmas.{dropped_ledger, dropped_sound}
use Rattle.ug_rules.specs.State.{BookState, cutoff_of_best, held_nodes, ledger_of, nodes_in}
use Rattle.ug_rules.specs.Books.{HasItsFloor, IsBook, IsSoundBook}
use Rattle.ug_rules.specs.Deciding.{below_cutoff, dropped}
use Rattle.ug_rules.proofs.HeldLemmas.{held_cases, in_pool, in_race, in_work, still}
use Rattle.ug_rules.proofs.PoolLemmas.{entry_in, in_nodes, picked_kept, picked_old}
use Rattle.ug_rules.proofs.CountLemmas.{of_held, of_passed, times_adds}
use Rattle.ug_rules.proofs.BookLemmas.{book_changed}

-- what the first part leaves was there
left_old : (cutoff : Option ℤ) (es : List Entry) (n : Node)
    → Contains (nodes_in (below_cutoff cutoff es)) n → Contains (nodes_in es) n
left_old None es n h = h
left_old (Some c) es n h =
    let t = entry_in (below_cutoff (Some c) es) n h in
    in_nodes es n (record {
      entry = t.entry;
      there = (picked_old (λ entry. int_lt entry.floor c) es t.entry t.there).0;
      node = t.node;
    })

-- and no oftener
left_fewer : (cutoff : Option ℤ) (es : List Entry) (name : Name)
    → times name (nodes_in (below_cutoff cutoff es)) ≤ times name (nodes_in es)
left_fewer None es name = omega arith
left_fewer (Some c) es name = of_passed (times name) (times_adds name)
    (λ entry. int_lt entry.floor c) es

left_in_order : (cutoff : Option ℤ) (es : List Entry) → IsInOrder es
    → IsInOrder (below_cutoff cutoff es)
left_in_order None es h = h
left_in_order (Some c) es h = filter_in_order (λ entry. int_lt entry.floor c) es h

left_all : (P : Entry → Type 0) (cutoff : Option ℤ) (es : List Entry) → All P es
    → All P (below_cutoff cutoff es)
left_all P None es h = h
left_all P (Some c) es h = All-filter (λ entry. int_lt entry.floor c) P es h

left_none : (cutoff : Option ℤ) (es : List Entry) → es ≡ [] → below_cutoff cutoff es ≡ []
left_none None es h = h
left_none (Some c) es h = ap (λ xs. below_cutoff (Some c) xs) h

-- the floor of the node's box is at least a cutoff
record IsAtLeast (p : Instance) (cutoff : Option ℤ) (n : Node) : Type 0 where
  value : ℤ
  given : cutoff ≡ Some value
  least : value ≤ℤ box_floor p.objective (box_of (root_of p) n)

-- what it drops has such a floor
left_or : (p : Instance) (cutoff : Option ℤ) (es : List Entry) (n : Node) → All (HasItsFloor p) es
    → Contains (nodes_in es) n
    → IsAtLeast p cutoff n ⊎ Contains (nodes_in (below_cutoff cutoff es)) n
left_or p None es n floors h = inr h
left_or p (Some c) es n floors h =
    let t = entry_in es n h in
    let its = All-contains (HasItsFloor p) es t.entry floors t.there in
    elim (cases_Bool (int_lt t.entry.floor c)) [
      | inl pass ↦ inr (in_nodes (below_cutoff (Some c) es) n (record {
        entry = t.entry;
        there = picked_kept (λ entry. int_lt entry.floor c) es t.entry t.there pass;
        node = t.node;
      }))
      | inr fails ↦ inl (record {
        value = c;
        given = refl;
        least = subst (λ m. c ≤ℤ box_floor p.objective (box_of (root_of p) m)) t.node
            (omega (arith, ints, fails, its.floor));
      })
    ]

-- so it has no better point
no_better : (p : Instance) (gap : ℤ) (best : Option (List ℤ)) (n : Node) → IsProblem p
    → IsAtLeast p (best_cutoff p gap best) n → HasNoBetter p gap (one_kept best) n
no_better p gap best n problem t x better inside =
    let good = better_is_good p gap (one_kept best) x better in
    let given = ap (best_cutoff p gap) (one_point best) ∙ t.given in
    let less : value_of p.objective x <ℤ t.value =
    subst (λ o. IfSome o (λ c. value_of p.objective x <ℤ c)) given good.less in
    let width : length (box_of (root_of p) n) ≡ length p.columns =
    area_by_width (root_of p) n.changes ∙ length-map p.columns bounds_of in
    let bound = floor_bound p (box_of (root_of p) n) x problem width inside in
    omega (arith, ints, less, bound, t.least)

-- what the ledger lost
has_dropped : (b : BookState) → IsBook b
    → HasDropped b.problem b.settings.gap (one_kept b.best) (ledger_of b) (ledger_of (dropped b))
has_dropped b h = record {
  less = record {
    held = old;
    counts = λ name. omega (
      arith,
      left_fewer (cutoff_of_best b) b.pool name,
      of_held (times name) (times_adds name) b,
      of_held (times name) (times_adds name) (dropped b),
    );
    current = λ r c k. k;
    still = λ r c k. still (dropped b) r c k;
    last = refl;
  };
  dropped = kept;
  ranks = refl;
}
  where
    old : (n : Node) → Contains (held_nodes (dropped b)) n → Contains (held_nodes b) n
    old n k = held_cases (dropped b) (Contains (held_nodes b) n) n
        (λ pool. in_pool b n (left_old (cutoff_of_best b) b.pool n pool))
        (λ work. in_work b n work) (λ race. in_race b n race) k

    kept : (n : Node) → Contains (held_nodes b) n
        → HasNoBetter b.problem b.settings.gap (one_kept b.best) n
        ⊎ Contains (held_nodes (dropped b)) n
    kept n k = held_cases b
        (HasNoBetter b.problem b.settings.gap (one_kept b.best) n
        ⊎ Contains (held_nodes (dropped b)) n) n
        (λ pool. elim (left_or b.problem (cutoff_of_best b) b.pool n h.floors.pool pool) [
          | inl least ↦ inl (no_better b.problem b.settings.gap b.best n h.problem least)
          | inr stays ↦ inr (in_pool (dropped b) n stays)
        ])
        (λ work. inr (in_work (dropped b) n work)) (λ race. inr (in_race (dropped b) n race)) k

pub dropped_book : (b : BookState) → IsBook b → IsBook (dropped b)
dropped_book b h = book_changed b
    (below_cutoff (cutoff_of_best b) b.pool) b.ranks b.raced b.orders h h.orders refl
    (left_in_order (cutoff_of_best b) b.pool h.order)
    (record {
      pool = left_all (HasItsFloor b.problem) (cutoff_of_best b) b.pool h.floors.pool;
      ranks = h.floors.ranks;
      raced = h.floors.raced;
    })
    (dropped_ledger (root_of b.problem) b.problem b.settings.gap (one_kept b.best) (ledger_of b)
    (ledger_of (dropped b))
    (has_dropped b h) h.ledger)
    (record {
      raced = h.race.raced;
      racing = h.race.racing;
      pool = λ some. left_none (cutoff_of_best b) b.pool (h.race.pool some);
      ranks = h.race.ranks;
    })

pub dropped_stays_sound : (b : BookState) → IsBook b → IsSoundBook b → IsSoundBook (dropped b)
dropped_stays_sound b h sound = dropped_sound b.problem b.settings.gap (one_kept b.best) (ledger_of b)
    (ledger_of (dropped b)) (has_dropped b h) sound
