-- The book with which a run starts is one, and sound exactly where its boxes are Covered.
use Rattle.std.proofs.Common.{◌≡◌, ◌⊎◌, inl, inr, Bool, true, false, cond, ℕ, ℤ, zero, suc, ◌+◌, ◌<◌, ◌≤◌, List, [], ◌∷◌, ◌++◌, length, map, refl, sym, ap, ◌∙◌, subst, arith}
use Rattle.std.specs.Prelude.{◌↔◌, All, Contains, IfSome, Option, Some, None, replicate, slice_index_or}
use Rattle.std.proofs.lemmas.Bool.{cases_Bool, false≢true}
use Rattle.std.proofs.lemmas.Bool.Decides.{nat_tests}
use Rattle.std.proofs.lemmas.List.{length-replicate}
use Rattle.std.proofs.lemmas.List.Sums.{sum_by-cons}
use Rattle.std.proofs.lemmas.List.Elements.{All-cons, All-nil}
use Rattle.ug_rows.specs.declared.area.Interval.{Interval}
use Rattle.ug_rows.specs.Sums.{box_floor}
use Rattle.ug_problem.specs.Instances.{Instance, root_of}
use Rattle.ug_problem.specs.Incumbents.{one_kept}
use Rattle.ug_problem.specs.Better.{Covered, best_cutoff}
use Rattle.ug_problem.specs.Feasible.{Feasible}
use Rattle.ug_problem.specs.Limits.{IsProblem}
use Rattle.ug_nodes.specs.declared.name.Name.{Name}
use Rattle.ug_nodes.specs.declared.node.Node.{Node}
use Rattle.ug_nodes.specs.declared.change.Change.{Change}
use Rattle.ug_nodes.specs.Changes.{AreChangesOf, IsRising, area_by}
use Rattle.ug_nodes.specs.Names.{own_name}
use Rattle.ug_nodes.specs.Lines.{is_same_name}
use Rattle.ug_pool.specs.declared.entry.Entry.{Entry}
use Rattle.ug_pool.specs.Pools.{IsInOrder, IsPut, Pooled, with_entry}
use Rattle.ug_ranks.specs.declared.state.Off.TheVariants.{Died}
use Rattle.ug_ranks.specs.declared.state.State.{State}
use Rattle.ug_ranks.specs.declared.state.State.TheVariants.{Absent, Dead}
use Rattle.ug_ranks.specs.States.{state_at}
use Rattle.ug_nodes.specs.Primitive.{times}
use Rattle.ug_frames.specs.Orders.{IsOrder}
use Rattle.ug_ledger.specs.Ledgers.{Current, boxes_of, hand_name}
use Rattle.ug_ledger.specs.Starts.{IsStart}
use Rattle.ug_ledger.proofs.BoxLemmas.{covered_by}
use Rattle.ug_ledger.proofs.StartLemmas.{start_ledger, start_sound}
use Rattle.ug_rules.specs.declared.settings.Settings.{Settings}
use Rattle.ug_rules.specs.declared.told.Told.{Told}
use Rattle.ug_rules.specs.State.{BookState, current_of, held_nodes, ledger_of, nodes_in, nodes_of}
use Rattle.ug_ranks.specs.Looks.{is_racing}
use Rattle.ug_rules.specs.Books.{AreSettings, HasItsFloor, IsBook, IsSoundBook, KeepsItsFloor}
use Rattle.ug_rules.proofs.PoolLemmas.{entry_kept, entry_new, entry_old, put_in_order}
use Rattle.ug_rules.proofs.CountLemmas.{of_entry, of_held, times_adds}
use Rattle.ug_rules.proofs.BookLemmas.{no_race}
use Rattle.ug_rules.proofs.HeldLemmas.{held_cases, in_pool}
use Rattle.ug_rules.proofs.RacerLemmas.{SomeRaces}
use Rattle.ug_book.specs.Starts.{IsStartPut, first_ticket, start_entries, start_entry, started, with_entries}

-- the node that was put in
pub start_put : (p : Instance) (run hand : ℕ) (changes : List Change) (old new : Pooled) (floor : ℤ)
    (line : List Name) → floor ≡ box_floor p.objective (area_by (root_of p) changes)
    → line ≡ hand_name (first_ticket run) hand ∷ []
    → IsPut floor (record { line = line; changes = changes }) old new → IsRising changes
    → AreChangesOf (root_of p) changes → IsStartPut p run hand changes old new
start_put p run hand changes old new floor line value name put rising valid = record {
  entries = put.entries
      ∙ (ap (λ (z : ℤ). with_entry
      (record { floor = z; node = record { line = line; changes = changes } }) old.entries) value
      ∙ ap (λ (names : List Name). with_entry (record {
        floor = box_floor p.objective (area_by (root_of p) changes);
        node = record { line = names; changes = changes };
      }) old.entries) name);
  spare = put.spare;
  floor = record { rising = rising; changes = valid; floor = refl };
}

-- one entry more
pub one_more_put : (es : List Entry) (e : Entry) (pool : List Entry)
    → with_entries (es ++ e ∷ []) pool ≡ with_entry e (with_entries es pool)
one_more_put [] e pool = refl
one_more_put (x ∷ es) e pool = one_more_put es e (with_entry x pool)

pub one_more_start : (p : Instance) (run hand : ℕ) (boxes : List (List Change))
    (changes : List Change)
    → start_entries p run hand (boxes ++ changes ∷ [])
    ≡ start_entries p run hand boxes ++ start_entry p run (hand + length boxes) changes ∷ []
one_more_start p run hand [] changes =
    let same : hand ≡ hand + 0 = omega arith in
    ap (λ (n : ℕ). start_entry p run n changes ∷ []) same
one_more_start p run hand (c ∷ boxes) changes =
    let same : hand + 1 + length boxes ≡ hand + length (c ∷ boxes) = omega arith in
    ap (λ (es : List Entry). start_entry p run hand c ∷ es)
    (one_more_start p run (hand + 1) boxes changes
    ∙ ap (λ (n : ℕ). start_entries p run (hand + 1) boxes ++ start_entry p run n changes ∷ []) same)

pub one_put : (p : Instance) (run : ℕ) (boxes : List (List Change)) (changes : List Change)
    → with_entry (start_entry p run (length boxes) changes)
    (with_entries (start_entries p run 0 boxes) [])
    ≡ with_entries (start_entries p run 0 (boxes ++ changes ∷ [])) []
one_put p run boxes changes =
    let same : 0 + length boxes ≡ length boxes = omega arith in
    let e = start_entry p run (length boxes) changes in
    sym (ap (λ (es : List Entry). with_entries es []) (one_more_start p run 0 boxes changes)
    ∙ (ap
    (λ (n : ℕ). with_entries (start_entries p run 0 boxes ++ start_entry p run n changes ∷ [])
    []) same
    ∙ one_more_put (start_entries p run 0 boxes) e []))

-- what all of these have
in_order : (es pool : List Entry) → IsInOrder pool → IsInOrder (with_entries es pool)
in_order [] pool order = order
in_order (e ∷ es) pool order = in_order es (with_entry e pool) (put_in_order e pool order)

node_old : (es pool : List Entry) (n : Node) → Contains (nodes_in (with_entries es pool)) n
    → Contains (nodes_in es) n ⊎ Contains (nodes_in pool) n
node_old [] pool n h = inr h
node_old (e ∷ es) pool n h = elim (node_old es (with_entry e pool) n h) [
  | inl (k, l, same) ↦ inl (suc k, omega (arith, l), same)
  | inr there ↦ elim (entry_old e pool n there) [
    | inl old ↦ inr old
    | inr same ↦ inl (0, omega arith, same)
  ]
]

node_kept : (es pool : List Entry) (n : Node) → Contains (nodes_in pool) n
    → Contains (nodes_in (with_entries es pool)) n
node_kept [] pool n h = h
node_kept (e ∷ es) pool n h = node_kept es (with_entry e pool) n (entry_kept e pool n h)

node_new : (es pool : List Entry) (n : Node) → Contains (nodes_in es) n
    → Contains (nodes_in (with_entries es pool)) n
node_new [] pool n (k, l, same) = absurd (omega (arith, l))
node_new (e ∷ es) pool n (zero, l, same) = subst
    (λ (m : Node). Contains (nodes_in (with_entries es (with_entry e pool))) m) same
    (node_kept es (with_entry e pool) e.node (entry_new e pool))
node_new (e ∷ es) pool n (suc k, l, same) =
    node_new es (with_entry e pool) n (k, omega (arith, l), same)

counts : (name : Name) (es pool : List Entry)
    → times name (nodes_in (with_entries es pool))
    ≡ times name (nodes_in pool) + times name (nodes_in es)
counts name [] pool = omega arith
counts name (e ∷ es) pool = omega (
  arith,
  counts name es (with_entry e pool),
  of_entry (times name) (times_adds name) e pool,
  times_adds name (e.node ∷ []) (nodes_in es),
)

-- the names of starting nodes
record IsNumbered (run from : ℕ) (n : Node) : Type 0 where
  hand : ℕ
  after : from ≤ hand
  line : n.line ≡ hand_name (first_ticket run) hand ∷ []

numbered : (p : Instance) (run hand : ℕ) (boxes : List (List Change)) (n : Node)
    → Contains (nodes_in (start_entries p run hand boxes)) n → IsNumbered run hand n
numbered p run hand [] n (k, l, same) = absurd (omega (arith, l))
numbered p run hand (c ∷ boxes) n (zero, l, same) = record {
  hand = hand;
  after = omega arith;
  line = sym (ap (λ (m : Node). m.line) same);
}
numbered p run hand (c ∷ boxes) n (suc k, l, same) =
    let t = numbered p run (hand + 1) boxes n (k, omega (arith, l), same) in
    record { hand = t.hand; after = omega (arith, t.after); line = t.line }

counted : (name : Name) (n : Node) (nodes : List Node) (same : Bool)
    → is_same_name (own_name n.line) name ≡ same
    → times name (n ∷ nodes) ≡ cond same 1 0 + times name nodes
counted name n nodes same is =
    sum_by-cons (λ (m : Node). cond (is_same_name (own_name m.line) name) 1 0) n nodes
    ∙ ap (λ b. cond b 1 0 + times name nodes) is

hand_of : (a b : Name) → is_same_name a b ≡ true → a.hand ≡ b.hand
hand_of a b is = grind (arith, nat_tests)

none_before : (p : Instance) (run hand : ℕ) (boxes : List (List Change)) (name : Name)
    → name.hand < hand → times name (nodes_in (start_entries p run hand boxes)) ≡ 0
none_before p run hand [] name l = refl
none_before p run hand (c ∷ boxes) name l =
    let rest = none_before p run (hand + 1) boxes name (omega (arith, l)) in
    elim (cases_Bool (is_same_name (hand_name (first_ticket run) hand) name)) [
      | inl is ↦ absurd
          (let e = hand_of (hand_name (first_ticket run) hand) name is in omega (arith, e, l))
      | inr fails ↦
          let more = counted name (start_entry p run hand c).node
          (nodes_in (start_entries p run (hand + 1) boxes)) false fails in
          omega (arith, more, rest)
    ]

at_most_one : (p : Instance) (run hand : ℕ) (boxes : List (List Change)) (name : Name)
    → times name (nodes_in (start_entries p run hand boxes)) ≤ 1
at_most_one p run hand [] name = omega arith
at_most_one p run hand (c ∷ boxes) name =
    elim (cases_Bool (is_same_name (hand_name (first_ticket run) hand) name)) [
      | inl is ↦
          let e = hand_of (hand_name (first_ticket run) hand) name is in
          let none = none_before p run (hand + 1) boxes name (omega (arith, e)) in
          let more = counted name (start_entry p run hand c).node
          (nodes_in (start_entries p run (hand + 1) boxes)) true is in
          omega (arith, more, none)
      | inr fails ↦
          let more = counted name (start_entry p run hand c).node
          (nodes_in (start_entries p run (hand + 1) boxes)) false fails in
          omega (arith, more, at_most_one p run (hand + 1) boxes name)
    ]

-- ranks that have not joined
absent_at : (n r : ℕ) → (state_at (replicate n Absent) r ≡ Absent)
    ⊎ (state_at (replicate n Absent) r ≡ Dead Died)
absent_at zero r = inr refl
absent_at (suc n) zero = inl refl
absent_at (suc n) (suc r) = absent_at n r

none_current : (n r : ℕ) (raced : Option Entry) (c : Current)
    → slice_index_or (map (current_of raced) (replicate n Absent)) r None ≡ Some c → ⊥
none_current zero r raced c e = cc
none_current (suc n) zero raced c e = cc
none_current (suc n) (suc r) raced c e = none_current n r raced c e

pub no_work : (n : ℕ) → nodes_of (replicate n Absent) ≡ []
no_work zero = refl
no_work (suc n) = no_work n

all_absent : (p : Instance) (n : ℕ) → All (KeepsItsFloor p) (replicate n Absent)
all_absent p zero = All-nil (KeepsItsFloor p)
all_absent p (suc n) =
    All-cons (KeepsItsFloor p) Absent (replicate n Absent) tt (all_absent p n)

none_race : (n : ℕ) → SomeRaces (replicate n Absent) → ⊥
none_race n (q, is) = elim (absent_at n q) [
  | inl e ↦ false≢true (sym (ap is_racing e) ∙ is)
  | inr e ↦ false≢true (sym (ap is_racing e) ∙ is)
]

pub started_is : (p q : Instance) (number own_number : ℕ) (best own : Option (List ℤ))
    (boxes : List (List Change)) (settings own_settings : Settings) (pool : List Entry)
    (ranks : List State) (raced : Option Entry) (last : ℕ) (orders : List Told) (known : Option ℤ)
    → q ≡ p → own_number ≡ number → own_settings ≡ settings → own ≡ best
    → pool ≡ with_entries (start_entries q own_number 0 boxes) []
    → ranks ≡ replicate own_settings.solvers Absent → raced ≡ None → last ≡ 0 → orders ≡ []
    → known ≡ best_cutoff q own_settings.gap own
    → record {
      problem = q;
      run = own_number;
      settings = own_settings;
      best = own;
      pool = pool;
      ranks = ranks;
      raced = raced;
      last = last;
      orders = orders;
      heard = 0;
      announced = known;
    } ≡ started p number best boxes settings
started_is p q number own_number best own boxes settings own_settings pool ranks raced last orders
    known e f g h i j k l m n =
    cc

module _ (p : Instance) (run : ℕ) (best : Option (List ℤ)) (boxes : List (List Change))
    (settings : Settings) where
  abbrev pub start : BookState
  start = started p run best boxes settings

  abbrev pub entries : List Entry
  entries = start_entries p run 0 boxes

  held_old : (n : Node) → Contains (held_nodes start) n → Contains (nodes_in entries) n
  held_old n h = held_cases start (Contains (nodes_in entries) n) n
      (λ there. elim (node_old entries [] n there) [
        | inl old ↦ old
        | inr none ↦ absurd (omega (arith, none.1))
      ])
      (λ there. absurd (none_in (subst (λ ns. Contains ns n) (no_work settings.solvers) there)))
      (λ there. absurd (none_in there)) h
    where
      none_in : Contains [] n → ⊥
      none_in (k, l, same) = omega (arith, l)

  held_new : (n : Node) → Contains (nodes_in entries) n → Contains (held_nodes start) n
  held_new n h = in_pool start n (node_new entries [] n h)

  held_once : (name : Name) → times name (held_nodes start) ≤ 1
  held_once name = omega (
    arith,
    of_held (times name) (times_adds name) start,
    counts name entries [],
    at_most_one p run 0 boxes name,
    ap (times name) (no_work settings.solvers),
  )

  is_start : IsStart (ledger_of start)
  is_start = record {
    unused = refl;
    none = λ r c h. none_current settings.solvers r None c h;
    lines = λ n h. let t = numbered p run 0 boxes n (held_old n h) in (t.hand, t.line);
    once = held_once;
  }

  pub start_book : IsProblem p → 0 < run → IfSome best (Feasible p) → AreSettings settings
      → All (HasItsFloor p) start.pool → IsBook start
  start_book problem some feasible fit floors = record {
    problem = problem;
    run = some;
    settings = fit;
    incumbent = feasible;
    ranks = length-replicate settings.solvers Absent;
    order = in_order entries [] (λ i k ik kl. absurd (omega (arith, kl)));
    floors = record { pool = floors; ranks = all_absent p settings.solvers; raced = tt };
    ledger = start_ledger (root_of p) (ledger_of start) is_start;
    race = no_race start (none_race settings.solvers) refl;
    number = omega arith;
    orders = All-nil (λ (told : Told). IsOrder told.order);
  }

  boxes_told : (hand : ℕ) (bs : List (List Change))
      → boxes_of (root_of p) (nodes_in (start_entries p run hand bs)) ≡ map (area_by (root_of p)) bs
  boxes_told hand [] = refl
  boxes_told hand (c ∷ bs) =
      ap (λ (areas : List (List Interval)). area_by (root_of p) c ∷ areas)
      (boxes_told (hand + 1) bs)

  pub start_is_sound : IsSoundBook start
      ↔ Covered p settings.gap (one_kept best) (map (area_by (root_of p)) boxes)
  start_is_sound =
      let both = start_sound p settings.gap (one_kept best) (ledger_of start) is_start in
      let told = boxes_told 0 boxes in (
        λ s. subst (λ (bs : List (List Interval)). Covered p settings.gap (one_kept best) bs) told
            (covered_by p settings.gap (one_kept best) (held_nodes start) (nodes_in entries)
            (λ n h x better inside.
            record { node = n; there = held_old n h; inside = inside }) (both.0 s)),
        λ covered. both.1
            (covered_by p settings.gap (one_kept best) (nodes_in entries) (held_nodes start)
            (λ n h x better inside.
            record { node = n; there = held_new n h; inside = inside })
            (subst (λ (bs : List (List Interval)). Covered p settings.gap (one_kept best) bs)
            (sym told) covered)),
      )
