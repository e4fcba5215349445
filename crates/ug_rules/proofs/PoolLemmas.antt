-- What a pool holds after a node was put in, and after those below a node were dropped.
use Rattle.std.proofs.Common.{◌≡◌, ◌⊎◌, inl, inr, ℕ, zero, suc, ◌<◌, ◌≤◌, Bool, true, false, not, cond, List, [], ◌∷◌, length, filter, refl, ap, sym, ◌∙◌, subst, arith}
use Rattle.std.specs.Prelude.{All, Contains}
use Rattle.std.proofs.lemmas.Bool.{cases_Bool, false≢true}
use Rattle.std.proofs.lemmas.List.Elements.{All-append, All-cons, All-filter, Contains-append_left, Contains-append_right, Contains-append_cases}
use Rattle.ug_nodes.specs.declared.name.Name.{Name}
use Rattle.ug_nodes.specs.declared.node.Node.{Node}
use Rattle.ug_nodes.specs.Lines.{IsAncestor, is_ancestor}
use Rattle.ug_nodes.proofs.LineLemmas.{ancestor_from_test, test_from_ancestor}
use Rattle.ug_pool.specs.declared.entry.Entry.{Entry}
use Rattle.ug_pool.specs.Pools.{IsInOrder, entry_at, is_before, with_entry, without_below}
use Rattle.ug_pool.specs.Steps.{IsPlace}
use Rattle.ug_pool.proofs.Orders.{before_along}
use Rattle.ug_pool.proofs.Places.{insert_in_order, insert_with_entry, rest_in_order}
use Rattle.ug_pool.proofs.Rises.{filter_in_order}
use Rattle.ug_rules.specs.State.{nodes_in}

-- the entry of a node
pub record IsIn (es : List Entry) (n : Node) : Type 0 where
  pub entry : Entry
  pub there : Contains es entry
  pub node : entry.node ≡ n

pub entry_in : (es : List Entry) (n : Node) → Contains (nodes_in es) n → IsIn es n
entry_in [] n h = absurd (omega (arith, h.1))
entry_in (e ∷ es) n (zero, l, same) =
    record { entry = e; there = (0, omega arith, refl); node = same }
entry_in (e ∷ es) n (suc k, l, same) =
    let t = entry_in es n (k, omega (arith, l), same) in
    record {
      entry = t.entry;
      there = Contains-append_right (e ∷ []) es t.entry t.there;
      node = t.node;
    }

node_in : (es : List Entry) (e : Entry) → Contains es e → Contains (nodes_in es) e.node
node_in [] e h = absurd (omega (arith, h.1))
node_in (x ∷ es) e (zero, l, same) = (0, omega arith, ap (λ (y : Entry). y.node) same)
node_in (x ∷ es) e (suc k, l, same) = Contains-append_right (x.node ∷ []) (nodes_in es) e.node
    (node_in es e (k, omega (arith, l), same))

pub in_nodes : (es : List Entry) (n : Node) → IsIn es n → Contains (nodes_in es) n
in_nodes es n t = subst (λ m. Contains (nodes_in es) m) t.node (node_in es t.entry t.there)

-- what a test picks was there and passes, and what is there and passes is picked
pub picked_old : (p : Entry → Bool) (es : List Entry) (e : Entry) → Contains (filter p es) e
    → Contains es e × (p e ≡ true)
picked_old p [] e h = absurd (omega (arith, h.1))
picked_old p (x ∷ es) e h = by (λ k. picked_old p es e k) (p x) refl h
  where
    shift : Contains es e × (p e ≡ true) → Contains (x ∷ es) e × (p e ≡ true)
    shift t = (Contains-append_right (x ∷ []) es e t.0, t.1)

    by : (Contains (filter p es) e → Contains es e × (p e ≡ true)) → (b : Bool) → p x ≡ b
        → Contains (cond b (x ∷ filter p es) (filter p es)) e → Contains (x ∷ es) e × (p e ≡ true)
    by rest true is (zero, l, same) = (
      (0, omega arith, same),
      subst (λ y. p y ≡ true) same is,
    )
    by rest true is (suc k, l, same) = shift (rest (k, omega (arith, l), same))
    by rest false is k = shift (rest k)

pub picked_kept : (p : Entry → Bool) (es : List Entry) (e : Entry) → Contains es e → p e ≡ true
    → Contains (filter p es) e
picked_kept p [] e h is = absurd (omega (arith, h.1))
picked_kept p (x ∷ es) e (zero, l, same) is =
    let pass = subst (λ y. p y ≡ true) (sym same) is in
    rw pass (0, omega arith, same)
picked_kept p (x ∷ es) e (suc k, l, same) is =
    let rest = picked_kept p es e (k, omega (arith, l), same) is in
    elim (cases_Bool (p x)) [
      | inl pass ↦ rw pass (Contains-append_right (x ∷ []) (filter p es) e rest)
      | inr fails ↦ rw fails rest
    ]

-- the entries after one was put in: those of before, and the new one
put_old : (e : Entry) (es : List Entry) (o : Entry) → Contains (with_entry e es) o
    → Contains es o ⊎ (e ≡ o)
put_old e es o h =
    let ahead = filter (λ other. not (is_before e other)) es in
    let behind = filter (λ other. is_before e other) es in
    elim (Contains-append_cases ahead (e ∷ behind) o h) [
      | inl a ↦ inl (picked_old (λ other. not (is_before e other)) es o a).0
      | inr b ↦ elim (Contains-append_cases (e ∷ []) behind o b) [
        | inl s ↦ inr (only s)
        | inr t ↦ inl (picked_old (λ other. is_before e other) es o t).0
      ]
    ]
  where
    only : Contains (e ∷ []) o → e ≡ o
    only (zero, l, same) = same
    only (suc k, l, same) = absurd (omega (arith, l))

put_kept : (e : Entry) (es : List Entry) (o : Entry) → Contains es o → Contains (with_entry e es) o
put_kept e es o h =
    let ahead = filter (λ other. not (is_before e other)) es in
    let behind = filter (λ other. is_before e other) es in
    elim (cases_Bool (is_before e o)) [
      | inl pass ↦ Contains-append_right ahead (e ∷ behind) o
          (Contains-append_right (e ∷ []) behind o
          (picked_kept (λ other. is_before e other) es o h pass))
      | inr fails ↦ Contains-append_left ahead (e ∷ behind) o
          (picked_kept (λ other. not (is_before e other)) es o h (ap not fails))
    ]

pub entry_old : (e : Entry) (es : List Entry) (n : Node) → Contains (nodes_in (with_entry e es)) n
    → Contains (nodes_in es) n ⊎ (e.node ≡ n)
entry_old e es n h =
    let t = entry_in (with_entry e es) n h in
    elim (put_old e es t.entry t.there) [
      | inl o ↦ inl (in_nodes es n (record { entry = t.entry; there = o; node = t.node }))
      | inr s ↦ inr (ap (λ (o : Entry). o.node) s ∙ t.node)
    ]

pub entry_kept : (e : Entry) (es : List Entry) (n : Node) → Contains (nodes_in es) n
    → Contains (nodes_in (with_entry e es)) n
entry_kept e es n h =
    let t = entry_in es n h in
    in_nodes (with_entry e es) n
    (record { entry = t.entry; there = put_kept e es t.entry t.there; node = t.node })

pub entry_new : (e : Entry) (es : List Entry) → Contains (nodes_in (with_entry e es)) e.node
entry_new e es =
    let ahead = filter (λ other. not (is_before e other)) es in
    let behind = filter (λ other. is_before e other) es in
    node_in (with_entry e es) e
    (Contains-append_right ahead (e ∷ behind) e (0, omega arith, refl))

-- what stays where the nodes below a line went
not_true : (b : Bool) → not b ≡ true → b ≡ false
not_true true h = cc
not_true false h = refl

pub above_old : (line : List Name) (es : List Entry) (n : Node)
    → Contains (nodes_in (without_below line es)) n
    → Contains (nodes_in es) n × (¬ IsAncestor line n.line)
above_old line es n h =
    let test : Entry → Bool = λ entry. not (is_ancestor line entry.node.line) in
    let t = entry_in (without_below line es) n h in
    let o = picked_old test es t.entry t.there in (
      in_nodes es n (record { entry = t.entry; there = o.0; node = t.node }),
      λ up.
          let pass = test_from_ancestor line n.line up in
          let fails = subst (λ (m : Node). is_ancestor line m.line ≡ false) t.node
          (not_true (is_ancestor line t.entry.node.line) o.1) in
          false≢true (sym fails ∙ pass),
    )

pub above_kept : (line : List Name) (es : List Entry) (n : Node) → Contains (nodes_in es) n
    → IsAncestor line n.line ⊎ Contains (nodes_in (without_below line es)) n
above_kept line es n h =
    let test : Entry → Bool = λ entry. not (is_ancestor line entry.node.line) in
    let t = entry_in es n h in
    elim (cases_Bool (is_ancestor line n.line)) [
      | inl pass ↦ inl (ancestor_from_test line n.line pass)
      | inr fails ↦
          let own = subst (λ (m : Node). is_ancestor line m.line ≡ false) (sym t.node) fails in
          inr (in_nodes (without_below line es) n (record {
            entry = t.entry;
            there = picked_kept test es t.entry t.there (ap not own);
            node = t.node;
          }))
    ]

-- each fact of all entries stays
pub all_put : (P : Entry → Type 0) (e : Entry) (es : List Entry) → P e → All P es
    → All P (with_entry e es)
all_put P e es own all =
    let ahead = filter (λ other. not (is_before e other)) es in
    let behind = filter (λ other. is_before e other) es in
    All-append P ahead (e ∷ behind) (All-filter (λ other. not (is_before e other)) P es all)
    (All-cons P e behind own (All-filter (λ other. is_before e other) P es all))

-- the place of an entry
place_of : (e : Entry) (xs : List Entry) → IsInOrder xs → (at : ℕ) × IsPlace e xs at
place_of e [] order = (
  0,
  record {
    there = omega arith;
    ahead = λ k lt. absurd (omega (arith, lt));
    behind = λ k le lt. absurd (omega (arith, lt));
  },
)
place_of e (x ∷ xs) order = elim (cases_Bool (is_before e x)) [
  | inl pass ↦ (
    0,
    record {
      there = omega arith;
      ahead = λ k lt. absurd (omega (arith, lt));
      behind = first pass;
    },
  )
  | inr fails ↦
      let t = place_of e xs (rest_in_order x xs order) in (
        suc t.0,
        record {
          there = omega (arith, t.1.there);
          ahead = later t.0 fails t.1.ahead;
          behind = last t.0 t.1.behind;
        },
      )
]
  where
    first : is_before e x ≡ true → (k : ℕ) → 0 ≤ k → k < length (x ∷ xs)
        → is_before e (entry_at (x ∷ xs) k) ≡ true
    first pass zero le lt = pass
    first pass (suc k) le lt =
        before_along e x (entry_at xs k) pass (order 0 (suc k) (omega arith) lt)

    later : (at : ℕ) → is_before e x ≡ false
        → ((k : ℕ) → k < at → is_before e (entry_at xs k) ≡ false)
        → (k : ℕ) → k < suc at → is_before e (entry_at (x ∷ xs) k) ≡ false
    later at fails ahead zero lt = fails
    later at fails ahead (suc k) lt = ahead k (omega (arith, lt))

    last : (at : ℕ) → ((k : ℕ) → at ≤ k → k < length xs → is_before e (entry_at xs k) ≡ true)
        → (k : ℕ) → suc at ≤ k → k < length (x ∷ xs) → is_before e (entry_at (x ∷ xs) k) ≡ true
    last at behind zero le lt = absurd (omega (arith, le))
    last at behind (suc k) le lt = behind k (omega (arith, le)) (omega (arith, lt))

-- the pool stays in order
pub put_in_order : (e : Entry) (xs : List Entry) → IsInOrder xs → IsInOrder (with_entry e xs)
put_in_order e xs order =
    let t = place_of e xs order in
    subst IsInOrder (insert_with_entry e xs t.0 t.1) (insert_in_order e xs t.0 order t.1)

pub above_in_order : (line : List Name) (xs : List Entry) → IsInOrder xs
    → IsInOrder (without_below line xs)
above_in_order line xs order =
    filter_in_order (λ entry. not (is_ancestor line entry.node.line)) xs order
