-- Names and nodes, read as they are spelled.
use Rattle.std.proofs.Common.{◌≡◌, ℕ, ◌+◌, ◌^◌, ◌<◌, ◌≤◌, Bool, true, false, eqb, ltb, List, [], ◌++◌, length, Option, None, Some, Ok, refl, sym, ap, arith, inl, inr}
use Rattle.std.specs.Prelude.{◌&&◌, ◌||◌, ◌⊎◌, if◌then◌else◌}
use Rattle.std.specs.List.{flat_map}
use Rattle.std.proofs.lemmas.Bool.{ltb-true, ltb-false, lt-ltb, eqb-true, eq-eqb, or_left, or_right}
use Rattle.std.proofs.lemmas.List.{append-nil}
use Rattle.ug_rows.specs.declared.area.Interval.{Interval}
use Rattle.ug_nodes.specs.declared.name.Name.{Name}
use Rattle.ug_fields.specs.Reading.{Reading, ◌>>=◌, long_at}
use Rattle.ug_fields.specs.Readers.{IsReader}
use Rattle.ug_fields.specs.Spelling.{long_field}
use Rattle.ug_fields.proofs.Takes.{made, reworded, joined}
use Rattle.ug_fields.proofs.Tests.{both_true, and_true}
use Rattle.ug_fields.proofs.Tested.{tested}
use Rattle.ug_fields.proofs.Simple.{long_reader}
use Rattle.ug_fields.proofs.Runs.{Chain, after_all, many_reader}
use Rattle.ug_image.specs.declared.image.SavedNode.{SavedNode}
use Rattle.ug_image.specs.Spelling.{name_fields, changes_fields, node_fields, bare_node_fields, nodes_fields}
use Rattle.ug_image.specs.Reading as read
use Rattle.ug_image.specs.Reading.{is_behind, any_name_at, name_at, changes_at, starting_at, named_at, bare_at, nodes_at}
use Rattle.ug_image.proofs.Changed.{AreReadChanges, changes_reader}

-- a name of the run
pub record IsNameOf (run : ℕ) (name : Name) : Type 0 where
  pub of_run : name.ticket.run ≡ run
  pub number : name.ticket.number < 2 ^ 64
  pub hand : name.hand < 2 ^ 64

any_reader : (run : ℕ) → IsReader (IsNameOf run) name_fields (any_name_at run)
unfolding any_name_at
any_reader run =
    reworded (λ (n : Name). (n.ticket.run ≡ run)
    × (((0 ≤ n.ticket.number) × (n.ticket.number < 2 ^ 64))
    × (((0 ≤ n.hand) × (n.hand < 2 ^ 64)) × Unit {0})))
    (λ n. long_field n.ticket.number ++ (long_field n.hand ++ [])) (IsNameOf run) name_fields _
    (λ n good. ap (λ t. long_field n.ticket.number ++ t) (append-nil (long_field n.hand)))
    (λ n good. record { of_run = good.0; number = good.1.0.1; hand = good.1.1.0.1 })
    (λ n is. (is.of_run, ((omega arith, is.number), ((omega arith, is.hand), tt))))
    (joined (λ (n : Name). n.ticket.number) (λ k. (0 ≤ k) × (k < 2 ^ 64)) long_field
    (long_at 0) (λ n. n.ticket.run ≡ run)
    (λ n. ((0 ≤ n.hand) × (n.hand < 2 ^ 64)) × Unit {0}) (λ n. long_field n.hand ++ []) _
    (long_reader 0)
    (λ number small. joined (λ (n : Name). n.hand) (λ k. (0 ≤ k) × (k < 2 ^ 64)) long_field
    (long_at 0) (λ n. (n.ticket.run ≡ run) × (n.ticket.number ≡ number)) (λ n. Unit {0})
    (λ n. []) _ (long_reader 0)
    (λ hand few. made
    (λ (n : Name). (((n.ticket.run ≡ run) × (n.ticket.number ≡ number)) × (n.hand ≡ hand))
    × Unit {0})
    (record { ticket = record { run = run; number = number }; hand = hand })
    (((refl, refl), refl), tt)
    (λ n is. λ i. record {
      ticket = record { run = is.0.0.0 i; number = is.0.0.1 i };
      hand = is.0.1 i;
    }))))

-- the name is behind the one before it, where there is one
abbrev pub IsBehind : Option Name → Name → Type 0
IsBehind None name = Unit {0}
IsBehind (Some last) name = (last.ticket.number < name.ticket.number)
    ⊎ ((last.ticket.number ≡ name.ticket.number) × (last.hand < name.hand))

either_true : (a b : Bool) → (a || b) ≡ true → (a ≡ true) ⊎ (b ≡ true)
either_true true b e = inl refl
either_true false b e = inr e

behind_tells : (last : Option Name) (name : Name) → is_behind last name ≡ true
    → IsBehind last name
behind_tells None name e = tt
behind_tells (Some last) name e =
    elim (either_true (ltb last.ticket.number name.ticket.number)
    (eqb last.ticket.number name.ticket.number && ltb last.hand name.hand) e) [
      | inl less ↦ inl (ltb-true _ _ less)
      | inr both ↦
          let b = both_true (eqb last.ticket.number name.ticket.number) (ltb last.hand name.hand)
          both in
          inr (eqb-true _ _ b.0, ltb-true _ _ b.1)
    ]

behind_told : (last : Option Name) (name : Name) → IsBehind last name
    → is_behind last name ≡ true
behind_told None name is = refl
behind_told (Some last) name (inl less) = or_left _ _ (lt-ltb _ _ less)
behind_told (Some last) name (inr both) =
    or_right (ltb last.ticket.number name.ticket.number) _
    (and_true _ _ (eq-eqb _ _ both.0)
    (lt-ltb _ _ both.1))

name_reader : (run : ℕ) (last : Option Name)
    → IsReader (λ name. IsNameOf run name × IsBehind last name) name_fields (name_at run last)
unfolding name_at
name_reader run last =
    reworded (λ name. IsNameOf run name × (is_behind last name ≡ true)) name_fields
    (λ name. IsNameOf run name × IsBehind last name) name_fields _
    (λ name good. refl) (λ name good. (good.0, behind_tells last name good.1))
    (λ name is. (is.0, behind_told last name is.1))
    (tested (IsNameOf run) name_fields (any_name_at run) (is_behind last) (any_reader run))

-- a node of the run, behind the one of this name
pub record IsNextNode (run : ℕ) (root : List Interval) (last : Option Name) (node : SavedNode)
    : Type 0 where
  pub name : IsNameOf run node.name
  pub behind : IsBehind last node.name
  pub changes : AreReadChanges root node.changes

node_reader : (run : ℕ) (root : List Interval) (last : Option Name)
    → IsReader (IsNextNode run root last) node_fields (read.node_at run root last)
unfolding read.node_at node_fields
node_reader run root last =
    reworded (λ (n : SavedNode). Unit {0} × ((IsNameOf run n.name × IsBehind last n.name)
    × (AreReadChanges root n.changes × Unit {0})))
    (λ n. name_fields n.name ++ (changes_fields n.changes ++ []))
    (IsNextNode run root last) (λ n. name_fields n.name ++ changes_fields n.changes) _
    (λ n good. ap (λ t. name_fields n.name ++ t) (append-nil (changes_fields n.changes)))
    (λ n good. record { name = good.1.0.0; behind = good.1.0.1; changes = good.1.1.0 })
    (λ n is. (tt, ((is.name, is.behind), (is.changes, tt))))
    (joined (λ (n : SavedNode). n.name) (λ name. IsNameOf run name × IsBehind last name)
    name_fields (name_at run last) (λ n. Unit {0}) (λ n. AreReadChanges root n.changes × Unit {0})
    (λ n. changes_fields n.changes ++ []) _ (name_reader run last)
    (λ name is. joined (λ (n : SavedNode). n.changes) (AreReadChanges root) changes_fields
    (changes_at root) (λ n. Unit {0} × (n.name ≡ name)) (λ n. Unit {0}) (λ n. []) _
    (changes_reader root)
    (λ changes are. made
    (λ (n : SavedNode). ((Unit {0} × (n.name ≡ name)) × (n.changes ≡ changes)) × Unit {0})
    (record { name = name; changes = changes }) (((tt, refl), refl), tt)
    (λ n is. λ i. record { name = is.0.0.1 i; changes = is.0.1 i }))))

-- starting node k of the run
pub record IsStartingNode (run : ℕ) (root : List Interval) (k : ℕ) (node : SavedNode)
    : Type 0 where
  pub name : node.name ≡ record { ticket = record { run = run; number = 0 }; hand = k }
  pub changes : AreReadChanges root node.changes

starting_reader : (run : ℕ) (root : List Interval) (k : ℕ)
    → IsReader (IsStartingNode run root k) bare_node_fields (starting_at run root k)
unfolding starting_at
starting_reader run root k =
    reworded (λ (n : SavedNode).
    (n.name ≡ record { ticket = record { run = run; number = 0 }; hand = k })
    × (AreReadChanges root n.changes × Unit {0}))
    (λ n. changes_fields n.changes ++ []) (IsStartingNode run root k) bare_node_fields _
    (λ n good. append-nil (changes_fields n.changes))
    (λ n good. record { name = good.0; changes = good.1.0 })
    (λ n is. (is.name, (is.changes, tt)))
    (joined (λ (n : SavedNode). n.changes) (AreReadChanges root) changes_fields (changes_at root)
    (λ n. n.name ≡ record { ticket = record { run = run; number = 0 }; hand = k })
    (λ n. Unit {0}) (λ n. []) _ (changes_reader root)
    (λ changes are. made
    (λ (n : SavedNode). ((n.name ≡ record { ticket = record { run = run; number = 0 }; hand = k })
    × (n.changes ≡ changes)) × Unit {0})
    (record {
      name = record { ticket = record { run = run; number = 0 }; hand = k };
      changes = changes;
    }) ((refl, refl), tt)
    (λ n is. λ i. record { name = is.0.0 i; changes = is.0.1 i })))

abbrev pub next_name : Option Name → SavedNode → Option Name
next_name last node = Some node.name

abbrev pub next_place : ℕ → SavedNode → ℕ
next_place k node = k + 1

-- the nodes that a version can have
pub data AreReadNodes (version run : ℕ) (root : List Interval) (n : ℕ) (nodes : List SavedNode)
    : Type 0 where
  with_names : 1 < version → length nodes ≡ n → Chain (IsNextNode run root) next_name None nodes
      → AreReadNodes version run root n nodes
  without : version ≤ 1 → length nodes ≡ n
      → Chain (IsStartingNode run root) next_place 0 nodes
      → AreReadNodes version run root n nodes

-- the list alone of what many readers give
module _ {S : Type 0} (Good : List SavedNode × S → Type 0)
    (Fine : List SavedNode → Type 0) (field : List SavedNode → List ℕ)
    (read : List ℕ → Reading (List SavedNode × S))
    (end : List SavedNode → S)
    (to : (x : List SavedNode × S) → Good x → Fine x.0 × (x.1 ≡ end x.0))
    (from : (xs : List SavedNode) → Fine xs → Good (xs, end xs)) where
  pub list_alone : IsReader Good (λ x. field x.0) read
      → IsReader Fine field (λ bytes. read bytes >>= λ x. Ok (x.0.0, x.1))
  list_alone reader =
      reworded (λ xs. Unit {0} × (Good (xs, end xs) × Unit {0})) (λ xs. field xs ++ []) Fine field
      _
      (λ xs good. append-nil (field xs))
      (λ xs good. (to (xs, end xs) good.1.0).0)
      (λ xs fine. (tt, (from xs fine, tt)))
      (joined (λ xs. (xs, end xs)) Good (λ x. field x.0) read (λ xs. Unit {0}) (λ xs. Unit {0})
      (λ xs. []) (λ x. Ok (x.0.0, x.1)) reader
      (λ x good. made (λ xs. (Unit {0} × ((xs, end xs) ≡ x)) × Unit {0}) x.0
      ((tt, λ i. (x.0, sym (to x good).1 i)), tt)
      (λ xs is. λ i. (is.0.1 i).0)))

nodes_by : (version run : ℕ) (root : List Interval) (n : ℕ) (there : Bool)
    → ltb 1 version ≡ there
    → IsReader (AreReadNodes version run root n)
    (λ nodes. if there then flat_map node_fields nodes else flat_map bare_node_fields nodes)
    (λ bytes. if there
    then (named_at run root n bytes >>= λ nodes. Ok (nodes.0.0, nodes.1))
    else (bare_at run root n bytes >>= λ nodes. Ok (nodes.0.0, nodes.1)))
nodes_by version run root n true e =
    let above = ltb-true _ _ e in
    list_alone
    (λ x. (length x.0 ≡ n) × Chain (IsNextNode run root) next_name None x.0
    × (x.1 ≡ after_all next_name None x.0))
    (AreReadNodes version run root n) (flat_map node_fields) (named_at run root n)
    (after_all next_name None)
    (λ x good. (with_names above good.0 good.1, good.2))
    (λ xs are. elim are [
      | with_names high size chain ↦ (size, chain, refl)
      | without low size chain ↦ absurd (omega (arith, low, above))
    ])
    (many_reader (read.node_at run root) next_name (IsNextNode run root) node_fields
    (node_reader run root) n None)
nodes_by version run root n false e =
    let below = ltb-false _ _ e in
    list_alone
    (λ x. (length x.0 ≡ n) × Chain (IsStartingNode run root) next_place 0 x.0
    × (x.1 ≡ after_all next_place 0 x.0))
    (AreReadNodes version run root n) (flat_map bare_node_fields) (bare_at run root n)
    (after_all next_place 0)
    (λ x good. (without (omega (arith, below)) good.0 good.1, good.2))
    (λ xs are. elim are [
      | with_names high size chain ↦ absurd (omega (arith, high, below))
      | without low size chain ↦ (size, chain, refl)
    ])
    (many_reader (starting_at run root) next_place (IsStartingNode run root) bare_node_fields
    (starting_reader run root) n 0)

pub nodes_reader : (version run : ℕ) (root : List Interval) (n : ℕ)
    → IsReader (AreReadNodes version run root n) (nodes_fields version)
    (nodes_at version run root n)
unfolding nodes_at nodes_fields
nodes_reader version run root n = nodes_by version run root n (ltb 1 version) refl

pub size_of : (version run : ℕ) (root : List Interval) (n : ℕ) (nodes : List SavedNode)
    → AreReadNodes version run root n nodes → length nodes ≡ n
size_of version run root n nodes (with_names high size chain) = size
size_of version run root n nodes (without low size chain) = size
