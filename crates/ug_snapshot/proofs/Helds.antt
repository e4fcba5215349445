-- What every held node of a book is, and so every node that is saved of it.
use Rattle.std.proofs.Common.{◌≡◌, ℕ, zero, suc, ◌-◌, ◌^◌, ◌<◌, ◌≤◌, List, [], ◌∷◌, length, map, get_or, Option, None, Some, IfSome, Result, Ok, Err, IfOk, refl, sym, ◌∙◌, ap, subst, arith, inl, inr}
use Rattle.std.specs.Prelude.{Contains, All}
use Rattle.std.proofs.lemmas.List.{get_or_default, length-map}
use Rattle.std.proofs.lemmas.List.Elements.{Contains-append_cases}
use Rattle.ug_rows.specs.declared.area.Interval.{Interval}
use Rattle.std.specs.declared.alloc.AllocError.{AllocError}
use Rattle.ug_problem.specs.Instances.{Instance, root_of}
use Rattle.ug_problem.specs.Incumbents.{one_kept}
use Rattle.ug_problem.specs.Better.{Covered}
use Rattle.ug_nodes.specs.declared.name.Name.{Name}
use Rattle.ug_nodes.specs.declared.node.Node.{Node}
use Rattle.ug_nodes.specs.Names.{IsNameBefore, own_name, no_name}
use Rattle.ug_nodes.specs.Changes.{AreChangesOf, IsRising}
use Rattle.ug_nodes.specs.Nodes.{box_of}
use Rattle.ug_pool.specs.declared.entry.Entry.{Entry}
use Rattle.ug_ranks.specs.declared.state.State.{State}
use Rattle.ug_ranks.specs.declared.state.State.TheVariants.{Absent, Idle, Racing, Active, Dead}
use Rattle.ug_ledger.specs.Ledgers.{IsGiven, boxes_of}
use Rattle.ug_rules.specs.State.{BookState, held_nodes, ledger_of, node_at, nodes_in, nodes_of, raced_node}
use Rattle.ug_rules.specs.Books.{IsBook, HasItsFloor, KeepsItsFloor}
use Rattle.ug_rules.proofs.HeldLemmas.{held_cases}
use Rattle.ug_image.specs.declared.image.Image.{Image}
use Rattle.ug_image.specs.declared.image.SavedNode.{SavedNode}
use Rattle.ug_image.specs.Images as images
use Rattle.ug_image.specs.Images.{IsImage, IsSavedNode, AreSavedNodes, DoNamesRise, no_node}
use Rattle.ug_snapshot.specs.Moments.{ArePrimitive, HaveHands, HasNumbers, IsCovered, boxes_in, image_with, saved_of}

-- its changes rise and are those of a box below the root
abbrev pub HasChanges : Instance → Node → Type 0
HasChanges p n = IsRising n.changes × AreChangesOf (root_of p) n.changes

none_in : {X : Type 0} → (x : X) → Contains [] x → ⊥
none_in x (k, l, same) = absurd (omega (arith, l))

in_entries : (p : Instance) (es : List Entry) (n : Node) → All (HasItsFloor p) es
    → Contains (nodes_in es) n → HasChanges p n
in_entries p [] n all c = absurd (none_in n c)
in_entries p (e ∷ es) n all (zero, l, same) =
    let own = all 0 e (omega arith) in
    subst (HasChanges p) same (own.rising, own.changes)
in_entries p (e ∷ es) n all (suc k, l, same) =
    in_entries p es n (λ j d here. all (suc j) d (omega (arith, here))) (k, omega (arith, l), same)

in_state : (p : Instance) (s : State) (n : Node) → KeepsItsFloor p s → Contains (node_at s) n
    → HasChanges p n
in_state p Absent n keeps c = absurd (none_in n c)
in_state p Idle n keeps c = absurd (none_in n c)
in_state p (Racing racer) n keeps c = absurd (none_in n c)
in_state p (Active work) n keeps (zero, l, same) =
    subst (HasChanges p) same (keeps.rising, keeps.changes)
in_state p (Active work) n keeps (suc k, l, same) = absurd (omega (arith, l))
in_state p (Dead how) n keeps c = absurd (none_in n c)

in_states : (p : Instance) (ss : List State) (n : Node) → All (KeepsItsFloor p) ss
    → Contains (nodes_of ss) n → HasChanges p n
in_states p [] n all c = absurd (none_in n c)
in_states p (s ∷ ss) n all c =
    elim (Contains-append_cases (node_at s) (nodes_of ss) n c) [
      | inl own ↦ in_state p s n (all 0 s (omega arith)) own
      | inr others ↦ in_states p ss n (λ j d here. all (suc j) d (omega (arith, here))) others
    ]

in_race : (p : Instance) (raced : Option Entry) (n : Node) → IfSome raced (HasItsFloor p)
    → Contains (raced_node raced) n → HasChanges p n
in_race p None n keeps c = absurd (none_in n c)
in_race p (Some e) n keeps (zero, l, same) =
    subst (HasChanges p) same (keeps.rising, keeps.changes)
in_race p (Some e) n keeps (suc k, l, same) = absurd (omega (arith, l))

held_changes : (b : BookState) (n : Node) → IsBook b → Contains (held_nodes b) n
    → HasChanges b.problem n
held_changes b n is held =
    held_cases b (HasChanges b.problem n) n
    (in_entries b.problem b.pool n is.floors.pool)
    (in_states b.problem b.ranks n is.floors.ranks)
    (in_race b.problem b.raced n is.floors.raced) held

-- the own name of a held node is of the run, with a number of 64 bits
own_in : (line : List Name) → 0 < length line → Contains line (own_name line)
own_in line some = (
  length line - 1,
  omega (arith, some),
  get_or_default line (length line - 1) (own_name line) no_name
      (omega (arith, some)),
)

held_name : (b : BookState) (n : Node) → IsBook b → Contains (held_nodes b) n
    → IsGiven (ledger_of b).last (own_name n.line).ticket
held_name b n is held =
    is.ledger.ticketed.given n held (own_name n.line)
    (own_in n.line (is.ledger.ticketed.named.some n held))

node_there : (nodes : List Node) (k : ℕ) (d : Node) → k < length nodes
    → Contains nodes (get_or nodes k d)
node_there nodes k d here = (k, here, get_or_default nodes k (get_or nodes k d) d here)

saved_at : (nodes : List Node) (k : ℕ) (d : Node) → k < length nodes
    → images.node_at (map saved_of nodes) k ≡ saved_of (get_or nodes k d)
saved_at [] k d here = absurd (omega (arith, here))
saved_at (n ∷ nodes) zero d here = refl
saved_at (n ∷ nodes) (suc k) d here = saved_at nodes k d (omega (arith, here))

pub some_node : Node
some_node = record { line = []; changes = [] }

module _ (b : BookState) (nodes : List Node) (is : IsBook b) (are : ArePrimitive b nodes) where
  held : (k : ℕ) → k < length nodes → Contains (held_nodes b) (get_or nodes k some_node)
  held k here = ((are.each (get_or nodes k some_node)).0 (node_there nodes k some_node here)).held

  one_saved : (k : ℕ) (s : SavedNode) → k < length nodes → s ≡ saved_of (get_or nodes k some_node)
      → s.name.hand < 2 ^ 64 → IsSavedNode b.run (root_of b.problem) s
  one_saved k s here same hand =
      let n = get_or nodes k some_node in
      let changes = held_changes b n is (held k here) in
      let name = held_name b n is (held k here) in
      let own : s.name ≡ own_name n.line = ap (λ (t : SavedNode). t.name) same in
      let list : s.changes ≡ n.changes = ap (λ (t : SavedNode). t.changes) same in
      record {
        of_run = ap (λ (m : Name). m.ticket.run) own ∙ name.run;
        number = omega (arith, ap (λ (m : Name). m.ticket.number) own, name.number, is.number);
        hand = hand;
        rising = subst IsRising (sym list) changes.0;
        changes = subst (AreChangesOf (root_of b.problem)) (sym list) changes.1;
      }

  are_saved : HaveHands (map saved_of nodes)
      → AreSavedNodes b.run (root_of b.problem) (map saved_of nodes)
  are_saved hands k here =
      let there : k < length nodes = omega (arith, here, length-map nodes saved_of) in
      one_saved k (images.node_at (map saved_of nodes) k) there
      (saved_at nodes k some_node there) (hands k here)

  names_rise : DoNamesRise (map saved_of nodes)
  names_rise k here =
      let there : suc k < length nodes = omega (arith, here, length-map nodes saved_of) in
      let rising = are.rising k (suc k) some_node (omega arith) there in
      subst (λ (s : SavedNode). IsNameBefore s.name
      (images.node_at (map saved_of nodes) (suc k)).name)
      (sym (saved_at nodes k some_node (omega (arith, there))))
      (subst (λ (s : SavedNode). IsNameBefore
      (saved_of (get_or nodes k some_node)).name s.name)
      (sym (saved_at nodes (suc k) some_node there)) rising)

  pub image_is : (sequence : ℕ) (image : Image) → 1 ≤ sequence → HasNumbers image
      → HaveHands image.nodes → image ≡ image_with b nodes sequence → IsImage image
  image_is sequence image least numbers hands same =
      let hands' : HaveHands (map saved_of nodes) =
      subst HaveHands (λ i. (same i).nodes) hands in
      let numbers' : HasNumbers (image_with b nodes sequence) = subst HasNumbers same numbers in
      subst IsImage (sym same) (record {
        run = is.run;
        run_fits = numbers'.run;
        sequence = least;
        sequence_fits = numbers'.sequence;
        problem = is.problem;
        best = is.incumbent;
        heard = numbers'.heard;
        gap = is.settings.gap;
        count = numbers'.count;
        nodes = are_saved hands';
        names = names_rise;
      })

pub same_boxes : (root : List Interval) (nodes : List Node)
    → boxes_of root nodes ≡ boxes_in root (map saved_of nodes)
same_boxes root [] = refl
same_boxes root (n ∷ nodes) = ap (λ l. box_of root n ∷ l) (same_boxes root nodes)

pub covered_image : (b : BookState) (nodes : List Node) (sequence : ℕ) (image : Image)
    → image ≡ image_with b nodes sequence
    → Covered b.problem b.settings.gap (one_kept b.best) (boxes_of (root_of b.problem) nodes)
    → IsCovered image
covered_image b nodes sequence image same covered =
    subst IsCovered (sym same)
    (subst (Covered b.problem b.settings.gap (one_kept b.best))
    (same_boxes (root_of b.problem) nodes) covered)

-- what holds of an image that is passed on
pub passed_on : (r : Result Image AllocError) (image : Image) (P : Image → Type 0)
    → IfOk r (λ made. made ≡ image) → P image → IfOk r P
passed_on (Ok made) image P same holds = subst P (sym same) holds
passed_on (Err e) image P same holds = tt
