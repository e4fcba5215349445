-- How often a name is that of a node, and nodes with names of their own.
use Rattle.std.proofs.Common.{◌≡◌, ◌⊎◌, inl, inr, zero, suc, ◌+◌, ◌-◌, ◌<◌, ◌≤◌, true, false, cond, List, [], ◌∷◌, length, refl, ap, sym, ◌∙◌, subst, arith}
use Rattle.std.specs.Prelude.{Contains}
use Rattle.std.proofs.lemmas.Bool.{cases_Bool}
use Rattle.std.proofs.lemmas.Bool.Decides.{nat_tests}
use Rattle.std.proofs.lemmas.List.Sums.{sum_by-cons}
use Rattle.std.proofs.lemmas.List.Elements.{Contains-get_or}
use Rattle.ug_nodes.specs.declared.name.Name.{Name}
use Rattle.ug_nodes.specs.declared.node.Node.{Node}
use Rattle.ug_nodes.specs.Lines.{is_same_name}
use Rattle.ug_nodes.specs.Names.{no_name, own_name}
use Rattle.ug_nodes.proofs.Orders.{same_name, same_ticket}
use Rattle.ug_ledger.specs.Names.{AreNamed}
use Rattle.ug_nodes.specs.Primitive.{times}

-- the test of two names says whether they are the same
same_or_not : (a b : Name)
    → ((is_same_name a b ≡ true) × (a ≡ b)) ⊎ ((is_same_name a b ≡ false) × (a ≡ b → ⊥))
same_or_not a b = elim (cases_Bool (is_same_name a b)) [
  | inl is ↦ inl (
    is,
    same_name a b
        (same_ticket a.ticket b.ticket (grind (arith, nat_tests)) (grind (arith, nat_tests)))
        (grind (arith, nat_tests)),
  )
  | inr is ↦ inr (is, λ e. not_itself a (subst (λ n. is_same_name a n ≡ false) (sym e) is))
]
  where
    not_itself : (n : Name) → is_same_name n n ≡ false → ⊥
    not_itself n h = grind (arith, nat_tests)

-- a node more counts where it has the name
times_more : (name : Name) (n : Node) (nodes : List Node)
    → ((own_name n.line ≡ name) × (times name (n ∷ nodes) ≡ 1 + times name nodes))
    ⊎ ((own_name n.line ≡ name → ⊥) × (times name (n ∷ nodes) ≡ times name nodes))
times_more name n nodes =
    let test = λ (m : Node). is_same_name (own_name m.line) name in
    let more = sum_by-cons (λ (m : Node). cond (test m) 1 0) n nodes in
    elim (same_or_not (own_name n.line) name) [
      | inl is ↦ inl (is.1, more ∙ ap (λ b. cond b 1 0 + times name nodes) is.0)
      | inr is ↦
          let none = more ∙ ap (λ b. cond b 1 0 + times name nodes) is.0 in
          inr (is.1, omega (arith, none))
    ]

times_own : (name : Name) (n : Node) (nodes : List Node) → own_name n.line ≡ name
    → times name (n ∷ nodes) ≡ 1 + times name nodes
times_own name n nodes e = elim (times_more name n nodes) [
  | inl own ↦ own.1
  | inr other ↦ absurd (other.0 e)
]

pub times_at_most : (name : Name) (n : Node) (nodes : List Node)
    → times name (n ∷ nodes) ≤ 1 + times name nodes
times_at_most name n nodes = elim (times_more name n nodes) [
  | inl own ↦ omega (arith, own.1)
  | inr other ↦ omega (arith, other.1)
]

times_least : (name : Name) (n : Node) (nodes : List Node)
    → times name nodes ≤ times name (n ∷ nodes)
times_least name n nodes = elim (times_more name n nodes) [
  | inl own ↦ omega (arith, own.1)
  | inr other ↦ omega (arith, other.1)
]

-- a name is that of a node, or not counted with it
pub own_or_none : (name : Name) (n : Node)
    → (own_name n.line ≡ name) ⊎ (times name (n ∷ []) ≡ 0)
own_or_none name n = elim (times_more name n []) [
  | inl own ↦ inl own.0
  | inr other ↦ inr other.1
]

-- a name that no node has is counted 0 times
pub times_none : (name : Name) (nodes : List Node)
    → ((n : Node) → Contains nodes n → own_name n.line ≡ name → ⊥) → times name nodes ≡ 0
times_none name [] f = refl
times_none name (n ∷ nodes) f =
    let none = times_none name nodes (λ m h. f m (suc h.0, omega (arith, h.1), h.2)) in
    elim (times_more name n nodes) [
      | inl own ↦ absurd (f n (0, omega arith, refl) own.0)
      | inr other ↦ other.1 ∙ none
    ]

-- and one that a node has at least once
pub times_some : (name : Name) (nodes : List Node) (n : Node) → Contains nodes n
    → own_name n.line ≡ name → 0 < times name nodes
times_some name [] n h e = absurd (omega (arith, h.1))
times_some name (m ∷ nodes) n (zero, l, same) e =
    omega (arith, times_own name m nodes (ap (λ (k : Node). own_name k.line) same ∙ e))
times_some name (m ∷ nodes) n (suc k, l, same) e =
    let more = times_some name nodes n (k, omega (arith, l), same) e in
    omega (arith, times_least name m nodes, more)

-- so a node with the name of the first is not among the others, where the name is there once
not_again : (name : Name) (first : Node) (nodes : List Node) → times name (first ∷ nodes) ≤ 1
    → own_name first.line ≡ name → (n : Node) → Contains nodes n → own_name n.line ≡ name → ⊥
not_again name first nodes once e n h f =
    omega (arith, once, times_own name first nodes e, times_some name nodes n h f)

one_of : (name : Name) (nodes : List Node) → times name nodes ≤ 1 → (a b : Node)
    → Contains nodes a → Contains nodes b → own_name a.line ≡ name → own_name b.line ≡ name → a ≡ b
one_of name [] once a b ha hb ea eb = absurd (omega (arith, ha.1))
one_of name (n ∷ nodes) once a b (zero, la, sa) (zero, lb, sb) ea eb = sym sa ∙ sb
one_of name (n ∷ nodes) once a b (zero, la, sa) (suc k, lb, sb) ea eb =
    let first = ap (λ (m : Node). own_name m.line) sa ∙ ea in
    absurd (not_again name n nodes once first b (k, omega (arith, lb), sb) eb)
one_of name (n ∷ nodes) once a b (suc j, la, sa) (zero, lb, sb) ea eb =
    let first = ap (λ (m : Node). own_name m.line) sb ∙ eb in
    absurd (not_again name n nodes once first a (j, omega (arith, la), sa) ea)
one_of name (n ∷ nodes) once a b (suc j, la, sa) (suc k, lb, sb) ea eb =
    one_of name nodes (omega (arith, once, times_least name n nodes)) a b
    (j, omega (arith, la), sa) (k, omega (arith, lb), sb) ea eb

-- if each name is once there, a name reports its node
pub one_name : (nodes : List Node) → AreNamed nodes → (a b : Node) → Contains nodes a
    → Contains nodes b → own_name a.line ≡ own_name b.line → a ≡ b
one_name nodes named a b ha hb e =
    one_of (own_name b.line) nodes (named.once (own_name b.line)) a b ha hb e refl

-- and so does a line
pub one_line : (nodes : List Node) → AreNamed nodes → (a b : Node) → Contains nodes a
    → Contains nodes b → a.line ≡ b.line → a ≡ b
one_line nodes named a b ha hb e = one_name nodes named a b ha hb (ap own_name e)

-- of nodes with names of their own each part is such
pub fewer_named : (nodes fewer : List Node) → ((n : Node) → Contains fewer n → Contains nodes n)
    → ((name : Name) → times name fewer ≤ times name nodes) → AreNamed nodes → AreNamed fewer
fewer_named nodes fewer held counts named = record {
  some = λ n h. named.some n (held n h);
  once = λ name. omega (arith, counts name, named.once name);
}

-- a line that is not empty has the name of its node
pub has_own : (n : Node) → 0 < length n.line → Contains n.line (own_name n.line)
has_own n some = Contains-get_or n.line (length n.line - 1) no_name (omega (arith, some))
