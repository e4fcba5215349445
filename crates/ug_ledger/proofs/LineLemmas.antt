-- By which name a line continues.
use Rattle.std.proofs.Common.{◌≡◌, ◌⊎◌, inl, inr, List, [], ◌∷◌, ◌++◌, length, refl, ap, sym, ◌∙◌, subst, arith}
use Rattle.std.specs.Prelude.{Contains}
use Rattle.std.proofs.lemmas.List.{append_assoc, get_or_push, length_push}
use Rattle.std.proofs.lemmas.List.Elements.{Contains-append_right}
use Rattle.ug_nodes.specs.declared.name.Name.{Name}
use Rattle.ug_nodes.specs.Names.{no_name}
use Rattle.ug_nodes.specs.Lines.{BeginsWith, GoesOn, IsAncestor, line_name_at}
use Rattle.ug_nodes.proofs.LineLemmas.{ancestor_either, ancestor_of_child, begins_from_ancestor, begins_reads}

-- the name by which a line continues stands right behind the front
next_name : (line front : List Name) (name : Name) → GoesOn line front name
    → line_name_at line (length front) ≡ name
next_name line front name g =
    let begins : BeginsWith line (front ++ name ∷ []) =
    (g.0, g.1 ∙ sym (append_assoc front (name ∷ []) g.0)) in
    let short = length_push front name in
    begins_reads line (front ++ name ∷ []) begins (length front) (omega (arith, short))
    ∙ get_or_push front name no_name (length front) refl

-- so there is one such name
one_way_on : (line front : List Name) (m name : Name) → GoesOn line front m
    → GoesOn line front name → m ≡ name
one_way_on line front m name g h = sym (next_name line front m g) ∙ next_name line front name h

-- the line has it
has_next : (line front : List Name) (name : Name) → GoesOn line front name → Contains line name
has_next line front name g =
    subst (λ l. Contains l name) (sym g.1)
    (Contains-append_right front (name ∷ g.0) name (0, omega arith, refl))

-- what a line continues by, each line continues by that begins with it
further : (line mid front : List Name) (name : Name) → BeginsWith line mid → GoesOn mid front name
    → GoesOn line front name
further line mid front name b g =
    (g.0 ++ b.0, b.1 ∙ (ap (λ l. l ++ b.0) g.1 ∙ append_assoc front (name ∷ g.0) b.0))

-- a line with a name more continues by this name, or by one by which the line continues
pub goes_on_child : (a line : List Name) (m name : Name) → GoesOn (line ++ name ∷ []) a m
    → ((a ≡ line) × (m ≡ name)) ⊎ GoesOn line a m
goes_on_child a line m name g =
    let long = line ++ name ∷ [] in
    elim (ancestor_of_child a line name (m, g)) [
      | inl e ↦
          inl (e, one_way_on long line m name (subst (λ f. GoesOn long f m) e g) ([], refl))
      | inr h ↦
          let on = further long line a h.0 (name ∷ [], refl) h.1 in
          inr (subst (λ n. GoesOn line a n) (one_way_on long a h.0 m on g) h.1)
    ]

-- if a line resumes from two prefixes, the name after the second is in the first, or the second is
-- the first, or below it
pub fork : (line a b : List Name) (name : Name) → IsAncestor a line → GoesOn line b name
    → Contains a name ⊎ ((b ≡ a) ⊎ IsAncestor a b)
fork line a b name h g = elim (ancestor_either a b line h (name, g)) [
  | inl e ↦ inr (inl (sym e))
  | inr o ↦ elim o [
    | inl below ↦ inr (inr below)
    | inr above ↦
        let on = further line a b above.0 (begins_from_ancestor a line h) above.1 in
        let same = one_way_on line b above.0 name on g in
        inl (subst (λ n. Contains a n) same (has_next a b above.0 above.1))
  ]
]
