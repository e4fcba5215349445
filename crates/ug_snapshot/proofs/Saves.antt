-- Nodes that are saved one after another.
use Rattle.std.proofs.Common.{◌≡◌, ℕ, zero, suc, ◌+◌, ◌^◌, ◌<◌, List, [], ◌∷◌, ◌++◌, length, map, take, get_or, refl, sym, ◌∙◌, ap, arith}
use Rattle.std.proofs.lemmas.List.{take_more}
use Rattle.std.specs.Borrow.{Bor}
use Rattle.ug_nodes.specs.declared.node.Node.{Node}
use Rattle.ug_nodes.specs.Primitive.{lent}
use Rattle.ug_image.specs.declared.image.SavedNode.{SavedNode}
use Rattle.ug_snapshot.specs.Moments.{saved_of, HaveHands}

-- one more
map_push : (xs : List Node) (n : Node)
    → map saved_of (xs ++ n ∷ []) ≡ map saved_of xs ++ saved_of n ∷ []
map_push [] n = refl
map_push (x ∷ xs) n = ap (λ l. saved_of x ∷ l) (map_push xs n)

pub saved_more : (xs : List Node) (i : ℕ) (d : Node) (made : List SavedNode) (s : SavedNode)
    → i < length xs → made ≡ map saved_of (take i xs) → s ≡ saved_of (get_or xs i d)
    → made ++ s ∷ [] ≡ map saved_of (take (i + 1) xs)
saved_more xs i d made s here is own =
    (λ k. is k ++ own k ∷ []) ∙ sym (map_push (take i xs) (get_or xs i d))
    ∙ ap (map saved_of) (sym (take_more xs i d here))

hand_last : (made : List SavedNode) (s : SavedNode) → HaveHands made → s.name.hand < 2 ^ 64
    → HaveHands (made ++ s ∷ [])
hand_last [] s have hand zero here = hand
hand_last [] s have hand (suc k) here = absurd (omega (arith, here))
hand_last (m ∷ made) s have hand zero here = have 0 (omega arith)
hand_last (m ∷ made) s have hand (suc k) here =
    hand_last made s (λ j there. have (suc j) (omega (arith, there))) hand k (omega (arith, here))

pub hands_more : (made : List SavedNode) (s : SavedNode) → HaveHands made
    → s.name.hand < 2 ^ 64 → HaveHands (made ++ s ∷ [])
hands_more made s have hand = hand_last made s have hand

pub lent_at : (nodes : List (Bor Node)) (i : ℕ) (d : Node) (x : Bor Node) → i < length nodes
    → x ≡ get_or nodes i x → x.now ≡ get_or (lent nodes) i d
lent_at [] i d x here is = absurd (omega (arith, here))
lent_at (n ∷ nodes) zero d x here is = ap (λ (b : Bor Node). b.now) is
lent_at (n ∷ nodes) (suc i) d x here is = lent_at nodes i d x (omega (arith, here)) is
