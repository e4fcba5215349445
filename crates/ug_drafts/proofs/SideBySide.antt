-- A pass over two `Vec`s side by side.
use Rattle.std.proofs.Common.{◌≡◌, ◌<◌, List, length, get_or, take, Option, Some, None, sym, ap, ◌∙◌}
use Rattle.std.specs.Iterator.{Yields}
use Rattle.std.specs.Iterator.Adapters.{zip_first, zip_second}
use Rattle.std.specs.List.{zip}
use Rattle.std.specs.Vec.{vec_len}
use Rattle.std.specs.Vec.Iter.{into_iter_items, into_iter_len, into_iter_steps}
use Rattle.std.specs.declared.iter.Zip.{Zip}
use Rattle.std.specs.declared.vec.IntoIter.{IntoIter}
use Rattle.std.specs.declared.vec.Vec.{Vec}
use Rattle.std.proofs.lemmas.Iterator.{YieldsList, YieldsList-from_zip, zips}
use Rattle.std.proofs.lemmas.Iterator.Adapters.{YieldsList-from_vec}
use Rattle.std.proofs.lemmas.Iterator.Consumers.{YieldsList-so_far, YieldsList-turn, YieldsList-end}
use Rattle.std.proofs.lemmas.List.{map-id}

-- the pair is the next one of the list behind those that came
pub record IsTurn {P : Type 0} (all before : List P) (p : P) : Type 0 where
  pub there : length before < length all
  pub before_it : before ≡ take (length before) all
  pub next : p ≡ get_or all (length before) p

-- the pass begins at s, which is z, the zip of i, all of v, and all of w
module _ {A B Z W : Type 0} (v : Vec A Z) (w : Vec B W) (s z : Zip (IntoIter A Z) (IntoIter B W)) (i : IntoIter A Z)
    (same : s ≡ z) (first : zip_first z ≡ i) (items : into_iter_items i ≡ v.items) (count : into_iter_len i ≡ vec_len v)
    (others : into_iter_items (zip_second z) ≡ w.items) (other_count : into_iter_len (zip_second z) ≡ vec_len w) where
  abbrev Steps : Zip (IntoIter A Z) (IntoIter B W) → Option (A × B) → Zip (IntoIter A Z) (IntoIter B W) → Type 0
  Steps = zips (into_iter_steps {X = A} {Z = Z}) (into_iter_steps {X = B} {Z = W})

  pairs : YieldsList Steps (λ p. p) s (zip v.items w.items)
  pairs =
      let start : zip_first s ≡ i = ap zip_first same ∙ first in
      YieldsList-from_zip
      (YieldsList-from_vec v.items (ap into_iter_items start ∙ items) (ap into_iter_len start ∙ count ∙ v.ok.0))
      (YieldsList-from_vec w.items (ap (λ s. into_iter_items (zip_second s)) same ∙ others) (ap (λ s. into_iter_len (zip_second s)) same ∙ other_count ∙ w.ok.0))

  pub turn_of : (before : List (A × B)) (t u : Zip (IntoIter A Z) (IntoIter B W)) (r : Option (A × B)) (p : A × B) → Yields Steps s before t → r ≡ Some p → Steps t r u → IsTurn (zip v.items w.items) before p
  turn_of before t u r p y is step =
      let turn = YieldsList-turn pairs before t y r u p is step in
      record {
        there = turn.0;
        before_it = sym (map-id before) ∙ YieldsList-so_far pairs before t y;
        next = turn.1;
      }

  pub end_of : (before : List (A × B)) (t u : Zip (IntoIter A Z) (IntoIter B W)) (r : Option (A × B)) → Yields Steps s before t → r ≡ None → Steps t r u → before ≡ zip v.items w.items
  end_of before t u r y is step = sym (map-id before) ∙ (YieldsList-end pairs before t y r u is step).0
