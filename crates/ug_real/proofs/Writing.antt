-- Lemmas on bytes that are written piece by piece.
use Rattle.std.proofs.Common.{◌≡◌, ℕ, ◌+◌, ◌-◌, ◌≤◌, List, [], ◌∷◌, ◌++◌, Option, None, Some, Result, Ok, Err, ap, refl, subst, sym, ◌∙◌, length, take, drop, take-append-drop, zero, suc, arith}
use Rattle.std.specs.Prelude.{OnOk}
use Rattle.std.proofs.lemmas.List.{append_assoc, take_rest}
use lib.Seq.{take-add, drop-drop}
use Rattle.std.specs.Io.KnownBytes.{Appends}
use Rattle.std.proofs.KnownBytes.{Appends-trans}
use Rattle.ug_real.specs.declared.send_queue.SendQueue.{SendQueue}
use Rattle.ug_real.specs.SendQueues.{HasWritten, own_waiting, rest_of, waiting}

-- bytes that were written behind the first `s` are with these the first `s + n`
pub written_more : (a b c : Option (List ℕ)) (s n : ℕ) (bs : List ℕ) → Appends a b (take s bs)
    → Appends b c (take n (take (length bs - s) (drop s bs))) → Appends a c (take (s + n) bs)
written_more a b c s n bs p q = subst (Appends a c)
    (ap (λ l. take s bs ++ take n l) (take_rest bs s) ∙ sym (take-add s n bs)) (Appends-trans a b c _ _ p q)

-- the bytes behind the first `s` are `n` bytes and those behind `s + n`
pub left_whole : (s n : ℕ) (bs : List ℕ) → drop s bs ≡ take n (drop s bs) ++ drop (s + n) bs
left_whole s n bs = sym (take-append-drop n (drop s bs))
    ∙ ap (λ l. take n (drop s bs) ++ l) (drop-drop n s bs)

-- without shared bytes the others are all that wait
pub waiting_own : (o : SendQueue) → o.ahead ≡ None → waiting o ≡ own_waiting o
waiting_own o none = ap (λ a. rest_of a o.gone ++ own_waiting o) none

-- the rest of shared bytes of which `n` more went
pub rest_dropped : (all : Option (List ℕ)) (gone n : ℕ) → rest_of all (gone + n) ≡ drop n (rest_of all gone)
rest_dropped None gone zero = refl
rest_dropped None gone (suc n) = refl
rest_dropped (Some all) gone n = sym (drop-drop n gone all)

-- nothing is left of bytes of which as many went
pub none_left : (xs : List ℕ) (n : ℕ) → length xs ≤ n → [] ≡ drop n xs
none_left [] zero most = refl
none_left [] (suc n) most = refl
none_left (x ∷ xs) zero most = absurd (omega (arith, most))
none_left (x ∷ xs) (suc n) most = none_left xs n (omega (arith, most))

-- `n` bytes went of those ahead
pub ahead_whole : (n : ℕ) (old new own kept : List ℕ) → new ≡ drop n old → kept ≡ own
    → old ++ own ≡ take n old ++ (new ++ kept)
ahead_whole n old new own kept is same = ap (λ l. l ++ own) (sym (take-append-drop n old))
    ∙ (append_assoc (take n old) (drop n old) own
    ∙ ap (λ l. take n old ++ l) (ap (λ l. l ++ own) (sym is) ∙ ap (λ l. new ++ l) (sym same)))

-- bytes that were written in two steps were written
pub both_written : (a b c : Option (List ℕ)) (w v u : List ℕ) → HasWritten a b w v → HasWritten b c v u
    → HasWritten a c w u
both_written a b c w v u p q = record {
  gone = p.gone ++ q.gone;
  whole = p.whole ∙ (ap (λ l. p.gone ++ l) q.whole ∙ sym (append_assoc p.gone q.gone u));
  written = Appends-trans a b c p.gone q.gone p.written q.written;
}

-- so it is if the second step succeeded
pub both_ok : {T E : Type 0} (r : Result T E) (a b c : Option (List ℕ)) (w v u : List ℕ) → HasWritten a b w v
    → OnOk r (HasWritten b c v u) → OnOk r (HasWritten a c w u)
both_ok (Ok x) a b c w v u p q = both_written a b c w v u p q
both_ok (Err e) a b c w v u p q = tt
