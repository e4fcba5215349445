-- What calls make of a link in memory.
use Rattle.std.proofs.Common.{◌≡◌, ℕ, ◌+◌, ◌≤◌, List, [], ◌++◌, length, take, drop, refl, sym, ap, subst, ◌∙◌, arith}
use Rattle.std.proofs.lemmas.List.{length-append, take-append-drop, take-append-le}
use Rattle.std.proofs.Math.Seq.{take-add}
use Rattle.ug_io.specs.declared.link.Said.{Said}
use Rattle.ug_io.specs.Links.{heard, told}
use Rattle.ug_serve.proofs.LinkBytes.{heard_more, heard_still, told_more, told_still}
use Rattle.ug_model.specs.Queues.{IsKept, IsQueue, Queue, queue_of}

pub kept_none : IsKept [] [] [] 0 0 0
kept_none = record {
  front = refl;
  whole = refl;
  allowed = omega arith;
  within = omega arith;
  out = omega arith;
}

pub kept_put : (said : List Said) (put sent : List ℕ) (heard given taken : ℕ) (bytes : List ℕ)
    → IsKept said put sent heard given taken → IsKept said (put ++ bytes) sent heard given taken
kept_put said put sent heard given taken bytes k = record {
  front = k.front ∙ sym (take-append-le heard put bytes (omega (arith, k.allowed, k.within)));
  whole = k.whole;
  allowed = k.allowed;
  within = omega (arith, k.within, length-append put bytes);
  out = k.out;
}

pub kept_given : (said : List Said) (put sent : List ℕ) (heard given taken more : ℕ) → given ≤ more
    → more ≤ length put → IsKept said put sent heard given taken → IsKept said put sent heard more taken
kept_given said put sent heard given taken more up within k = record {
  front = k.front;
  whole = k.whole;
  allowed = omega (arith, k.allowed, up);
  within = within;
  out = k.out;
}

pub kept_taken : (said : List Said) (put sent : List ℕ) (heard given taken more : ℕ) → more ≤ length sent
    → IsKept said put sent heard given taken → IsKept said put sent heard given more
kept_taken said put sent heard given taken more out k = record {
  front = k.front;
  whole = k.whole;
  allowed = k.allowed;
  within = k.within;
  out = out;
}

pub kept_heard : (said : List Said) (put sent : List ℕ) (so given taken count : ℕ)
    → so + count ≤ given → IsKept said put sent so given taken
    → IsKept (said ++ heard (take count (drop so put))) put sent (so + count) given taken
kept_heard said put sent so given taken count room k = record {
  front = heard_more said (take count (drop so put))
      ∙ ap (λ (b : List ℕ). b ++ take count (drop so put)) k.front ∙ sym (take-add so count put);
  whole = told_still said (take count (drop so put)) ∙ k.whole;
  allowed = room;
  within = k.within;
  out = k.out;
}

pub kept_told : (said : List Said) (put sent : List ℕ) (heard given taken : ℕ) (bytes : List ℕ)
    → IsKept said put sent heard given taken
    → IsKept (said ++ told bytes) put (sent ++ bytes) heard given taken
kept_told said put sent heard given taken bytes k = record {
  front = heard_still said bytes ∙ k.front;
  whole = told_more said bytes ∙ ap (λ (b : List ℕ). b ++ bytes) k.whole;
  allowed = k.allowed;
  within = k.within;
  out = omega (arith, k.out, length-append sent bytes);
}

pub kept_queue : (said : List Said) (put sent : List ℕ) (heard given taken faults : ℕ)
    → IsKept said put sent heard given taken → IsQueue (queue_of said put (take taken sent) faults)
kept_queue said put sent heard given taken faults k = record {
  ahead = drop heard put;
  heard = sym (take-append-drop heard put) ∙ ap (λ (b : List ℕ). b ++ drop heard put) (sym k.front);
  behind = drop taken sent;
  told = k.whole ∙ sym (take-append-drop taken sent);
}

pub kept_heard_so : (said new : List Said) (put sent bytes : List ℕ) (so given taken count : ℕ)
    → new ≡ said ++ heard bytes → bytes ≡ take count (drop so put) → so + count ≤ given
    → IsKept said put sent so given taken → IsKept new put sent (so + count) given taken
kept_heard_so said new put sent bytes so given taken count same its room k =
    subst (λ (s : List Said). IsKept s put sent (so + count) given taken)
    (sym (same ∙ ap (λ (b : List ℕ). said ++ heard b) its))
    (kept_heard said put sent so given taken count room k)

pub kept_told_so : (said new : List Said) (put sent all bytes : List ℕ) (so given taken : ℕ)
    → new ≡ said ++ told bytes → all ≡ sent ++ bytes
    → IsKept said put sent so given taken → IsKept new put all so given taken
kept_told_so said new put sent all bytes so given taken same more k =
    subst (λ (s : List Said). IsKept s put all so given taken) (sym same)
    (subst (λ (a : List ℕ). IsKept (said ++ told bytes) put a so given taken) (sym more)
    (kept_told said put sent so given taken bytes k))

-- more was taken out
pub taken_more : (said : List Said) (put sent bytes : List ℕ) (taken count faults : ℕ) (q : Queue)
    → queue_of said put (take taken sent) faults ≡ q → bytes ≡ take count (drop taken sent)
    → queue_of said put (take (taken + count) sent) faults ≡ record q { taken = q.taken ++ bytes }
taken_more said put sent bytes taken count faults q view its =
    ap (λ (out : List ℕ). queue_of said put out faults)
    (take-add taken count sent ∙ ap (λ (b : List ℕ). take taken sent ++ b) (sym its))
    ∙ ap (λ (own : Queue). record own { taken = own.taken ++ bytes }) view
