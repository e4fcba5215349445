-- What turns of a crew make of the places of its ranks.
use Rattle.std.proofs.Common.{◌≡◌, ◌≢◌, ◌⊎◌, inl, inr, eqb, ℕ, zero, suc, ◌<◌, Bool, true, false, List, [], ◌∷◌, ◌++◌, append_assoc, length, Option, None, Some, Result, Ok, Err, IfOk, OnOk, OnErr, take, append-nil, if◌then◌else◌, refl, sym, ap, subst, ◌∙◌, arith}
use Rattle.std.specs.Prelude.{slice_index_or, slice_set}
use Rattle.std.proofs.lemmas.Bool.{cases_Bool, eqb-true, eqb-false}
use Rattle.std.proofs.lemmas.List.{get_or-set_other, get_or-set_same}
use Rattle.ug_io.specs.declared.crew.Exchange.{Exchange}
use Rattle.ug_io.specs.declared.crew.Exchange.TheVariants.{Gone}
use Rattle.ug_io.specs.Crews.{heard_from, told_to}
use Rattle.ug_serve.specs.declared.server.Server.{Server}
use Rattle.ug_serve.specs.Traces.{beginning}
use Rattle.ug_serve.specs.LinkBytes.{heard_in}
use Rattle.ug_serve.specs.Worked.{AreAlwaysWorked, AreWorked, IsWorked, heard_at, told_at}
use Rattle.ug_serve.specs.Servers.{IsServer}
use Rattle.ug_serve.proofs.Servers.{same_server, server_front}
use Rattle.ug_serve.proofs.Worked.{heard_at_on, heard_by, heard_its, heard_others, heard_same, heard_told, told_at_on, told_by, told_heard, told_its, told_others, told_same}
use Rattle.ug_model.specs.Queues.{IsQueue, IsUntouched, Queue, queue_seen}
use Rattle.ug_model.specs.SimWorkers.{ArePlaces, IsManned, AreSimWorkers, IsSteady, IsPlace, IsUnmanned}

pub place_still : (rank : ℕ) (said more : List Exchange) (place : Option (Server Queue))
    → told_at rank more ≡ [] → heard_at rank more ≡ [] → IsPlace said rank place
    → IsPlace (said ++ more) rank place
place_still rank said more None told heard h = record {
  told = told_same rank said more told ∙ h.told;
  heard = heard_same rank said more heard ∙ h.heard;
}
place_still rank said more (Some server) told heard h = record {
  serves = h.serves;
  queue = h.queue;
  put = h.put ∙ sym (told_same rank said more told);
  taken = h.taken ∙ sym (heard_same rank said more heard);
}

-- ---- the places of all ranks

-- the place of one rank is another one, and what went between has nothing more for other ranks
pub slots_set : (said new : List Exchange) (slots : List (Option (Server Queue))) (at : ℕ)
    (place : Option (Server Queue)) → at < length slots
    → ((rank : ℕ) → at ≢ rank → (old : Option (Server Queue)) → IsPlace said rank old → IsPlace new rank old)
    → IsPlace new at place → ArePlaces said slots → ArePlaces new (slice_set slots at place)
slots_set said new slots at place there others its all rank = elim (cases_Bool (eqb rank at)) [
  | inl same ↦
      let e : rank ≡ at = eqb-true rank at same in
      subst (λ (r : ℕ). IsPlace new r (slice_index_or (slice_set slots at place) r None)) (sym e)
      (subst (IsPlace new at) (sym (get_or-set_same slots at place None there)) its)
  | inr other ↦
      let apart : rank ≢ at = eqb-false rank at other in
      subst (IsPlace new rank) (sym (get_or-set_other slots at rank place None apart))
      (others rank (λ e. apart (sym e)) (slice_index_or slots rank None) (all rank))
]

pub others_told : (said : List Exchange) (at : ℕ) (bytes : List ℕ) (rank : ℕ) → at ≢ rank
    → (old : Option (Server Queue)) → IsPlace said rank old → IsPlace (said ++ told_to at bytes) rank old
others_told said at bytes rank apart old h =
    place_still rank said (told_to at bytes) old (told_others rank at bytes apart) (heard_told rank at bytes) h

pub others_heard : (said : List Exchange) (at : ℕ) (bytes : List ℕ) (rank : ℕ) → at ≢ rank
    → (old : Option (Server Queue)) → IsPlace said rank old → IsPlace (said ++ heard_from at bytes) rank old
others_heard said at bytes rank apart old h =
    place_still rank said (heard_from at bytes) old (told_heard rank at bytes) (heard_others rank at bytes apart) h

pub slots_gone : (said : List Exchange) (slots : List (Option (Server Queue))) (gone : ℕ)
    → ArePlaces said slots → ArePlaces (said ++ Gone gone ∷ []) slots
slots_gone said slots gone all rank =
    place_still rank said (Gone gone ∷ []) (slice_index_or slots rank None) refl refl (all rank)

pub slots_maybe_gone : (b : Bool) (said new : List Exchange) (slots : List (Option (Server Queue))) (gone : ℕ)
    → new ≡ (if b then said ++ Gone gone ∷ [] else said) → ArePlaces said slots → ArePlaces new slots
slots_maybe_gone true said new slots gone same all =
    subst (λ (s : List Exchange). ArePlaces s slots) (sym same) (slots_gone said slots gone all)
slots_maybe_gone false said new slots gone same all =
    subst (λ (s : List Exchange). ArePlaces s slots) (sym same) all

pub slots_empty : (slots : List (Option (Server Queue)))
    → ((rank : ℕ) → slice_index_or slots rank None ≡ None) → ArePlaces [] slots
slots_empty slots none rank =
    subst (IsPlace [] rank) (sym (none rank)) (record { told = refl; heard = refl })

-- ---- one rank

-- what its worker shows is the same, and so is how it stands
serves_still : (old new : Server Queue) → queue_seen new.wire.link ≡ queue_seen old.wire.link
    → new.wire.orders ≡ old.wire.orders → new.wire.at ≡ old.wire.at → new.wire.end ≡ old.wire.end
    → new.post ≡ old.post → IsServer queue_seen old → IsServer queue_seen new
serves_still old new link orders at end post h =
    same_server queue_seen queue_seen old new
    (record { link = link; orders = orders; at = at; end = end; post = post }) h

-- bytes were sent to it, and put into its worker's link
pub manned_told : (said after : List Exchange) (rank : ℕ) (bytes : List ℕ) (old new : Server Queue)
    → after ≡ said ++ told_to rank bytes
    → new.wire.orders ≡ old.wire.orders → new.wire.at ≡ old.wire.at → new.wire.end ≡ old.wire.end
    → new.post ≡ old.post
    → new.wire.link ≡ record old.wire.link { put = old.wire.link.put ++ bytes }
    → IsQueue new.wire.link → IsManned said rank old → IsManned after rank new
manned_told said after rank bytes old new all orders at end post link queue h = record {
  serves = serves_still old new (ap queue_seen link) orders at end post h.serves;
  queue = queue;
  put = ap (λ (q : Queue). q.put) link ∙ ap (λ (b : List ℕ). b ++ bytes) h.put
      ∙ sym (told_by rank said (told_to rank bytes) bytes (told_its rank bytes))
      ∙ ap (told_at rank) (sym all);
  taken = ap (λ (q : Queue). q.taken) link ∙ h.taken
      ∙ sym (heard_same rank said (told_to rank bytes) (heard_told rank rank bytes))
      ∙ ap (heard_at rank) (sym all);
}

-- bytes were taken out of its worker's link, and received from it; or none were
pub manned_came : {E : Type 0} (result : Result ℕ E) (said after : List Exchange) (rank : ℕ)
    (buffer : List ℕ) (old new : Server Queue)
    → IfOk result (λ count.
    new.wire.link ≡ record old.wire.link { taken = old.wire.link.taken ++ take count buffer })
    → OnErr result (new.wire.link ≡ old.wire.link)
    → IfOk result (λ count. after ≡ said ++ heard_from rank (take count buffer))
    → OnErr result (after ≡ said)
    → new.wire.orders ≡ old.wire.orders → new.wire.at ≡ old.wire.at → new.wire.end ≡ old.wire.end
    → new.post ≡ old.post → IsQueue new.wire.link → IsManned said rank old → IsManned after rank new
manned_came (Ok count) said after rank buffer old new link same all none orders at end post queue h =
    record {
      serves = serves_still old new (ap queue_seen link) orders at end post h.serves;
      queue = queue;
      put = ap (λ (q : Queue). q.put) link ∙ h.put
          ∙ sym (told_same rank said (heard_from rank (take count buffer))
          (told_heard rank rank (take count buffer)))
          ∙ ap (told_at rank) (sym all);
      taken = ap (λ (q : Queue). q.taken) link ∙ ap (λ (b : List ℕ). b ++ take count buffer) h.taken
          ∙ sym (heard_by rank said (heard_from rank (take count buffer)) (take count buffer)
          (heard_its rank (take count buffer)))
          ∙ ap (heard_at rank) (sym all);
    }
manned_came (Err e) said after rank buffer old new link same all none orders at end post queue h =
    record {
      serves = serves_still old new (ap queue_seen same) orders at end post h.serves;
      queue = queue;
      put = ap (λ (q : Queue). q.put) same ∙ h.put ∙ ap (told_at rank) (sym none);
      taken = ap (λ (q : Queue). q.taken) same ∙ h.taken ∙ ap (heard_at rank) (sym none);
    }

-- its worker made a step
pub manned_moved : (said : List Exchange) (rank : ℕ) (old new : Server Queue) → IsServer queue_seen new
    → IsUntouched old.wire.link new.wire.link → IsQueue new.wire.link
    → IsManned said rank old → IsManned said rank new
manned_moved said rank old new serves still queue h = record {
  serves = serves;
  queue = queue;
  put = still.put ∙ h.put;
  taken = still.taken ∙ h.taken;
}

-- it has its first worker
pub manned_new : (said : List Exchange) (rank : ℕ) (new : Server Queue) → IsServer queue_seen new
    → new.wire.link.put ≡ [] → new.wire.link.taken ≡ [] → IsQueue new.wire.link → IsUnmanned said rank
    → IsManned said rank new
manned_new said rank new serves put taken queue h = record {
  serves = serves;
  queue = queue;
  put = put ∙ sym h.told;
  taken = taken ∙ sym h.heard;
}

-- ---- a call for one rank

-- all went, or nothing did
pub went : {T E : Type 0} (result : Result T E) (said new more : List Exchange)
    → OnOk result (new ≡ said ++ more) → OnErr result (new ≡ said) → (new ≡ said ++ more) ⊎ (new ≡ said)
went (Ok x) said new more ok err = inl ok
went (Err e) said new more ok err = inr err

pub came : {E : Type 0} (result : Result ℕ E) (said new : List Exchange) (rank : ℕ) (buffer : List ℕ)
    → IfOk result (λ count. new ≡ said ++ heard_from rank (take count buffer))
    → OnErr result (new ≡ said) → (bytes : List ℕ) × (new ≡ said ++ heard_from rank bytes)
came (Ok count) said new rank buffer ok err = (take count buffer, ok)
came (Err e) said new rank buffer ok err = ([], err ∙ sym (append-nil said))

pub slots_still : (said : List Exchange) (slots : List (Option (Server Queue))) (at : ℕ)
    (place : Option (Server Queue)) → at < length slots
    → (IsPlace said at (slice_index_or slots at None) → IsPlace said at place)
    → ArePlaces said slots → ArePlaces said (slice_set slots at place)
slots_still said slots at place there its all =
    slots_set said said slots at place there (λ rank apart old h. h) (its (all at)) all

pub slots_told : (said new : List Exchange) (slots : List (Option (Server Queue))) (at : ℕ)
    (place : Option (Server Queue)) (bytes : List ℕ) → at < length slots
    → (new ≡ said ++ told_to at bytes) ⊎ (new ≡ said)
    → (IsPlace said at (slice_index_or slots at None) → IsPlace new at place)
    → ArePlaces said slots → ArePlaces new (slice_set slots at place)
slots_told said new slots at place bytes there (inl all_told) its all =
    slots_set said new slots at place there
    (λ rank apart old h. subst (λ (s : List Exchange). IsPlace s rank old) (sym all_told)
    (others_told said at bytes rank apart old h)) (its (all at)) all
slots_told said new slots at place bytes there (inr none) its all =
    slots_set said new slots at place there
    (λ rank apart old h. subst (λ (s : List Exchange). IsPlace s rank old) (sym none) h) (its (all at)) all

pub slots_heard : (said new : List Exchange) (slots : List (Option (Server Queue))) (at : ℕ)
    (place : Option (Server Queue)) → at < length slots
    → (bytes : List ℕ) × (new ≡ said ++ heard_from at bytes)
    → (IsPlace said at (slice_index_or slots at None) → IsPlace new at place)
    → ArePlaces said slots → ArePlaces new (slice_set slots at place)
slots_heard said new slots at place there (bytes, same) its all =
    slots_set said new slots at place there
    (λ rank apart old h. subst (λ (s : List Exchange). IsPlace s rank old) (sym same)
    (others_heard said at bytes rank apart old h)) (its (all at)) all

-- ---- what all of it says

place_worked : (said : List Exchange) (rank : ℕ) (place : Option (Server Queue)) → IsPlace said rank place
    → IsWorked said rank
place_worked said rank None h = record {
  now = beginning;
  come = record { actions = []; trace = refl };
  shown = [];
  shows = inl refl;
  ahead = [];
  told = h.told;
  behind = [];
  heard = sym (append-nil (heard_at rank said) ∙ h.heard);
}
place_worked said rank (Some server) h =
    let f = server_front queue_seen server h.serves in
    record {
      now = f.0;
      come = f.1.come;
      shown = server.wire.link.said;
      shows = f.1.said;
      ahead = h.queue.ahead;
      told = sym h.put ∙ h.queue.heard;
      behind = h.queue.behind;
      heard = h.queue.told ∙ ap (λ (b : List ℕ). b ++ h.queue.behind) h.taken;
    }

pub slots_worked : (said : List Exchange) (slots : List (Option (Server Queue))) → ArePlaces said slots
    → AreWorked said
slots_worked said slots all rank = place_worked said rank (slice_index_or slots rank None) (all rank)

-- ---- what it said at each moment

abbrev first_or : Exchange → List Exchange → Exchange
first_or other [] = other
first_or other (x ∷ xs) = x

abbrev behind_first : List Exchange → List Exchange
behind_first [] = []
behind_first (x ∷ xs) = xs

-- of two prefixes of a list one is a prefix of the other
front_either : (xs ys front rest : List Exchange) → xs ++ ys ≡ front ++ rest
    → ((more : List Exchange) × (xs ≡ front ++ more))
    ⊎ ((more : List Exchange) × (front ≡ xs ++ more) × (ys ≡ more ++ rest))
front_either xs ys [] rest same = inl (xs, refl)
front_either [] ys (f ∷ front) rest same = inr (f ∷ front, refl, same)
front_either (x ∷ xs) ys (f ∷ front) rest same =
    let first : x ≡ f = ap (first_or x) same in
    elim (front_either xs ys front rest (ap behind_first same)) [
      | inl t ↦ inl (t.0, λ i. first i ∷ t.1 i)
      | inr t ↦ inr (t.0, (λ i. sym first i ∷ t.1 i), t.2)
    ]

none_front : (xs ys : List ℕ) → xs ++ ys ≡ [] → xs ≡ []
none_front [] ys none = refl
none_front (x ∷ xs) ys none = absurd (omega (arith, ap (λ (l : List ℕ). length l) none))

none_rest : (xs ys : List ℕ) → xs ++ ys ≡ [] → ys ≡ []
none_rest [] ys none = none
none_rest (x ∷ xs) ys none = absurd (omega (arith, ap (λ (l : List ℕ). length l) none))

-- if more was sent, a worker may not have received it yet
worked_told : (said more : List Exchange) (rank : ℕ) → heard_at rank more ≡ [] → IsWorked said rank
    → IsWorked (said ++ more) rank
worked_told said more rank none w = record {
  now = w.now;
  come = w.come;
  shown = w.shown;
  shows = w.shows;
  ahead = w.ahead ++ told_at rank more;
  told = told_at_on rank said more ∙ ap (λ (b : List ℕ). b ++ told_at rank more) w.told
      ∙ append_assoc (heard_in w.shown) w.ahead (told_at rank more);
  behind = w.behind;
  heard = w.heard ∙ ap (λ (b : List ℕ). b ++ w.behind) (sym (heard_same rank said more none));
}

-- and before it was received, what a worker sent was there
worked_less : (said rest : List Exchange) (rank : ℕ) → told_at rank rest ≡ [] → IsWorked (said ++ rest) rank
    → IsWorked said rank
worked_less said rest rank none w = record {
  now = w.now;
  come = w.come;
  shown = w.shown;
  shows = w.shows;
  ahead = w.ahead;
  told = sym (told_same rank said rest none) ∙ w.told;
  behind = heard_at rank rest ++ w.behind;
  heard = w.heard ∙ ap (λ (b : List ℕ). b ++ w.behind) (heard_at_on rank said rest)
      ∙ append_assoc (heard_at rank said) (heard_at rank rest) w.behind;
}

-- behind what has only what was sent, or who is lost
always_told : (said more : List Exchange) → ((rank : ℕ) → heard_at rank more ≡ []) → AreAlwaysWorked said
    → AreAlwaysWorked (said ++ more)
always_told said more none all front rest same rank = elim (front_either said more front rest same) [
  | inl t ↦ all front t.0 t.1 rank
  | inr t ↦ subst (λ (s : List Exchange). IsWorked s rank) (sym t.1)
      (worked_told said t.0 rank
      (none_front (heard_at rank t.0) (heard_at rank rest)
      (sym (heard_at_on rank t.0 rest) ∙ ap (heard_at rank) (sym t.2) ∙ none rank))
      (all said [] (sym (append-nil said)) rank))
]

-- behind what has only what was received
always_heard : (said more : List Exchange) → ((rank : ℕ) → told_at rank more ≡ []) → AreWorked (said ++ more)
    → AreAlwaysWorked said → AreAlwaysWorked (said ++ more)
always_heard said more none now all front rest same rank = elim (front_either said more front rest same) [
  | inl t ↦ all front t.0 t.1 rank
  | inr t ↦ worked_less front rest rank
      (none_rest (told_at rank t.0) (told_at rank rest)
      (sym (told_at_on rank t.0 rest) ∙ ap (told_at rank) (sym t.2) ∙ none rank))
      (subst (λ (s : List Exchange). IsWorked s rank) same (now rank))
]

pub always_went : (said new : List Exchange) (at : ℕ) (bytes : List ℕ)
    → (new ≡ said ++ told_to at bytes) ⊎ (new ≡ said) → AreAlwaysWorked said → AreAlwaysWorked new
always_went said new at bytes (inl all_told) all =
    subst (λ (s : List Exchange). AreAlwaysWorked s) (sym all_told)
    (always_told said (told_to at bytes) (λ rank. heard_told rank at bytes) all)
always_went said new at bytes (inr none) all = subst (λ (s : List Exchange). AreAlwaysWorked s) (sym none) all

pub always_came : (said new : List Exchange) (slots : List (Option (Server Queue))) (at : ℕ)
    → (bytes : List ℕ) × (new ≡ said ++ heard_from at bytes) → ArePlaces new slots
    → AreAlwaysWorked said → AreAlwaysWorked new
always_came said new slots at (bytes, same) its all =
    subst (λ (s : List Exchange). AreAlwaysWorked s) (sym same)
    (always_heard said (heard_from at bytes) (λ rank. told_heard rank at bytes)
    (subst (λ (s : List Exchange). AreWorked s) same (slots_worked new slots its)) all)

pub always_maybe_gone : (b : Bool) (said new : List Exchange) (gone : ℕ)
    → new ≡ (if b then said ++ Gone gone ∷ [] else said) → AreAlwaysWorked said → AreAlwaysWorked new
always_maybe_gone true said new gone same all =
    subst (λ (s : List Exchange). AreAlwaysWorked s) (sym same)
    (always_told said (Gone gone ∷ []) (λ rank. refl) all)
always_maybe_gone false said new gone same all =
    subst (λ (s : List Exchange). AreAlwaysWorked s) (sym same) all

always_none : (slots : List (Option (Server Queue))) → ArePlaces [] slots → AreAlwaysWorked []
always_none slots its [] rest same rank = slots_worked [] slots its rank
always_none slots its (f ∷ front) rest same rank =
    absurd (omega (arith, ap (λ (l : List Exchange). length l) same))

pub sim_workers_empty : (slots : List (Option (Server Queue)))
    → ((rank : ℕ) → slice_index_or slots rank None ≡ None) → AreSimWorkers [] slots
sim_workers_empty slots none =
    let its = slots_empty slots none in
    record { slots = its; always = always_none slots its }

-- ---- a place among the others

pub any_default : (slots : List (Option (Server Queue))) (at : ℕ) (a b : Option (Server Queue))
    → at < length slots → slice_index_or slots at a ≡ slice_index_or slots at b
any_default [] at a b there = absurd (omega (arith, there))
any_default (place ∷ slots) zero a b there = refl
any_default (place ∷ slots) (suc at) a b there = any_default slots at a b (omega (arith, there))

steady_place : (said : List Exchange) (rank : ℕ) (place : Option (Server Queue)) → IsPlace said rank place
    → IsSteady place
steady_place said rank None h = tt
steady_place said rank (Some server) h = h.serves

pub slots_steady : (said : List Exchange) (slots : List (Option (Server Queue))) (at : ℕ)
    (place : Option (Server Queue)) → place ≡ slice_index_or slots at None → ArePlaces said slots
    → IsSteady place
slots_steady said slots at place its all =
    steady_place said at place (subst (IsPlace said at) (sym its) (all at))

-- nothing was received
pub heard_none : (said : List Exchange) (rank count : ℕ) (buffer : List ℕ) → count ≡ 0
    → said ++ heard_from rank (take count buffer) ≡ said
heard_none said rank count buffer none =
    ap (λ (n : ℕ). said ++ heard_from rank (take n buffer)) none ∙ append-nil said
