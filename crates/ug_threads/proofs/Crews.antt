-- Passes that go to their threads, and come back.
use Rattle.std.proofs.Common.{◌≡◌, ◌⊎◌, inl, inr, ℕ, zero, suc, ◌+◌, ◌<◌, List, [], ◌∷◌, ◌++◌, length, true, Option, Some, None, IfSome, refl, sym, ap, ◌∙◌, subst, arith, vec_capacity}
use Rattle.std.specs.Prelude.{slice_get}
use Rattle.std.proofs.lemmas.List.{length-append}
use Rattle.std.proofs.lemmas.Option.{none-some, same_Some}
use Rattle.std.specs.declared.thread.PromisedHandle.{PromisedHandle}
use Rattle.ug_worker.specs.declared.round_count.ReleasePolicy.{ReleasePolicy}
use Rattle.ug_worker.specs.Releases.{fresh, usual}
use Rattle.ug_desk.specs.Passes.{HasLeft, PassState, width_of}
use Rattle.ug_desk.proofs.Seating.{each_more, next_at}
use Rattle.ug_threads.specs.declared.crew.Back.{Back}
use Rattle.ug_threads.specs.declared.crew.Crew.{Crew}
use Rattle.ug_threads.specs.declared.crew.Table.{Table}
use Rattle.ug_threads.specs.Traces.{IsSeated}
use Rattle.ug_threads.proofs.Traces.{away_gone, come_sat, gone_same}
use Rattle.ug_threads.specs.Places.{IsAt, IsAtOf}
use Rattle.ug_threads.specs.Crews.{ArePassesAt, ArePromised, HasPass, HasRank, PromiseRank, IsCrewAt, IsNewCrew, IsPassAt, IsPromise, count_of}

module _ {X : Type 0} where
  front_at : (xs ys : List X) (k : ℕ) (x : X) → slice_get xs k ≡ Some x → slice_get (xs ++ ys) k ≡ Some x
  front_at [] ys k x e = absurd (none-some x e)
  front_at (y ∷ xs) ys zero x e = e
  front_at (y ∷ xs) ys (suc k) x e = front_at xs ys k x e

  -- a fact about all holds of all but the last, and of the last
  all_front : (P : X → Type 0) (all xs : List X) (x : X) → all ≡ xs ++ x ∷ []
      → ((k : ℕ) (y : X) → slice_get all k ≡ Some y → P y)
      → (k : ℕ) (y : X) → slice_get xs k ≡ Some y → P y
  all_front P all xs x is so k y e =
      so k y (subst (λ (l : List X). slice_get l k ≡ Some y) (sym is) (front_at xs (x ∷ []) k y e))

  all_last : (P : X → Type 0) (all xs : List X) (x : X) → all ≡ xs ++ x ∷ []
      → ((k : ℕ) (y : X) → slice_get all k ≡ Some y → P y) → P x
  all_last P all xs x is so =
      so (length xs) x (subst (λ (l : List X). slice_get l (length xs) ≡ Some x) (sym is) (next_at xs [] x))

  all_more : (P : X → Type 0) (all xs : List X) (x : X) → all ≡ xs ++ x ∷ []
      → ((k : ℕ) (y : X) → slice_get xs k ≡ Some y → P y) → P x
      → (k : ℕ) (y : X) → slice_get all k ≡ Some y → P y
  all_more P all xs x is so last k y e =
      each_more (λ n. P) xs x so last k y (subst (λ (l : List X). slice_get l k ≡ Some y) is e)

  one_more : (all xs : List X) (x : X) → all ≡ xs ++ x ∷ [] → length all ≡ length xs + 1
  one_more all xs x is = ap (λ (l : List X). length l) is ∙ length-append xs (x ∷ [])

-- ---- who has the pass of a rank

module _ {X : Type 0} (rank : X → ℕ) where
  abbrev Has : List X → ℕ → Type 0
  Has xs r = (k : ℕ) × (x : X) × (slice_get xs k ≡ Some x) × (rank x ≡ r)

  -- who has it has it behind one item more
  has_more : (all xs : List X) (x : X) (r : ℕ) → all ≡ xs ++ x ∷ [] → Has xs r → Has all r
  has_more all xs x r is (k, y, there, own) =
      (k, y, subst (λ (l : List X). slice_get l k ≡ Some y) (sym is) (front_at xs (x ∷ []) k y there), own)

  has_last : (all xs : List X) (x : X) (r : ℕ) → all ≡ xs ++ x ∷ [] → rank x ≡ r → Has all r
  has_last all xs x r is own =
      (length xs, x, subst (λ (l : List X). slice_get l (length xs) ≡ Some x) (sym is) (next_at xs [] x), own)

  -- it is the last item, or one before
  has_split : (all xs : List X) (x : X) (r : ℕ) → all ≡ xs ++ x ∷ [] → Has all r → Has xs r ⊎ (rank x ≡ r)
  has_split all xs x r is (k, y, there, own) =
      elim (each_more (λ (n : ℕ) (z : X). (slice_get xs n ≡ Some z) ⊎ (x ≡ z)) xs x (λ n z e. inl e) (inr refl) k y
      (subst (λ (l : List X). slice_get l k ≡ Some y) is there)) [
        | inl front ↦ inl (k, y, front, own)
        | inr last ↦ inr (ap rank last ∙ own)
      ]

  -- it is the first item, or one behind
  has_first : (xs : List X) (x : X) (r : ℕ) → Has (x ∷ xs) r → (rank x ≡ r) ⊎ Has xs r
  has_first xs x r (zero, y, there, own) = inl (ap rank (same_Some x y there) ∙ own)
  has_first xs x r (suc k, y, there, own) = inr (k, y, there, own)

  has_none : (xs : List X) (r : ℕ) → xs ≡ [] → Has xs r → ⊥
  has_none xs r is (k, y, there, own) =
      none-some y (subst (λ (l : List X). slice_get l k ≡ Some y) is there)

abbrev rank_of : PassState → ℕ
rank_of p = p.rank

abbrev promised_rank : PromisedHandle PassState Back → ℕ
promised_rank h = h.promise.rank

-- the pass that is taken from those that wait is one of the desk, and there is room for it
pub next_waiting : (table : Table) (c : Crew) (rest : List PassState) (p : PassState) → IsCrewAt table c
    → c.waiting.items ≡ rest ++ p ∷ [] → IsPassAt table p
next_waiting table c rest p all is = all_last (IsPassAt table) c.waiting.items rest p is all.waiting

pub room_to_work : (table : Table) (c : Crew) (rest : List PassState) (p : PassState) → IsCrewAt table c
    → c.waiting.items ≡ rest ++ p ∷ [] → length c.working.items < vec_capacity c.working
room_to_work table c rest p all is = omega (arith, all.hands, one_more c.waiting.items rest p is)

pub room_back : (table : Table) (c : Crew) (rest : List PassState) (p : PassState) → IsCrewAt table c
    → c.waiting.items ≡ rest ++ p ∷ [] → length c.back.items < vec_capacity c.back
room_back table c rest p all is = omega (arith, all.room, one_more c.waiting.items rest p is)

-- its thread was started
pub works_now : (table : Table) (old new : Crew) (p : PassState) (h : PromisedHandle PassState Back)
    → IsCrewAt table old → old.waiting.items ≡ new.waiting.items ++ p ∷ []
    → new.working.items ≡ old.working.items ++ h ∷ [] → new.back.items ≡ old.back.items
    → vec_capacity new.working ≡ vec_capacity old.working → vec_capacity new.back ≡ vec_capacity old.back
    → IsPromise table h.promise × (h.promise.rank ≡ p.rank) → IsCrewAt table new
works_now table old new p h all taken put same hands room promised =
    let fewer = one_more old.waiting.items new.waiting.items p taken in
    let more = one_more new.working.items old.working.items h put in
    let kept = ap (λ (l : List PassState). length l) same in
    record {
      waiting = all_front (IsPassAt table) old.waiting.items new.waiting.items p taken all.waiting;
      working = all_more (λ (k : PromisedHandle PassState Back). IsPromise table k.promise) new.working.items
          old.working.items h put all.working promised.0;
      each = λ r below. elim (all.each r below) [
        | inl waits ↦ elim (has_split rank_of old.waiting.items new.waiting.items p r taken waits) [
          | inl still ↦ inl still
          | inr own ↦ inr (inl (has_last promised_rank new.working.items old.working.items h r put (promised.1 ∙ own)))
        ]
        | inr other ↦ elim other [
          | inl works ↦ inr (inl (has_more promised_rank new.working.items old.working.items h r put works))
          | inr back ↦ inr (inr (subst (λ (l : List PassState). HasRank l r) (sym same) back))
        ]
      ];
      back = subst (ArePassesAt table) (sym same) all.back;
      hands = omega (arith, all.hands, fewer, more, kept, hands);
      room = omega (arith, all.room, fewer, more, kept, room);
    }

-- or it came back
pub back_now : (table : Table) (old new : Crew) (p q : PassState)
    → IsCrewAt table old → old.waiting.items ≡ new.waiting.items ++ p ∷ []
    → new.back.items ≡ old.back.items ++ q ∷ [] → new.working.items ≡ old.working.items
    → vec_capacity new.working ≡ vec_capacity old.working → vec_capacity new.back ≡ vec_capacity old.back
    → IsPassAt table q × (q.rank ≡ p.rank) → IsCrewAt table new
back_now table old new p q all taken put same hands room at =
    let fewer = one_more old.waiting.items new.waiting.items p taken in
    let more = one_more new.back.items old.back.items q put in
    let kept = ap (λ (l : List (PromisedHandle PassState Back)). length l) same in
    record {
      waiting = all_front (IsPassAt table) old.waiting.items new.waiting.items p taken all.waiting;
      working = subst (ArePromised table) (sym same) all.working;
      each = λ r below. elim (all.each r below) [
        | inl waits ↦ elim (has_split rank_of old.waiting.items new.waiting.items p r taken waits) [
          | inl still ↦ inl still
          | inr own ↦ inr (inr (has_last rank_of new.back.items old.back.items q r put (at.1 ∙ own)))
        ]
        | inr other ↦ elim other [
          | inl works ↦ inr (inl (subst (λ (l : List (PromisedHandle PassState Back)). PromiseRank l r) (sym same) works))
          | inr back ↦ inr (inr (has_more rank_of new.back.items old.back.items q r put back))
        ]
      ];
      back = all_more (IsPassAt table) new.back.items old.back.items q put all.back at.0;
      hands = omega (arith, all.hands, fewer, more, kept, hands);
      room = omega (arith, all.room, fewer, more, kept, room);
    }

pub count_working : (old new : Crew) (p : PassState) (h : PromisedHandle PassState Back)
    → old.waiting.items ≡ new.waiting.items ++ p ∷ [] → new.working.items ≡ old.working.items ++ h ∷ []
    → new.back.items ≡ old.back.items → count_of new ≡ count_of old
count_working old new p h taken put same =
    omega (
      arith,
      one_more old.waiting.items new.waiting.items p taken,
      one_more new.working.items old.working.items h put,
      ap (λ (l : List PassState). length l) same,
    )

pub count_back : (old new : Crew) (p q : PassState)
    → old.waiting.items ≡ new.waiting.items ++ p ∷ [] → new.back.items ≡ old.back.items ++ q ∷ []
    → new.working.items ≡ old.working.items → count_of new ≡ count_of old
count_back old new p q taken put same =
    omega (
      arith,
      one_more old.waiting.items new.waiting.items p taken,
      one_more new.back.items old.back.items q put,
      ap (λ (l : List (PromisedHandle PassState Back)). length l) same,
    )

-- the last of those that came back worked, and is back again
pub last_back : (table : Table) (c : Crew) (rest : List PassState) (p : PassState) → IsCrewAt table c
    → c.back.items ≡ rest ++ p ∷ [] → IsPassAt table p
last_back table c rest p all is = all_last (IsPassAt table) c.back.items rest p is all.back

pub again_back : (table : Table) (old new : Crew) (rest : List PassState) (p q : PassState)
    → IsCrewAt table old → old.back.items ≡ rest ++ p ∷ [] → new.back.items ≡ rest ++ q ∷ []
    → new.waiting.items ≡ old.waiting.items → new.working.items ≡ old.working.items
    → vec_capacity new.working ≡ vec_capacity old.working → vec_capacity new.back ≡ vec_capacity old.back
    → IsPassAt table q × (q.rank ≡ p.rank) → IsCrewAt table new
again_back table old new rest p q all taken put waits works hands room at =
    let fewer = one_more old.back.items rest p taken in
    let more = one_more new.back.items rest q put in
    let same = ap (λ (l : List (PromisedHandle PassState Back)). length l) works in
    let kept = ap (λ (l : List PassState). length l) waits in
    record {
      waiting = subst (ArePassesAt table) (sym waits) all.waiting;
      working = subst (ArePromised table) (sym works) all.working;
      each = λ r below. elim (all.each r below) [
        | inl waiting ↦ inl (subst (λ (l : List PassState). HasRank l r) (sym waits) waiting)
        | inr other ↦ elim other [
          | inl working ↦ inr (inl (subst (λ (l : List (PromisedHandle PassState Back)). PromiseRank l r) (sym works)
              working))
          | inr back ↦ elim (has_split rank_of old.back.items rest p r taken back) [
            | inl still ↦ inr (inr (has_more rank_of new.back.items rest q r put still))
            | inr own ↦ inr (inr (has_last rank_of new.back.items rest q r put (at.1 ∙ own)))
          ]
        ]
      ];
      back = all_more (IsPassAt table) new.back.items rest q put
          (all_front (IsPassAt table) old.back.items rest p taken all.back) at.0;
      hands = omega (arith, all.hands, fewer, more, kept, same, hands);
      room = omega (arith, all.room, fewer, more, kept, same, room);
    }

-- ---- those that are joined

pub first_promised : (table : Table) (all rest : List (PromisedHandle PassState Back))
    (h : PromisedHandle PassState Back) → all ≡ h ∷ rest → ArePromised table all
    → IsPromise table h.promise
first_promised table all rest h is so =
    so 0 h (subst (λ (l : List (PromisedHandle PassState Back)). slice_get l 0 ≡ Some h) (sym is) refl)

pub rest_promised : (table : Table) (all rest : List (PromisedHandle PassState Back))
    (h : PromisedHandle PassState Back) → all ≡ h ∷ rest → ArePromised table all → ArePromised table rest
rest_promised table all rest h is so k y e =
    so (suc k) y (subst (λ (l : List (PromisedHandle PassState Back)). slice_get l (suc k) ≡ Some y) (sym is) e)

pub joined_at : (table : Table) (b : Back) (p : PassState) → IsPromise table b
    → IsAtOf b.desk.value b.began.value b.rank p → IsPassAt table p
joined_at table b p is at =
    subst (λ d. IsAt d table.began.now p) is.desk (subst (λ o. IsAt b.desk.value o p) is.began at.at)

-- one of each rank still works or is back
abbrev pub IsAmong : List (PromisedHandle PassState Back) → List PassState → ℕ → Type 0
IsAmong handles back r = PromiseRank handles r ⊎ HasRank back r

pub among_first : (c : Crew) (r : ℕ) → c.waiting.items ≡ [] → HasPass c r
    → IsAmong c.working.items c.back.items r
among_first c r none (inl waits) = absurd (has_none rank_of c.waiting.items r none waits)
among_first c r none (inr other) = other

pub among_next : (all rest : List (PromisedHandle PassState Back)) (h : PromisedHandle PassState Back)
    (xs ys : List PassState) (p : PassState) (r : ℕ) → all ≡ h ∷ rest → ys ≡ xs ++ p ∷ []
    → p.rank ≡ h.promise.rank → IsAmong all xs r → IsAmong rest ys r
among_next all rest h xs ys p r is put own (inl works) =
    elim (has_first promised_rank rest h r
    (subst (λ (l : List (PromisedHandle PassState Back)). PromiseRank l r) is works)) [
      | inl first ↦ inr (has_last rank_of ys xs p r put (own ∙ first))
      | inr still ↦ inl still
    ]
among_next all rest h xs ys p r is put own (inr back) = inr (has_more rank_of ys xs p r put back)

pub among_last : (handles : List (PromisedHandle PassState Back)) (back : List PassState) (r : ℕ)
    → length handles ≡ 0 → IsAmong handles back r → HasRank back r
among_last [] back r none (inl works) = absurd (has_none promised_rank [] r refl works)
among_last (h ∷ handles) back r none (inl works) = absurd (omega (arith, none))
among_last handles back r none (inr there) = there

-- ---- who sits at a pass

pub sat_at : (table : Table) (p : PassState) (policy : Option ReleasePolicy)
    → IfSome policy (λ rule. rule ≡ usual) → IsPassAt table p
    → IsSeated table.desk.now p (record { count = 0; racing = true }) (fresh policy) None
sat_at table p policy is at =
    record { lock = at.lock; trace = come_sat policy p is at.trace; its = tt }

pub gone_at : (table : Table) (p q : PassState) → HasLeft p q → IsPassAt table p → IsPassAt table q
gone_at table p q gone at = record {
  lock = (gone_same p q gone).0 ∙ at.lock;
  opened = (gone_same p q gone).2 ∙ at.opened;
  trace = away_gone p q gone at.trace;
}

pub back_more : (table : Table) (all xs : List PassState) (p : PassState) → all ≡ xs ++ p ∷ []
    → ArePassesAt table xs → IsPassAt table p → ArePassesAt table all
back_more table all xs p is so at = all_more (IsPassAt table) all xs p is so at

-- ---- a crew as it is made

pub new_crew : (table : Table) (passes : List PassState) (c : Crew) → IsNewCrew passes c
    → ArePassesAt table passes → ((r : ℕ) → r < width_of table.desk.now → HasRank passes r) → IsCrewAt table c
new_crew table passes c new at each =
    let w = ap (λ (l : List PassState). length l) new.waiting in
    let o = ap (λ (l : List (PromisedHandle PassState Back)). length l) new.working in
    let b = ap (λ (l : List PassState). length l) new.back in
    record {
      waiting = subst (ArePassesAt table) (sym new.waiting) at;
      working = subst (ArePromised table) (sym new.working) (λ k h e. absurd (none-some h e));
      back = subst (ArePassesAt table) (sym new.back) (λ k p e. absurd (none-some p e));
      each = λ r below. inl (subst (λ (l : List PassState). HasRank l r) (sym new.waiting) (each r below));
      hands = omega (arith, new.hands, w, o, b);
      room = omega (arith, new.room, w, o, b);
    }

pub new_count : (passes : List PassState) (c : Crew) → IsNewCrew passes c → count_of c ≡ length passes
new_count passes c new =
    omega (
      arith,
      ap (λ (l : List PassState). length l) new.waiting,
      ap (λ (l : List (PromisedHandle PassState Back)). length l) new.working,
      ap (λ (l : List PassState). length l) new.back,
    )

-- a crew of the same passes
pub same_crew : (table : Table) (old new : Crew) → new.waiting.items ≡ old.waiting.items
    → new.working ≡ old.working → new.back.items ≡ old.back.items → vec_capacity new.back ≡ vec_capacity old.back
    → IsCrewAt table old → IsCrewAt table new
same_crew table old new waits works backs room all =
    let w = ap (λ (l : List PassState). length l) waits in
    let o = ap (λ (v : _). length v.items) works in
    let b = ap (λ (l : List PassState). length l) backs in
    let h = ap (λ (v : _). vec_capacity v) works in
    record {
      waiting = subst (ArePassesAt table) (sym waits) all.waiting;
      working = subst (λ (v : _). ArePromised table v.items) (sym works) all.working;
      back = subst (ArePassesAt table) (sym backs) all.back;
      each = λ r below. elim (all.each r below) [
        | inl waiting ↦ inl (subst (λ (l : List PassState). HasRank l r) (sym waits) waiting)
        | inr other ↦ elim other [
          | inl working ↦ inr (inl (subst (λ (v : _). PromiseRank v.items r) (sym works) working))
          | inr back ↦ inr (inr (subst (λ (l : List PassState). HasRank l r) (sym backs) back))
        ]
      ];
      hands = omega (arith, all.hands, w, o, b, h);
      room = omega (arith, all.room, w, o, b, room);
    }
