-- Each step of a seat's own turn keeps the rule.
use Rattle.std.proofs.Common.{◌≡◌, ◌≢◌, ◌⊎◌, ℕ, zero, suc, ◌+◌, ◌-◌, ◌%◌, ◌^◌, ◌<◌, ◌≤◌, List, [], ◌∷◌, ◌++◌, length, set, refl, sym, ap, ◌∙◌, subst, ⊎_elim, arith, min, length-set, Option, Some, None}
use Rattle.std.proofs.Math.Nat.{mod-add-mod}
use Rattle.std.specs.Prelude.{slice_index}
use mathlib.Core.Logic.{dite}
use native.Mathlib.Decide.{ℕ_discrete}
use mathlib.Core.Option.{none, some, some-ne-none, some-injective}
use mathlib.Core.Option as maybe
use mathlib.Core.List.{IsPrefix}
use lib.ListN.{get_elem?}
use Rattle.atomic_table.specs.Table.{State, Me, step, keeps, takes, gives, Allows, opening as opened}
use Rattle.atomic_table.proofs.Lists.{at_set, set_here, one_turn}
use Rattle.ug_turn.specs.declared.view.View.{View}
use Rattle.ug_turn.specs.declared.held.Held.{Held}
use Rattle.ug_turn.specs.Histories.{calls_by, told}
use Rattle.ug_turn.specs.Views.{maker}
use Rattle.ug_turn.specs.Rules.{Moment, Fits, IsHome, Turns}
use Rattle.ug_turn.specs.Steps.{MayPut, Drew, Saw, Took, Gave, Passed, Lowered, Looked, Met}
use Rattle.ug_turn.proofs.Lists.{put, put_here, put_else, words_set_0, words_set_1, words_set_2, total_set, total_le, here, still, prefix_self, prefix_nil, prefix_more, longer_begins, set_same, calls_of_other, calls_of_same, same_held}

module _ {V O E : Type 0} (opening : V → O) (replays : V → List E → Type 0) (by : E → ℕ) (cutoff : V → ℕ) (passes : ℕ) (start : O) where
  abbrev pub Rule : State (Option (Held V E)) (View O E) → Type 0
  Rule = Turns opening replays by cutoff passes start

  -- one view changed: it fits, and the others do
  pub fits_set : (m : Moment O E) (views : List (View O E)) (id : ℕ) (w : View O E) → Fits by passes m id w
      → ((j : ℕ) (v : View O E) → j ≢ id → get_elem? views j ≡ some v → Fits by passes m j v) → (j : ℕ) (v : View O E) → get_elem? (set views id w) j ≡ some v → Fits by passes m j v
  fits_set m views id w mine others j v e =
      ⊎_elim (λ (t : (j ≡ id) × (w ≡ v)). subst (λ (y : ℕ × View O E). Fits by passes m y.0 y.1) (λ i. (sym t.0 i, t.1 i)) mine)
      (λ (t : (j ≢ id) × (get_elem? views j ≡ some v)). others j v t.0 t.1)
      (at_set views id j w v e)

  -- the same of one seat
  pub fits_at : (m : Moment O E) (views : List (View O E)) (id : ℕ) (w : View O E) (j : ℕ) (v : View O E) → Fits by passes m id w
      → (j ≢ id → get_elem? views j ≡ some v → Fits by passes m j v) → get_elem? (set views id w) j ≡ some v → Fits by passes m j v
  fits_at m views id w j v mine other e =
      ⊎_elim (λ (t : (j ≡ id) × (w ≡ v)). subst (λ (y : ℕ × View O E). Fits by passes m y.0 y.1) (λ i. (sym t.0 i, t.1 i)) mine)
      (λ (t : (j ≢ id) × (get_elem? views j ≡ some v)). other t.0 t.1)
      (at_set views id j w v e)

  -- no more numbers are out than there are passes
  near : (s : State (Option (Held V E)) (View O E)) (r : Rule s) → r.m.drawn ≤ r.m.served + passes
  near s r = let a = total_le (λ v. v.waits) (λ v. v.parts) s.views (λ j v e. (r.each j v e).few) in let b = r.waiting in let c = r.parts in omega arith

  -- a seat in its turn is the only one
  pub alone : (s : State (Option (Held V E)) (View O E)) (r : Rule s) (id : ℕ) (me : View O E) → get_elem? s.views id ≡ some me → 0 < me.step → (j : ℕ) (v : View O E) → get_elem? s.views j ≡ some v → 0 < v.step → j ≡ id
  alone s r id me at mine j v e theirs =
      let a = (r.each id me at).turn mine in
      let b = (r.each j v e).turn theirs in
      let oa = ((r.each id me at).number a.0).2 in
      let ob = ((r.each j v e).number b.0).2 in
      sym ob ∙ (ap r.m.owner (b.1 ∙ sym a.1) ∙ oa)

  pub draws : (slots id : ℕ) (me : Me (Option (Held V E)) (View O E)) → me.0.parts ≡ 1 → me.0.waits ≡ 0 → me.0.step ≡ 0
      → Allows Rule slots id me 0 (λ n. (n + 1) % 2 ^ 64) (Drew (step slots 0 1 0 none) me)
  draws slots id me one_part no_number no_turn s r homes at small =
      let v = me.0 in
      let m = r.m in
      let d = m.drawn in
      let w : View O E = record v { waits = 1; number = d } in
      let owner' = put m.owner d id in
      let m' : Moment O E = record m { drawn = d + 1; owner = owner' } in
      let f = r.each id v at in
      let t1 = total_set (λ u. u.waits) s.views id v w at in
      let t2 = total_set (λ u. u.parts) s.views id v w at in
      let a = r.waiting in
      let b = r.parts in
      let ws = words_set_0 s.words ((slice_index s.words 0 + 1) % 2 ^ 64) r.three in (
        w,
        keeps,
        tt,
        record {
          m = m';
          started = r.started;
          few = r.few;
          three = length-set s.words 0 _ ∙ r.three;
          one = r.one;
          next_is = ws.0 ∙ (ap (λ (n : ℕ). (n + 1) % 2 ^ 64) r.next_is ∙ mod-add-mod d (2 ^ 64) 1);
          serving_is = ws.1 ∙ r.serving_is;
          word_is = ws.2 ∙ r.word_is;
          small = r.small;
          lower = r.lower;
          waiting = omega arith;
          parts = omega arith;
          none = r.none;
          each = fits_set m' s.views id w
              (record {
                few = omega arith;
                number = λ _. (omega arith, omega arith, put_here m.owner d id);
                turn = λ h. absurd (omega arith);
                opening = f.opening;
                seen = f.seen;
                told = f.told;
                whole = λ h. absurd (omega arith);
                known = f.known;
                pass = f.pass;
                maker = f.maker;
              })
              (λ j u other e. let g = r.each j u e in record {
                few = g.few;
                number = λ h. let n = g.number h in let below = n.1 in (n.0, omega arith, put_else m.owner d id u.number (λ same. omega arith) ∙ n.2);
                turn = g.turn;
                opening = g.opening;
                seen = g.seen;
                told = g.told;
                whole = g.whole;
                known = g.known;
                pass = g.pass;
                maker = g.maker;
              });
          home = λ h. r.home (still s.views id v w at (λ two. omega arith) h);
        },
        record { number = d; found_is = sym r.next_is; view = refl; slots = refl },
      )

  -- a load of a word, at which one seat's view changes and its number and parts stay
  stays : (i : ℕ) (s : State (Option (Held V E)) (View O E)) (r : Rule s) (id : ℕ) (v w : View O E) (homes' : List (maybe.Option (Option (Held V E)))) → get_elem? s.views id ≡ some v
      → w.waits ≡ v.waits → w.parts ≡ v.parts → Fits by passes r.m id w → length homes' ≡ 1
      → (((j : ℕ) (u : View O E) → get_elem? (set s.views id w) j ≡ some u → u.step ≢ 2) → (h : Held V E) × (get_elem? homes' 0 ≡ some (some (Some h))) × IsHome opening replays cutoff r.m.start r.m.log r.m.level h)
      → Rule record { words = set s.words i (slice_index s.words i); homes = homes'; views = set s.views id w }
  stays i s r id v w homes' at waits parts fits one home =
      let t1 = total_set (λ u. u.waits) s.views id v w at in
      let t2 = total_set (λ u. u.parts) s.views id v w at in
      let a = r.waiting in
      let b = r.parts in
      let same = set_same s.words i in record {
        m = r.m;
        started = r.started;
        few = r.few;
        three = ap length same ∙ r.three;
        one = one;
        next_is = ap (λ (l : List ℕ). slice_index l 0) same ∙ r.next_is;
        serving_is = ap (λ (l : List ℕ). slice_index l 1) same ∙ r.serving_is;
        word_is = ap (λ (l : List ℕ). slice_index l 2) same ∙ r.word_is;
        small = r.small;
        lower = r.lower;
        waiting = omega arith;
        parts = omega arith;
        none = r.none;
        each = fits_set r.m s.views id w fits (λ j u other e. r.each j u e);
        home = home;
      }

  pub sees : (slots id : ℕ) (me : Me (Option (Held V E)) (View O E)) → me.0.waits ≡ 1 → me.0.step ≡ 0
      → Allows Rule slots id me 1 (λ n. n) (Saw (step slots 1 0 0 none) me)
  sees slots id me number_out no_turn s r homes at small =
      let v = me.0 in
      let k = v.number in
      let w : View O E = record v { step = 1 } in
      let found = slice_index s.words 1 in
      let f = r.each id v at in
      let n = f.number (omega arith) in
      let low = n.0 in
      let high = n.1 in
      let close = near s r in
      let few = r.few in
      dite (ℕ_discrete found (k % 2 ^ 64))
      (λ same.
      let now : r.m.served ≡ k = one_turn r.m.served k (2 ^ 64) low (omega arith) (sym r.serving_is ∙ same) in (
        w,
        keeps,
        tt,
        stays 1 s r id v w s.homes at refl refl
            (record {
              few = f.few;
              number = f.number;
              turn = λ h. (omega arith, sym now);
              opening = f.opening;
              seen = f.seen;
              told = f.told;
              whole = λ h. absurd (omega arith);
              known = f.known;
              pass = f.pass;
              maker = f.maker;
            })
            r.one
            (λ h. r.home (still s.views id v w at (λ two. omega arith) h)),
        record { turn = λ _. refl; other = λ apart. absurd (apart same); slots = refl },
      ))
      (λ other. (
        v,
        keeps,
        tt,
        stays 1 s r id v v s.homes at refl refl f r.one (λ h. r.home (still s.views id v v at (λ two. omega arith) h)),
        record { turn = λ e. absurd (other e); other = λ _. refl; slots = refl },
      ))

  pub takes_out : (slots id : ℕ) (me : Me (Option (Held V E)) (View O E)) → me.0.role ≡ 1 → me.0.step ≡ 1
      → Allows Rule slots id me 1 (λ n. n) (Took opening replays by cutoff (step slots 1 0 0 none) me)
  takes_out slots id me its_pass in_turn s r homes at small =
      let v = me.0 in
      let f = r.each id v at in
      let turn = f.turn (omega arith) in
      let nobody : (j : ℕ) (u : View O E) → get_elem? s.views j ≡ some u → u.step ≢ 2 = λ j u e two.
      let same = alone s r id v at (omega arith) j u e (omega arith) in
      let is' : u ≡ v = some-injective u v (sym e ∙ (ap (λ (i : ℕ). get_elem? s.views i) same ∙ at)) in
      let step' : u.step ≡ v.step = ap (λ (x : View O E). x.step) is' in omega arith
      in
      let x = r.home nobody in
      let h = x.0 in
      let ish = x.2 in
      let level = ish.level_is in
      let lower = r.lower in
      let known = f.known in
      let w : View O E = record v { step = 2; seen = r.m.log; level = cutoff h.value } in (
        w,
        takes 0 (Some h),
        x.1,
        stays 1 s r id v w (set s.homes 0 none) at refl refl
            (record {
              few = f.few;
              number = f.number;
              turn = λ h. turn;
              opening = f.opening;
              seen = prefix_self r.m.log;
              told = f.told;
              whole = λ _. (refl, level);
              known = f.known;
              pass = f.pass;
              maker = f.maker;
            })
            (length-set s.homes 0 none ∙ r.one)
            (λ no. absurd (no id w (here s.views id v w at) refl)),
        record {
          held = h;
          taken = record {
            opened = f.opening (omega arith) ∙ ap Some (sym ish.opening_is);
            replayed = ish.replayed;
            begins = f.seen;
            own = (f.pass its_pass).own;
            lower = omega arith;
            same = refl;
          };
          step = refl;
          slots = refl;
        },
      )

  pub puts_home : (slots id : ℕ) (v : View O E) (h : Held V E) → v.role ≡ 1 → v.step ≡ 2 → MayPut opening replays by cutoff v h.value h.said.value
      → Allows Rule slots id (v, (0, Some h) ∷ []) 1 (λ n. n) (Gave by cutoff (step slots 1 0 0 none) (v, (0, Some h) ∷ []))
  puts_home slots id v h its_pass is_out may s r homes at small =
      let m = r.m in
      let entry = h.said.value in
      let log' : List E = m.log ++ told entry in
      let m' : Moment O E = record m { log = log'; level = cutoff h.value } in
      let w : View O E = record v { step = 3; seen = v.seen ++ told entry; mine = v.mine ++ told entry; level = cutoff h.value } in
      let f = r.each id v at in
      let mine = f.pass its_pass in
      let turn = f.turn (omega arith) in
      let all = f.whole (omega arith) in
      let seen_is : v.seen ≡ m.log = all.0 in
      let level_is : v.level ≡ m.level = all.1 in
      let lower = r.lower in
      let low = may.lower in
      let one = r.one in
      let t1 = total_set (λ u. u.waits) s.views id v w at in
      let t2 = total_set (λ u. u.parts) s.views id v w at in
      let a = r.waiting in
      let b = r.parts in
      let same = set_same s.words 1 in
      let own : calls_by by v.pass log' ≡ v.mine ++ told entry = calls_of_same by v.pass m.log entry may.own ∙ ap (λ l. l ++ told entry) mine.own in
      let not_mine : (p : ℕ) → p ≢ v.pass → calls_by by p log' ≡ calls_by by p m.log = λ p other. calls_of_other by p v.pass m.log entry may.own other in
      let apart : (j p : ℕ) → j ≢ id → m.seat_of p ≡ j → p ≢ v.pass = λ j p other its is_same. other (sym its ∙ (ap m.seat_of is_same ∙ mine.its)) in
      let old_opening = f.opening (omega arith) in (
        w,
        gives,
        tt,
        record {
          m = m';
          started = r.started;
          few = r.few;
          three = ap length same ∙ r.three;
          one = length-set s.homes 0 (some (Some h)) ∙ r.one;
          next_is = ap (λ (l : List ℕ). slice_index l 0) same ∙ r.next_is;
          serving_is = ap (λ (l : List ℕ). slice_index l 1) same ∙ r.serving_is;
          word_is = ap (λ (l : List ℕ). slice_index l 2) same ∙ r.word_is;
          small = r.small;
          lower = omega arith;
          waiting = omega arith;
          parts = omega arith;
          none = λ p h. let below = mine.below in not_mine p (λ same. omega arith) ∙ r.none p h;
          each = fits_set m' s.views id w
              (record {
                few = f.few;
                number = f.number;
                turn = λ h. turn;
                opening = f.opening;
                seen = subst (λ l. IsPrefix (l ++ told entry) log') (sym seen_is) (prefix_self log');
                told = prefix_more v.told m.log (told entry) f.told;
                whole = λ _. (ap (λ l. l ++ told entry) seen_is, refl);
                known = f.known;
                pass = λ _. record {
                  below = mine.below;
                  its = mine.its;
                  own = own;
                  ends = λ k e there. let g = mine.ends k e there in record {
                    seen = prefix_more e.seen m.log (told entry) g.seen;
                    mine = not_mine e.pass g.other ∙ g.mine;
                    kept = g.kept;
                    other = g.other;
                  };
                };
                maker = λ two. absurd (omega arith);
              })
              (λ j u other e. let g = r.each j u e in record {
                few = g.few;
                number = g.number;
                turn = g.turn;
                opening = g.opening;
                seen = prefix_more u.seen m.log (told entry) g.seen;
                told = prefix_more u.told m.log (told entry) g.told;
                whole = λ hh. absurd (other (alone s r id v at (omega arith) j u e (omega arith)));
                known = g.known;
                pass = λ role. let q = g.pass role in record {
                  below = q.below;
                  its = q.its;
                  own = not_mine u.pass (apart j u.pass other q.its) ∙ q.own;
                  ends = λ k x there. let y = q.ends k x there in record {
                    seen = prefix_more x.seen m.log (told entry) y.seen;
                    mine = not_mine x.pass (apart j x.pass other y.kept) ∙ y.mine;
                    kept = y.kept;
                    other = y.other;
                  };
                };
                maker = λ role. let q = g.maker role in record {
                  its = q.its;
                  none = λ p le. not_mine p (apart j p other (q.its p le)) ∙ q.none p le;
                };
              });
          home = λ _. (
            h,
            set_here s.homes 0 (some (Some h)) (omega arith),
            record {
              opening_is = some_same (sym may.opened ∙ old_opening);
              replayed = subst (λ l. replays h.value (l ++ told entry)) seen_is may.replayed;
              level_is = refl;
            },
          );
        },
        record {
          view = λ h' is. let same_h : h ≡ h' = same_held ((0, Some h) ∷ []) h h' refl is in ap (λ (x : Held V E). record v { step = 3; seen = v.seen ++ told x.said.value; mine = v.mine ++ told x.said.value; level = cutoff x.value }) same_h;
          own = ap (λ l. calls_by by v.pass (l ++ told entry)) seen_is ∙ own;
          slots = refl;
        },
      )
    where
      some_same : {a b : O} → Some a ≡ Some b → a ≡ b
      some_same e = cc (e)

  pub lowers : (slots id k : ℕ) (me : Me (Option (Held V E)) (View O E)) → me.0.step ≡ 3 → me.0.level ≡ k
      → Allows Rule slots id me 2 (λ n. min n k) (Lowered (step slots 2 k 0 none) me)
  lowers slots id k me put_back its_level s r homes at small =
      let v = me.0 in
      let m = r.m in
      let n = slice_index s.words 2 in
      let m' : Moment O E = record m { word = min n k } in
      let w : View O E = record v { known = k } in
      let f = r.each id v at in
      let whole = f.whole (omega arith) in
      let level : v.level ≡ m.level = whole.1 in
      let lower = r.lower in
      let word = r.word_is in
      let small' = r.small in
      let t1 = total_set (λ u. u.waits) s.views id v w at in
      let t2 = total_set (λ u. u.parts) s.views id v w at in
      let a = r.waiting in
      let b = r.parts in
      let ws = words_set_2 s.words (min n k) r.three in (
        w,
        keeps,
        tt,
        record {
          m = m';
          started = r.started;
          few = r.few;
          three = length-set s.words 2 _ ∙ r.three;
          one = r.one;
          next_is = ws.0 ∙ r.next_is;
          serving_is = ws.1 ∙ r.serving_is;
          word_is = ws.2;
          small = omega arith;
          lower = omega arith;
          waiting = omega arith;
          parts = omega arith;
          none = r.none;
          each = fits_set m' s.views id w
              (record {
                few = f.few;
                number = f.number;
                turn = f.turn;
                opening = f.opening;
                seen = f.seen;
                told = f.told;
                whole = f.whole;
                known = omega arith;
                pass = f.pass;
                maker = f.maker;
              })
              (λ j u other e. let g = r.each j u e in let known = g.known in record {
                few = g.few;
                number = g.number;
                turn = g.turn;
                opening = g.opening;
                seen = g.seen;
                told = g.told;
                whole = g.whole;
                known = omega arith;
                pass = g.pass;
                maker = g.maker;
              });
          home = λ h. r.home (still s.views id v w at (λ two. omega arith) h);
        },
        record { view = refl; slots = refl },
      )

  pub passes_on : (slots id : ℕ) (me : Me (Option (Held V E)) (View O E)) → me.0.parts ≡ 1 → me.0.waits ≡ 1 → me.0.step ≡ 3
      → Allows Rule slots id me 1 (λ n. (n + 1) % 2 ^ 64) (Passed (step slots 1 1 0 none) me)
  passes_on slots id me one_part number_out put_back s r homes at small =
      let v = me.0 in
      let m = r.m in
      let m' : Moment O E = record m { served = m.served + 1 } in
      let w : View O E = record v { waits = 0; step = 0 } in
      let f = r.each id v at in
      let turn = f.turn (omega arith) in
      let mine = (f.number (omega arith)).2 in
      let t1 = total_set (λ u. u.waits) s.views id v w at in
      let t2 = total_set (λ u. u.parts) s.views id v w at in
      let a = r.waiting in
      let b = r.parts in
      let ws = words_set_1 s.words ((slice_index s.words 1 + 1) % 2 ^ 64) r.three in (
        w,
        keeps,
        tt,
        record {
          m = m';
          started = r.started;
          few = r.few;
          three = length-set s.words 1 _ ∙ r.three;
          one = r.one;
          next_is = ws.0 ∙ r.next_is;
          serving_is = ws.1 ∙ (ap (λ (n : ℕ). (n + 1) % 2 ^ 64) r.serving_is ∙ mod-add-mod m.served (2 ^ 64) 1);
          word_is = ws.2 ∙ r.word_is;
          small = r.small;
          lower = r.lower;
          waiting = omega arith;
          parts = omega arith;
          none = r.none;
          each = fits_set m' s.views id w
              (record {
                few = omega arith;
                number = λ h. absurd (omega arith);
                turn = λ h. absurd (omega arith);
                opening = f.opening;
                seen = f.seen;
                told = f.told;
                whole = λ h. absurd (omega arith);
                known = f.known;
                pass = f.pass;
                maker = f.maker;
              })
              (λ j u other e. let g = r.each j u e in record {
                few = g.few;
                number = λ h.
                    let n = g.number h in
                    let low = n.0 in
                    let apart : u.number ≢ m.served = λ same. other (sym n.2 ∙ (ap m.owner (same ∙ sym turn.1) ∙ mine)) in
                    (omega arith, n.1, n.2);
                turn = λ h. absurd (other (alone s r id v at (omega arith) j u e h));
                opening = g.opening;
                seen = g.seen;
                told = g.told;
                whole = g.whole;
                known = g.known;
                pass = g.pass;
                maker = g.maker;
              });
          home = λ h. r.home (still s.views id v w at (λ two. omega arith) h);
        },
        record { view = refl; slots = refl },
      )

  pub spins : (slots id : ℕ) (me : Me (Option (Held V E)) (View O E)) → me.0.step ≡ 0
      → Allows Rule slots id me 2 (λ n. n) (Looked (step slots 2 0 0 none) me)
  spins slots id me no_turn s r homes at small =
      let v = me.0 in
      let found = slice_index s.words 2 in
      let w : View O E = record v { known = found } in
      let f = r.each id v at in
      let word = r.word_is in
      let known = f.known in (
        w,
        keeps,
        tt,
        stays 2 s r id v w s.homes at refl refl
            (record {
              few = f.few;
              number = f.number;
              turn = f.turn;
              opening = f.opening;
              seen = f.seen;
              told = f.told;
              whole = f.whole;
              known = omega arith;
              pass = f.pass;
              maker = f.maker;
            })
            r.one
            (λ h. r.home (still s.views id v w at (λ two. omega arith) h)),
        record { view = refl; falls = omega arith; slots = refl },
      )

  pub meets : (slots id : ℕ) (me : Me (Option (Held V E)) (View O E)) → me.0.step ≡ 0
      → Allows Rule slots id me 1 (λ n. n) (Met (step slots 1 0 0 none) me)
  meets slots id me no_turn s r homes at small =
      let v = me.0 in
      let w : View O E = record v { seen = v.seen ++ Rattle.std.proofs.Common.drop (length v.seen) v.told; told = [] } in
      let f = r.each id v at in
      let both = longer_begins v.seen v.told r.m.log f.seen f.told in (
        w,
        keeps,
        tt,
        stays 1 s r id v w s.homes at refl refl
            (record {
              few = f.few;
              number = f.number;
              turn = f.turn;
              opening = f.opening;
              seen = both.0;
              told = prefix_nil r.m.log;
              whole = λ h. absurd (omega arith);
              known = f.known;
              pass = f.pass;
              maker = f.maker;
            })
            r.one
            (λ h. r.home (still s.views id v w at (λ two. omega arith) h)),
        record { view = refl; mine = both.1; theirs = both.2; slots = refl },
      )

  pub begins : (x : V) (word : ℕ) (xs : List (Option (Held V E))) (h : Held V E) → h.value ≡ x → word ≡ cutoff x → xs ≡ Some h ∷ [] → opening x ≡ start → replays x [] → word < 2 ^ 64 → passes < 2 ^ 64
      → Rule (opened (0 ∷ 0 ∷ word ∷ []) xs (maker passes start (cutoff x)))
  begins x word xs h its word_is' is started replayed small few = subst (λ (y : ℕ × List (Option (Held V E))). Rule (opened (0 ∷ 0 ∷ y.0 ∷ []) y.1 (maker passes start (cutoff x)))) (λ i. (sym word_is' i, sym is i)) record {
    m = m;
    started = refl;
    few = few;
    three = refl;
    one = refl;
    next_is = refl;
    serving_is = refl;
    word_is = refl;
    small = omega arith;
    lower = omega arith;
    waiting = refl;
    parts = omega arith;
    none = λ p le. refl;
    each = λ j v e. first j v e;
    home = λ _. (h, refl, record { opening_is = ap opening its ∙ started; replayed = subst (λ y. replays y []) (sym its) replayed; level_is = ap cutoff its });
  }
    where
      m : Moment O E
      m = record { drawn = 0; served = 0; owner = λ _. 0; seat_of = λ _. 0; start = start; log = []; level = cutoff x; word = cutoff x }

      first : (j : ℕ) (v : View O E) → get_elem? (maker passes start (cutoff x) ∷ []) j ≡ some v → Fits by passes m j v
      first zero v e = subst (Fits by passes m 0) (some-injective (maker passes start (cutoff x)) v e) record {
        few = omega arith;
        number = λ h. absurd (omega arith);
        turn = λ h. absurd (omega arith);
        opening = λ _. refl;
        seen = prefix_nil [];
        told = prefix_nil [];
        whole = λ h. absurd (omega arith);
        known = omega arith;
        pass = λ one. absurd (omega arith);
        maker = λ _. record { its = λ p le. refl; none = λ p le. refl };
      }
      first (suc j) v e = absurd (some-ne-none v (sym e))
