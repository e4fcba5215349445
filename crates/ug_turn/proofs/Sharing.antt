-- Seats that are split and joined keep the rule.
use Rattle.std.proofs.Common.{◌≡◌, ◌≢◌, ℕ, ◌+◌, ◌^◌, ◌<◌, List, [], ◌∷◌, length, set, sym, ap, ◌∙◌, subst, ⊎_elim, arith, Option}
use mathlib.Core.Option.{some, some-ne-none}
use mathlib.Core.List.{IsPrefix}
use lib.ListN.{get_elem?}
use Rattle.atomic_table.specs.Table.{Me, Step, Splits, Joins}
use Rattle.atomic_table.proofs.Lists.{at_snoc, at_longer, set_else}
use Rattle.ug_turn.specs.declared.view.View.{View}
use Rattle.ug_turn.specs.declared.view.Ended.{Ended}
use Rattle.ug_turn.specs.declared.held.Held.{Held}
use Rattle.ug_turn.specs.Histories.{longer}
use Rattle.ug_turn.specs.Steps.{Met}
use Rattle.ug_turn.specs.Seats.{HasMet}
use Rattle.ug_turn.specs.Views.{less_one, next_pass, note_of, spent, informed, end_of, with_ended}
use Rattle.ug_turn.specs.Rules.{Moment, KeepsEnd, Fits}
use Rattle.ug_turn.proofs.Lists.{put, put_here, put_else, total_set, total_snoc, still, prefix_nil, at_snoc_place}
use Rattle.ug_turn.proofs.Keeping.{Rule, fits_set, fits_at}

module _ {V O E : Type 0} (opening : V → O) (replays : V → List E → Type 0) (by : E → ℕ) (cutoff : V → ℕ) (passes : ℕ) (start : O) where
  -- a note is made of what a seat has seen
  pub notes : (id : ℕ) (v : View O E) → v.step ≡ 0 → Splits (Rule opening replays by cutoff passes start) id v v (note_of v)
  notes id v no_turn s r at =
      let f = r.each id v at in
      let t1 = total_set (λ u. u.waits) s.views id v v at in
      let t2 = total_set (λ u. u.parts) s.views id v v at in
      let u1 = total_snoc (λ u. u.waits) (set s.views id v) (note_of v) in
      let u2 = total_snoc (λ u. u.parts) (set s.views id v) (note_of v) in
      let a = r.waiting in
      let b = r.parts in record {
        m = r.m;
        started = r.started;
        few = r.few;
        three = r.three;
        one = r.one;
        next_is = r.next_is;
        serving_is = r.serving_is;
        word_is = r.word_is;
        small = r.small;
        lower = r.lower;
        waiting = omega arith;
        parts = omega arith;
        none = r.none;
        each = λ j u e. ⊎_elim
            (λ was. fits_set opening replays by cutoff passes start r.m s.views id v f (λ i x other at'. r.each i x at') j u was)
            (λ (same : note_of v ≡ u). subst (Fits by passes r.m j) same record {
              few = omega arith;
              number = λ h. absurd (omega arith);
              turn = λ h. absurd (omega arith);
              opening = λ h. absurd (omega arith);
              seen = f.seen;
              told = prefix_nil r.m.log;
              whole = λ h. absurd (omega arith);
              known = f.known;
              pass = λ h. absurd (omega arith);
              maker = λ h. absurd (omega arith);
            })
            (at_snoc (set s.views id v) (note_of v) u j e);
        home = λ h. r.home (still s.views id v v at (λ two. omega arith) (λ j u e. h j u (at_longer (set s.views id v) (note_of v ∷ []) j u e)));
      }

  -- the maker makes a pass
  pub makes : (id : ℕ) (v : View O E) → v.role ≡ 2 → v.waits ≡ 0 → v.step ≡ 0 → 0 < v.parts → v.pass < passes → v.mine ≡ [] → v.ended ≡ []
      → Splits (Rule opening replays by cutoff passes start) id v (less_one v) (next_pass v)
  makes id v its_maker no_number no_turn some_left below no_call no_end s r at =
      let m = r.m in
      let w = less_one v in
      let new = next_pass v in
      let place = length (set s.views id w) in
      let seat_of' = put m.seat_of v.pass place in
      let m' : Moment O E = record m { seat_of = seat_of' } in
      let f = r.each id v at in
      let q = f.maker its_maker in
      let t1 = total_set (λ u. u.waits) s.views id v w at in
      let t2 = total_set (λ u. u.parts) s.views id v w at in
      let u1 = total_snoc (λ u. u.waits) (set s.views id w) new in
      let u2 = total_snoc (λ u. u.parts) (set s.views id w) new in
      let a = r.waiting in
      let b = r.parts in
      let few = f.few in
      let kept : (j p : ℕ) → j ≢ id → m.seat_of p ≡ j → seat_of' p ≡ j = λ j p other its.
      put_else m.seat_of v.pass place p (λ same. other (sym its ∙ (ap m.seat_of same ∙ q.its v.pass (omega arith)))) ∙ its
      in record {
        m = m';
        started = r.started;
        few = r.few;
        three = r.three;
        one = r.one;
        next_is = r.next_is;
        serving_is = r.serving_is;
        word_is = r.word_is;
        small = r.small;
        lower = r.lower;
        waiting = omega arith;
        parts = omega arith;
        none = r.none;
        each = λ j u e. ⊎_elim
            (λ was. fits_set opening replays by cutoff passes start m' s.views id w
            (record {
              few = omega arith;
              number = λ h. absurd (omega arith);
              turn = λ h. absurd (omega arith);
              opening = f.opening;
              seen = f.seen;
              told = f.told;
              whole = λ h. absurd (omega arith);
              known = f.known;
              pass = λ h. absurd (omega arith);
              maker = λ h. record { its = λ p le. put_else m.seat_of v.pass place p (λ same. omega arith) ∙ q.its p (omega arith); none = λ p le. q.none p (omega arith) };
            })
            (λ i x other at'. let g = r.each i x at' in record {
              few = g.few;
              number = g.number;
              turn = g.turn;
              opening = g.opening;
              seen = g.seen;
              told = g.told;
              whole = g.whole;
              known = g.known;
              pass = λ role. let y = g.pass role in record {
                below = y.below;
                its = kept i x.pass other y.its;
                own = y.own;
                ends = λ k e there. let z = y.ends k e there in record { seen = z.seen; mine = z.mine; kept = kept i e.pass other z.kept; other = z.other };
              };
              maker = λ role. let y = g.maker role in absurd (other (sym (y.its (x.pass + v.pass) (omega arith)) ∙ q.its (x.pass + v.pass) (omega arith)));
            })
            j u was)
            (λ (t : (j ≡ place) × (new ≡ u)). subst (λ (y : ℕ × View O E). Fits by passes m' y.0 y.1) (λ i. (sym t.0 i, t.1 i)) record {
              few = omega arith;
              number = λ h. absurd (omega arith);
              turn = λ h. absurd (omega arith);
              opening = λ h. f.opening (omega arith);
              seen = f.seen;
              told = f.told;
              whole = λ h. absurd (omega arith);
              known = f.known;
              pass = λ h. record {
                below = below;
                its = put_here m.seat_of v.pass place;
                own = q.none v.pass (omega arith);
                ends = λ k e there. absurd (some-ne-none e (sym there ∙ ap (λ (l : List (Ended E)). get_elem? l k) no_end));
              };
              maker = λ h. absurd (omega arith);
            })
            (at_snoc_place (set s.views id w) new u j e);
        home = λ h. r.home (still s.views id v w at (λ two. omega arith) (λ j u e. h j u (at_longer (set s.views id w) (new ∷ []) j u e)));
      }

  -- what a spent seat knows fits always
  idle : (m : Moment O E) (j : ℕ) → m.word < 2 ^ 64 → Fits by passes m j spent
  idle m j small = record {
    few = omega arith;
    number = λ h. absurd (omega arith);
    turn = λ h. absurd (omega arith);
    opening = λ h. absurd (omega arith);
    seen = prefix_nil m.log;
    told = prefix_nil m.log;
    whole = λ h. absurd (omega arith);
    known = omega arith;
    pass = λ h. absurd (omega arith);
    maker = λ h. absurd (omega arith);
  }

  -- a note is given to a seat
  pub tells : (id : ℕ) (v : View O E) (other : ℕ) (w : View O E) → v.step ≡ 0 → w.parts ≡ 0 → Joins (Rule opening replays by cutoff passes start) id v other w (informed v w) spent
  tells id v other w no_turn no_part s r at apart there =
      let m = r.m in
      let x = informed v w in
      let at_other : get_elem? s.views other ≡ some w = sym (set_else s.views id other x apart) ∙ there in
      let f = r.each id v at in
      let g = r.each other w at_other in
      let few = g.few in
      let known = f.known in
      let known' = g.known in
      let no_wait : w.waits ≡ 0 = omega arith in
      let t1 = total_set (λ u. u.waits) s.views id v x at in
      let t2 = total_set (λ u. u.parts) s.views id v x at in
      let u1 = total_set (λ u. u.waits) (set s.views id x) other w spent there in
      let u2 = total_set (λ u. u.parts) (set s.views id x) other w spent there in
      let a = r.waiting in
      let b = r.parts in
      let no_turn' : w.step ≢ 2 = λ two. let t = g.turn (omega arith) in let t' = t.0 in omega arith in record {
        m = r.m;
        started = r.started;
        few = r.few;
        three = r.three;
        one = r.one;
        next_is = r.next_is;
        serving_is = r.serving_is;
        word_is = r.word_is;
        small = r.small;
        lower = r.lower;
        waiting = omega arith;
        parts = omega arith;
        none = r.none;
        each = fits_set opening replays by cutoff passes start m (set s.views id x) other spent (idle m other r.small)
            (λ j u _ e. fits_set opening replays by cutoff passes start m s.views id x
            (record {
              few = f.few;
              number = f.number;
              turn = f.turn;
              opening = f.opening;
              seen = f.seen;
              told = g.seen;
              whole = f.whole;
              known = omega arith;
              pass = f.pass;
              maker = f.maker;
            })
            (λ i y _ e'. r.each i y e') j u e);
        home = λ h. r.home (still s.views id v x at (λ two. omega arith) (still (set s.views id x) other w spent there no_turn' h));
      }

  -- a pass ends with another
  pub ends : (id : ℕ) (v : View O E) (other : ℕ) (w : View O E) → v.role ≡ 1 → v.step ≡ 0 → w.role ≡ 1 → w.waits ≡ 0 → w.step ≡ 0
      → Joins (Rule opening replays by cutoff passes start) id v other w (with_ended v w) spent
  ends id v other w its_pass no_turn its_pass' no_number' no_turn' s r at apart there =
      let m = r.m in
      let x = with_ended v w in
      let at_other : get_elem? s.views other ≡ some w = sym (set_else s.views id other x apart) ∙ there in
      let f = r.each id v at in
      let g = r.each other w at_other in
      let q = f.pass its_pass in
      let p' = g.pass its_pass' in
      let seat_of' = put m.seat_of w.pass id in
      let m' : Moment O E = record m { seat_of = seat_of' } in
      let few = f.few in
      let t1 = total_set (λ u. u.waits) s.views id v x at in
      let t2 = total_set (λ u. u.parts) s.views id v x at in
      let u1 = total_set (λ u. u.waits) (set s.views id x) other w spent there in
      let u2 = total_set (λ u. u.parts) (set s.views id x) other w spent there in
      let a = r.waiting in
      let b = r.parts in
      let differs : (j p : ℕ) → j ≢ other → m.seat_of p ≡ j → p ≢ w.pass = λ j p not_other its same. not_other (sym its ∙ (ap m.seat_of same ∙ p'.its)) in
      let kept : (j p : ℕ) → j ≢ other → m.seat_of p ≡ j → seat_of' p ≡ j = λ j p not_other its. put_else m.seat_of w.pass id p (differs j p not_other its) ∙ its in
      let id_apart : id ≢ other = λ same. apart (sym same) in record {
        m = m';
        started = r.started;
        few = r.few;
        three = r.three;
        one = r.one;
        next_is = r.next_is;
        serving_is = r.serving_is;
        word_is = r.word_is;
        small = r.small;
        lower = r.lower;
        waiting = omega arith;
        parts = omega arith;
        none = r.none;
        each = fits_set opening replays by cutoff passes start m' (set s.views id x) other spent (idle m' other r.small)
            (λ j u not_other e. fits_at opening replays by cutoff passes start m' s.views id x j u
            (record {
              few = omega arith;
              number = f.number;
              turn = f.turn;
              opening = f.opening;
              seen = f.seen;
              told = f.told;
              whole = f.whole;
              known = f.known;
              pass = λ h. record {
                below = q.below;
                its = kept id v.pass id_apart q.its;
                own = q.own;
                ends = λ k e standing. ⊎_elim
                    (λ was. let z = q.ends k e was in record { seen = z.seen; mine = z.mine; kept = kept id e.pass id_apart z.kept; other = z.other })
                    (λ (same : end_of w ≡ e). subst (KeepsEnd by seat_of' m.log id v.pass) same record { seen = g.seen; mine = p'.own; kept = put_here m.seat_of w.pass id; other = λ is. differs id v.pass id_apart q.its (sym is) })
                    (at_snoc v.ended (end_of w) e k standing);
              };
              maker = λ h. absurd (omega arith);
            })
            (λ not_id e'. let z = r.each j u e' in record {
              few = z.few;
              number = z.number;
              turn = z.turn;
              opening = z.opening;
              seen = z.seen;
              told = z.told;
              whole = z.whole;
              known = z.known;
              pass = λ role. let y = z.pass role in record {
                below = y.below;
                its = kept j u.pass not_other y.its;
                own = y.own;
                ends = λ k e there. let x' = y.ends k e there in record { seen = x'.seen; mine = x'.mine; kept = kept j e.pass not_other x'.kept; other = x'.other };
              };
              maker = λ role. let y = z.maker role in record { its = λ p le. kept j p not_other (y.its p le); none = y.none };
            })
            e);
        home = λ h. r.home (still s.views id v x at (λ two. omega arith) (still (set s.views id x) other w spent there (λ two. omega arith) h));
      }

module _ {V O E : Type 0} where
  -- a seat that was given a note has no turn still
  pub told_step : (m m' : Me (Option (Held V E)) (View O E)) (w : View O E) → m' ≡ (informed m.0 w, m.1) → m.0.step ≡ 0 → m'.0.step ≡ 0
  told_step m m' w is no_turn = ap (λ (x : Me (Option (Held V E)) (View O E)). x.0.step) is ∙ no_turn

  -- what it knows after it has seen what the note has
  pub met_of : (st : Step (Option (Held V E))) (m m' m'' : Me (Option (Held V E)) (View O E)) (found : ℕ) (w : View O E) → m' ≡ (informed m.0 w, m.1) → Met st m' found m'' → HasMet m.0 w.seen w.known m''.0
  met_of st m m' m'' found w is met =
      let view : m'.0 ≡ informed m.0 w = ap (λ (x : Me (Option (Held V E)) (View O E)). x.0) is in record {
        view = met.view ∙ ap (λ (x : View O E). record x { seen = longer x.seen x.told; told = [] }) view;
        mine = subst (λ (x : View O E). IsPrefix x.seen m''.0.seen) view met.mine;
        theirs = subst (λ (x : View O E). IsPrefix x.told m''.0.seen) view met.theirs;
      }
