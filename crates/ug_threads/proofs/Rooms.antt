-- A desk that is opened, and one that is closed.
use Rattle.std.proofs.Common.{◌≡◌, ℕ, zero, suc, ◌<◌, List, [], ◌∷◌, length, Some, refl, sym, ◌∙◌, subst, arith}
use Rattle.std.specs.Prelude.{slice_get}
use Rattle.ug_book.specs.declared.opening.Opening.{Opening}
use Rattle.ug_desk.specs.declared.desk.Desk.{Desk}
use Rattle.ug_desk.specs.Entries.{LockedState}
use Rattle.ug_desk.specs.Histories.{Entry}
use Rattle.ug_desk.specs.Passes.{AreNewPasses, IsClosed, IsInHistory, PassState, calls_of, lock_of_desk, width_of}
use Rattle.ug_threads.specs.Traces.{IsTrace, IsLedByWorkers}
use Rattle.ug_threads.specs.Actions.{Away}
use Rattle.ug_threads.specs.Rooms.{AreAllOf}
use Rattle.ug_threads.proofs.Traces.{come_new, within_more}

-- a list has an item at each place within it
some_at : (passes : List PassState) (k : ℕ) → k < length passes
    → (p : PassState) × (slice_get passes k ≡ Some p)
some_at [] k here = absurd (omega (arith, here))
some_at (p ∷ passes) zero here = (p, refl)
some_at (p ∷ passes) (suc k) here = some_at passes k (omega (arith, here))

-- the passes of a desk that is new
pub all_new : (d : Desk) (o : Opening) (passes : List PassState) → length passes ≡ o.settings.solvers
    → width_of d ≡ o.settings.solvers → AreNewPasses (lock_of_desk d) o passes → AreAllOf d o passes
all_new d o passes count wide new = record {
  at = λ k p there. record {
    lock = (new k p there).lock_is;
    opened = (new k p there).opened;
    trace = come_new p (new k p there).mine;
  };
  count = count ∙ sym wide;
  wide = wide;
  each = λ r below.
      let (p, there) = some_at passes r (omega (arith, below, count, wide)) in
      (r, p, there, (new r p there).rank_is);
}

-- the trace of a pass is what its entries in the history are
pass_worked : (o : Opening) (p : PassState) (history : List Entry) (r : ℕ) → p.rank ≡ r
    → IsInHistory history p → IsTrace o p.rank p.seen p.mine Away
    → IsTrace o r history (calls_of r history) Away
pass_worked o p history r own in_ c =
    subst (λ (k : ℕ). IsTrace o k history (calls_of k history) Away) own (record {
      actions = c.actions;
      lead = c.lead;
      calls = c.calls ∙ sym in_.own;
      within = within_more p.seen history c.actions in_.begins c.within;
    })

-- what stands where a desk is closed
pub worked_of : (d : Desk) (o : Opening) (passes : List PassState) (l : LockedState) → AreAllOf d o passes
    → IsClosed passes l → IsLedByWorkers o l
worked_of d o passes l all closed = record {
  history = closed.history;
  replayed = closed.replayed;
  each = λ r below.
      let (k, p, there, own) = all.each r (omega (arith, below, all.wide)) in
      let in_ = closed.each k p there in
      let at = all.at k p there in
      pass_worked o p closed.history r own in_ (at.trace o at.opened).trace;
  none = λ r above. closed.none r (omega (arith, above, all.count, all.wide));
}
