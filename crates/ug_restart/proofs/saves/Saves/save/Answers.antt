use Rattle.std.proofs.Common.{◌≡◌, Some, IfSome, inl, refl, sym, subst, ◌∙◌, arith}
use Rattle.ug_checkpoint.specs.Causes.{save_cause}
use Rattle.ug_checkpoint.specs.declared.error.SaveError.{SaveError}
use Rattle.ug_checkpoint.specs.Savers.{last_slot, next_slot}
use Rattle.ug_snapshot.specs.Moments.{IsCovered}
use Rattle.ug_restart.specs.Moments.{IsOfRun}
use Rattle.ug_restart.specs.Saves.{IsNext, book_of}
use Rattle.ug_restart.proofs.Covering.{covered_failed, covered_saved, nothing_done, saving}
use Rattle.ug_restart.proofs.Finds.{found_failed, found_saved}
use Rattle.ug_restart.proofs.Lasts.{last_now, last_still}
use Rattle.ug_restart.proofs.Going.{failed, made, not_made, unmade}
use Rattle.ug_restart.proofs.Making.{of_some}
use Rattle.ug_restart.proofs.saves.Saves.save.Goals as goal

pub save-requires-clause-next : goal.save-requires-clause-next
save-requires-clause-next g c =
    let is = of_some c.args.image (IsNext c.args.self.now.saver) c.in-Some.image c.requires.image
    c.in-Some.is in
    omega (arith, is.next)

pub returns-in-Ok-clause-by_one : goal.returns-in-Ok-clause-by_one
returns-in-Ok-clause-by_one g c =
    let is = of_some c.args.image (IsNext c.args.self.now.saver) c.in-Some.image c.requires.image
    c.in-Some.is in
    record {
      missed = omega arith;
      unsaved = omega arith;
      one = inl refl;
      sequence = omega (arith, c.in-Ok.ensures.sequence, is.next);
    }

pub returns-in-Ok-clause-became : goal.returns-in-Ok-clause-became
returns-in-Ok-clause-became g c =
    let is = of_some c.args.image (IsNext c.args.self.now.saver) c.in-Some.image c.requires.image
    c.in-Some.is in (
      record {
        found = record { slot = next_slot c.args.self.now.saver; image = c.in-Some.image };
        finds = c.in-Ok.ensures.acknowledged;
        is = record { is = c.in-Some.is; sequence = sym c.in-Ok.ensures.sequence };
      },
      c.in-Ok.ensures.sequence ∙ is.next,
      refl,
      refl,
    )

pub returns-in_default-clause-any_moment : goal.returns-in_default-clause-any_moment
returns-in_default-clause-any_moment g c =
    nothing_done c.args.self.now.saver _ _ (λ made. c.args.image ≡ Some made) refl

pub returns-in_default-clause-goes_on : goal.returns-in_default-clause-goes_on
returns-in_default-clause-goes_on g c =
    not_made (IfSome c.args.image IsCovered)
    (IfSome c.args.image (IsOfRun (book_of c.args.self.now))) c.args.self.now c.one_more-self.result _ _
    c.one_more-self.ensures.least refl refl

pub returns-then-not-is_short-clause-any_moment : goal.returns-then-not-is_short-clause-any_moment
returns-then-not-is_short-clause-any_moment g c =
    nothing_done c.args.self.now.saver _ _ (λ made. c.args.image ≡ Some made) refl

pub returns-then-not-is_short-clause-goes_on : goal.returns-then-not-is_short-clause-goes_on
returns-then-not-is_short-clause-goes_on g c =
    not_made (IfSome c.args.image IsCovered)
    (IfSome c.args.image (IsOfRun (book_of c.args.self.now))) c.args.self.now
    c.one_more-self-then-not-is_short.result _ _
    c.one_more-self-then-not-is_short.ensures.least refl refl

pub returns-in-Ok-clause-any_moment : goal.returns-in-Ok-clause-any_moment
returns-in-Ok-clause-any_moment g c =
    saving c.args.self.now.saver _ _ c.in-Some.image (λ made. c.args.image ≡ Some made)
    c.in-Some.is c.save.ensures.any_moment

pub returns-in-Ok-clause-goes_on : goal.returns-in-Ok-clause-goes_on
returns-in-Ok-clause-goes_on g c =
    made (IfSome c.args.image IsCovered)
    (IfSome c.args.image (IsOfRun (book_of c.args.self.now))) c.args.self.now c.save.new.self _ _ c.in-Ok.ensures.cause
    (λ covers now. covered_saved c.args.self.now.saver c.save.new.self _ _ c.in-Some.image
    (of_some c.args.image IsCovered c.in-Some.image covers c.in-Some.is)
    c.save.ensures.any_moment
    (last_now (last_slot c.save.new.self) (next_slot c.args.self.now.saver)
    (g.D.Disk.seen c.save.new.disk).told c.in-Some.image c.in-Ok.ensures.last
    c.in-Ok.ensures.written) now)
    (λ ours now. found_saved (IsOfRun (book_of c.args.self.now)) c.args.self.now.saver
    c.save.new.self _ _ c.in-Some.image
    (of_some c.args.image (IsOfRun (book_of c.args.self.now)) c.in-Some.image ours c.in-Some.is)
    c.save.ensures.any_moment
    (last_now (last_slot c.save.new.self) (next_slot c.args.self.now.saver)
    (g.D.Disk.seen c.save.new.disk).told c.in-Some.image c.in-Ok.ensures.last
    c.in-Ok.ensures.written) now)

pub returns-in-Err-Memory-clause-any_moment : goal.returns-in-Err-Memory-clause-any_moment
returns-in-Err-Memory-clause-any_moment g c =
    saving c.args.self.now.saver _ _ c.in-Some.image (λ made. c.args.image ≡ Some made)
    c.in-Some.is c.save.ensures.any_moment

pub returns-in-Err-Memory-clause-goes_on : goal.returns-in-Err-Memory-clause-goes_on
returns-in-Err-Memory-clause-goes_on g c =
    unmade (IfSome c.args.image IsCovered)
    (IfSome c.args.image (IsOfRun (book_of c.args.self.now))) c.args.self.now c.save.new.self
    c.one_more-self-in-Err-Memory.result _ _
    c.one_more-self-in-Err-Memory.ensures.least
    (subst (λ (e : SaveError). save_cause e (g.D.Disk.seen c.args.disk.now).faults
    (g.D.Disk.seen c.save.new.disk).faults) c.in-Err-Memory.field-0-is
    c.in-Err-Memory.ensures.cause)
    (λ covers now. covered_failed c.args.self.now.saver c.save.new.self _ _ c.in-Some.image
    (of_some c.args.image IsCovered c.in-Some.image covers c.in-Some.is)
    c.save.ensures.any_moment
    (last_still (last_slot c.args.self.now.saver) (last_slot c.save.new.self)
    (g.D.Disk.seen c.args.disk.now).told (g.D.Disk.seen c.save.new.disk).told
    c.in-Err-Memory.ensures.err_last c.save.ensures.alone) now)
    (λ ours now. found_failed (IsOfRun (book_of c.args.self.now)) c.args.self.now.saver
    c.save.new.self _ _ c.in-Some.image
    (of_some c.args.image (IsOfRun (book_of c.args.self.now)) c.in-Some.image ours c.in-Some.is)
    c.save.ensures.any_moment
    (last_still (last_slot c.args.self.now.saver) (last_slot c.save.new.self)
    (g.D.Disk.seen c.args.disk.now).told (g.D.Disk.seen c.save.new.disk).told
    c.in-Err-Memory.ensures.err_last c.save.ensures.alone) now)

pub returns-in-Err-Fault-clause-any_moment : goal.returns-in-Err-Fault-clause-any_moment
returns-in-Err-Fault-clause-any_moment g c =
    saving c.args.self.now.saver _ _ c.in-Some.image (λ made. c.args.image ≡ Some made)
    c.in-Some.is c.save.ensures.any_moment

pub returns-in-Err-Fault-clause-goes_on : goal.returns-in-Err-Fault-clause-goes_on
returns-in-Err-Fault-clause-goes_on g c =
    failed (IfSome c.args.image IsCovered)
    (IfSome c.args.image (IsOfRun (book_of c.args.self.now))) c.args.self.now c.save.new.self
    c.one_more-self-in-Err-Fault.result _ _
    c.one_more-self-in-Err-Fault.ensures.least c.one_more-self-in-Err-Fault.ensures.most
    c.one_more-self-in-Err-Fault.ensures.rises
    (subst (λ (e : SaveError). save_cause e (g.D.Disk.seen c.args.disk.now).faults
    (g.D.Disk.seen c.save.new.disk).faults) c.in-Err-Fault.field-0-is
    c.in-Err-Fault.ensures.cause)
    (λ covers now. covered_failed c.args.self.now.saver c.save.new.self _ _ c.in-Some.image
    (of_some c.args.image IsCovered c.in-Some.image covers c.in-Some.is)
    c.save.ensures.any_moment
    (last_still (last_slot c.args.self.now.saver) (last_slot c.save.new.self)
    (g.D.Disk.seen c.args.disk.now).told (g.D.Disk.seen c.save.new.disk).told
    c.in-Err-Fault.ensures.err_last c.save.ensures.alone) now)
    (λ ours now. found_failed (IsOfRun (book_of c.args.self.now)) c.args.self.now.saver
    c.save.new.self _ _ c.in-Some.image
    (of_some c.args.image (IsOfRun (book_of c.args.self.now)) c.in-Some.image ours c.in-Some.is)
    c.save.ensures.any_moment
    (last_still (last_slot c.args.self.now.saver) (last_slot c.save.new.self)
    (g.D.Disk.seen c.args.disk.now).told (g.D.Disk.seen c.save.new.disk).told
    c.in-Err-Fault.ensures.err_last c.save.ensures.alone) now)
