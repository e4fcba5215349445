use Rattle.std.proofs.Common.{List, ℕ, subst}
use Rattle.ug_disk.specs.Crashes.{Leaves}
use Rattle.ug_checkpoint.specs.SlotPairs.{last_of, target_of}
use Rattle.ug_checkpoint.proofs.Going.{becomes_is, becomes_same, stands_after, stands_all}
use Rattle.ug_checkpoint.specs.Runs.{Becomes, OnlyOpens, IsOldOrNew, MaySave, HasSaved}
use Rattle.ug_checkpoint.specs.Bodies.{Has, body_of}
use Rattle.ug_checkpoint.proofs.Finding.{has_new}
use Rattle.ug_checkpoint.proofs.Keeping.{kept_saved, kept_failed}
use Rattle.ug_checkpoint.proofs.Saving.{safe, safe_before, finds}
use Rattle.ug_checkpoint.proofs.saver.Saver.save.Goals as goal

pub returns-in_err-buffer-clause-any_moment : goal.returns-in_err-buffer-clause-any_moment
returns-in_err-buffer-clause-any_moment g c =
    let saver = c.args.self.now in
    let image = c.args.image.now in
    safe_before (last_of saver.slot_pair) saver.sequence (g.D.Disk.seen c.args.disk.now).told image
    (λ slot. has_new image slot c.requires.image c.requires.fits) c.requires.next
    (c.requires.kept.rests, c.requires.kept.images)

pub returns-in-Err-clause-any_moment : goal.returns-in-Err-clause-any_moment
returns-in-Err-clause-any_moment g c =
    let saver = c.args.self.now in
    let image = c.args.image.now in
    safe_before (last_of saver.slot_pair) saver.sequence (g.D.Disk.seen c.args.disk.now).told image
    (λ slot. has_new image slot c.requires.image c.requires.fits) c.requires.next
    (c.requires.kept.rests, c.requires.kept.images)

pub returns-in_err-saved-clause-any_moment : goal.returns-in_err-saved-clause-any_moment
returns-in_err-saved-clause-any_moment g c =
    let saver = c.args.self.now in
    let image = c.args.image.now in
    let old = (g.D.Disk.seen c.args.disk.now).told in
    let new = (g.D.Disk.seen c.save-saved.new.disk).told in
    safe (last_of saver.slot_pair) saver.sequence old new image
    (λ slot. has_new image slot c.requires.image c.requires.fits) c.requires.next
    (c.requires.kept.rests, c.requires.kept.images)
    (subst (λ (b : List ℕ). Leaves (OnlyOpens old (target_of saver.slot_pair) (IsOldOrNew b)) old new)
    c.in-Ok.ensures.rest c.save-saved.ensures.any_moment)

pub returns-in_err-saved-clause-kept : goal.returns-in_err-saved-clause-kept
returns-in_err-saved-clause-kept g c =
    let saver = c.args.self.now in
    let image = c.args.image.now in
    let old = (g.D.Disk.seen c.args.disk.now).told in
    let new = (g.D.Disk.seen c.save-saved.new.disk).told in
    kept_failed saver.slot_pair c.save-saved.new.self old new saver.sequence image
    (λ slot. has_new image slot c.requires.image c.requires.fits) c.requires.kept
    c.save-saved.ensures.knows c.in_err-saved.ensures.kept
    (subst (λ (b : List ℕ). Becomes old new (target_of saver.slot_pair) (MaySave b))
    c.in-Ok.ensures.rest c.save-saved.ensures.now)

pub returns-clause-any_moment : goal.returns-clause-any_moment
returns-clause-any_moment g c =
    let saver = c.args.self.now in
    let image = c.args.image.now in
    let old = (g.D.Disk.seen c.args.disk.now).told in
    let new = (g.D.Disk.seen c.save-saved.new.disk).told in
    safe (last_of saver.slot_pair) saver.sequence old new image
    (λ slot. has_new image slot c.requires.image c.requires.fits) c.requires.next
    (c.requires.kept.rests, c.requires.kept.images)
    (subst (λ (b : List ℕ). Leaves (OnlyOpens old (target_of saver.slot_pair) (IsOldOrNew b)) old new)
    c.in-Ok.ensures.rest c.save-saved.ensures.any_moment)

pub returns-clause-acknowledged : goal.returns-clause-acknowledged
returns-clause-acknowledged g c =
    let saver = c.args.self.now in
    let image = c.args.image.now in
    let old = (g.D.Disk.seen c.args.disk.now).told in
    let new = (g.D.Disk.seen c.save-saved.new.disk).told in
    finds (last_of saver.slot_pair) saver.sequence old new image
    (λ slot. has_new image slot c.requires.image c.requires.fits) c.requires.next
    (c.requires.kept.rests, c.requires.kept.images)
    (subst (λ (b : List ℕ). Becomes old new (target_of saver.slot_pair) (HasSaved b))
    c.in-Ok.ensures.rest c.in_ok-saved.ensures.saved)

pub returns-clause-kept : goal.returns-clause-kept
returns-clause-kept g c =
    let saver = c.args.self.now in
    let image = c.args.image.now in
    let old = (g.D.Disk.seen c.args.disk.now).told in
    let new = (g.D.Disk.seen c.save-saved.new.disk).told in
    kept_saved saver.slot_pair c.save-saved.new.self old new saver.sequence image
    (λ slot. has_new image slot c.requires.image c.requires.fits) c.requires.kept
    c.save-saved.ensures.knows c.in_ok-saved.ensures.last
    (subst (λ (b : List ℕ). Becomes old new (target_of saver.slot_pair) (HasSaved b))
    c.in-Ok.ensures.rest c.in_ok-saved.ensures.saved)

pub returns-in_err-buffer-clause-alone : goal.returns-in_err-buffer-clause-alone
returns-in_err-buffer-clause-alone g c =
    let told = (g.D.Disk.seen c.args.disk.now).told in
    let slot = target_of c.args.self.now.slot_pair in
    becomes_same (λ a b. Unit {0}) told slot (stands_all (λ s. Unit {0}) told slot (λ s. tt))

pub returns-in-Err-clause-alone : goal.returns-in-Err-clause-alone
returns-in-Err-clause-alone g c =
    let told = (g.D.Disk.seen c.args.disk.now).told in
    let slot = target_of c.args.self.now.slot_pair in
    becomes_same (λ a b. Unit {0}) told slot (stands_all (λ s. Unit {0}) told slot (λ s. tt))

pub returns-in_err-saved-clause-alone : goal.returns-in_err-saved-clause-alone
returns-in_err-saved-clause-alone g c =
    becomes_is _ (λ a b. Unit {0}) (g.D.Disk.seen c.args.disk.now).told (g.D.Disk.seen c.save-saved.new.disk).told
    (target_of c.args.self.now.slot_pair) c.save-saved.ensures.now (λ a b r. tt)

pub returns-clause-alone : goal.returns-clause-alone
returns-clause-alone g c =
    becomes_is _ (λ a b. Unit {0}) (g.D.Disk.seen c.args.disk.now).told (g.D.Disk.seen c.save-saved.new.disk).told
    (target_of c.args.self.now.slot_pair) c.save-saved.ensures.now (λ a b r. tt)

pub returns-clause-written : goal.returns-clause-written
returns-clause-written g c =
    let image = c.args.image.now in
    let old = (g.D.Disk.seen c.args.disk.now).told in
    let new = (g.D.Disk.seen c.save-saved.new.disk).told in
    let slot = target_of c.args.self.now.slot_pair in
    stands_after (HasSaved (body_of image)) (λ state. Has state.bytes image) old new slot
    (subst (λ (b : List ℕ). Becomes old new slot (HasSaved b))
    c.in-Ok.ensures.rest c.in_ok-saved.ensures.saved)
    (λ before after saved. has_new image after.bytes c.requires.image c.requires.fits saved.1)
