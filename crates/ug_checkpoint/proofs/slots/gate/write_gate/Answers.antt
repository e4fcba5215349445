use Rattle.std.proofs.Common.{◌≡◌, inr, [], ◌∷◌, ℕ, subst, ap}
use Rattle.ug_disk.specs.Slots.{SlotState, IsReal, synced, written}
use Rattle.ug_disk.specs.Crashes.{MayLeaveWriting}
use Rattle.ug_disk.proofs.Moments.{steps_on, fails_on}
use Rattle.ug_disk.proofs.Writing.{write_leaves, failed_write_leaves, after_write, after_sync, after_failed_sync}
use Rattle.ug_checkpoint.specs.Gates.{MayBeLoose}
use Rattle.ug_checkpoint.specs.Runs.{Becomes}
use Rattle.ug_checkpoint.proofs.Going.{on_err, Becoming, any_place, becomes_none, becomes_steps, becomes_fails}
use Rattle.ug_checkpoint.proofs.Shutting.{written_is_loose}
use Rattle.ug_checkpoint.proofs.slots.gate.write_gate.Goals as goal

pub returns-in_err-write_at-clause-any_moment : goal.returns-in_err-write_at-clause-any_moment
returns-in_err-write_at-clause-any_moment g c =
    failed_write_leaves (g.D.Disk.seen c.args.disk.now).told (g.D.Disk.seen c.write_at.new.self).told
    c.args.slot 0 1 c.in_err-write_at.ensures.err

-- it was written, and the slot was real before
abbrev WasWritten : ℕ → Becoming
WasWritten byte before after = IsReal before × (after ≡ written 0 (byte ∷ []) before)

was_written : (byte : ℕ) (a b : SlotState) → b ≡ a → IsReal b
    → WasWritten byte a (written 0 (byte ∷ []) b)
was_written byte a b same real = (
  subst (λ s. IsReal s) same real,
  ap (λ (s : SlotState). written 0 (byte ∷ []) s) same,
)

still_loose : (byte : ℕ) (a b : SlotState) → WasWritten byte a b → IsReal b → MayBeLoose a b
still_loose byte a b was real = inr (written_is_loose a b byte b.bytes was.0 was.1 real)

pub returns-in_err-sync-clause-err : goal.returns-in_err-sync-clause-err
returns-in_err-sync-clause-err g c =
    let old = (g.D.Disk.seen c.args.disk.now).told in
    let mid = (g.D.Disk.seen c.write_at.new.self).told in
    let new = (g.D.Disk.seen c.sync.new.self).told in
    let byte = c.byte_of.result in
    let same : Becoming = λ a b. b ≡ a in
    let wrote = becomes_steps same (WasWritten byte) old old mid c.args.slot
    (λ s. written 0 (byte ∷ []) s) (becomes_none old c.args.slot) c.write_at.ensures.real
    c.in_ok-write_at.ensures.ok (was_written byte) in
    on_err c.from_residual-in_err-sync.result (Becomes old new c.args.slot MayBeLoose)
    (becomes_fails (WasWritten byte) MayBeLoose old mid new c.args.slot (λ s. s) wrote
    c.sync.ensures.real c.in_err-sync.ensures.err (still_loose byte)
    (λ a b bytes was real left. inr (written_is_loose a b byte bytes was.0 was.1 left)))

pub returns-in_err-sync-clause-any_moment : goal.returns-in_err-sync-clause-any_moment
returns-in_err-sync-clause-any_moment g c =
    let old = (g.D.Disk.seen c.args.disk.now).told in
    let mid = (g.D.Disk.seen c.write_at.new.self).told in
    let new = (g.D.Disk.seen c.sync.new.self).told in
    let P = MayLeaveWriting old c.args.slot 0 1 in
    let wrote = c.in_ok-write_at.ensures.ok in
    let here = any_place old c.args.slot in
    let now = after_write old mid c.args.slot 0 (c.byte_of.result ∷ []) c.write_at.ensures.real here
    wrote in
    fails_on P old mid new c.args.slot (λ s. s) (write_leaves old mid c.args.slot 0
    (c.byte_of.result ∷ []) c.write_at.ensures.real here wrote)
    c.in_err-sync.ensures.err (after_failed_sync P mid new c.args.slot c.in_err-sync.ensures.err
    now)

pub returns-clause-any_moment : goal.returns-clause-any_moment
returns-clause-any_moment g c =
    let old = (g.D.Disk.seen c.args.disk.now).told in
    let mid = (g.D.Disk.seen c.write_at.new.self).told in
    let new = (g.D.Disk.seen c.sync.new.self).told in
    let P = MayLeaveWriting old c.args.slot 0 1 in
    let wrote = c.in_ok-write_at.ensures.ok in
    let here = any_place old c.args.slot in
    let now = after_write old mid c.args.slot 0 (c.byte_of.result ∷ []) c.write_at.ensures.real here
    wrote in
    steps_on P old mid new c.args.slot (λ state. synced state.bytes) (write_leaves old mid
    c.args.slot 0 (c.byte_of.result ∷ []) c.write_at.ensures.real here wrote)
    c.in_ok-sync.ensures.ok (after_sync P mid new c.args.slot c.sync.ensures.real
    c.in_ok-sync.ensures.ok now)
