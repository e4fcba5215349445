use Rattle.std.proofs.Common.{◌≡◌, ℕ, ◌+◌, ◌≤◌, List, length, take, drop, refl, ap, ◌∙◌, arith, rules}
use Rattle.std.proofs.lemmas.List.{length-drop, drop-drop}
use Rattle.ug_disk.specs.Slots.{SlotState, MayLeave, IsReal, loosened, written}
use Rattle.ug_checkpoint.specs.Gates.{Opens, IsShut, HasBehind}
use Rattle.ug_checkpoint.proofs.Behind.{behind_fits, behind_more, behind_all}
use Rattle.ug_checkpoint.proofs.Going.{Becoming, Opened, becomes_same, becomes_steps, becomes_fails, becomes_is, only_starts, only_steps, only_fails, stands_is}
use Rattle.ug_checkpoint.proofs.Shutting.{shut_opens_nothing, shut_loosened, shut_written}
use Rattle.ug_checkpoint.proofs.slots.blocks.write_blocks.Goals as goal

-- the gate is shut, and behind it stand the first bytes of the body
abbrev Front : List ℕ → ℕ → Becoming
Front body w before after = IsShut after × HasBehind (take w body) after.bytes

abbrev Nothing : Opened
Nothing before image = ⊥

abbrev StaysShut : Becoming
StaysShut before after = IsShut after

pub loop-slot-init : goal.loop-slot-init
loop-slot-init g c =
    let body = g.P.Pieces.rest c.args.pieces.now in
    let old = (g.D.Disk.seen c.args.disk.now).told in
    record {
      state = becomes_same (Front body 0) old c.args.slot
          (stands_is IsShut (λ s. Front body 0 s s) old c.args.slot c.requires.shut
          (λ s shut. (shut, refl)));
      leaves = only_starts Nothing old c.args.slot
          (stands_is IsShut (λ s. Opens (λ image. ⊥) s) old c.args.slot c.requires.shut
          shut_opens_nothing);
      rest = refl;
      within = omega arith;
      room = c.requires.room;
      calm = refl;
    }

pub returns-then-n-eq0-clause-ok : goal.returns-then-n-eq0-clause-ok
returns-then-n-eq0-clause-ok g c =
    let body = g.P.Pieces.rest c.args.pieces.now in
    let w = c.loop-slot.written in
    let so_far = c.loop-slot.invariant in
    let left = ap (λ (l : List ℕ). length l) so_far.rest in
    let T : Becoming = λ a b. IsShut b × HasBehind body b.bytes in
    becomes_is (Front body w) T (g.D.Disk.seen c.args.disk.now).told (g.D.Disk.seen c.loop-slot.disk).told
    c.args.slot so_far.state (λ a b front. (
      front.0,
      behind_all body b.bytes w (omega
          (arith, c.next-n.ensures.count, left, length-drop w body)) front.1,
    ))

torn : (body : List ℕ) (w n : ℕ) (a b : SlotState) (bytes : List ℕ) → Front body w a b
    → MayLeave (loosened (w + 1) n b) bytes
    → IsShut (record (loosened (w + 1) n b) { bytes = bytes })
torn body w n a b bytes front left = shut_loosened (w + 1) n b bytes (omega arith) front.0 left

pub returns-in_err-write_at-clause-now : goal.returns-in_err-write_at-clause-now
returns-in_err-write_at-clause-now g c =
    let body = g.P.Pieces.rest c.args.pieces.now in
    let w = c.loop-slot.written in
    let size = length (take c.next-n.result c.next-n.new.buffer) in
    becomes_fails (Front body w) StaysShut (g.D.Disk.seen c.args.disk.now).told
    (g.D.Disk.seen c.loop-slot.disk).told (g.D.Disk.seen c.write_at.new.self).told c.args.slot
    (loosened (w + 1) size) c.loop-slot.invariant.state c.write_at.ensures.real
    c.in_err-write_at.ensures.err (λ a b front real. front.0)
    (λ a b bytes front real left. torn body w size a b bytes front left)

pub returns-in_err-write_at-clause-any_moment : goal.returns-in_err-write_at-clause-any_moment
returns-in_err-write_at-clause-any_moment g c =
    let body = g.P.Pieces.rest c.args.pieces.now in
    let w = c.loop-slot.written in
    let size = length (take c.next-n.result c.next-n.new.buffer) in
    let old = (g.D.Disk.seen c.args.disk.now).told in
    let mid = (g.D.Disk.seen c.loop-slot.disk).told in
    let new = (g.D.Disk.seen c.write_at.new.self).told in
    let failed = c.in_err-write_at.ensures.err in
    only_fails Nothing StaysShut old mid new c.args.slot (loosened (w + 1) size)
    c.loop-slot.invariant.leaves failed
    (becomes_fails (Front body w) StaysShut old mid new c.args.slot (loosened (w + 1) size)
    c.loop-slot.invariant.state c.write_at.ensures.real failed (λ a b front real. front.0)
    (λ a b bytes front real left. torn body w size a b bytes front left))
    (λ a b shut. shut_opens_nothing b shut)

-- one block more
more : (body piece : List ℕ) (w n : ℕ) (a b : SlotState) → w ≤ length body
    → piece ≡ take n (drop w body) → Front body w a b → IsReal b
    → Front body (w + n) a (written (w + 1) piece b)
more body piece w n a b within next front real = (
  shut_written (w + 1) piece b (omega arith) real
      (behind_fits body b.bytes w front.0.read within front.1) front.0,
  behind_more body piece b.bytes w n front.0.read within front.1 next,
)

pub loop-slot-preserved : goal.loop-slot-preserved
loop-slot-preserved g c =
    let body = g.P.Pieces.rest c.args.pieces.now in
    let w = c.loop-slot.written in
    let n = c.next-n.result in
    let piece = take n c.next-n.new.buffer in
    let old = (g.D.Disk.seen c.args.disk.now).told in
    let mid = (g.D.Disk.seen c.loop-slot.disk).told in
    let new = (g.D.Disk.seen c.write_at.new.self).told in
    let so_far = c.loop-slot.invariant in
    let left = ap (λ (l : List ℕ). length l) so_far.rest in
    let next : piece ≡ take n (drop w body) =
    c.next-n.ensures.bytes ∙ ap (λ (l : List ℕ). take n l) so_far.rest in
    let state = becomes_steps (Front body w) (Front body (w + n)) old mid new c.args.slot
    (written (w + 1) piece) so_far.state c.write_at.ensures.real c.in_ok-write_at.ensures.ok
    (λ a b front real. more body piece w n a b so_far.within next front real) in
    record {
      state = state;
      leaves = only_steps Nothing (Front body (w + n)) old mid new c.args.slot
          (written (w + 1) piece) so_far.leaves c.in_ok-write_at.ensures.ok state
          (λ a b front. shut_opens_nothing b front.0);
      rest = c.next-n.ensures.left ∙ ap (λ (l : List ℕ). drop n l) so_far.rest
          ∙ drop-drop n w body;
      within = omega (arith, c.next-n.ensures.count, left, length-drop w body);
      room = search rules;
      calm = search rules;
    }
