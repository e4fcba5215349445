use Rattle.std.proofs.Common.{◌≡◌, rules, take, drop, vec_len, subst}
use Rattle.ug_disk.specs.Histories.{Reads}
use Rattle.ug_disk.proofs.Pieces.{more_came}
use Rattle.ug_disk.proofs.reading.read_by.Goals as goal

pub loop-n-preserved : goal.loop-n-preserved
loop-n-preserved g c =
    let so_far = c.loop-n.invariant in
    let n = c.in-Ok.n in
    let next = subst (λ o. Reads o c.args.slot
    (λ there. take n c.read_at.new.buffer ≡ take n (drop (vec_len c.loop-n.bytes) there)))
    so_far.same (search (rules, c.in-Ok.ensures.bytes)) in
    record {
      same = search rules;
      came = more_came (g.D.Disk.seen c.args.disk.now).told c.args.slot c.loop-n.bytes.items (take n
          c.read_at.new.buffer) c.extend_from_slice.new.self.items
          (vec_len c.loop-n.bytes) n (vec_len c.extend_from_slice.new.self) (search rules)
          so_far.came next (search rules);
      room = search rules;
      calm = search rules;
    }
