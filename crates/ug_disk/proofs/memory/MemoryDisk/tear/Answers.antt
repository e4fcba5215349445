use Rattle.std.proofs.Common.{length}
use Rattle.ug_disk.proofs.Tears.{tears_or_not}
use Rattle.ug_disk.specs.Memories.{history_of}
use Rattle.ug_disk.proofs.memory.MemoryDisk.tear.Goals as goal

pub returns-clause-told : goal.returns-clause-told
returns-clause-told c =
    tears_or_not c.loosen.result c.args.slot c.args.at (length c.args.bytes.now) (history_of
    c.args.self.now) (history_of c.loosen.new.self)
    c.is_real.ensures c.is_real-2.ensures c.loosen.ensures.ok c.loosen.ensures.err
