use Rattle.std.proofs.Common.{rules, ◌+◌, length}
use Rattle.ug_disk.proofs.Restores.{restores_write}
use Rattle.ug_disk.proofs.stored.Stored.write.Goals as goal

pub returns-clause-kept : goal.returns-clause-kept
returns-clause-kept c =
    let slot = c.self.inside in
    restores_write slot.bytes.items c.overwrite.new.bytes.items slot.loose.items
    c.push.new.self.items slot.shortest slot.longest
    c.args.self.now c.args.at c.args.piece.now c.in-Ok.over.items
    (record { from = c.args.at; end = c.args.at + length c.args.piece.now })
    c.self.view_is (search rules) (search rules) (search rules) (search rules)
