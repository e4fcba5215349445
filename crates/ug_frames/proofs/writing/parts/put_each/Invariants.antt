use Rattle.std.proofs.Common.{◌≡◌, ◌+◌, ◌*◌, ◌≤◌, ◌++◌, length, take, vec_len, vec_capacity}
use Rattle.std.specs.List.{flat_map}
use Rattle.ug_frames.specs.Spelling.{change_fields}
use Rattle.ug_frames.proofs.writing.parts.put_each.Given as goal

abbrev pub invariant-loop-change : goal.invariant-loop-change
invariant-loop-change l = record {
  put : l.buffer.items ≡ l.initial.buffer.items
      ++ flat_map change_fields (take l.change-index l.changes);
  room : vec_len l.buffer + 12 * length l.changes ≤ vec_capacity l.buffer + 12 * l.change-index;
}
