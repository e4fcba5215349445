use Rattle.std.proofs.Common.{◌≡◌, ◌+◌, ◌*◌, ◌≤◌, ◌++◌, length, take, vec_len, vec_capacity}
use Rattle.std.specs.List.{flat_map}
use Rattle.ug_fields.specs.Spelling.{bound_field}
use Rattle.ug_frames.proofs.writing.parts.put_values.Given as goal

abbrev pub invariant-loop-value : goal.invariant-loop-value
invariant-loop-value l = record {
  put : l.buffer.items ≡ l.initial.buffer.items
      ++ flat_map bound_field (take l.value-index l.values);
  room : vec_len l.buffer + 4 * length l.values ≤ vec_capacity l.buffer + 4 * l.value-index;
}
