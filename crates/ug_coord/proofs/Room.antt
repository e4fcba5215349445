-- The record of a problem leaves room in the frame of the order that comes first.
use Rattle.std.proofs.Common.{length, arith}
use Rattle.ug_problem.specs.Instances.{Instance}
use Rattle.ug_problem.specs.Limits.{IsProblem}
use Rattle.ug_records.specs.Spelling.{record_of}
use Rattle.ug_records.proofs.Shorts.{columns_short, rows_short}
use Rattle.ug_records.proofs.Sizes.{record_sum}
use Rattle.ug_frames.specs.Ranges.{HasRoom}

pub has_room : (p : Instance) → IsProblem p → HasRoom (record_of p)
has_room p is = omega (
  arith,
  record_sum p,
  columns_short p.columns is.formed.columns,
  rows_short (length p.columns) p.rows is.formed.rows,
  is.counts.columns,
  is.counts.rows,
  is.counts.terms,
)
