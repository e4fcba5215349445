use Rattle.std.proofs.Common.{length, sum_by, take, ◌≡◌, ◌+◌}
use Rattle.ug_problem.specs.declared.column.NamedRow.{NamedRow}
use Rattle.ug_problem.proofs.limits.have_at_most.Given as goal

-- the rest is `most` less the terms of the rows so far
abbrev pub invariant-loop-row : goal.invariant-loop-row
invariant-loop-row l =
    l.left + sum_by (λ (row : NamedRow). length row.row.terms) (take l.row-index l.rows) ≡ l.fn.most
