-- What a row is to the problem.
use Rattle.std.specs.Prelude.{Bool, true, false}
use Rattle.ug_drafts.specs.declared.role.Role.{Role}
use Rattle.ug_drafts.specs.declared.role.Role.TheVariants.{Objective, Ignored}

-- the row is the objective
abbrev pub is_objective : Role → Bool
is_objective Objective = true
is_objective _ = false

-- the row is nothing to the problem
abbrev pub is_ignored : Role → Bool
is_ignored Ignored = true
is_ignored _ = false

-- the row is one of the problem's rows
abbrev pub is_sided : Role → Bool
is_sided Objective = false
is_sided Ignored = false
is_sided _ = true
