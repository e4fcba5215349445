use Rattle.std.proofs.Common.{◌≡◌, ◌∙◌, ℕ, ap, arith, subst, sym, List, get_or, ◌<◌, length}
use Rattle.std.proofs.lemmas.List.{get_or_read}
use Rattle.ug_problem.specs.declared.column.NamedRow.{NamedRow}
use Rattle.ug_problem.specs.Instances.{no_row}
use Rattle.ug_surrogate.specs.Rounding.{IsCommonDivisor, rounded_by}
use Rattle.ug_surrogate.proofs.in_place.rounded_at.Goals as goal

pub returns-clause-value : goal.returns-clause-value
returns-clause-value c =
    let p = c.args.problem.now in
    let area = c.args.area.now in
    let rows : List NamedRow = c.rows-rows.result.now in
    let there : c.args.r < length rows = omega (arith, ap length c.rows-rows.ensures.value) in
    let same : get_or rows c.args.r c.index-rows-r.result ≡ get_or p.rows c.args.r no_row =
    sym c.index-rows-r.is
    ∙ get_or_read rows c.args.r c.index-rows-r.result there c.index-rows-r.is no_row
    ∙ ap (λ (ns : List NamedRow). get_or ns c.args.r no_row) c.rows-rows.ensures.value in
    subst (λ (n : NamedRow). (g : ℕ) × IsCommonDivisor n.row.terms area g ×
    (c.rounded.result ≡ rounded_by g n.row area))
    same c.rounded.ensures.value
