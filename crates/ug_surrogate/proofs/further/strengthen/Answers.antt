use Rattle.std.proofs.Common.{◌≡◌, ◌∙◌, ℕ, List, length, ltb, to_z, of_z, ap, arith}
use mir.Syntax.{w128}
use Rattle.ug_problem.specs.declared.column.NamedRow.{NamedRow}
use Rattle.ug_surrogate.proofs.Complete.{same_if_none_added}
use Rattle.ug_surrogate.proofs.further.strengthen.Goals as goal

pub returns-else-is_tighter-clause-same : goal.returns-else-is_tighter-clause-same
returns-else-is_tighter-clause-same c =
    let old : List NamedRow = c.args.rows.now.items in
    let new : List NamedRow = c.push_all_implied.new.rows.items in
    let own : c.len-own.result ≡ length old =
    omega (arith, c.len-own.ensures, c.args.rows.now.ok.0) in
    let all : c.len.result ≡ length new =
    omega (arith, c.len.ensures, c.push_all_implied.new.rows.ok.0) in
    same_if_none_added c.args.problem.now c.args.lists.now (to_z w128 (of_z w128 c.args.cutoff)) old
    c.tighten_all.new.rows.items new c.in_ok-is_tighter.is_tighter
    (ltb c.len-own.result c.len.result) c.if-is_tighter.false c.in_ok-is_tighter.ensures.same
    c.in_ok-push_all_implied.ensures.added
    (ap (λ (n : ℕ). ltb n c.len.result) own ∙ ap (λ (n : ℕ). ltb (length old) n) all)
