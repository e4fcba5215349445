use Rattle.std.proofs.Common.{Some, None, length, drop, sym, ◌∙◌}
use Rattle.std.specs.Prelude.{codes}
use Rattle.std.proofs.lemmas.Bool.{false≢true}
use Rattle.std.proofs.lemmas.Bool.Decides.{Decides-eqb}
use Rattle.std.proofs.lemmas.Slice.Eq.{strip_prefix_is, starts_is}
use Rattle.ug_mps.proofs.LineHeads.{head_behind, head_open, head_other}
use Rattle.ug_mps.proofs.ending.head_of.Goals as goal

pub returns-in-Some : goal.returns-in-Some
returns-in-Some c =
    head_behind c.args.line.now c.in-Some.rest.now c.behind_word.result
    (strip_prefix_is Decides-eqb c.args.line.now (codes "ENDATA") (Some c.in-Some.rest) c.in-Some.ensures.cases) c.behind_word.ensures

pub returns-then-starts_with : goal.returns-then-starts_with
returns-then-starts_with c =
    head_open c.args.line.now (drop (length c.args.line.now) (codes "ENDATA"))
    ((starts_is Decides-eqb (codes "ENDATA") c.args.line.now c.starts_with.result c.starts_with.ensures.value).0 c.if-starts_with.true)

pub returns-else-starts_with : goal.returns-else-starts_with
returns-else-starts_with c =
    head_other c.args.line.now (strip_prefix_is Decides-eqb c.args.line.now (codes "ENDATA") None c.in-None.ensures.cases)
    (λ rest e. false≢true (sym c.if-starts_with.false
    ∙ (starts_is Decides-eqb (codes "ENDATA") c.args.line.now c.starts_with.result c.starts_with.ensures.value).1 rest e))
