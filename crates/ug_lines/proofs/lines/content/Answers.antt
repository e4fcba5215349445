use Rattle.std.proofs.Common.{[], ◌∷◌, sym, ap, ◌∙◌, Some, None}
use Rattle.std.proofs.lemmas.Bool.Decides.{Decides-eqb}
use Rattle.std.proofs.lemmas.Slice.Eq.{strip_suffix_is}
use Rattle.ug_lines.proofs.Contents.{content_open, content_is}
use Rattle.ug_lines.proofs.lines.content.Goals as goal

pub returns-in-Some : goal.returns-in-Some
returns-in-Some c =
    let line = c.in-Some.line in let before = c.strip_suffix-in-Some.result in
    ap (λ x. x.now) c.unwrap_or.ensures
    ∙ content_is c.args.piece.now line before
    (strip_suffix_is Decides-eqb c.args.piece.now (10 ∷ []) (Some line) c.in-Some.ensures.cases)
    (strip_suffix_is Decides-eqb line.now (13 ∷ []) before c.strip_suffix-in-Some.ensures.cases)

pub returns-in-None : goal.returns-in-None
returns-in-None c =
    sym (content_open c.args.piece.now (strip_suffix_is Decides-eqb c.args.piece.now (10 ∷ []) None c.in-None.ensures.cases))
