use Rattle.std.proofs.Common.{drop, sym, ap, subst, ◌∙◌}
use Rattle.ug_lines.specs.Words.{words_of, BeginsWord}
use Rattle.ug_lines.proofs.Firsts.{at_is, none_is, skipped, begins_word}
use Rattle.ug_lines.proofs.words.behind_blanks.Goals as goal

pub returns-in-Some-clause-words : goal.returns-in-Some-clause-words
returns-in-Some-clause-words c =
    ap words_of (c.split_at.ensures.back ∙ ap (λ n. drop n c.args.line.now) (at_is _ c.args.line.now c.in-Some.at c.in-Some.ensures)) ∙ skipped c.args.line.now

pub returns-in-Some-clause-begins : goal.returns-in-Some-clause-begins
returns-in-Some-clause-begins c =
    subst BeginsWord (sym (c.split_at.ensures.back ∙ ap (λ n. drop n c.args.line.now) (at_is _ c.args.line.now c.in-Some.at c.in-Some.ensures))) (begins_word c.args.line.now)

pub returns-in-None-clause-words : goal.returns-in-None-clause-words
returns-in-None-clause-words c =
    ap words_of (c.split_at-in-None.ensures.back ∙ ap (λ n. drop n c.args.line.now) (none_is _ c.args.line.now c.in-None.ensures)) ∙ skipped c.args.line.now
