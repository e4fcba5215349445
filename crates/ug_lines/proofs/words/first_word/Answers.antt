use Rattle.std.proofs.Common.{sym, ◌∙◌}
use Rattle.ug_lines.proofs.Firsts.{first_is, none_first}
use Rattle.ug_lines.proofs.words.first_word.Goals as goal

pub returns-clause-word : goal.returns-clause-word
returns-clause-word c = λ some.
    sym c.behind_blanks-begun.ensures.words ∙ first_is c.behind_blanks-begun.result.now c.word_end.result _ _ c.word_end.ensures.place c.split_at.ensures.front c.split_at.ensures.back some

pub returns-clause-none : goal.returns-clause-none
returns-clause-none c = λ none.
    sym c.behind_blanks-begun.ensures.words ∙ none_first c.behind_blanks-begun.result.now c.word_end.result _ c.word_end.ensures.place c.split_at.ensures.front c.behind_blanks-begun.ensures.begins none
