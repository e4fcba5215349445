use Rattle.ug_lines.specs.Words.{is_blank}
use Rattle.ug_lines.proofs.Firsts.{at_is, none_is}
use Rattle.ug_lines.proofs.words.word_end.Goals as goal

pub returns-in-Some-clause-place : goal.returns-in-Some-clause-place
returns-in-Some-clause-place c = at_is is_blank c.args.line.now c.in-Some.at c.in-Some.ensures

pub returns-in-None-clause-place : goal.returns-in-None-clause-place
returns-in-None-clause-place c = none_is is_blank c.args.line.now c.in-None.ensures
