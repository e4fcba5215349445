use Rattle.ug_rules.proofs.HearingLemmas.{hearing_keeps_book, hearing_keeps_sound}
use Rattle.ug_rules.proofs.laws_of_hearing.hearing_keeps_books.Goals as goal

pub returns-clause-book : goal.returns-clause-book
returns-clause-book c = hearing_keeps_book

pub returns-clause-sound : goal.returns-clause-sound
returns-clause-sound c = hearing_keeps_sound
