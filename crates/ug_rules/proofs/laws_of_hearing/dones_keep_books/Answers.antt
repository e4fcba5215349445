use Rattle.ug_rules.proofs.EventLemmas.{done_keeps_book, done_keeps_sound}
use Rattle.ug_rules.proofs.laws_of_hearing.dones_keep_books.Goals as goal

pub returns-clause-book : goal.returns-clause-book
returns-clause-book c = done_keeps_book

pub returns-clause-sound : goal.returns-clause-sound
returns-clause-sound c = done_keeps_sound
