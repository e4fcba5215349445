use Rattle.ug_ledger.proofs.LessLemmas.{ended_sound, dropped_sound}
use Rattle.ug_ledger.proofs.DoneLemmas.{done_sound}
use Rattle.ug_ledger.proofs.TakenInLemmas.{taken_in_sound}
use Rattle.ug_ledger.proofs.GivenLemmas.{given_sound}
use Rattle.ug_ledger.proofs.HandedWork.{handed_sound}
use Rattle.ug_ledger.proofs.EndLemmas.{improved_sound}
use Rattle.ug_ledger.proofs.sound.moves_keep_sound.Goals as goal

pub returns-clause-ended : goal.returns-clause-ended
returns-clause-ended c = ended_sound

pub returns-clause-dropped : goal.returns-clause-dropped
returns-clause-dropped c = dropped_sound

pub returns-clause-done : goal.returns-clause-done
returns-clause-done c = done_sound

pub returns-clause-taken_in : goal.returns-clause-taken_in
returns-clause-taken_in c = taken_in_sound

pub returns-clause-given : goal.returns-clause-given
returns-clause-given c = given_sound

pub returns-clause-handed : goal.returns-clause-handed
returns-clause-handed c = handed_sound

pub returns-clause-improved : goal.returns-clause-improved
returns-clause-improved c = improved_sound
