use Rattle.ug_serve.proofs.Transcribed.{traces_are_transcripts}
use Rattle.ug_serve.proofs.laws.traces_are_transcripts.Goals as goal

pub returns : goal.returns
returns c = traces_are_transcripts
