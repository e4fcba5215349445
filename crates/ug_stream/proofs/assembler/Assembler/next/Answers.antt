use Rattle.std.proofs.Common.{ap, subst}
use Rattle.ug_frames.specs.Fronts.{IsDecoded}
use Rattle.ug_stream.specs.Streams.{Waiting}
use Rattle.ug_stream.proofs.Reading.{bad_so}
use Rattle.ug_stream.proofs.assembler.Assembler.next.Goals as goal

pub returns-in-Ok-Bad-clause-ok : goal.returns-in-Ok-Bad-clause-ok
returns-in-Ok-Bad-clause-ok g c =
    bad_so g.M.Framed.carried g.M.Framed.spelled c.args.self.now c.shut.new.self c.self.inside.at
    c.waiting.result.now c.waiting.ensures
    (subst (λ read. IsDecoded g.M.Framed.carried g.M.Framed.spelled c.waiting.result.now read)
    c.in-Ok-Bad.field-0-is c.in-Ok-Bad.ensures)
    c.shut.ensures (ap (λ (w : Waiting). w.at) c.self.view_is)
