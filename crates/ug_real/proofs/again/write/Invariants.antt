use Rattle.std.specs.Io.KnownBytes.{Keeps}
use Rattle.ug_real.proofs.again.write.Given as goal

-- the tries so far were interrupted before they had done anything
abbrev pub invariant-loop : goal.invariant-loop
invariant-loop g l = Keeps (g.W.Write.contents l.initial.to) (g.W.Write.contents l.to)
