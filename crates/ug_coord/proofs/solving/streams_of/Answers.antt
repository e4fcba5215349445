use Rattle.std.proofs.Common.{ℕ, List, [], ◌∷◌, ◌++◌, ap, ◌∙◌, arith}
use Rattle.std.proofs.lemmas.List.{replicate_more}
use Rattle.std.specs.Prelude.{replicate}
use Rattle.ug_stream.specs.Streams.{Waiting, first}
use Rattle.ug_coord.proofs.solving.streams_of.Goals as goal

pub loop-init : goal.loop-init
loop-init c = c.new-streams.ensures.items

pub loop-preserved : goal.loop-preserved
loop-preserved c =
    c.in-Ok.ensures.items ∙ ap (λ (l : List Waiting). l ++ c.new.result ∷ []) c.loop.invariant
    ∙ ap (λ (w : Waiting). replicate c.loop.counter first ++ w ∷ []) c.new.ensures
    ∙ replicate_more c.loop.counter first

pub returns : goal.returns
returns c =
    c.loop.invariant
    ∙ ap (λ (n : ℕ). replicate n first) (omega (arith, c.loop-test.false, c.loop.auto.counter-end))
