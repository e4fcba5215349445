use Rattle.std.proofs.Common.{◌≡◌, ◌∙◌, false, Option, Some, None, is_some, refl, subst, sym}
use Rattle.std.proofs.lemmas.Bool.{false≢true}
use Rattle.ug_serve.specs.declared.served.Served.{Served}
use Rattle.ug_serve.specs.Serving.{stands_as}
use Rattle.ug_serve.proofs.wire.Wire.goes_on.Goals as goal

none_of : {T : Type 0} (o : Option T) → is_some o ≡ false → o ≡ None
none_of None not = refl
none_of (Some x) not = absurd (false≢true (sym not))

pub returns-in-Ok-clause-heard : goal.returns-in-Ok-clause-heard
returns-in-Ok-clause-heard g c stage running on =
    let none = none_of c.args.self.now.end (sym c.is_some.ensures ∙ c.if-is_some.false) in
    subst (λ (end : Option Served).
    stands_as end (g.L.Link.seen c.hear.new.link) c.hear.new.orders stage) (sym none)
    (c.in-Ok.ensures.heard stage running
    (subst (λ (end : Option Served).
    stands_as end (g.L.Link.seen c.args.self.now.link) c.args.self.now.orders stage)
    none on))

pub returns-in-Err-clause-heard : goal.returns-in-Err-clause-heard
returns-in-Err-clause-heard g c stage running on =
    let none = none_of c.args.self.now.end (sym c.is_some.ensures ∙ c.if-is_some.false) in
    c.in-Err.ensures.heard stage running
    (subst (λ (end : Option Served).
    stands_as end (g.L.Link.seen c.args.self.now.link) c.args.self.now.orders stage)
    none on)
