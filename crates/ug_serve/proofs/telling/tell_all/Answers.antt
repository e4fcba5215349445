use Rattle.std.proofs.Common.{◌∙◌, ℕ, List, Result, Ok, Err, OnErr, refl, subst, sym}
use Rattle.ug_serve.proofs.Tellings.{Went, went_more, went_none}
use Rattle.ug_serve.proofs.telling.tell_all.Goals as goal

-- what holds anyhow holds after an error
after_error : {T E P : Type 0} (r : Result T E) → P → OnErr r P
after_error (Ok x) h = tt
after_error (Err e) h = h

pub loop-rest-init : goal.loop-rest-init
loop-rest-init g c = record {
  went = went_none (g.L.Link.seen c.args.link.now) c.args.bytes.now;
  calm = refl;
}

pub loop-rest-preserved : goal.loop-rest-preserved
loop-rest-preserved g c =
    let old = g.L.Link.seen c.args.link.now in
    let new = g.L.Link.seen c.write.new.self in
    record {
      went = subst (λ (l : List ℕ). Went old new c.args.bytes.now l) (sym c.split_at.ensures.back)
          (went_more old (g.L.Link.seen c.loop-rest.link) new c.args.bytes.now c.loop-rest.rest.now
          c.in_ok-n.n c.loop-rest.invariant.went c.in_ok-n.ensures.told);
      calm = c.in_ok-n.ensures.cause ∙ c.loop-rest.invariant.calm;
    }

pub returns-in_err-n-clause-front : goal.returns-in_err-n-clause-front
returns-in_err-n-clause-front g c =
    let went = c.loop-rest.invariant.went in
    after_error c.from_residual.result (record {
      front = went.front;
      rest = c.loop-rest.rest.now;
      parts = went.parts;
      told = record {
        said = c.in_err-n.ensures.kept.said ∙ went.told.said;
        ended = c.in_err-n.ensures.kept.ended ∙ went.told.ended;
      };
    })
