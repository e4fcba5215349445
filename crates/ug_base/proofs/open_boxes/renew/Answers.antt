use Rattle.std.proofs.Common.{◌∙◌, ℤ, ◌+◌, slice_set, Some, rules, sym, subst, arith}
use Rattle.std.proofs.lemmas.Int.{to_z-of_z}
use mir.Syntax.{w128}
use Rattle.ug_base.proofs.Leasts.{AreRenewedTo, one_renewed, renewed_count}
use Rattle.ug_base.proofs.open_boxes.renew.Goals as goal

pub loop-k-preserved : goal.loop-k-preserved
loop-k-preserved c =
    let old = c.args.kept.now.items in
    let now = c.loop-k.kept.items in
    let led = c.kept_behind-next.result in
    subst (λ (b : ℤ). AreRenewedTo (c.loop-k.k + 1) old (slice_set now c.loop-k.k led) (Some b))
    (sym (to_z-of_z w128 c.least_up_to.result (search rules) ∙ c.least_up_to.ensures))
    (one_renewed old now c.loop-k.k c.loop-k.before c.index.result.now led
    (omega (arith, c.loop-k-test.true, c.len-k-end.ensures, c.args.kept.now.ok.0)) c.loop-k.invariant c.index.ensures
    c.kept_behind-next.ensures)

pub index-requires : goal.index-requires
index-requires c =
    let less = c.loop-k-test.true in
    let end = c.len-k-end.ensures in
    omega (
      arith,
      less,
      end,
      c.args.kept.now.ok.0,
      c.loop-k.kept.ok.0,
      renewed_count c.args.kept.now.items c.loop-k.kept.items c.loop-k.k c.loop-k.before (omega (arith, less, end, c.args.kept.now.ok.0)) c.loop-k.invariant,
    )

pub index_mut-requires : goal.index_mut-requires
index_mut-requires c =
    let less = c.loop-k-test.true in
    let end = c.len-k-end.ensures in
    omega (
      arith,
      less,
      end,
      c.args.kept.now.ok.0,
      c.loop-k.kept.ok.0,
      renewed_count c.args.kept.now.items c.loop-k.kept.items c.loop-k.k c.loop-k.before (omega (arith, less, end, c.args.kept.now.ok.0)) c.loop-k.invariant,
    )
