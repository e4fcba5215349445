use Rattle.std.proofs.Common.{◌≡◌, sym, ap, subst, ◌∙◌, arith, rules}
use Rattle.std.proofs.lemmas.Int.{fits_signed_from_abs, ints, to_z-of_z}
use mir.Syntax.{w128}
use Rattle.ug_problem.specs.Better.{IsGap}
use Rattle.ug_records.specs.Spelling.{record_of}
use Rattle.ug_frames.specs.Ranges.{HasRoom}
use Rattle.ug_rules.specs.declared.settings.Settings.{Settings}
use Rattle.ug_coord.proofs.Room.{has_room}
use Rattle.ug_coord.proofs.solving.setup_of.Goals as goal

pub encode_order-encoded-requires : goal.encode_order-encoded-requires
encode_order-encoded-requires c =
    let is = c.problem.ensures.book in
    let own : IsGap c.settings.result.now.gap = subst (λ (s : Settings). IsGap s.gap) (sym c.settings.ensures.value)
    is.settings.gap in
    let same : c.problem-2.result.now ≡ c.args.book.now.problem = search rules in
    record {
      given = tt;
      fields = (
        subst IsGap (sym (to_z-of_z w128 c.settings.result.now.gap
            (fits_signed_from_abs w128 c.settings.result.now.gap (omega (arith, ints, own.low, own.high))))) own,
        subst HasRoom (sym (c.in_ok-record.ensures ∙ ap record_of same)) (has_room c.args.book.now.problem is.problem),
      );
    }
