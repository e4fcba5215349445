use Rattle.std.proofs.Common.{ℤ, ◌∙◌, to_z, of_z, List, Option, Some, IfNone, IfSome, inl, inr, refl, subst, sym}
use Rattle.std.proofs.lemmas.Bool.{false≢true}
use Rattle.std.proofs.lemmas.Int.{to_z-of_z}
use Rattle.std.proofs.lemmas.Result.{on_ok_weaker}
use mir.Syntax.{w128}
use Rattle.ug_rows.specs.declared.row.Row.{Row}
use Rattle.ug_problem.specs.declared.column.NamedRow.{NamedRow}
use Rattle.ug_surrogate.specs.Complete.{HasNoRow, IsRoom, IsRowOf}
use Rattle.ug_surrogate.specs.Stronger.{IsFurtherSum}
use Rattle.ug_surrogate.proofs.Follows.{more_pushed}
use Rattle.ug_surrogate.proofs.Complete.{pushed_row}
use Rattle.ug_surrogate.proofs.further.push_implied.Goals as goal

pub returns-then-is_room-clause-stand : goal.returns-then-is_room-clause-stand
returns-then-is_room-clause-stand c =
    let p = c.args.problem.now in
    let area = c.args.area.now in
    let row = c.in-Some.row in
    let raw = subst (λ (o : Option Row). IfSome o (IsFurtherSum p area
    (Some (to_z w128 (of_z w128 c.args.cutoff))))) c.in-Some.is
    c.in_ok-row.ensures.further in
    let is : IsFurtherSum p area (Some c.args.cutoff) row =
    subst (λ (z : ℤ). IsFurtherSum p area (Some z) row)
    (to_z-of_z w128 c.args.cutoff c.ranges.cutoff) raw in
    on_ok_weaker c.push.result
    (more_pushed p area (Some c.args.cutoff) c.args.rows.now.items c.push.new.rows.items row
    c.requires.stand is) c.push.ensures

pub returns-then-is_room-clause-added : goal.returns-then-is_room-clause-added
returns-then-is_room-clause-added c =
    let p = c.args.problem.now in
    let m = c.args.m.now in
    let row = c.in-Some.row in
    let old : List NamedRow = c.args.rows.now.items in
    let raw = subst (λ (o : Option Row). IfSome o (IsRowOf p m
    (to_z w128 (of_z w128 c.args.cutoff)))) c.in-Some.is
    c.in_ok-row.ensures.some in
    let implied : IsRowOf p m c.args.cutoff row =
    subst (λ (z : ℤ). IsRowOf p m z row) (to_z-of_z w128 c.args.cutoff c.ranges.cutoff) raw in
    let room : IsRoom p old row =
    subst (λ (ns : List NamedRow). IsRoom p ns row) c.as_slice.ensures.value
    (c.is_room.ensures.0 c.if-is_room.true) in
    on_ok_weaker c.push.result (pushed_row p m c.args.cutoff old c.push.new.rows.items row implied
    room) c.push.ensures

pub returns-else-is_room-clause-added : goal.returns-else-is_room-clause-added
returns-else-is_room-clause-added c =
    let p = c.args.problem.now in
    let m = c.args.m.now in
    let row = c.in-Some.row in
    let raw = subst (λ (o : Option Row). IfSome o (IsRowOf p m
    (to_z w128 (of_z w128 c.args.cutoff)))) c.in-Some.is
    c.in_ok-row.ensures.some in
    inr (record {
      same = refl;
      cause = inr (record {
        row = row;
        implied = subst (λ (z : ℤ). IsRowOf p m z row) (to_z-of_z w128 c.args.cutoff
            c.ranges.cutoff) raw;
        full = λ room. false≢true (sym c.if-is_room.false
            ∙ c.is_room.ensures.1 (subst (λ (ns : List NamedRow). IsRoom p ns row)
            (sym c.as_slice.ensures.value) room));
      });
    })

pub returns-in_default-clause-added : goal.returns-in_default-clause-added
returns-in_default-clause-added c =
    let p = c.args.problem.now in
    let m = c.args.m.now in
    let raw = subst (λ (o : Option Row). IfNone o (HasNoRow p m
    (to_z w128 (of_z w128 c.args.cutoff)))) c.in_default.is
    c.in_ok-row.ensures.none in
    inr (record {
      same = refl;
      cause = inl (subst (HasNoRow p m) (to_z-of_z w128 c.args.cutoff c.ranges.cutoff) raw);
    })
