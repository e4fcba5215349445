use Rattle.std.proofs.Common.{rules, ◌≡◌, refl, sym, ap, subst, ◌∙◌}
use Rattle.std.proofs.Common.{ℕ, ◌-◌, List, length}
use Rattle.ug_rows.specs.declared.area.Interval.{Interval}
use Rattle.ug_rows.specs.Boxes.{IsBelow}
use Rattle.ug_problem.specs.Instances.{root_of}
use Rattle.ug_nodes.specs.Changes.{Spells}
use Rattle.ug_serve.specs.Seats.{Agrees}
use Rattle.ug_serve.specs.Actions.{Busy}
use Rattle.ug_serve.specs.Seats.{basis_of}
use Rattle.ug_serve.proofs.Seating.{handed_agrees}
use Rattle.ug_serve.proofs.Carried.{hand_carried, handed_area}
use Rattle.ug_serve.proofs.link_seat.LinkSeatSeat.hand.Goals as goal

pub changes_of-requires-clause-width : goal.changes_of-requires-clause-width
changes_of-requires-clause-width g c =
    let (round_count, e, f, seated, handed) = c.requires.at in
    let below = handed_area c.args.self.now.kept round_count e f c.args.number c.args.area.now seated.agrees handed in
    let root : c.root-root.result.now ≡ root_of c.args.self.now.kept.problem = search rules in
    below.width ∙ ap (λ (area : List Interval). length area) (sym root)

pub tell-requires : goal.tell-requires
tell-requires g c =
    let (round_count, e, f, seated, handed) = c.requires.at in
    let below = handed_area c.args.self.now.kept round_count e f c.args.number c.args.area.now seated.agrees handed in
    let root : c.root-root.result.now ≡ root_of c.args.self.now.kept.problem = search rules in
    hand_carried c.args.self.now.kept round_count e f c.args.number c.args.area.now c.in-Ok.changes seated.agrees handed
    c.in-Ok.ensures.rising
    (subst (λ root. Spells root c.in-Ok.changes c.args.area.now) root
    (c.in-Ok.ensures.below (subst (λ root. IsBelow c.args.area.now root) (sym root) below)))

pub returns-clause-ok : goal.returns-clause-ok
returns-clause-ok g c round_count e f seated handed =
    let below = handed_area c.args.self.now.kept round_count e f c.args.number c.args.area.now seated.agrees handed in
    let root : c.root-root.result.now ≡ root_of c.args.self.now.kept.problem = search rules in
    let less : c.saturating_sub-self.result ≡ c.args.self.now.kept.asked - 1 = search rules in
    record {
      gap = seated.gap;
      agrees = subst (λ (n : ℕ). Agrees (record c.args.self.now.kept { asked = n }) f) (sym less)
          (handed_agrees c.args.self.now.kept round_count e f c.args.number c.args.area.now seated.agrees handed);
      stands = c.tell.ensures (Busy (basis_of c.args.self.now.kept) round_count e)
          (Busy (basis_of c.args.self.now.kept) round_count f) (
            f,
            record {
              area = c.args.area.now;
              its = sym seated.agrees.ticket;
              handed = handed;
              spells = subst (λ root. Spells root c.in-Ok.changes c.args.area.now) root
                  (c.in-Ok.ensures.below (subst (λ root. IsBelow c.args.area.now root) (sym root) below));
            },
            refl,
          ) seated.stands;
    }
