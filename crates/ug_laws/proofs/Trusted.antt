-- What honest solvers report of a Done is true.
use Rattle.std.proofs.Common.{◌≡◌, inl, inr, ℕ, ℤ, zero, suc, ◌<◌, List, [], ◌∷◌, ◌++◌, length, refl, sym, subst, arith}
use Rattle.std.specs.Prelude.{Contains, Option}
use Rattle.ug_rows.specs.declared.area.Interval.{Interval}
use Rattle.ug_rows.specs.Boxes.{IsInOne, IsInside, box_at}
use Rattle.ug_problem.specs.Instances.{root_of}
use Rattle.ug_problem.specs.Incumbents.{one_kept}
use Rattle.ug_nodes.specs.declared.name.Ticket.{Ticket}
use Rattle.ug_nodes.specs.Nodes.{box_of}
use Rattle.ug_frames.specs.declared.report.Ending.{Ending}
use Rattle.ug_frames.specs.declared.report.Report.{Report}
use Rattle.ug_frames.specs.declared.report.Report.TheVariants.{Ready, Solution, Hand, State as Reported, Done, Ended}
use Rattle.ug_ledger.specs.Ledgers.{Current}
use Rattle.ug_ledger.specs.Dones.{IsTrueDone}
use Rattle.ug_ledger.proofs.FactLemmas.{none_current}
use Rattle.ug_rules.specs.declared.told.Told.{Told}
use Rattle.ug_rules.specs.State.{BookState, ledger_of}
use Rattle.ug_rules.specs.Books.{IsBook}
use Rattle.ug_rules.specs.HearingLaws.{IsTrueReport}
use Rattle.ug_rules.proofs.HeldLemmas.{current_is}
use Rattle.ug_frames.specs.Honest.{AreHonest}
use Rattle.ug_laws.specs.Honest.{IsGivenWith}
use Rattle.ug_laws.proofs.Known.{AreKnown, IsKnown}

-- what lies in one of the boxes
in_one : (boxes : List (List Interval)) (i : ℕ) (x : List ℤ) → i < length boxes
    → IsInside (box_at boxes i) x → IsInOne boxes x
in_one [] i x l inside = absurd (omega (arith, l))
in_one (area ∷ boxes) zero x l inside = inl inside
in_one (area ∷ boxes) (suc i) x l inside = inr (in_one boxes i x (omega (arith, l)) inside)

-- a Done under a current ticket, whose count is that of the hands taken
done_true : (past : List Told) (b : BookState) (sent : List Report) (c : Current)
    (told : Option ℤ) (count : ℕ) (ending : Ending)
    → AreHonest b.problem (IsGivenWith b.problem (past ++ b.orders)) sent
    → IsKnown (root_of b.problem) sent (past ++ b.orders) c
    → Contains sent (Done c.ticket told count ending) → count ≡ length c.taken
    → IsTrueDone b.problem b.settings.gap (one_kept b.best) told c
done_true past b sent c told count ending honest known among all x better good inside =
    let area = box_of (root_of b.problem) c.node in
    let given : IsGivenWith b.problem (past ++ b.orders) c.ticket area = record {
      rank = known.told.rank;
      params = known.told.params;
      race = known.told.race;
      cutoff = known.told.cutoff;
      changes = c.node.changes;
      among = known.told.queued;
      box = refl;
    } in
    let t = honest.dones c.ticket told count ending among area given x inside good in
    let short : t.hand < length c.taken = omega (arith, t.before, all) in
    let same = honest.hands c.ticket t.hand t.area (box_at c.taken t.hand) t.its
    (known.taken t.hand short) in
    in_one c.taken t.hand x short (subst (λ a. IsInside a x) same t.inside)

-- reports of which one is true at each rank
abbrev pub AreTrue : BookState → List Report → Type 0
AreTrue b sent = (r : ℕ) (report : Report) → Contains sent report → IsTrueReport b r report

pub honest_true : (past : List Told) (b : BookState) (sent : List Report)
    → AreHonest b.problem (IsGivenWith b.problem (past ++ b.orders)) sent
    → AreKnown past b sent → AreTrue b sent
honest_true past b sent honest known r Ready among = tt
honest_true past b sent honest known r (Solution ticket x) among = tt
honest_true past b sent honest known r (Hand ticket number changes) among = tt
honest_true past b sent honest known r (Reported ticket count floor) among = tt
honest_true past b sent honest known r (Done ticket told count ending) among = λ c h same all.
    done_true past b sent c told count ending honest (known.each r c (current_is b r c h))
    (subst (λ (t : Ticket). Contains sent (Done t told count ending)) (sym same) among) all
honest_true past b sent honest known r Ended among = tt

-- while no ticket was given there is nothing to be true of
pub unused_true : (b : BookState) (sent : List Report) → IsBook b → b.last ≡ 0 → AreTrue b sent
unused_true b sent book unused r Ready among = tt
unused_true b sent book unused r (Solution ticket x) among = tt
unused_true b sent book unused r (Hand ticket number changes) among = tt
unused_true b sent book unused r (Reported ticket count floor) among = tt
unused_true b sent book unused r (Done ticket told count ending) among = λ c h same all.
    absurd (none_current (root_of b.problem) (ledger_of b) book.ledger unused r c h)
unused_true b sent book unused r Ended among = tt
