-- Reports, each read as it is spelled.
use Rattle.std.proofs.Common.{◌≡◌, ◌≢◌, ℕ, ℤ, pos, ◌*◌, ◌^◌, ◌<◌, ◌≤◌, eqb, List, [], ◌∷◌, ◌++◌, length, Option, None, IfSome, Result, Ok, refl, sym, ◌∙◌, ap, subst, arith}
use Rattle.std.proofs.lemmas.Bool.{eqb-true, eqb-false}
use Rattle.std.proofs.lemmas.List.{append-nil}
use Rattle.ug_nodes.specs.declared.name.Ticket.{Ticket}
use Rattle.ug_nodes.specs.declared.change.Change.{Change}
use Rattle.ug_fields.specs.Reading.{Reading, ◌>>=◌, small_at, long_at, number_at, optional_at}
use Rattle.ug_fields.specs.Readers.{IsReader}
use Rattle.ug_fields.specs.Spelling.{long_field, number_field, optional_field}
use Rattle.ug_fields.proofs.Takes.{made, reworded, joined, bind_ok}
use Rattle.ug_fields.proofs.Parts.{two}
use Rattle.ug_fields.proofs.Simple.{small_reader, long_reader, number_reader}
use Rattle.ug_fields.proofs.Flagged.{optional_reader}
use Rattle.ug_frames.specs.declared.report.Ending.TheVariants.{Plain}
use Rattle.ug_frames.specs.declared.report.Report.{Report}
use Rattle.ug_frames.specs.declared.report.Report.TheVariants.{Ready, Solution, Hand, State, Done, Ended}
use Rattle.ug_frames.specs.Ranges.{longest, IsValue, IsPoint, AreChanges}
use Rattle.ug_frames.specs.Fronts.{IsLength}
use Rattle.ug_frames.specs.Spelling.{ticket_fields, changes_fields, point_fields}
use Rattle.ug_frames.specs.ReportFrames.{tag_of, fields_of, IsCarried}
use Rattle.ug_frames.specs.Reading.{ticket_at, changes_at, point_at, alone}
use Rattle.ug_frames.specs.ReportReading.{solution_at, hand_at, state_at, done_at, tagged_at, report_in}
use Rattle.ug_frames.proofs.Parts.{IsToldTicket, given, fits, told, ticket_reader}
use Rattle.ug_frames.proofs.Changed.{changes_reader}
use Rattle.ug_frames.proofs.Pointed.{point_reader}
use Rattle.ug_frames.proofs.Lengths.{report_length_is, report_length_few}
use Rattle.ug_frames.proofs.Wholes.{IsWhole, alone_reader, chosen}

-- ---- what a report has, or something where it has none

no_ticket : Ticket
no_ticket = record { run = 1; number = 1 }

abbrev ticket_in : Report → Ticket
ticket_in (Solution ticket point) = ticket
ticket_in (Hand ticket number changes) = ticket
ticket_in (State ticket nodes floor) = ticket
ticket_in (Done ticket cutoff count ending) = ticket
ticket_in report = no_ticket

abbrev point_in : Report → List ℤ
point_in (Solution ticket point) = point
point_in report = []

-- a hand's number, how many nodes are open, or how many hands there were
abbrev number_in : Report → ℕ
number_in (Hand ticket number changes) = number
number_in (State ticket nodes floor) = nodes
number_in (Done ticket cutoff count ending) = count
number_in report = 0

abbrev changes_in : Report → List Change
changes_in (Hand ticket number changes) = changes
changes_in report = []

abbrev floor_in : Report → ℤ
floor_in (State ticket nodes floor) = floor
floor_in report = pos 0

abbrev cutoff_in : Report → Option ℤ
cutoff_in (Done ticket cutoff count ending) = cutoff
cutoff_in report = None

-- a report with this tag that a frame can carry
abbrev IsTagged : ℕ → Report → Type 0
IsTagged tag report = (tag_of report ≡ tag) × IsCarried report

-- ---- Ready and Ended

ready_to : (z : Report) → (tag_of z ≡ 17) × Unit {0} → IsTagged 17 z
ready_to Ready is = (
  refl,
  record {
    can = record { given = tt; fields = tt };
    fits = record { ticket = tt; fields = tt };
  },
)
ready_to (Done ticket cutoff count Plain) is = absurd (omega (arith, is.0))
ready_to z is = absurd (omega (arith, is.0))

ready_spelled : (z : Report) → (tag_of z ≡ 17) × Unit {0} → [] ≡ fields_of z
unfolding fields_of
ready_spelled Ready is = refl
ready_spelled (Done ticket cutoff count Plain) is = absurd (omega (arith, is.0))
ready_spelled z is = absurd (omega (arith, is.0))

only_ready : (z : Report) → (tag_of z ≡ 17) × Unit {0} → z ≡ Ready
only_ready Ready is = refl
only_ready (Done ticket cutoff count Plain) is = absurd (omega (arith, is.0))
only_ready z is = absurd (omega (arith, is.0))

ready_reader : IsReader (IsTagged 17) fields_of (λ bytes. Ok (Ready, bytes))
ready_reader =
    reworded (λ z. (tag_of z ≡ 17) × Unit {0}) (λ z. []) (IsTagged 17) fields_of _
    ready_spelled ready_to (λ z is. (is.0, tt))
    (made (λ z. (tag_of z ≡ 17) × Unit {0}) Ready (refl, tt) only_ready)

ended_to : (z : Report) → (tag_of z ≡ 22) × Unit {0} → IsTagged 22 z
ended_to Ended is = (
  refl,
  record {
    can = record { given = tt; fields = tt };
    fits = record { ticket = tt; fields = tt };
  },
)
ended_to (Done ticket cutoff count Plain) is = absurd (omega (arith, is.0))
ended_to z is = absurd (omega (arith, is.0))

ended_spelled : (z : Report) → (tag_of z ≡ 22) × Unit {0} → [] ≡ fields_of z
unfolding fields_of
ended_spelled Ended is = refl
ended_spelled (Done ticket cutoff count Plain) is = absurd (omega (arith, is.0))
ended_spelled z is = absurd (omega (arith, is.0))

only_ended : (z : Report) → (tag_of z ≡ 22) × Unit {0} → z ≡ Ended
only_ended Ended is = refl
only_ended (Done ticket cutoff count Plain) is = absurd (omega (arith, is.0))
only_ended z is = absurd (omega (arith, is.0))

ended_reader : IsReader (IsTagged 22) fields_of (λ bytes. Ok (Ended, bytes))
ended_reader =
    reworded (λ z. (tag_of z ≡ 22) × Unit {0}) (λ z. []) (IsTagged 22) fields_of _
    ended_spelled ended_to (λ z is. (is.0, tt))
    (made (λ z. (tag_of z ≡ 22) × Unit {0}) Ended (refl, tt) only_ended)

-- ---- a Solution

abbrev IsSolution : Report → Type 0
IsSolution z = (tag_of z ≡ 18) × (IsToldTicket (ticket_in z) × (IsPoint (point_in z) × Unit {0}))

solution_to : (z : Report) → IsSolution z → IsTagged 18 z
solution_to (Solution ticket point) is = (
  refl,
  record {
    can = record { given = given ticket is.1.0; fields = is.1.1.0 };
    fits = record { ticket = fits ticket is.1.0; fields = tt };
  },
)
solution_to (Done ticket cutoff count Plain) is = absurd (omega (arith, is.0))
solution_to z is = absurd (omega (arith, is.0))

solution_from : (z : Report) → IsTagged 18 z → IsSolution z
solution_from (Solution ticket point) is =
    (refl, (told ticket is.1.can.given is.1.fits.ticket, (is.1.can.fields, tt)))
solution_from (Done ticket cutoff count Plain) is = absurd (omega (arith, is.0))
solution_from z is = absurd (omega (arith, is.0))

solution_spelled : (z : Report) → IsSolution z
    → ticket_fields (ticket_in z) ++ (point_fields (point_in z) ++ []) ≡ fields_of z
unfolding fields_of
solution_spelled (Solution ticket point) is =
    ap (λ t. ticket_fields ticket ++ t) (append-nil (point_fields point))
solution_spelled (Done ticket cutoff count Plain) is = absurd (omega (arith, is.0))
solution_spelled z is = absurd (omega (arith, is.0))

only_solution : (t : Ticket) (x : List ℤ) (z : Report)
    → (((tag_of z ≡ 18) × (ticket_in z ≡ t)) × (point_in z ≡ x)) × Unit {0} → z ≡ Solution t x
only_solution t x (Solution ticket point) is = λ i. Solution (is.0.0.1 i) (is.0.1 i)
only_solution t x (Done ticket cutoff count Plain) is = absurd (omega (arith, is.0.0.0))
only_solution t x z is = absurd (omega (arith, is.0.0.0))

solution_reader : IsReader (IsTagged 18) fields_of solution_at
unfolding solution_at
solution_reader =
    reworded IsSolution (λ z. ticket_fields (ticket_in z) ++ (point_fields (point_in z) ++ []))
    (IsTagged 18) fields_of _ solution_spelled solution_to solution_from
    (joined ticket_in IsToldTicket ticket_fields ticket_at (λ z. tag_of z ≡ 18)
    (λ z. IsPoint (point_in z) × Unit {0}) (λ z. point_fields (point_in z) ++ []) _ ticket_reader
    (λ t good. joined point_in IsPoint point_fields point_at
    (λ z. (tag_of z ≡ 18) × (ticket_in z ≡ t)) (λ z. Unit {0}) (λ z. []) _ point_reader
    (λ x is. made (λ z. (((tag_of z ≡ 18) × (ticket_in z ≡ t)) × (point_in z ≡ x)) × Unit {0})
    (Solution t x) (((refl, refl), refl), tt) (only_solution t x))))

-- ---- a Hand

abbrev IsNumber : ℕ → ℕ → Type 0
IsNumber least n = (least ≤ n) × (n < 2 ^ 64)

abbrev IsHand : Report → Type 0
IsHand z = (tag_of z ≡ 19) × (IsToldTicket (ticket_in z) × (IsNumber 0 (number_in z)
    × (AreChanges (changes_in z) × Unit {0})))

abbrev hand_text : Report → List ℕ
hand_text z = ticket_fields (ticket_in z) ++ (long_field (number_in z)
    ++ (changes_fields (changes_in z) ++ []))

hand_to : (z : Report) → IsHand z → IsTagged 19 z
hand_to (Hand ticket number changes) is = (
  refl,
  record {
    can = record { given = given ticket is.1.0; fields = is.1.1.1.0 };
    fits = record { ticket = fits ticket is.1.0; fields = is.1.1.0.1 };
  },
)
hand_to (Done ticket cutoff count Plain) is = absurd (omega (arith, is.0))
hand_to z is = absurd (omega (arith, is.0))

hand_from : (z : Report) → IsTagged 19 z → IsHand z
hand_from (Hand ticket number changes) is = (
  refl,
  (
    told ticket is.1.can.given is.1.fits.ticket,
    ((omega arith, is.1.fits.fields), (is.1.can.fields, tt)),
  ),
)
hand_from (Done ticket cutoff count Plain) is = absurd (omega (arith, is.0))
hand_from z is = absurd (omega (arith, is.0))

hand_spelled : (z : Report) → IsHand z → hand_text z ≡ fields_of z
unfolding fields_of
hand_spelled (Hand ticket number changes) is =
    ap (λ t. ticket_fields ticket ++ (long_field number ++ t))
    (append-nil (changes_fields changes))
    ∙ sym (two (ticket_fields ticket) (long_field number) (changes_fields changes))
hand_spelled (Done ticket cutoff count Plain) is = absurd (omega (arith, is.0))
hand_spelled z is = absurd (omega (arith, is.0))

module _ (t : Ticket) (n : ℕ) (cs : List Change) where
  abbrev IsThisHand : Report → Type 0
  IsThisHand z = ((((tag_of z ≡ 19) × (ticket_in z ≡ t)) × (number_in z ≡ n))
      × (changes_in z ≡ cs)) × Unit {0}

  only_hand : (z : Report) → IsThisHand z → z ≡ Hand t n cs
  only_hand (Hand ticket number changes) is =
      λ i. Hand (is.0.0.0.1 i) (is.0.0.1 i) (is.0.1 i)
  only_hand (Done ticket cutoff count Plain) is = absurd (omega (arith, is.0.0.0.0))
  only_hand z is = absurd (omega (arith, is.0.0.0.0))

hand_reader : IsReader (IsTagged 19) fields_of hand_at
unfolding hand_at
hand_reader =
    reworded IsHand hand_text (IsTagged 19) fields_of _ hand_spelled hand_to hand_from
    (joined ticket_in IsToldTicket ticket_fields ticket_at (λ z. tag_of z ≡ 19)
    (λ z. IsNumber 0 (number_in z) × (AreChanges (changes_in z) × Unit {0}))
    (λ z. long_field (number_in z) ++ (changes_fields (changes_in z) ++ [])) _ ticket_reader
    (λ t good. joined number_in (IsNumber 0) long_field (long_at 0)
    (λ z. (tag_of z ≡ 19) × (ticket_in z ≡ t)) (λ z. AreChanges (changes_in z) × Unit {0})
    (λ z. changes_fields (changes_in z) ++ []) _ (long_reader 0)
    (λ n small. joined changes_in AreChanges changes_fields changes_at
    (λ z. ((tag_of z ≡ 19) × (ticket_in z ≡ t)) × (number_in z ≡ n)) (λ z. Unit {0}) (λ z. []) _
    changes_reader
    (λ cs are. made (IsThisHand t n cs) (Hand t n cs) ((((refl, refl), refl), refl), tt)
    (only_hand t n cs)))))

-- ---- a State

abbrev IsState : Report → Type 0
IsState z = (tag_of z ≡ 20) × (IsToldTicket (ticket_in z) × (IsNumber 1 (number_in z)
    × (IsValue (floor_in z) × Unit {0})))

abbrev state_text : Report → List ℕ
state_text z = ticket_fields (ticket_in z) ++ (long_field (number_in z)
    ++ (number_field (floor_in z) ++ []))

state_to : (z : Report) → IsState z → IsTagged 20 z
state_to (State ticket nodes floor) is = (
  refl,
  record {
    can = record { given = given ticket is.1.0; fields = (is.1.1.0.0, is.1.1.1.0) };
    fits = record { ticket = fits ticket is.1.0; fields = is.1.1.0.1 };
  },
)
state_to (Done ticket cutoff count Plain) is = absurd (omega (arith, is.0))
state_to z is = absurd (omega (arith, is.0))

state_from : (z : Report) → IsTagged 20 z → IsState z
state_from (State ticket nodes floor) is = (
  refl,
  (
    told ticket is.1.can.given is.1.fits.ticket,
    ((is.1.can.fields.0, is.1.fits.fields), (is.1.can.fields.1, tt)),
  ),
)
state_from (Done ticket cutoff count Plain) is = absurd (omega (arith, is.0))
state_from z is = absurd (omega (arith, is.0))

state_spelled : (z : Report) → IsState z → state_text z ≡ fields_of z
unfolding fields_of
state_spelled (State ticket nodes floor) is =
    ap (λ t. ticket_fields ticket ++ (long_field nodes ++ t)) (append-nil (number_field floor))
    ∙ sym (two (ticket_fields ticket) (long_field nodes) (number_field floor))
state_spelled (Done ticket cutoff count Plain) is = absurd (omega (arith, is.0))
state_spelled z is = absurd (omega (arith, is.0))

module _ (t : Ticket) (n : ℕ) (f : ℤ) where
  abbrev IsThisState : Report → Type 0
  IsThisState z = ((((tag_of z ≡ 20) × (ticket_in z ≡ t)) × (number_in z ≡ n))
      × (floor_in z ≡ f)) × Unit {0}

  only_state : (z : Report) → IsThisState z → z ≡ State t n f
  only_state (State ticket nodes floor) is =
      λ i. State (is.0.0.0.1 i) (is.0.0.1 i) (is.0.1 i)
  only_state (Done ticket cutoff count Plain) is = absurd (omega (arith, is.0.0.0.0))
  only_state z is = absurd (omega (arith, is.0.0.0.0))

state_reader : IsReader (IsTagged 20) fields_of state_at
unfolding state_at
state_reader =
    reworded IsState state_text (IsTagged 20) fields_of _ state_spelled state_to state_from
    (joined ticket_in IsToldTicket ticket_fields ticket_at (λ z. tag_of z ≡ 20)
    (λ z. IsNumber 1 (number_in z) × (IsValue (floor_in z) × Unit {0}))
    (λ z. long_field (number_in z) ++ (number_field (floor_in z) ++ [])) _ ticket_reader
    (λ t good. joined number_in (IsNumber 1) long_field (long_at 1)
    (λ z. (tag_of z ≡ 20) × (ticket_in z ≡ t)) (λ z. IsValue (floor_in z) × Unit {0})
    (λ z. number_field (floor_in z) ++ []) _ (long_reader 1)
    (λ n small. joined floor_in IsValue number_field (number_at (2 * 10 ^ 37))
    (λ z. ((tag_of z ≡ 20) × (ticket_in z ≡ t)) × (number_in z ≡ n)) (λ z. Unit {0}) (λ z. []) _
    (number_reader (2 * 10 ^ 37) (omega arith))
    (λ f fine. made (IsThisState t n f) (State t n f) ((((refl, refl), refl), refl), tt)
    (only_state t n f)))))

-- ---- a Done

abbrev IsDone : Report → Type 0
IsDone z = (tag_of z ≡ 21) × (IsToldTicket (ticket_in z) × (IfSome (cutoff_in z) IsValue
    × (IsNumber 0 (number_in z) × Unit {0})))

abbrev done_text : Report → List ℕ
done_text z = ticket_fields (ticket_in z) ++ (optional_field (cutoff_in z)
    ++ (long_field (number_in z) ++ []))

done_to : (z : Report) → IsDone z → IsTagged 21 z
done_to (Done ticket cutoff count Plain) is = (
  refl,
  record {
    can = record { given = given ticket is.1.0; fields = is.1.1.0 };
    fits = record { ticket = fits ticket is.1.0; fields = is.1.1.1.0.1 };
  },
)
done_to z is = absurd (omega (arith, is.0))

done_from : (z : Report) → IsTagged 21 z → IsDone z
done_from (Done ticket cutoff count Plain) is = (
  refl,
  (
    told ticket is.1.can.given is.1.fits.ticket,
    (is.1.can.fields, ((omega arith, is.1.fits.fields), tt)),
  ),
)
done_from z is = absurd (omega (arith, is.0))

done_spelled : (z : Report) → IsDone z → done_text z ≡ fields_of z
unfolding fields_of
done_spelled (Done ticket cutoff count Plain) is =
    ap (λ t. ticket_fields ticket ++ (optional_field cutoff ++ t)) (append-nil (long_field count))
    ∙ sym (two (ticket_fields ticket) (optional_field cutoff) (long_field count))
done_spelled z is = absurd (omega (arith, is.0))

module _ (t : Ticket) (c : Option ℤ) (n : ℕ) where
  abbrev IsThisDone : Report → Type 0
  IsThisDone z = ((((tag_of z ≡ 21) × (ticket_in z ≡ t)) × (cutoff_in z ≡ c))
      × (number_in z ≡ n)) × Unit {0}

  only_done : (z : Report) → IsThisDone z → z ≡ Done t c n Plain
  only_done (Done ticket cutoff count Plain) is =
      λ i. Done (is.0.0.0.1 i) (is.0.0.1 i) (is.0.1 i) Plain
  only_done z is = absurd (omega (arith, is.0.0.0.0))

done_reader : IsReader (IsTagged 21) fields_of done_at
unfolding done_at
done_reader =
    reworded IsDone done_text (IsTagged 21) fields_of _ done_spelled done_to done_from
    (joined ticket_in IsToldTicket ticket_fields ticket_at (λ z. tag_of z ≡ 21)
    (λ z. IfSome (cutoff_in z) IsValue × (IsNumber 0 (number_in z) × Unit {0}))
    (λ z. optional_field (cutoff_in z) ++ (long_field (number_in z) ++ [])) _ ticket_reader
    (λ t good. joined cutoff_in (λ c. IfSome c IsValue) optional_field
    (optional_at (2 * 10 ^ 37)) (λ z. (tag_of z ≡ 21) × (ticket_in z ≡ t))
    (λ z. IsNumber 0 (number_in z) × Unit {0}) (λ z. long_field (number_in z) ++ []) _
    (optional_reader (2 * 10 ^ 37) (omega arith))
    (λ c fine. joined number_in (IsNumber 0) long_field (long_at 0)
    (λ z. ((tag_of z ≡ 21) × (ticket_in z ≡ t)) × (cutoff_in z ≡ c)) (λ z. Unit {0}) (λ z. []) _
    (long_reader 0)
    (λ n small. made (IsThisDone t c n) (Done t c n Plain) ((((refl, refl), refl), refl), tt)
    (only_done t c n)))))

-- ---- a report by its tag

-- the most bytes behind a tag
abbrev most : ℕ
most = 67108859

abbrev IsOfTag : ℕ → (List ℕ → Reading Report) → Type 0
IsOfTag tag read = IsWhole most (IsTagged tag) fields_of (λ bytes. alone (read bytes))

by_reader : (tag n : ℕ) (read : List ℕ → Reading Report) → tag ≡ n
    → IsReader (IsTagged n) fields_of read → IsOfTag tag read
by_reader tag n read e reader =
    subst (λ (k : ℕ). IsOfTag k read) (sym e) (alone_reader (IsTagged n) fields_of read most reader)

tagged_whole : (tag : ℕ) → 17 ≤ tag → tag ≤ 22 → IsOfTag tag (tagged_at tag)
unfolding tagged_at
tagged_whole tag low high =
    chosen most (IsTagged tag) fields_of (λ bytes. Ok (Ready, bytes)) _ (eqb tag 17)
    (λ e. by_reader tag 17 (λ bytes. Ok (Ready, bytes)) (eqb-true _ _ e) ready_reader)
    (λ not_17. chosen most (IsTagged tag) fields_of solution_at _ (eqb tag 18)
    (λ e. by_reader tag 18 solution_at (eqb-true _ _ e) solution_reader)
    (λ not_18. chosen most (IsTagged tag) fields_of hand_at _ (eqb tag 19)
    (λ e. by_reader tag 19 hand_at (eqb-true _ _ e) hand_reader)
    (λ not_19. chosen most (IsTagged tag) fields_of state_at _ (eqb tag 20)
    (λ e. by_reader tag 20 state_at (eqb-true _ _ e) state_reader)
    (λ not_20. chosen most (IsTagged tag) fields_of done_at _ (eqb tag 21)
    (λ e. by_reader tag 21 done_at (eqb-true _ _ e) done_reader)
    (λ not_21.
    let a : tag ≢ 17 = eqb-false _ _ not_17 in
    let b : tag ≢ 18 = eqb-false _ _ not_18 in
    let c : tag ≢ 19 = eqb-false _ _ not_19 in
    let d : tag ≢ 20 = eqb-false _ _ not_20 in
    let e : tag ≢ 21 = eqb-false _ _ not_21 in
    by_reader tag 22 (λ bytes. Ok (Ended, bytes)) (omega (arith, low, high, a, b, c, d, e))
    ended_reader)))))

-- ---- all reports

abbrev pub body_of : Report → List ℕ
body_of z = tag_of z ∷ fields_of z

abbrev behind_tag : ℕ × List ℕ → Result Report ℕ
behind_tag tag = alone (tagged_at tag.0 tag.1)

pub tag_small : (z : Report) → (17 ≤ tag_of z) × (tag_of z ≤ 22)
tag_small Ready = (omega arith, omega arith)
tag_small (Solution ticket point) = (omega arith, omega arith)
tag_small (Hand ticket number changes) = (omega arith, omega arith)
tag_small (State ticket nodes floor) = (omega arith, omega arith)
tag_small (Done ticket cutoff count Plain) = (omega arith, omega arith)
tag_small Ended = (omega arith, omega arith)

pub report_whole : IsWhole longest IsCarried body_of report_in
unfolding report_in
report_whole = record {
  taken = λ bytes z h few e.
      let b = bind_ok (small_at 17 22 bytes) behind_tag z e in
      let t = (small_reader 17 22).taken bytes b.0.0 b.0.1 h b.1 in
      let less : length b.0.1 ≤ most = omega (arith, few, ap length t.0.parts) in
      let u = (tagged_whole b.0.0 t.1.0 t.1.1).taken b.0.1 z t.0.rest_fits less b.2 in
      (t.0.parts ∙ (λ i. sym u.1.0 i ∷ u.0 i), u.1.1);
  again = λ z is.
      let small = tag_small z in
      ap (λ r. r >>= behind_tag) ((small_reader 17 22).again (tag_of z) (fields_of z) small)
      ∙ (tagged_whole (tag_of z) small.0 small.1).again z (refl, is);
}

-- a report's frame has a length in range
pub report_small : (z : Report) → IsCarried z → IsLength (length (body_of z))
report_small z is = record {
  some = omega arith;
  few = omega (arith, report_length_is z, report_length_few z is.can);
}
