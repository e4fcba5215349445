-- The end, as each rank is sent it.
use Rattle.std.proofs.Common.{◌≡◌, inl, inr, ℕ, suc, Bool, true, false, List, [], ◌∷◌, ◌++◌, length, append-nil, Option, None, Some, IfSome, refl, sym, ap, subst, ◌∙◌, arith}
use Rattle.std.proofs.lemmas.Bool.{cases_lt, false≢true}
use Rattle.std.proofs.lemmas.List.{get_or_past}
use Rattle.std.proofs.lemmas.List.Elements.{Contains-append_left, Contains-push}
use Rattle.std.specs.Prelude.{slice_index_or}
use Rattle.ug_io.specs.declared.crew.Exchange.{Exchange}
use Rattle.ug_io.specs.Crews.{Adds, CrewSeen, IsAlive, IsSilent, told_to}
use Rattle.ug_io.specs.Outside.{Rose}
use Rattle.ug_frames.specs.declared.order.Order.TheVariants.{End}
use Rattle.ug_frames.specs.OrderFrames as orders
use Rattle.ug_coord.specs.Actions.{Closed, Closing, Action, NextState, IsToldEnd, CoordinatorState, Unclosed, saves_in, saves_of}
use Rattle.ug_coord.specs.Ends.{ranks_of}
use Rattle.ug_coord.specs.Coordinators.{AnyPhase, EndsFrom, Reaches, HasSentTo, CoordinatorSeen, IsClosedBelow, IsFit, IsKeptIn, Phase, StaysSound, coordinator_state}
use Rattle.ug_coord.specs.Keeping.{KeptSeen}
use Rattle.ug_coord.proofs.Coursing.{trace_more, frame_of_end, only_faults, said_more}
use Rattle.ug_coord.proofs.Kept.{saves_joined, sound_more, tried_still, where_moves}

still_told : (rank : ℕ) (actions : List Action) (action : Action) → IsToldEnd rank actions
    → IsToldEnd rank (actions ++ action ∷ [])
still_told rank actions action told = elim told [
  | inl closed ↦ inl (Contains-append_left actions (action ∷ []) (Closed rank) closed)
  | inr failed ↦ inr (Contains-append_left actions (action ∷ []) (Unclosed rank) failed)
]

still_said : (a b : Option (List Exchange)) → b ≡ a → Adds a b []
still_said None b same = same
still_said (Some said) b same = same ∙ ap (λ (all : List Exchange). Some all) (sym (append-nil said))

-- nothing is done any more but that
abbrev closing : Phase → Phase
closing phase = record { link_failed = phase.link_failed; pace = Closing }

-- one action more, by which the rank was sent
closes : (from : CoordinatorState) (h next : CoordinatorSeen) (old new : KeptSeen) (rank : ℕ) (action : Action) (more : List Exchange)
    → Adds h.crew.said next.crew.said more
    → ((said : List Exchange) (phase : Phase)
    → NextState (coordinator_state said phase h) action (coordinator_state (said ++ more) (closing phase) next))
    → next.crew.lives ≡ h.crew.lives → (IsFit h → IsFit next)
    → ((actions : List Action) → IsToldEnd rank (actions ++ action ∷ [])) → saves_of action ≡ 0
    → IsClosedBelow rank from h old new → IsClosedBelow (suc rank) from next old new
closes from h next old new rank action more adds does lives fits told none k =
    let on = k.kept.on in
    let phase = k.kept.phase in
    let mid : CoordinatorState = coordinator_state on.said phase h in
    let now : CoordinatorState = coordinator_state (on.said ++ more) (closing phase) next in
    let come : Reaches from now = record {
      actions = on.come.actions ++ action ∷ [];
      trace = trace_more from on.come.actions mid now action on.come.trace (does on.said phase);
    } in
    record {
      kept = record {
        phase = closing phase;
        is = tt;
        on = record {
          said = on.said ++ more;
          come = come;
          shown = said_more h.crew.said next.crew.said on.said more adds on.shown;
          fit = fits on.fit;
        };
        moves = where_moves (StaysSound from mid on.come) (StaysSound from now come) (Unit {0}) (Unit {0}) old.saves
            new.saves old.disk new.disk
            (sound_more from on.come.actions mid now action on.come.trace (does on.said phase)) (λ ours. ours)
            k.kept.moves;
        tried = tried_still old new (saves_in on.come.actions) (saves_in (on.come.actions ++ action ∷ []))
            (omega (arith, saves_joined on.come.actions (action ∷ []), none)) k.kept.tried;
      };
      closed = λ r below alive. elim (cases_lt r rank) [
        | inl before ↦ still_told r on.come.actions action
            (k.closed r before (ap (λ (l : List Bool). slice_index_or l r false) (sym lives) ∙ alive))
        | inr past ↦ subst (λ (n : ℕ). IsToldEnd n (on.come.actions ++ action ∷ []))
            (omega (arith, below, past)) (told on.come.actions)
      ];
    }

pub closed_on : (from : CoordinatorState) (h next : CoordinatorSeen) (old new : KeptSeen) (rank : ℕ) (bytes : List ℕ)
    → bytes ≡ 0 ∷ 0 ∷ 0 ∷ 1 ∷ 8 ∷ [] → IsAlive h.crew rank → HasSentTo h next rank bytes
    → IsClosedBelow rank from h old new → IsClosedBelow (suc rank) from next old new
closed_on from h next old new rank bytes is alive sent k =
    let told : told_to rank bytes ≡ told_to rank (orders.spelled End) =
    ap (told_to rank) (is ∙ sym frame_of_end) in
    closes from h next old new rank (Closed rank) (told_to rank (orders.spelled End))
    (subst (Adds h.crew.said next.crew.said) told sent.said)
    (λ said phase. record {
      alive = alive.lives;
      rest = ap (λ (n : CoordinatorSeen). coordinator_state (said ++ told_to rank (orders.spelled End)) (closing phase) n) sent.rest;
    })
    (ap (λ (n : CoordinatorSeen). n.crew.lives) sent.rest)
    (λ fit. record {
      lives = ap (λ (n : CoordinatorSeen). length n.crew.lives) sent.rest ∙ fit.lives
          ∙ sym (ap (λ (n : CoordinatorSeen). ranks_of n.book) sent.rest);
      streams = ap (λ (n : CoordinatorSeen). length n.streams) sent.rest ∙ fit.streams
          ∙ sym (ap (λ (n : CoordinatorSeen). ranks_of n.book) sent.rest);
    })
    (λ actions. inl (Contains-push actions (Closed rank))) refl k

pub unclosed_on : (from : CoordinatorState) (h next : CoordinatorSeen) (old new : KeptSeen) (rank : ℕ)
    → IsSilent h.crew next.crew → Rose h.crew.faults next.crew.faults → next ≡ record h { crew = next.crew }
    → IsClosedBelow rank from h old new → IsClosedBelow (suc rank) from next old new
unclosed_on from h next old new rank silent faults rest k =
    let same : next ≡ record h { crew = record h.crew { faults = next.crew.faults } } =
    rest ∙ ap (λ (crew : CrewSeen). record h { crew = crew }) (only_faults h.crew next.crew silent) in
    closes from h next old new rank (Unclosed rank) [] (still_said h.crew.said next.crew.said silent.said)
    (λ said phase. record {
      faults = faults;
      rest = ap (λ (n : CoordinatorSeen). coordinator_state (said ++ []) (closing phase) n) same
          ∙ ap (λ (all : List Exchange). coordinator_state all (closing phase)
          (record h { crew = record h.crew { faults = next.crew.faults } })) (append-nil said);
    })
    silent.lives
    (λ fit. record {
      lives = ap (λ (n : CoordinatorSeen). length n.crew.lives) same ∙ fit.lives
          ∙ sym (ap (λ (n : CoordinatorSeen). ranks_of n.book) same);
      streams = ap (λ (n : CoordinatorSeen). length n.streams) same ∙ fit.streams
          ∙ sym (ap (λ (n : CoordinatorSeen). ranks_of n.book) same);
    })
    (λ actions. inr (Contains-push actions (Unclosed rank))) refl k

-- a rank that does not live is not reported
pub away_on : (from : CoordinatorState) (h : CoordinatorSeen) (old new : KeptSeen) (rank : ℕ)
    → slice_index_or h.crew.lives rank false ≡ false
    → IsClosedBelow rank from h old new → IsClosedBelow (suc rank) from h old new
away_on from h old new rank away k = record {
  kept = k.kept;
  closed = λ r below alive. elim (cases_lt r rank) [
    | inl before ↦ k.closed r before alive
    | inr past ↦ absurd (false≢true (sym away
        ∙ subst (λ (n : ℕ). slice_index_or h.crew.lives n false ≡ true) (omega (arith, below, past)) alive))
  ];
}

-- nothing is to be reported below 0
pub none_closed : (from : CoordinatorState) (h : CoordinatorSeen) (old new : KeptSeen) → IsKeptIn AnyPhase from h old new
    → IsClosedBelow 0 from h old new
none_closed from h old new k =
    record { kept = k; closed = λ rank below alive. absurd (omega (arith, below)) }

-- a rank beyond the last does not live
pub all_closed : (from : CoordinatorState) (h : CoordinatorSeen) (old new : KeptSeen) (n : ℕ) → n ≡ ranks_of h.book
    → (k : IsClosedBelow n from h old new) → (rank : ℕ) → slice_index_or h.crew.lives rank false ≡ true
    → IsToldEnd rank k.kept.on.come.actions
all_closed from h old new n all k rank alive = elim (cases_lt rank n) [
  | inl below ↦ k.closed rank below alive
  | inr past ↦ absurd (false≢true (sym (get_or_past h.crew.lives rank false
      (omega (arith, past, all, k.kept.on.fit.lives))) ∙ alive))
]

-- nothing is said any more
pub ends_kept : (from : CoordinatorState) (h : CoordinatorSeen) (seen : CrewSeen) (old new : KeptSeen) (n : ℕ)
    → seen.said ≡ h.crew.said → seen.faults ≡ h.crew.faults → n ≡ ranks_of h.book
    → IsClosedBelow n from h old new → EndsFrom from (record h { crew = seen }) old new
ends_kept from h seen old new n still calm all k =
    let on = k.kept.on in
    record {
      now = coordinator_state on.said k.kept.phase h;
      come = on.come;
      shown = subst (λ told. IfSome told (λ t. t ≡ on.said)) (sym still) on.shown;
      its = refl;
      pacing = refl;
      out_of_memory = refl;
      faults = sym calm;
      closed = all_closed from h old new n all k;
      moves = k.kept.moves;
      tried = k.kept.tried;
    }
