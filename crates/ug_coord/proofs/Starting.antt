-- The start of each rank.
use Rattle.std.proofs.Common.{◌≡◌, ◌<◌, ◌≤◌, inl, inr, ℕ, suc, Bool, true, false, List, [], ◌∷◌, ◌++◌, length, append_assoc, refl, ap, subst, ◌∙◌, arith}
use Rattle.std.proofs.lemmas.Bool.{cases_lt}
use Rattle.std.proofs.lemmas.List.{get_or-replicate, get_or-set_other, get_or-set_same, get_or_past, length-replicate, length-set}
use Rattle.std.proofs.lemmas.List.Elements.{Contains-append_right}
use Rattle.std.specs.Prelude.{replicate, slice_index_or, slice_set}
use Rattle.ug_io.specs.Crews.{IsAlive}
use Rattle.ug_stream.specs.Streams.{first}
use Rattle.ug_rules.specs.State.{BookState}
use Rattle.ug_coord.specs.Actions.{AreSound, Closed, Action, Failed, IsTrace, IsToldEnd, Launched, Lost, SetUp, CoordinatorState, Unclosed, saves_in}
use Rattle.ug_coord.specs.Ends.{ranks_of}
use Rattle.ug_coord.specs.Coordinators.{EndsFrom, Reaches, HasFailed, CoordinatorSeen, IsFresh, IsRested, IsSetUpFrame, IsStartedAs, IsStartedIn, Phase, StartsAndEnds, StaysSound, beginning, sent_or_failed, coordinator_state}
use Rattle.ug_coord.specs.Keeping.{KeptSeen}
use Rattle.ug_coord.proofs.Coursing.{begun_on, failed_on, launched_on, set_up_on}
use Rattle.ug_coord.proofs.Kept.{none_saved, saves_joined, tried_still, where_moves}

-- ---- one rank

-- the ranks behind it live as before
set_later : (lives : List Bool) (rank other : ℕ) (alive : Bool) → suc rank ≤ other
    → slice_index_or lives other false ≡ false → slice_index_or (slice_set lives rank alive) other false ≡ false
set_later lives rank other alive past none =
    get_or-set_other lives rank other alive false (λ same. absurd (omega (arith, past, same))) ∙ none

-- a call for it failed
pub unstarted_as : (phase : Phase) (b : CoordinatorState) (old new : CoordinatorSeen) (rank : ℕ) → HasFailed old new rank
    → IsStartedAs rank phase b old → IsStartedAs (suc rank) phase b new
unstarted_as phase b old new rank h k = record {
  on = failed_on phase b old new rank h k.on;
  starts = (k.on.come.actions, Lost rank Failed ∷ [], refl, k.starts, inr (inr refl));
  later = λ other past.
      ap (λ (n : CoordinatorSeen). slice_index_or n.crew.lives other false) h.rest
      ∙ set_later old.crew.lives rank other false past (k.later other (omega (arith, past)));
}

told_as : (sent : Bool) (phase : Phase) (b : CoordinatorState) (old mid new : CoordinatorSeen) (rank : ℕ) (frame : List ℕ)
    → slice_index_or old.crew.lives rank false ≡ false
    → mid ≡ record old { crew = record old.crew { lives = slice_set old.crew.lives rank true } }
    → IsAlive mid.crew rank → IsSetUpFrame mid.book frame → sent_or_failed sent mid new rank frame
    → IsStartedAs rank phase b old → IsStartedAs (suc rank) phase b new
told_as true phase b old mid new rank frame away rest alive setup came k = record {
  on = set_up_on true phase b mid new rank frame alive setup came (launched_on phase b old mid rank away rest k.on);
  starts = (
    k.on.come.actions,
    Launched rank ∷ SetUp rank setup.bytes ∷ [],
    append_assoc k.on.come.actions (Launched rank ∷ []) (SetUp rank setup.bytes ∷ []),
    k.starts,
    inl (setup.bytes, refl),
  );
  later = λ other past.
      ap (λ (n : CoordinatorSeen). slice_index_or n.crew.lives other false) came.rest
      ∙ ap (λ (n : CoordinatorSeen). slice_index_or n.crew.lives other false) rest
      ∙ set_later old.crew.lives rank other true past (k.later other (omega (arith, past)));
}
told_as false phase b old mid new rank frame away rest alive setup came k = record {
  on = set_up_on false phase b mid new rank frame alive setup came (launched_on phase b old mid rank away rest k.on);
  starts = (
    k.on.come.actions,
    Launched rank ∷ Lost rank Failed ∷ [],
    append_assoc k.on.come.actions (Launched rank ∷ []) (Lost rank Failed ∷ []),
    k.starts,
    inr (inl refl),
  );
  later = λ other past.
      ap (λ (n : CoordinatorSeen). slice_index_or n.crew.lives other false) came.rest
      ∙ set_later mid.crew.lives rank other false past
      (ap (λ (n : CoordinatorSeen). slice_index_or n.crew.lives other false) rest
      ∙ set_later old.crew.lives rank other true past (k.later other (omega (arith, past))));
}

-- it was started, and sent the problem or not
pub started_as : (sent : Bool) (phase : Phase) (b : CoordinatorState) (old mid new : CoordinatorSeen) (rank : ℕ) (frame : List ℕ)
    → rank < length old.crew.lives
    → mid ≡ record old { crew = record old.crew { lives = slice_set old.crew.lives rank true } }
    → IsSetUpFrame mid.book frame → sent_or_failed sent mid new rank frame → IsStartedAs rank phase b old
    → IsStartedAs (suc rank) phase b new
started_as sent phase b old mid new rank frame there rest setup came k =
    let lives = ap (λ (h : CoordinatorSeen). h.crew.lives) rest in
    told_as sent phase b old mid new rank frame (k.later rank (omega arith)) rest
    (record {
      there = omega (arith, ap (λ (l : List Bool). length l) lives, length-set old.crew.lives rank true, there);
      lives = ap (λ (l : List Bool). slice_index_or l rank false) lives
          ∙ get_or-set_same old.crew.lives rank true false there;
    })
    setup came k

-- ---- none yet

pub none_lives : (n rank : ℕ) → slice_index_or (replicate n false) rank false ≡ false
none_lives n rank = elim (cases_lt rank n) [
  | inl below ↦ get_or-replicate n rank false false below
  | inr past ↦ get_or_past (replicate n false) rank false (omega (arith, past, length-replicate n false))
]

pub begun_started : (b : BookState) (h : CoordinatorSeen) → IsFresh h.crew (ranks_of b) → h.book ≡ b
    → h.streams ≡ replicate (ranks_of b) first → h.out_of_memory ≡ false
    → h.pacing ≡ record { since = b.heard; apart = 0 }
    → IsStartedIn IsRested 0 (beginning b h.crew.faults) h
begun_started b h fresh book streams out_of_memory pacing =
    let (phase, is, on) = begun_on b h fresh book streams out_of_memory pacing in (
      phase,
      is,
      record {
        on = on;
        starts = refl;
        later = λ rank past. ap (λ (l : List Bool). slice_index_or l rank false) fresh.lives
            ∙ none_lives (ranks_of b) rank;
      },
    )

-- it may be said to begin where it stands
pub starts_here : (phase : Phase) (from : CoordinatorState) (h : CoordinatorSeen) → IsStartedAs 0 phase from h
    → (mid : CoordinatorState) × IsStartedAs 0 phase mid h
starts_here phase from h k = (
  coordinator_state k.on.said phase h,
  record {
    on = record {
      said = k.on.said;
      come = record { actions = []; trace = refl };
      shown = k.on.shown;
      fit = k.on.fit;
    };
    starts = refl;
    later = k.later;
  },
)

-- ---- and then the rest

-- actions behind others, which are sound where all of them are
joined : (a : CoordinatorState) (actions : List Action) (b : CoordinatorState) (more : List Action) (c : CoordinatorState) → IsTrace a actions b
    → (two : IsTrace b more c)
    → (one : IsTrace a (actions ++ more) c) × (AreSound a (actions ++ more) c one → AreSound b more c two)
joined a [] b more c same two =
    subst (λ (s : CoordinatorState). (one : IsTrace s more c) × (AreSound s more c one → AreSound b more c two)) same
    (two, λ sound. sound)
joined a (action ∷ actions) b more c (mid, does, rest) two =
    let after = joined mid actions b more c rest two in
    ((mid, does, after.0), λ sound. after.1 sound.1)

still_ended : (rank : ℕ) (actions more : List Action) → IsToldEnd rank more → IsToldEnd rank (actions ++ more)
still_ended rank actions more told = elim told [
  | inl closed ↦ inl (Contains-append_right actions more (Closed rank) closed)
  | inr failed ↦ inr (Contains-append_right actions more (Unclosed rank) failed)
]

pub starts_and_ends : (n : ℕ) (phase : Phase) (from : CoordinatorState) (h last : CoordinatorSeen) (old new : KeptSeen)
    → (k : IsStartedAs n phase from h) → h.pacing ≡ from.pacing
    → EndsFrom (coordinator_state k.on.said phase h) last old new → StartsAndEnds n from last old new
starts_and_ends n phase from h last old new k same e =
    let mid : CoordinatorState = coordinator_state k.on.said phase h in
    let starts = k.on.come.actions in
    let all = joined from starts mid e.come.actions e.now k.on.come.trace e.come.trace in
    let come : Reaches from e.now = record { actions = starts ++ e.come.actions; trace = all.0 } in
    record {
      ends = record {
        now = e.now;
        come = come;
        shown = e.shown;
        its = e.its;
        pacing = e.pacing;
        out_of_memory = e.out_of_memory;
        faults = e.faults;
        closed = λ rank alive. still_ended rank starts e.come.actions (e.closed rank alive);
        moves = where_moves (StaysSound mid e.now e.come) (StaysSound from e.now come) (Unit {0}) (Unit {0}) old.saves
            new.saves old.disk new.disk all.1 (λ ours. ours) e.moves;
        tried = tried_still old new (saves_in e.come.actions) (saves_in (starts ++ e.come.actions))
            (omega (
              arith,
              saves_joined starts e.come.actions,
              none_saved from starts mid k.on.come.trace same,
            )) e.tried;
      };
      started = record { starts = starts; are = k.starts; rest = e.come.actions; split = refl };
    }
