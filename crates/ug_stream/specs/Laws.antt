-- That a stream is read in one way, whatever the pieces in which it comes.
use Rattle.std.specs.Prelude.{◌≡◌, ℕ, false, List, [], ◌∷◌, ◌++◌, All}
use Rattle.std.specs.List.{flat_map}
use Rattle.ug_frames.specs.Fronts.{BeginsWith, IsCutShort}
use Rattle.ug_frames.specs.OrderFrames as orders
use Rattle.ug_frames.specs.ReportFrames as reports
use Rattle.ug_stream.specs.Streams.{IsGiven, Waiting, fed}

-- a piece that came, and the messages that were given before the next one
pub record Round (M : Type 0) : Type 0 where
  pub piece : List ℕ
  pub given : List M

-- the pieces that came, joined
abbrev pub joined : {M : Type 0} → List (Round M) → List ℕ
joined {M} rounds = flat_map (λ (round : Round M). round.piece) rounds

-- the messages that were given, in order
abbrev pub messages : {M : Type 0} → List (Round M) → List M
messages {M} rounds = flat_map (λ (round : Round M). round.given) rounds

module _ {M : Type 0} (IsCarried : M → Type 0) (spelled : M → List ℕ) where
  -- these messages were given, one after another
  abbrev pub AreGiven : List M → Waiting → Waiting → Type 0
  AreGiven [] old new = new ≡ old
  AreGiven (message ∷ ms) old new =
      (mid : Waiting) × IsGiven IsCarried spelled old mid message × AreGiven ms mid new

  -- the rounds lead from what waits at first to what waits then
  abbrev pub Leads : List (Round M) → Waiting → Waiting → Type 0
  Leads [] old new = new ≡ old
  Leads (round ∷ rounds) old new =
      (mid : Waiting) × AreGiven round.given (fed old round.piece) mid × Leads rounds mid new

  -- no frame of a message is the front
  abbrev pub IsOver : List ℕ → Type 0
  IsOver bytes = (message : M) → ¬ BeginsWith IsCarried spelled bytes message

  -- what waited and the pieces are the frames of the messages given and what waits then; each is
  -- such as comes in a frame
  pub record HasGiven (rounds : List (Round M)) (old new : Waiting) : Type 0 where
    pub carried : All IsCarried (messages rounds)
    pub same : old.bytes ++ joined rounds ≡ flat_map spelled (messages rounds) ++ new.bytes

  abbrev pub GivesWhatCame : Type 0
  GivesWhatCame = (rounds : List (Round M)) (old new : Waiting) → old.bad ≡ false
      → Leads rounds old new → HasGiven rounds old new

  -- bytes are in one way the frames of messages and a rest at whose front no frame stands
  abbrev pub IsOneReading : Type 0
  IsOneReading = (ms ns : List M) (r s : List ℕ) → All IsCarried ms → All IsCarried ns
      → IsOver r → IsOver s → flat_map spelled ms ++ r ≡ flat_map spelled ns ++ s
      → (ms ≡ ns) × (r ≡ s)

  -- if a frame is cut short none is the front
  abbrev pub ShortIsOver : Type 0
  ShortIsOver = (bytes : List ℕ) → IsCutShort bytes → IsOver bytes

  pub record IsReadInOneWay : Type 0 where
    pub gives : GivesWhatCame
    pub one : IsOneReading
    pub short : ShortIsOver

-- so it is of orders and of reports
pub record StreamsAreReadInOneWay : Type 0 where
  pub of_orders : IsReadInOneWay orders.IsCarried orders.spelled
  pub of_reports : IsReadInOneWay reports.IsCarried reports.spelled
