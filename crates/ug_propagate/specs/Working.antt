-- A working box: a box that is tightened in place, with its running sums, the rows that are queued,
-- and what was changed.
use Rattle.std.specs.Prelude.{◌≡◌, ◌≢◌, ℕ, ℤ, pos, ◌+◌, ◌-◌, ◌-ℤ◌, ◌≤ℤ◌, ◌*◌, ◌^◌, ◌<◌, ◌≤◌, ◌⊎◌}
use Rattle.std.specs.Prelude.{List, [], ◌∷◌, ◌++◌, length, map, replicate, take, drop, All}
use Rattle.std.specs.Prelude.{Bool, true, slice_index_or, slice_set, nat_lt, if◌then◌else◌, Option, Some, None}
use Rattle.std.specs.Option.{option_map}
use Rattle.ug_rows.specs.declared.area.Interval.{Interval}
use Rattle.ug_rows.specs.declared.row.Term.{Term}
use Rattle.ug_rows.specs.Boxes.{interval_at}
use Rattle.ug_rows.specs.Rows.{term_at}
use Rattle.ug_problem.specs.declared.locks.Inward.{Inward}
use Rattle.ug_problem.specs.declared.locks.Inward.TheVariants.{Up, Down}
use Rattle.ug_problem.specs.Limits.{IsProblem}
use Rattle.ug_problem.specs.Locks.{AreLocksOf, listed_at}
use Rattle.ug_problem.specs.Instances.{Instance, row_at}
use Rattle.ug_problem.specs.ColumnEntries.{terms_of}
use Rattle.ug_propagate.specs.declared.row_sides.RowSides.{RowSides}
use Rattle.ug_propagate.specs.declared.row_sides.Propagated.{Propagated}
use Rattle.ug_propagate.specs.declared.row_sides.Propagated.TheVariants.{Same, Changed, Emptied}
use Rattle.ug_propagate.specs.declared.measure.Slack.{Slack}
use Rattle.ug_propagate.specs.declared.fixpoint.Fixpoint.{Fixpoint}
use Rattle.ug_propagate.specs.declared.fixpoint.Fixpoint.TheVariants.{Unknown, Under}
use Rattle.ug_propagate.specs.declared.rows.MeasuredRows.{MeasuredRows}
use Rattle.ug_propagate.specs.declared.rows.ShortExtremes.{ShortExtremes}
use Rattle.ug_propagate.specs.declared.sums.Extremes.{Extremes}
use Rattle.ug_propagate.specs.declared.working.Trailed.{Trailed}
use Rattle.ug_propagate.specs.Queued.{bit_of}
use Rattle.ug_propagate.specs.Running.{AreFirstSums, AreSums, IsRunning, SumsState}
use Rattle.ug_propagate.specs.Running.{are_in_64_bits, sums_in, widened}
use Rattle.ug_propagate.specs.Shorts.{AreShort, IsShortRow}
use Rattle.ug_propagate.specs.Steps.{IsSlackOf, span_of}

-- the running sums over the box, a number for each row that no span of its terms is above, the rows
-- that are queued, and the changes that were made, with what each column was before
pub record WorkState : Type 0 where
  pub sums : SumsState
  pub max_span : List ℤ
  pub queued : List ℕ
  pub trail : List Trailed

-- the box before these changes
abbrev pub undone : List Interval → List Trailed → List Interval
undone area [] = area
undone area (change ∷ changes) = slice_set (undone area changes) change.column change.before

-- the sides of row r under a cutoff; the objective is the row behind the last, and has no side
-- where there is no cutoff
abbrev pub sides_for : Instance → Option ℤ → ℕ → RowSides
sides_for p cutoff r =
    (if nat_lt r (length p.rows)
    then record { row = Some r; low = (row_at p r).low; high = (row_at p r).high }
    else record {
      row = None;
      low = None;
      high = option_map (λ c. c -ℤ pos 1 -ℤ p.objective.constant) cutoff;
    })

-- the propagation of these terms would change nothing and report nothing: the sums leave slack
-- within both sides, and no span of a term is above it
pub record IsAtFixpoint (row_sides : RowSides) (terms : List Term) (area : List Interval) : Type 0 where
  pub slack : Slack
  pub is : IsSlackOf row_sides terms area slack
  pub high : pos 0 ≤ℤ slack.high
  pub low : pos 0 ≤ℤ slack.low
  pub each : (k : ℕ) → k < length terms
      → (span_of (term_at terms k) area ≤ℤ slack.high) × (span_of (term_at terms k) area ≤ℤ slack.low)

-- the number that no span of row r is above
abbrev pub max_span_at : List ℤ → ℕ → ℤ
max_span_at max_span r = slice_index_or max_span r (pos 0)

-- no span of a term is above the number of its row
pub record AreMaxSpans (p : Instance) (area : List Interval) (max_span : List ℤ) : Type 0 where
  pub count : length max_span ≡ length p.rows + 1
  pub each : (r k : ℕ) → r ≤ length p.rows → k < length (terms_of p r)
      → span_of (term_at (terms_of p r) k) area ≤ℤ max_span_at max_span r

-- the same for the first n rows
pub record AreFirstMaxSpans (p : Instance) (area : List Interval) (n : ℕ) (max_span : List ℤ) :
    Type 0 where
  pub count : length max_span ≡ n
  pub each : (r k : ℕ) → r < n → k < length (terms_of p r)
      → span_of (term_at (terms_of p r) k) area ≤ℤ max_span_at max_span r

-- the sums of the first n rows and how far they reach
pub record AreFirstWide (p : Instance) (area : List Interval) (n : ℕ) (ends : List Extremes)
    (widest : List ℤ) : Type 0 where
  pub sums : AreFirstSums p area n ends
  pub max_span : AreFirstMaxSpans p area n widest

-- the same in 64 bits, of rows that are short
pub record AreFirstShort (p : Instance) (area : List Interval) (n : ℕ) (ends : List ShortExtremes)
    (widest : List ℤ) : Type 0 where
  pub short : (r : ℕ) → r < n → IsShortRow (terms_of p r)
  pub sums : AreFirstSums p area n (map widened ends)
  pub max_span : AreFirstMaxSpans p area n widest

-- the sums of all rows and how far each reaches, in 64 bits only where these fit whatever the box
pub record AreMeasured (p : Instance) (area : List Interval) (rows : MeasuredRows) : Type 0 where
  pub sums : AreSums p area (sums_in rows.sums)
  pub short : are_in_64_bits rows.sums ≡ true → AreShort p
  pub max_span : AreMaxSpans p area rows.max_span.items

-- this many words in which each bit is 1
abbrev pub AreOnes : ℕ → List ℕ → Type 0
AreOnes words queued = queued ≡ replicate words (2 ^ 64 - 1)

-- each row is queued
abbrev pub AreQueued : Instance → List ℕ → Type 0
AreQueued p queued = (r : ℕ) → r ≤ length p.rows → bit_of queued r ≡ 1

-- there is a bit for each row
pub record HasBits (p : Instance) (queued : List ℕ) : Type 0 where
  pub enough : length p.rows < 64 * length queued
  pub few : length queued ≤ 10 ^ 6

-- each row that is not queued is at fixpoint under the cutoff
abbrev pub AreAtFixpoint : Instance → Option ℤ → List Interval → List ℕ → Type 0
AreAtFixpoint p cutoff area queued =
    (r : ℕ) → r ≤ length p.rows → bit_of queued r ≡ 0
    → IsAtFixpoint (sides_for p cutoff r) (terms_of p r) area

-- what a working box keeps, whatever the cutoff
pub record IsBox (p : Instance) (work : WorkState) : Type 0 where
  pub sums : IsRunning p work.sums
  pub max_span : AreMaxSpans p work.sums.area work.max_span
  pub bits : HasBits p work.queued

-- what it keeps under a cutoff
pub record IsWorking (p : Instance) (cutoff : Option ℤ) (work : WorkState) : Type 0 where
  pub box : IsBox p work
  pub at_fixpoint : AreAtFixpoint p cutoff work.sums.area work.queued

-- these rows were enqueued, and each other is as it was
pub record AreEnqueued (rows : List ℕ) (old new : List ℕ) : Type 0 where
  pub width : length new ≡ length old
  pub unqueued : (r : ℕ) → bit_of new r ≡ 0 → bit_of old r ≡ 0
  pub others : (r k : ℕ) → bit_of new r ≡ 0 → k < length rows → listed_at rows k ≢ r

-- the rows that lose slack where this end of column j goes inwards are queued
pub record AreUp (p : Instance) (j : ℕ) (inward : Inward) (queued : List ℕ) : Type 0 where
  pub list : List ℕ
  pub is : AreLocksOf p j inward list
  pub up : (r k : ℕ) → bit_of queued r ≡ 0 → k < length list → listed_at list k ≢ r

-- if this end of column j moved, the rows that lose slack by it were enqueued
pub record EnqueuedEnd (moved : Bool) (p : Instance) (j : ℕ) (inward : Inward) (old new : List ℕ) :
    Type 0 where
  pub width : length new ≡ length old
  pub unqueued : (r : ℕ) → bit_of new r ≡ 0 → bit_of old r ≡ 0
  pub up : moved ≡ true → AreUp p j inward new
  pub problem : IsProblem p

-- the rows that lose slack where column j goes from one interval to another were enqueued
pub record EnqueuedColumn (p : Instance) (j : ℕ) (before after : Interval) (old new : List ℕ) :
    Type 0 where
  pub width : length new ≡ length old
  pub unqueued : (r : ℕ) → bit_of new r ≡ 0 → bit_of old r ≡ 0
  pub up : before.low ≢ after.low → AreUp p j Up new
  pub down : before.high ≢ after.high → AreUp p j Down new
  pub problem : IsProblem p

-- a column was given another interval, which is on the trail, and its rows are queued
pub record HasChanged (p : Instance) (j : ℕ) (side : Interval) (old new : WorkState) : Type 0 where
  pub area : new.sums.area ≡ slice_set old.sums.area j side
  pub sums : IsRunning p new.sums
  pub max_span : new.max_span ≡ old.max_span
  pub trail : new.trail ≡ old.trail ++ record { column = j; before = interval_at old.sums.area j }
      ∷ []
  pub enqueued : EnqueuedColumn p j (interval_at old.sums.area j) side old.queued new.queued

-- the changes are of columns that are there
abbrev pub AreTrailed : ℕ → List Trailed → Type 0
AreTrailed width changes = All (λ (change : Trailed). change.column < width) changes

-- some changes were made since, which undone give the box that there was
pub record IsLater (old new : WorkState) : Type 0 where
  pub more : List Trailed
  pub trail : new.trail ≡ old.trail ++ more
  pub back : undone new.sums.area more ≡ old.sums.area
  pub there : AreTrailed (length old.sums.area) more
  pub max_span : new.max_span ≡ old.max_span

-- the working box went over to the rows of a problem, with the number that no span over a whole box
-- is above; the box and what was changed are the same
pub record IsOver (p : Instance) (whole : List Interval) (old new : WorkState) : Type 0 where
  pub area : new.sums.area ≡ old.sums.area
  pub sums : IsRunning p new.sums
  pub max_span : AreMaxSpans p whole new.max_span
  pub bits : HasBits p new.queued
  pub trail : new.trail ≡ old.trail

-- the last change was undone
pub record HasUndone (old new : WorkState) : Type 0 where
  pub change : Trailed
  pub trail : old.trail ≡ new.trail ++ change ∷ []
  pub area : new.sums.area ≡ slice_set old.sums.area change.column change.before
  pub max_span : new.max_span ≡ old.max_span
  pub queued : new.queued ≡ old.queued

-- the changes behind the first `depth` were undone
pub record WentBack (depth : ℕ) (old new : WorkState) : Type 0 where
  pub trail : new.trail ≡ take depth old.trail
  pub area : new.sums.area ≡ undone old.sums.area (drop depth old.trail)
  pub max_span : new.max_span ≡ old.max_span
  pub queued : new.queued ≡ old.queued

-- the working box continued to this: a box of the problem with each change on its trail, whose rows
-- rest where they did
pub record IsStep (p : Instance) (old new : WorkState) : Type 0 where
  pub box : IsBox p new
  pub later : IsLater old new
  pub at_fixpoint : (cutoff : Option ℤ) → AreAtFixpoint p cutoff old.sums.area old.queued
      → AreAtFixpoint p cutoff new.sums.area new.queued

-- if nothing was changed, nothing was
abbrev pub IsSame : Propagated → WorkState → WorkState → Type 0
IsSame Same old new = new ≡ old
IsSame Changed old new = Unit {0}
IsSame (Emptied reason) old new = Unit {0}

-- if a term was not tightened, its span is within the slack of both sides
abbrev pub FitsWhereSame : Propagated → Term → List Interval → Slack → Type 0
FitsWhereSame Same t area slack = (span_of t area ≤ℤ slack.high) × (span_of t area ≤ℤ slack.low)
FitsWhereSame Changed t area slack = Unit {0}
FitsWhereSame (Emptied reason) t area slack = Unit {0}

-- if no term was tightened, each fits so
abbrev pub FitWhereSame : Propagated → List Term → List Interval → Slack → Type 0
FitWhereSame Same terms area slack =
    (k : ℕ) → k < length terms
    → (span_of (term_at terms k) area ≤ℤ slack.high) × (span_of (term_at terms k) area ≤ℤ slack.low)
FitWhereSame Changed terms area slack = Unit {0}
FitWhereSame (Emptied reason) terms area slack = Unit {0}

-- a row that propagation did not tighten is at fixpoint
abbrev pub AtFixpointWhereSame : Propagated → RowSides → List Term → List Interval → Type 0
AtFixpointWhereSame Same row_sides terms area = IsAtFixpoint row_sides terms area
AtFixpointWhereSame Changed row_sides terms area = Unit {0}
AtFixpointWhereSame (Emptied reason) row_sides terms area = Unit {0}

-- the propagation of a row that has at most one side
abbrev pub HasOneSide : RowSides → Type 0
HasOneSide row_sides = (row_sides.low ≡ None) ⊎ (row_sides.high ≡ None)

-- if each term was examined once, a row with one side alone is at fixpoint, since a cut moves the
-- other sum alone
abbrev pub AtFixpointWhereChanged : Propagated → RowSides → List Term → List Interval → Type 0
AtFixpointWhereChanged Same row_sides terms area = Unit {0}
AtFixpointWhereChanged Changed row_sides terms area = HasOneSide row_sides → IsAtFixpoint row_sides terms area
AtFixpointWhereChanged (Emptied reason) row_sides terms area = Unit {0}

-- the rows are at fixpoint for the box and this cutoff, or it is not known of any
abbrev pub AllAtFixpoint : Instance → Fixpoint → List Interval → Type 0
AllAtFixpoint p Unknown area = Unit {0}
AllAtFixpoint p (Under cutoff) area = (r : ℕ) → r ≤ length p.rows
    → IsAtFixpoint (sides_for p cutoff r) (terms_of p r) area

-- if the rows were at fixpoint so, each that is not queued is at fixpoint under this cutoff
abbrev pub EnqueuesOthers : Instance → Fixpoint → Option ℤ → List ℕ → Type 0
EnqueuesOthers p fixpoint cutoff queued = (area : List Interval) → AllAtFixpoint p fixpoint area
    → AreAtFixpoint p cutoff area queued
