-- Numbers of 64 bits in the place of longer ones: a span of 64 bits is within a slack where it is
-- within the short slack.
use Rattle.std.specs.Prelude.{◌≡◌, ℕ, ℤ, pos, neg_ℤ, ◌+◌, ◌<◌, ◌≤◌, ◌^◌, ◌≤ℤ◌, ◌<ℤ◌, List}
use Rattle.std.specs.Prelude.{[], ◌∷◌, length, unsigned_abs, Option, Some, None}
use Rattle.ug_rows.specs.declared.area.Interval.{Interval}
use Rattle.ug_rows.specs.declared.row.Term.{Term}
use Rattle.ug_problem.specs.Instances.{Instance}
use Rattle.ug_problem.specs.ColumnEntries.{terms_of}
use Rattle.ug_propagate.specs.declared.measure.Ends.{Ends}
use Rattle.ug_propagate.specs.declared.measure.Slack.{Slack}
use Rattle.ug_propagate.specs.declared.short_sides.ShortSides.{ShortSides}
use Rattle.ug_propagate.specs.declared.short_sides.ShortSlack.{ShortSlack}
use Rattle.ug_propagate.specs.declared.short_measure.ShortEnds.{ShortEnds}
use Rattle.ug_propagate.specs.Steps.{HaveSmallColumns, IsPropagable, IsMeasured, IsTermOf, slack_over, span_of}

-- the span of the term, of 64 bits
pub record IsShortSpan (t : Term) (area : List Interval) (span : ℤ) : Type 0 where
  pub value : span ≡ span_of t area
  pub small : unsigned_abs span < 2 ^ 63

-- each number of 64 bits that is at most the short number is at most the number
abbrev pub IsShort : ℤ → ℤ → Type 0
IsShort number short = (v : ℤ) → unsigned_abs v < 2 ^ 63 → v ≤ℤ short → v ≤ℤ number

-- each number of 64 bits that is at most this is within the slack of both sides
abbrev pub IsShortSlack : Slack → ℤ → Type 0
IsShortSlack slack most = (v : ℤ) → unsigned_abs v < 2 ^ 63 → v ≤ℤ most
    → (v ≤ℤ slack.high) × (v ≤ℤ slack.low)

-- the sum of the absolute coefficients
abbrev pub size_of : List Term → ℕ
size_of [] = 0
size_of (t ∷ ts) = unsigned_abs t.factor + size_of ts

-- sums of these terms over numbers of 32 bits are at most 2^60
abbrev pub IsShortRow : List Term → Type 0
IsShortRow ts = size_of ts ≤ 2 ^ 29

-- ends of 64 bits as longer ones
abbrev pub ends_of : ShortEnds → Ends
ends_of ends = record { least = ends.least; greatest = ends.greatest; widest = ends.widest }

-- a short row, its sums over the box in 64 bits, and a number that no span of a term is above
pub record IsShortMeasured (ts : List Term) (area : List Interval) (ends : ShortEnds) : Type 0 where
  pub short : IsShortRow ts
  pub measured : IsMeasured ts area (ends_of ends)

-- so are those of each row and of the objective
abbrev pub AreShort : Instance → Type 0
AreShort p = (r : ℕ) → r ≤ length p.rows → IsShortRow (terms_of p r)

-- a term of such a row
pub record IsShortTerm (width : ℕ) (t : Term) : Type 0 where
  pub term : IsTermOf width t
  pub size : unsigned_abs t.factor ≤ 2 ^ 29

-- the side, where a missing one is a number so large that no span is above the slack that it leaves
abbrev pub IsShortHigh : Option ℤ → ℤ → Type 0
IsShortHigh None side = side ≡ pos (2 ^ 62)
IsShortHigh (Some high) side = (side ≡ high) × (unsigned_abs high ≤ 2 ^ 61)

abbrev pub IsShortLow : Option ℤ → ℤ → Type 0
IsShortLow None side = side ≡ neg_ℤ (pos (2 ^ 62))
IsShortLow (Some low) side = (side ≡ low) × (unsigned_abs low ≤ 2 ^ 61)

-- the sides of row r of a problem whose sums are short, in 64 bits
pub record IsShortSides (p : Instance) (s : ShortSides) : Type 0 where
  pub there : s.r ≤ length p.rows
  pub short : AreShort p
  pub row : IsPropagable (length p.columns) s.row_sides (terms_of p s.r)
  pub high : IsShortHigh s.row_sides.high s.high
  pub low : IsShortLow s.row_sides.low s.low

-- the number is the slack, or it is one that no span is above, and not above the slack
pub record IsNearSlack (slack near : ℤ) : Type 0 where
  pub below : near ≤ℤ slack
  pub same : near <ℤ pos (2 ^ 61) → near ≡ slack

-- so are those of both sides
pub record AreNearSlacks (s : ShortSides) (terms : List Term) (area : List Interval) (slack : ShortSlack) :
    Type 0 where
  pub small : HaveSmallColumns terms area
  pub high : IsNearSlack (slack_over s.row_sides terms area).high slack.high
  pub low : IsNearSlack (slack_over s.row_sides terms area).low slack.low
