-- How far the reader has come.
use Rattle.std.specs.Prelude.{◌≡◌, ℕ, ◌+◌, ◌-◌, ◌≤◌, false, List, ◌++◌, length, reverse, Some}
use Rattle.ug_lines.specs.Lines.{Line, pieces, lines_after, lines_of}
use Rattle.ug_mps.specs.declared.draft.Draft.{Draft}
use Rattle.ug_mps.specs.Entries.{Entry}
use Rattle.ug_mps.specs.Says.{is_ended, history}
use Rattle.ug_mps.specs.Drafts.{Drafts}

-- k lines of the file were taken and say h, the rest is left, and none of them is ENDATA
pub record HasTaken (text rest : List ℕ) (k : ℕ) (h : List Entry) : Type 0 where
  pub front : List Line
  pub count : length front ≡ k
  pub lines : lines_of text ≡ front ++ lines_after (length text - length rest) (pieces rest)
  pub room : k + length rest ≤ length text
  pub said : history (reverse front) ≡ Some h
  pub open_ : is_ended h ≡ false

-- the draft keeps what those lines say
pub record IsReading (text rest : List ℕ) (k : ℕ) (draft : Draft) : Type 0 where
  pub entries : List Entry
  pub taken : HasTaken text rest k entries
  pub drafts : Drafts entries draft
