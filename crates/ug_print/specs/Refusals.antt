-- The line of a file that is refused.
use Rattle.std.specs.Prelude.{ℕ, List, [], ◌++◌, Option, Some, None, codes}
use Rattle.std.specs.Fmt.{decimal}
use Rattle.ug_drafts.specs.declared.fault.Kind.{Kind}
use Rattle.ug_drafts.specs.declared.fault.Kind.TheVariants as kinds
use Rattle.ug_drafts.specs.declared.fault.MpsFault.{MpsFault}
use Rattle.ug_print.specs.Lines.{line, further}

-- the name of a kind of fault
abbrev pub kind_name : Kind → List ℕ
kind_name kinds.Byte = codes "Byte"
kind_name kinds.Words = codes "Words"
kind_name kinds.Section = codes "Section"
kind_name kinds.RowKind = codes "RowKind"
kind_name kinds.Marker = codes "Marker"
kind_name kinds.BoundKind = codes "BoundKind"
kind_name kinds.SemiContinuous = codes "SemiContinuous"
kind_name kinds.Unknown = codes "Unknown"
kind_name kinds.Duplicate = codes "Duplicate"
kind_name kinds.Number = codes "Number"
kind_name kinds.TooWide = codes "TooWide"
kind_name kinds.TooMany = codes "TooMany"
kind_name kinds.TooLong = codes "TooLong"
kind_name kinds.NoEnd = codes "NoEnd"
kind_name kinds.Continuous = codes "Continuous"
kind_name kinds.Unbounded = codes "Unbounded"

-- a blank and the word, if there is one
abbrev pub word_part : Option (List ℕ) → List ℕ
word_part None = []
word_part (Some word) = further word

-- the line of a refusal: the line of the fault, its kind and its word
abbrev pub refused_line : MpsFault → List ℕ
refused_line f =
    line (codes "refused" ++ further (decimal f.line) ++ further (kind_name f.kind)
    ++ word_part f.word)
