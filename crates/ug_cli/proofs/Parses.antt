-- What clap says of a parse of the words.
use Rattle.std.proofs.Common.{◌≡◌, ◌≢◌, true, List, [], ◌∷◌, refl, inl, inr}
use Rattle.clap.specs.Walk.{Text}
use Rattle.clap.specs.Simple.{App, HasMatchesOf, is_simple, subcommand_of, subcommand_rows_of}
use Rattle.clap.specs.Faults.{fault_of, is_simple_and_free}
use Rattle.clap.specs.Kinds.{HasKind, IsAmong, Kinds}
use Rattle.clap.specs.Values.{kind_of}
use Rattle.clap.specs.declared.error.Error.{Error}
use Rattle.clap.specs.declared.error.kind.ErrorKind.{ErrorKind}
use Rattle.clap.specs.declared.error.kind.ErrorKind.TheVariants as kind
use Rattle.clap.specs.declared.parser.matches.ArgMatches.{ArgMatches}
use Rattle.ug_cli.specs.Options.{ug}

pub ug_is_simple : is_simple ug ≡ true
ug_is_simple = refl

pub ug_is_simple_and_free : is_simple_and_free ug ≡ true
ug_is_simple_and_free = refl

not_among_none : (k : ErrorKind) (kinds : Kinds) → IsAmong k kinds → kinds ≡ [] → ⊥
not_among_none k [] among e = among
not_among_none k (x ∷ kinds) among e = cc

-- an error other than memory is a fault in the words
pub faulty : (app : App) (words : List Text) (e : Error) → app ≡ ug → (is_simple_and_free app ≡ true → HasKind (fault_of app words) e)
    → kind_of e ≢ kind.OutOfMemory → fault_of ug words ≢ []
faulty app words e same kinds other none = elim (kinds (rw same ug_is_simple_and_free)) [
  | inl memory ↦ other memory
  | inr among ↦ not_among_none (kind_of e) (fault_of ug words) (rw same at among) none
]

-- a parse finds no fault, and the matches of the words
pub faultless : (app : App) (words : List Text) (m : ArgMatches) → app ≡ ug → (is_simple_and_free app ≡ true → fault_of app words ≡ [])
    → HasMatchesOf app words m → (fault_of ug words ≡ []) × (subcommand_rows_of m ≡ subcommand_of ug words)
faultless app words m same none matches =
    (rw same at (none (rw same ug_is_simple_and_free)), rw same at (matches (rw same ug_is_simple)).1)
