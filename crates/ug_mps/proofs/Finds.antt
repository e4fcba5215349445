-- What a look-up of a name says.
use Rattle.std.proofs.Common.{◌≡◌, ℕ, true, false, List, Contains, Option, Some, None, IfSome, IsNone, ◌↔◌, sym, refl}
use Rattle.std.specs.Option.{is_some}
use Rattle.std.proofs.lemmas.Bool.{false≢true}
use Rattle.ug_mps.specs.Names.{StandsAt}
use Rattle.ug_mps.specs.RowSteps.{is_among}
use Rattle.ug_mps.proofs.Bytes.{any_true, any_none}

pub found_some : (names : List (List ℕ)) (name : List ℕ) (o : Option ℕ) → IfSome o (StandsAt names name) → is_some o ≡ true → is_among names name ≡ true
found_some names name None f t = absurd (false≢true t)
found_some names name (Some j) f t = any_true names name j f

pub found_none : (names : List (List ℕ)) (name : List ℕ) (o : Option ℕ) → (IsNone o ↔ ¬ Contains names name) → is_some o ≡ false → is_among names name ≡ false
found_none names name None f t = any_none names name (f.0 refl)
found_none names name (Some j) f t = absurd (false≢true (sym t))

pub gone_from : (names : List (List ℕ)) (name : List ℕ) (o : Option ℕ) → (IsNone o ↔ ¬ Contains names name) → is_some o ≡ false → ¬ Contains names name
gone_from names name None f t = f.0 refl
gone_from names name (Some j) f t = absurd (false≢true (sym t))
