-- How a Done is reported to the book, and its answer returned.
use Rattle.std.specs.Prelude.{◌≡◌, ◌≢◌, ℕ}
use Rattle.ug_rules.specs.declared.heard.Heard.{Heard}
use Rattle.ug_rules.specs.declared.heard.Heard.TheVariants.{Short}

-- the count that the book receives: that of the hands, or of those found if the book has as many
pub record IsTold (handed taken found count : ℕ) : Type 0 where
  pub equal : handed ≡ taken → count ≡ found
  pub other : handed ≢ taken → count ≡ handed

-- the answer, where a Short one names the hands of the task, and those found
abbrev pub told_on : ℕ → ℕ → Heard → Heard
told_on handed found (Short said was) = Short handed found
told_on handed found answer = answer
