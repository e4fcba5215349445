-- Runs on files of which no call has failed yet.
use Rattle.std.proofs.Common.{◌≡◌, ℕ, List, Option, None, inr, refl, subst}
use Rattle.clap.specs.Walk.{Text}
use Rattle.ug_io.specs.Crews.{CrewSeen}
use Rattle.ug_io.specs.Links.{LinkSeen}
use Rattle.ug_print.specs.Lines.{memory_line}
use Rattle.ug_top.specs.declared.status.Status.{Status}
use Rattle.ug_top.specs.declared.status.Status.TheVariants.{Memory}
use Rattle.ug_top.specs.Ran.{HasRun}
use Rattle.ug_main.specs.Files.{AreNew, FilesSeen, HasRunOnFiles, IsUnbegun, of_files, of_output}

-- such a run, however it ended
pub from_none : (words : List Text) (status : Status) (reads stores writes : ℕ) (crew : Option CrewSeen)
    (link : Option LinkSeen) (seen : FilesSeen) → AreNew crew link → reads ≡ 0 → stores ≡ 0
    → writes ≡ 0
    → HasRun words (of_files reads stores crew link) (of_files seen.reads seen.stores seen.crew seen.link)
    (of_output writes) (of_output seen.writes) status
    → HasRunOnFiles words seen status
from_none words status reads stores writes crew link seen fresh no_read no_store no_write ran =
    let new = of_files seen.reads seen.stores seen.crew seen.link in
    let after = of_output seen.writes in
    record {
      crew = crew;
      link = link;
      new = fresh;
      ran = subst (λ (n : ℕ). HasRun words (of_files 0 0 crew link) new (of_output n) after status) no_write
          (subst (λ (n : ℕ). HasRun words (of_files 0 n crew link) new (of_output writes) after status) no_store
          (subst (λ (n : ℕ). HasRun words (of_files n stores crew link) new (of_output writes) after status)
          no_read ran));
    }

-- whatever the words that could not be read
pub unbegun_is_run : (words : List Text) (seen : FilesSeen) (status : Status)
    → IsUnbegun seen status → HasRunOnFiles words seen status
unbegun_is_run words seen status unbegun = record {
  crew = None;
  link = None;
  new = record { its_crew = tt; its_link = tt };
  ran = record {
    due_status = Memory;
    text = memory_line;
    due = inr (record {
      untouched = unbegun.nothing;
      why = inr (record { memory = refl; line = refl });
    });
    told = unbegun.told;
  };
}
