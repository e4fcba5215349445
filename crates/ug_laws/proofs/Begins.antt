-- A run that has begun on a disk is one with which the laws begin.
use Rattle.std.proofs.Common.{◌≡◌, ℕ, [], ◌∷◌, None, Some, refl, sym, ap, subst}
use Rattle.ug_disk.specs.Histories.{History}
use Rattle.ug_rules.specs.State.{BookState}
use Rattle.ug_rules.specs.Books.{IsBook, IsSoundBook}
use Rattle.ug_book.specs.Openings.{opening_book}
use Rattle.ug_book.proofs.Starts.{start_is_sound}
use Rattle.ug_restart.specs.declared.start.Start.{Start}
use Rattle.ug_restart.specs.Openings.{IsAcknowledgedStart, IsStart}
use Rattle.ug_restart.specs.Starts.{next_run}
use Rattle.ug_restart.proofs.Firsts.{root_covers}
use Rattle.ug_laws.specs.Machines.{beginning}
use Rattle.ug_laws.specs.DiskLaws.{HasBegun, NewRunsBegin, NextRunsBegin}

begins : (Is : BookState → Type 0) (new : History) (faults : ℕ) (start : Start) (book : BookState)
    → IsStart Is (Some new) start → IsSoundBook (opening_book start.opening) → IsBook book
    → book ≡ opening_book start.opening
    → HasBegun (beginning book (record { saver = start.saver; told = new; faults = faults }))
begins Is new faults start book t sound is same = record {
  book = is;
  sound = subst IsSoundBook (sym same) sound;
  unused = ap (λ (b : BookState). b.last) same;
  acknowledged = subst (λ b. IsAcknowledgedStart (Some new) b start.saver) (sym same)
      t.acknowledged;
  noted = refl;
}

pub new_runs_begin : NewRunsBegin
new_runs_begin p settings old new faults start book t is same =
    let sound : IsSoundBook (opening_book start.opening) = subst IsSoundBook (sym t.book.is)
    ((start_is_sound p (next_run t.book.found) None ([] ∷ []) settings).1
    (root_covers p settings.gap ([] ∷ []) refl)) in
    begins _ new faults start book t sound is same

pub next_runs_begin : NextRunsBegin
next_runs_begin p settings old new faults start book t from covered is same =
    let o = start.opening in
    let sound : IsSoundBook (opening_book o) =
    (start_is_sound o.problem o.run o.best o.boxes o.settings).1 (from.covered covered) in
    begins _ new faults start book t sound is same
