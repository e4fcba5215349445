-- How a solve by workers in memory ends.
use Rattle.std.proofs.Common.{◌≡◌, ℕ, List, Option, Some, refl, sym, subst}
use Rattle.ug_io.specs.declared.crew.Exchange.{Exchange}
use Rattle.ug_io.specs.Crews.{CrewSeen}
use Rattle.ug_disk.specs.Histories.{DiskSeen}
use Rattle.ug_rules.specs.State.{BookState}
use Rattle.ug_rules.specs.Books.{IsSoundBook}
use Rattle.ug_checkpoint.specs.declared.saver.Saver.{Saver}
use Rattle.ug_book.specs.declared.opening.Opening.{Opening}
use Rattle.ug_book.specs.Openings.{IsCoveredOpening, opening_book}
use Rattle.ug_book.proofs.Starts.{start_is_sound}
use Rattle.ug_restart.specs.declared.outcome.End.{End}
use Rattle.ug_restart.specs.declared.outcome.End.TheVariants.{Answered, Limited, Stranded, Memory}
use Rattle.ug_restart.specs.Outcomes.{IfAnswered, IfBook, IfLimited, IsLimited, IsRight}
use Rattle.ug_coord.specs.Ends.{is_ended}
use Rattle.ug_coord.specs.Coordinators.{HasCoordinated}
use Rattle.ug_coord.specs.Keeping.{IsKeptSafe}
use Rattle.ug_serve.specs.Worked.{AreAlwaysWorked}
use Rattle.ug_laws.specs.Laws.{LosesNothing}
use Rattle.ug_laws.specs.Workers.{CoordinatorsOfWorkersLoseNothing}
use Rattle.ug_laws.proofs.Solved.{was_said}
use Rattle.ug_model.specs.Solved.{HasSolved}

book_loses : (end : End) (b : BookState) → is_ended end b → LosesNothing b → IfBook end LosesNothing
book_loses (Answered own) b is holds = subst LosesNothing (sym is.0) holds
book_loses (Limited own) b is holds = subst LosesNothing (sym is.0) holds
book_loses (Stranded own) b is holds = subst LosesNothing (sym is.0) holds
book_loses Memory b is holds = tt

answer_right : (end : End) (b : BookState) → is_ended end b → IsSoundBook b
    → IfAnswered end (λ book. IsSoundBook book → IsRight book) → IfAnswered end IsRight
answer_right (Answered own) b is sound right = right (subst IsSoundBook (sym is.0) sound)
answer_right (Limited own) b is sound right = tt
answer_right (Stranded own) b is sound right = tt
answer_right Memory b is sound right = tt

at_limit : (end : End) (b : BookState) → is_ended end b → IfLimited end IsLimited
at_limit (Answered own) b is = tt
at_limit (Limited own) b is = subst IsLimited (sym is.0) is.1
at_limit (Stranded own) b is = tt
at_limit Memory b is = tt

module _ (o : Opening) (end : End) (before : ℕ) (after : CrewSeen) (said : List Exchange) (saver : Option Saver)
    (old new : DiskSeen) (Tried : ℕ → Type 0)
    (h : HasCoordinated (opening_book o) before after end Tried (IsKeptSafe saver old new)) (told : after.said ≡ Some said)
  where
    -- what was said is worked
    pub has_solved : CoordinatorsOfWorkersLoseNothing → IsCoveredOpening o → AreAlwaysWorked said
        → HasSolved o saver end old new
    has_solved law covered worked =
        let sound : IsSoundBook (opening_book o) =
        (start_is_sound o.problem o.run o.best o.boxes o.settings).1 covered in
        let all = law (opening_book o) before h.now h.come h.made sound (record { last = refl; orders = refl })
        (was_said o end before after said Tried (IsKeptSafe saver old new) h told worked) in
        record {
          same = h.same;
          sound = book_loses end h.now.book h.ended all.1;
          feasible = h.feasible;
          right = answer_right end h.now.book h.ended all.1.sound h.right;
          limited = at_limit end h.now.book h.ended;
          exact = h.limited;
          safe = h.safe all.0;
        }
