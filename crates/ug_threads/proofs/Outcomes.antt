-- What depends on the disk at the end of a solve by threads.
use Rattle.std.proofs.Common.{◌≡◌, ap, sym, ◌∙◌, subst}
use Rattle.ug_rules.specs.State.{BookState}
use Rattle.ug_rules.specs.Books.{IsSoundBook}
use Rattle.ug_restart.specs.declared.outcome.End.{End}
use Rattle.ug_restart.specs.declared.outcome.End.TheVariants.{Answered, Limited, Stranded, Memory}
use Rattle.ug_book.specs.declared.opening.Opening.{Opening}
use Rattle.ug_book.specs.Openings.{IsCoveredOpening, opening_book}
use Rattle.ug_book.specs.Views.{IsSameRun}
use Rattle.ug_restart.specs.Saves.{book_of, opening_of}
use Rattle.ug_restart.specs.Going.{GoesOn, Time}
use Rattle.ug_restart.specs.Outcomes.{IfBook}
use Rattle.ug_restart.proofs.Going.{goes_on, goes_where}
use Rattle.ug_threads.specs.Ends.{IsReplayOf}
use Rattle.ug_threads.specs.Outcomes.{HasEnded}
use Rattle.ug_threads.proofs.Endings.{opening_covered}

-- a book that a history leads to is of the run
pub same_run : (given b : BookState) → IsReplayOf given b → IsSameRun given b
same_run given b t =
    subst (λ (k : BookState). IsSameRun given k) t.is
    (subst (λ (k : BookState). IsSameRun k t.state.now.book) t.began t.locked.same)

ended_run : (given : BookState) (end : End) → IfBook end (IsReplayOf given)
    → IfBook end (IsSameRun given)
ended_run given (Answered b) t = same_run given b t
ended_run given (Limited b) t = same_run given b t
ended_run given (Stranded b) t = same_run given b t
ended_run given Memory t = tt

-- the snapshots' saves, and then the last
pub both_go : (given : BookState) (o : Opening) (end : End) (a b c : Time)
    → opening_book o ≡ given → opening_of a.saves ≡ o → HasEnded given end
    → GoesOn (IsCoveredOpening (opening_of a.saves)) (Unit {0}) a b
    → GoesOn (IfBook end IsSoundBook) (IfBook end (IsSameRun (book_of b.saves))) b c
    → GoesOn (IsSoundBook given) (Unit {0}) a c
both_go given o end a b c same opening ended first second =
    let began : book_of b.saves ≡ given = ap opening_book (first.opening ∙ opening) ∙ same in
    goes_on (IsSoundBook given) (Unit {0}) a b c
    (goes_where (IsCoveredOpening (opening_of a.saves)) (IsSoundBook given) (Unit {0}) (Unit {0})
    a b
    (λ is. subst IsCoveredOpening (sym opening) (opening_covered o given same is)) (λ ours. ours)
    first)
    (goes_where (IfBook end IsSoundBook) (IsSoundBook given)
    (IfBook end (IsSameRun (book_of b.saves))) (Unit {0}) b c ended.sound
    (λ ours. subst (λ k. IfBook end (IsSameRun k)) (sym began)
    (ended_run given end ended.replayed)) second)
