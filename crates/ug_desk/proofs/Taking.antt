-- What a pass takes of what there was behind the lock.
use Rattle.std.proofs.Common.{inl, inr, Some, Result, Ok, Err, refl, subst}
use Rattle.ug_worker.specs.declared.took.Took.{Took}
use Rattle.ug_worker.specs.declared.took.Untaken.{Untaken}
use Rattle.ug_worker.specs.declared.took.Untaken.TheVariants.{Deciding, Making}
use Rattle.ug_desk.specs.declared.given.Given.{Given}
use Rattle.ug_desk.specs.Entries.{LockedState}
use Rattle.ug_desk.specs.Histories.{taken}
use Rattle.ug_desk.specs.Givens.{IsOpened, taken_by}
use Rattle.ug_desk.specs.Passes.{HasCalledAt, HasTakenIn, PassState}

-- if nothing was given, nothing is made of it
pub err_opened : (end : Untaken) → IsOpened (Err end) (Err end)
err_opened (Deciding stood) = refl
err_opened Making = inl refl

-- what was given is an entry, whatever is made of it
pub opened_in : (was : Result Given Untaken) (result : Result Took Untaken) (after : LockedState)
    (p q : PassState) → IsOpened was result → HasCalledAt (Some (taken (taken_by was))) after p q
    → HasTakenIn result p q
opened_in was (Ok took) after p q is h =
    (after, subst (λ (t : Result Took Untaken). HasCalledAt (Some (taken t)) after p q) is h)
opened_in was (Err (Deciding stood)) after p q is h =
    (after, subst (λ (t : Result Took Untaken). HasCalledAt (Some (taken t)) after p q) is h)
opened_in was (Err Making) after p q (inl is) h =
    inl (after, subst (λ (t : Result Took Untaken). HasCalledAt (Some (taken t)) after p q) is h)
opened_in was (Err Making) after p q (inr (task, is)) h =
    inr (task, (after, subst (λ (t : Result Took Untaken). HasCalledAt (Some (taken t)) after p q) is h))
