use Rattle.std.proofs.Common.{◌≡◌, Some, Ok, rules, subst}
use Rattle.ug_base.specs.Tasks.{TaskState}
use Rattle.ug_worker.specs.declared.took.Took.{Took}
use Rattle.ug_worker.specs.declared.took.Took.TheVariants.{Work}
use Rattle.ug_desk.specs.Backing.{IsKnownBacked}
use Rattle.ug_desk.specs.Entries.{LockedState}
use Rattle.ug_desk.specs.Histories.{taken}
use Rattle.ug_desk.specs.Passes.{HasCalledAt, IsItsProblem, PassState}
use Rattle.ug_desk.proofs.Backing.{taken_its, taken_known}
use Rattle.ug_book_tests.proofs.desks.calls.work.Goals as goal

known_as : (took : Took) (task : TaskState) (after : LockedState) (p q : PassState) → took ≡ Work task
    → HasCalledAt (Some (taken (Ok took))) after p q → IsKnownBacked q task.cutoff
known_as took task after p q is h =
    taken_known task after p q (subst (λ (t : Took). HasCalledAt (Some (taken (Ok t))) after p q) is h)

pub returns-in-Ok-Work-clause-known : goal.returns-in-Ok-Work-clause-known
returns-in-Ok-Work-clause-known g c =
    let is : c.in-Ok-Work.field-0 ≡ Work c.in-Ok-Work.task = search rules in
    known_as c.in-Ok-Work.field-0 c.in-Ok-Work.task c.in-Ok-Work.ensures.taken.0 c.args.pass.now c.take.new.pass is
    c.in-Ok-Work.ensures.taken.1

its_as : (took : Took) (task : TaskState) (after : LockedState) (p q : PassState) → took ≡ Work task
    → HasCalledAt (Some (taken (Ok took))) after p q → IsItsProblem q task.problem
its_as took task after p q is h =
    taken_its task after p q (subst (λ (t : Took). HasCalledAt (Some (taken (Ok t))) after p q) is h)

pub returns-in-Ok-Work-clause-problem : goal.returns-in-Ok-Work-clause-problem
returns-in-Ok-Work-clause-problem g c =
    let is : c.in-Ok-Work.field-0 ≡ Work c.in-Ok-Work.task = search rules in
    its_as c.in-Ok-Work.field-0 c.in-Ok-Work.task c.in-Ok-Work.ensures.taken.0 c.args.pass.now c.take.new.pass is
    c.in-Ok-Work.ensures.taken.1
