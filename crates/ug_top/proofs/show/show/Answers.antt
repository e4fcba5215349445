use Rattle.std.proofs.Common.{Option, subst}
use Rattle.ug_checkpoint.specs.Causes.{load_cause}
use Rattle.ug_checkpoint.specs.declared.error.LoadError.{LoadError}
use Rattle.ug_checkpoint.specs.declared.error.LoadError.TheVariants as load
use Rattle.ug_checkpoint.specs.declared.found.Found.{Found}
use Rattle.ug_checkpoint.specs.Recovery.{HasFound}
use Rattle.ug_restart.specs.declared.fault.StartFault.TheVariants as faults
use Rattle.ug_restart.proofs.Goings.{image_of_loaded}
use Rattle.ug_top.specs.declared.ended.Ended.TheVariants as ended
use Rattle.ug_top.specs.Solved.{KeepsCovered}
use Rattle.ug_top.proofs.Left.{fault_best, image_best}
use Rattle.ug_top.proofs.Stored.{fault_stored, image_stored, load_covered, load_stored}
use Rattle.ug_top.proofs.show.show.Goals as goal

pub shown-ended-requires : goal.shown-ended-requires
shown-ended-requires g c =
    let old = (g.D.Disk.seen c.args.disk.now).told in
    let new = (g.D.Disk.seen c.load.new.disk).told in
    image_of_loaded old new c.in-Ok-Some.found
    (subst (λ (f : Option Found). HasFound old new f) c.in-Ok-Some.field-0-is
    c.in-Ok-Some.ensures.found)

pub returns-in-Ok-Some-clause-stored : goal.returns-in-Ok-Some-clause-stored
returns-in-Ok-Some-clause-stored g c =
    image_stored c.in-Ok-Some.found.image c.shown-ended.result _ _ c.shown-ended.ensures
    c.in-Ok-Some.ensures.cause c.load.ensures.any_moment

pub returns-in-Ok-None-clause-stored : goal.returns-in-Ok-None-clause-stored
returns-in-Ok-None-clause-stored g c =
    let old = g.D.Disk.seen c.args.disk.now in
    let new = g.D.Disk.seen c.load.new.disk in
    fault_stored (KeepsCovered old new) faults.NoCheckpoint c.tell_fault.result old new c.tell_fault.ensures
    c.in-Ok-None.ensures.cause (load_covered old.told new.told c.load.ensures.any_moment)

pub returns-in-Err-Memory-clause-stored : goal.returns-in-Err-Memory-clause-stored
returns-in-Err-Memory-clause-stored g c =
    let old = g.D.Disk.seen c.args.disk.now in
    let new = g.D.Disk.seen c.load.new.disk in
    load_stored load.Memory ended.Memory old new tt
    (subst (λ (e : LoadError). load_cause e old.faults new.faults) c.in-Err-Memory.field-0-is
    c.in-Err-Memory.ensures.cause) c.load.ensures.any_moment

pub returns-in-Err-Fault-clause-stored : goal.returns-in-Err-Fault-clause-stored
returns-in-Err-Fault-clause-stored g c =
    let old = g.D.Disk.seen c.args.disk.now in
    let new = g.D.Disk.seen c.load.new.disk in
    load_stored load.Fault c.tell_fault-in-Err-Fault.result old new
    c.tell_fault-in-Err-Fault.ensures
    (subst (λ (e : LoadError). load_cause e old.faults new.faults) c.in-Err-Fault.field-0-is
    c.in-Err-Fault.ensures.cause) c.load.ensures.any_moment

pub returns-in-Err-BadImage-clause-stored : goal.returns-in-Err-BadImage-clause-stored
returns-in-Err-BadImage-clause-stored g c =
    let old = g.D.Disk.seen c.args.disk.now in
    let new = g.D.Disk.seen c.load.new.disk in
    load_stored (load.BadImage c.in-Err-BadImage.slot c.in-Err-BadImage.at)
    c.tell_fault-in-Err-BadImage.result old new c.tell_fault-in-Err-BadImage.ensures
    (subst (λ (e : LoadError). load_cause e old.faults new.faults) c.in-Err-BadImage.field-0-is
    c.in-Err-BadImage.ensures.cause) c.load.ensures.any_moment

pub returns-in-Ok-Some-clause-point : goal.returns-in-Ok-Some-clause-point
returns-in-Ok-Some-clause-point g c =
    let old = g.D.Disk.seen c.args.disk.now in
    let new = g.D.Disk.seen c.load.new.disk in
    image_best old new c.in-Ok-Some.found
    (subst (λ (f : Option Found). HasFound old.told new.told f) c.in-Ok-Some.field-0-is
    c.in-Ok-Some.ensures.found)
    c.shown-ended.result c.shown-ended.ensures

pub returns-in-Ok-None-clause-point : goal.returns-in-Ok-None-clause-point
returns-in-Ok-None-clause-point g c =
    fault_best _ faults.NoCheckpoint c.tell_fault.result c.tell_fault.ensures

pub returns-in-Err-Fault-clause-point : goal.returns-in-Err-Fault-clause-point
returns-in-Err-Fault-clause-point g c =
    fault_best _ faults.DiskFault c.tell_fault-in-Err-Fault.result c.tell_fault-in-Err-Fault.ensures

pub returns-in-Err-BadImage-clause-point : goal.returns-in-Err-BadImage-clause-point
returns-in-Err-BadImage-clause-point g c =
    fault_best _ (faults.BadImage c.in-Err-BadImage.slot c.in-Err-BadImage.at)
    c.tell_fault-in-Err-BadImage.result c.tell_fault-in-Err-BadImage.ensures
