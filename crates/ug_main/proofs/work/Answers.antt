use Rattle.std.proofs.Common.{ℕ, List, sym, subst}
use Rattle.ug_cli.specs.Taken.{texts}
use Rattle.ug_top.specs.Outside.{seen_if}
use Rattle.ug_top.specs.Ends.{IsPlanOf}
use Rattle.ug_top.proofs.Needs.{has_needs}
use Rattle.ug_main.specs.Files.{FilesSeen, HasRunOnFiles, crew_seen, link_seen}
use Rattle.ug_main.proofs.Files.{from_none, unbegun_is_run}
use Rattle.ug_main.proofs.work.Goals as goal

pub returns : goal.returns
returns g c =
    let seen : FilesSeen = record {
      reads = c.carry_out-status.new.objects.input.faults.count;
      stores = c.carry_out-status.new.objects.disk.faults.count;
      writes = c.carry_out-status.new.out.faults.count;
      crew = seen_if crew_seen c.carry_out-status.new.objects.crew;
      link = seen_if link_seen c.carry_out-status.new.objects.link;
    } in
    subst (λ words. HasRunOnFiles (texts words) seen c.carry_out-status.result) c.deref.ensures.value
    (from_none _ _ c.new.result.faults.count c.disk_of.result.faults.count
    c.new-out.result.faults.count _ _ seen
    (record { its_crew = c.in-Ok.ensures.new; its_link = c.link_of.ensures.new })
    c.new.ensures c.disk_of.ensures c.new-out.ensures
    c.carry_out-status.ensures)

pub carry_out-status-requires-after_bounds : goal.carry_out-status-requires-after_bounds
carry_out-status-requires-after_bounds g c κs within = λ other taken.
    has_needs c.words_tell_the_needs.ensures (texts c.deref.result.now) c.args.plan _
    (subst (λ words. IsPlanOf (texts words) c.args.plan) (sym c.deref.ensures.value) c.requires)
    c.in-Ok.ensures.needs c.link_of.ensures.needs other taken

pub returns-in_default : goal.returns-in_default
returns-in_default g c = unbegun_is_run _ _ _ c.unbegun.ensures
