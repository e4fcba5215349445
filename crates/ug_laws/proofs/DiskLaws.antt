-- Whatever is saved, crashes and restarts, no better point is lost.
use Rattle.std.proofs.Common.{◌≡◌, inl, inr, List, [], ◌∷◌, length, Option, None, Some, IfSome, refl, sym, ◌∙◌, ap, subst}
use Rattle.std.specs.Prelude.{All}
use Rattle.std.proofs.lemmas.List.Elements.{All-head, All-tail}
use Rattle.ug_disk.specs.Histories.{History}
use Rattle.ug_disk.specs.Crashes.{Leaves}
use Rattle.ug_disk.specs.Memories.{begun}
use Rattle.ug_disk.proofs.Moments.{joins, starts}
use Rattle.ug_problem.specs.Instances.{Instance}
use Rattle.ug_rules.specs.declared.settings.Settings.{Settings}
use Rattle.ug_rules.specs.State.{BookState}
use Rattle.ug_rules.specs.Books.{IsSoundBook}
use Rattle.ug_book.proofs.Starts.{start_is_sound}
use Rattle.ug_image.specs.declared.image.Image.{Image}
use Rattle.ug_checkpoint.specs.Savers.{last_slot, sequence_of}
use Rattle.ug_snapshot.specs.Moments.{IsCovered}
use Rattle.ug_snapshot.proofs.Helds.{covered_image}
use Rattle.ug_restart.specs.Moments.{FindsIn}
use Rattle.ug_restart.specs.Openings.{IsAcknowledgedStart}
use Rattle.ug_restart.specs.Starts.{IsGoneOn, boxes_saved, next_run}
use Rattle.ug_restart.proofs.Goings.{covered_on}
use Rattle.ug_laws.specs.declared.event.Event.{Event}
use Rattle.ug_laws.specs.Worlds.{World}
use Rattle.ug_laws.proofs.Traces.{Holds as WorldHolds, event_holds, loses_nothing, unused_holds}
use Rattle.ug_laws.proofs.Trusted.{AreTrue, honest_true, unused_true}
use Rattle.ug_laws.specs.declared.disk_event.DiskEvent.{DiskEvent}
use Rattle.ug_laws.specs.declared.disk_event.DiskEvent.TheVariants.{World as InWorld, Note, Save, Crash, Stop}
use Rattle.ug_laws.specs.Machines.{DiskWorld, HappensOnDisk, HasAttempted, HasGoneOn, HasNoted, HasRestarted, IsDiskTrace, IsNotRestarted, OfWorld, SavesWhat, disk_end_of, last_left, left_by}
use Rattle.ug_laws.specs.DiskLaws.{CrashesLoseNothing, HasBegun, IsHonestOnDisk, LoseNothing, LosesNothingSince}
use Rattle.ug_laws.proofs.Finds.{CouldAll, HasAll, OfBook, OfGoneOn, all_alike, all_found, could_crashed, could_has, refused_all, restart_each, saved_all, saved_each}

-- ---- images that are Covered

covered_of_book : (b : BookState) → IsSoundBook b → OfBook IsCovered b
covered_of_book b sound sequence image m =
    covered_image b m.nodes sequence image m.is
    ((loses_nothing b sound).covered m.nodes (λ n primitive. (m.primitive.each n).1 primitive))

sound_gone_on : (p : Instance) (settings : Settings) (told : History) (b : BookState)
    → CouldAll IsCovered told → IsGoneOn p settings (Some told) b → IsSoundBook b
sound_gone_on p settings told b all t =
    subst IsSoundBook (sym t.is)
    ((start_is_sound p (next_run (Some t.found)) t.found.image.best
    (boxes_saved t.found.image.nodes) settings).1
    (covered_on p settings.gap t.found t.problem t.gap
    (could_has IsCovered told all t.found t.could)))

covered_gone_on : (p : Instance) (settings : Settings) (told : History) → CouldAll IsCovered told
    → OfGoneOn IsCovered p settings told
covered_gone_on p settings told all b t =
    covered_of_book b (sound_gone_on p settings told b all t)

-- ---- no better point is lost

-- the run's world, and that what was sent to it is true
pub record HoldsIn (world : World) : Type 0 where
  pub holds : WorldHolds (length world.book.ranks) world
  pub true_ : AreTrue world.book world.sent

pub record Holds (since : History) (w : DiskWorld) : Type 0 where
  pub runs : w.refused ≡ None → HoldsIn w.world
  pub all : HasAll IsCovered w
  pub noted : w.refused ≡ None → IfSome w.noted IsCovered
  pub each : Leaves (FindsIn IsCovered) (Some since) (Some w.told)

-- if the disk and its saver are left alone
since_alike : (since old new : History) → new ≡ old
    → Leaves (FindsIn IsCovered) (Some since) (Some old)
    → Leaves (FindsIn IsCovered) (Some since) (Some new)
since_alike since old new same each =
    subst (λ h. Leaves (FindsIn IsCovered) (Some since) (Some h)) (sym same) each

world_holds : (since : History) (event : Event) (old new : DiskWorld) → OfWorld event old new
    → IsHonestOnDisk new → Holds since old → Holds since new
world_holds since event old new t honest h =
    let goes_on : new.refused ≡ None =
    ap (λ (w : DiskWorld). w.refused) t.rest ∙ t.goes_on in
    let run = h.runs t.goes_on in
    let n = length old.world.book.ranks in
    let first : WorldHolds n new.world =
    event_holds n old.world new.world event t.is t.happens run.true_ run.holds in
    let told = ap (λ (w : DiskWorld). w.told) t.rest in
    record {
      runs = λ e. record {
        holds = subst (λ m. WorldHolds m new.world) (sym first.wide) first;
        true_ = honest_true new.world.told new.world.book new.world.sent (honest goes_on)
            first.known;
      };
      all = all_alike IsCovered old new told
          (ap (λ (w : DiskWorld). last_slot w.saver) t.rest) (λ e. t.goes_on) h.all;
      noted = λ e. subst (λ n. IfSome n IsCovered) (sym (ap (λ (w : DiskWorld). w.noted) t.rest))
          (h.noted t.goes_on);
      each = since_alike since old.told new.told told h.each;
    }

same_world : (since : History) (old new : DiskWorld) → new.world ≡ old.world
    → new.refused ≡ old.refused → Holds since old → new.refused ≡ None → HoldsIn new.world
same_world since old new same alike h e = subst HoldsIn (sym same) (h.runs (sym alike ∙ e))

noted_holds : (since : History) (old new : DiskWorld) → HasNoted old new → Holds since old
    → Holds since new
noted_holds since old new t h =
    let run = h.runs t.goes_on in
    let told = ap (λ (w : DiskWorld). w.told) t.rest in
    record {
      runs = same_world since old new (ap (λ (w : DiskWorld). w.world) t.rest)
          (ap (λ (w : DiskWorld). w.refused) t.rest) h;
      all = all_alike IsCovered old new told
          (ap (λ (w : DiskWorld). last_slot w.saver) t.rest) (λ e. t.goes_on) h.all;
      noted = λ e. subst (λ n. IfSome n IsCovered) (sym (ap (λ (w : DiskWorld). w.noted) t.rest))
          (covered_of_book old.world.book run.holds.sound 1 t.image t.moment);
      each = since_alike since old.told new.told told h.each;
    }

attempted_holds : (since : History) (old new : DiskWorld) (image : Image) → old.refused ≡ None
    → old.noted ≡ Some image → HasAttempted image old new → Holds since old → Holds since new
attempted_holds since old new image goes_on is t h =
    let covered : IsCovered image = subst (λ n. IfSome n IsCovered) is (h.noted goes_on) in
    let next : IsCovered t.next = subst IsCovered (sym t.same) covered in
    record {
      runs = same_world since old new (ap (λ (w : DiskWorld). w.world) t.rest)
          (ap (λ (w : DiskWorld). w.refused) t.rest) h;
      all = saved_all IsCovered t.attempt old new t.next goes_on h.all next t.is;
      noted = λ e. subst (λ n. IfSome n IsCovered) (sym (ap (λ (w : DiskWorld). w.noted) t.rest))
          next;
      each = joins (FindsIn IsCovered) (Some since) (Some old.told) (Some new.told) h.each
          (saved_each IsCovered t.attempt old new t.next goes_on h.all next t.is);
    }

saves_holds : (since : History) (old new : DiskWorld) (noted : Option Image) → old.refused ≡ None
    → old.noted ≡ noted → SavesWhat noted old new → Holds since old → Holds since new
saves_holds since old new None goes_on is t h = subst (Holds since) (sym t) h
saves_holds since old new (Some image) goes_on is t h =
    attempted_holds since old new image goes_on is t h

-- a run that has just begun
begun_run : (w : DiskWorld) → HasBegun w → HoldsIn w.world
begun_run w b = record {
  holds = unused_holds w.world b.book b.sound b.unused;
  true_ = unused_true w.world.book w.world.sent b.book b.unused;
}

acknowledged_all : (w : DiskWorld) → IsSoundBook w.world.book
    → IsAcknowledgedStart (Some w.told) w.world.book w.saver → HasAll IsCovered w
acknowledged_all w sound a =
    all_found IsCovered w a.found a.finds a.last a.written
    (covered_of_book w.world.book sound (sequence_of w.saver) a.found.image a.image)

-- a run resumes from an image
gone_on_holds : (since : History) (settings : Settings) (old new : DiskWorld)
    → CouldAll IsCovered old.told
    → Leaves (FindsIn IsCovered) (Some since) (Some new.told) → HasGoneOn settings old new
    → Holds since new
gone_on_holds since settings old new all each t =
    let sound = sound_gone_on old.world.book.problem settings old.told new.world.book all t.book in
    let unused : new.world.book.last ≡ 0 = ap (λ (b : BookState). b.last) t.book.is in
    let none : new.noted ≡ None = ap (λ (w : DiskWorld). w.noted) t.rest in
    record {
      runs = λ e. record {
        holds = unused_holds new.world t.is sound unused;
        true_ = unused_true new.world.book new.world.sent t.is unused;
      };
      all = acknowledged_all new sound t.acknowledged;
      noted = λ e. subst (λ n. IfSome n IsCovered) (sym none) tt;
      each = each;
    }

refused_holds : (since : History) (settings : Settings) (old new : DiskWorld)
    → Leaves (FindsIn IsCovered) (Some old.told) (Some new.told)
    → Leaves (FindsIn IsCovered) (Some since) (Some new.told) → IsNotRestarted settings old new
    → Holds since new
refused_holds since settings old new leaves each t =
    let is : new.refused ≡ Some t.fault = ap (λ (w : DiskWorld). w.refused) t.rest in
    record {
      runs = λ none. absurd (cc (sym none ∙ is));
      all = refused_all IsCovered settings old new leaves t;
      noted = λ none. absurd (cc (sym none ∙ is));
      each = each;
    }

restart_holds : (since : History) (settings : Settings) (old new : DiskWorld)
    → CouldAll IsCovered old.told
    → Leaves (FindsIn IsCovered) (Some since) (Some old.told) → HasRestarted settings old new
    → Holds since new
restart_holds since settings old new all before t =
    let p = old.world.book.problem in
    let leaves = restart_each IsCovered settings old new all
    (covered_gone_on p settings old.told all) t in
    let each = joins (FindsIn IsCovered) (Some since) (Some old.told) (Some new.told) before leaves
    in
    elim t.ends [
      | inl goes ↦ gone_on_holds since settings old new all each goes
      | inr refused ↦ refused_holds since settings old new leaves each refused
    ]

step_holds : (since : History) (event : DiskEvent) (old new : DiskWorld)
    → HappensOnDisk old event new → IsHonestOnDisk new → Holds since old
    → Holds (left_by event since) new
step_holds since (InWorld event) old new t honest h = world_holds since event old new t honest h
step_holds since Note old new t honest h = noted_holds since old new t h
step_holds since Save old new t honest h =
    saves_holds since old new old.noted t.goes_on refl t.saves h
step_holds since (Crash zero one settings) old new (left, t) honest h =
    let told = begun zero.items one.items in
    let all = could_crashed IsCovered old.told zero.items one.items h.all.could left in
    restart_holds told settings (record old { told = told }) new all
    (starts (FindsIn IsCovered) (Some told) all) t
step_holds since (Stop settings) old new t honest h =
    restart_holds since settings old new h.all.could h.each t

loses : (since : History) (w : DiskWorld) → Holds since w → LosesNothingSince since w
loses since w h = record {
  book = λ e. loses_nothing w.world.book (h.runs e).holds.sound;
  disk = h.each;
}

trace_loses : (since : History) (old : DiskWorld) (events : List DiskEvent)
    (trace : List DiskWorld) → IsDiskTrace old events trace → All IsHonestOnDisk trace
    → Holds since old → LoseNothing since events trace
trace_loses since old [] [] t honest h = tt
trace_loses since old (event ∷ events) (new ∷ trace) t honest h =
    let first = step_holds since event old new t.0 (All-head IsHonestOnDisk new trace honest) h in (
      loses (left_by event since) new first,
      trace_loses (left_by event since) new events trace t.1
          (All-tail IsHonestOnDisk new trace honest) first,
    )
trace_loses since old [] (new ∷ trace) t honest h = absurd t
trace_loses since old (event ∷ events) [] t honest h = absurd t

-- at the end of a trace
pub trace_holds : (since : History) (old : DiskWorld) (events : List DiskEvent)
    (trace : List DiskWorld) → IsDiskTrace old events trace → All IsHonestOnDisk trace
    → Holds since old → Holds (last_left since events) (disk_end_of old trace)
trace_holds since old [] [] t honest h = h
trace_holds since old (event ∷ events) (new ∷ trace) t honest h =
    trace_holds (left_by event since) new events trace t.1
    (All-tail IsHonestOnDisk new trace honest)
    (step_holds since event old new t.0 (All-head IsHonestOnDisk new trace honest) h)
trace_holds since old [] (new ∷ trace) t honest h = absurd t
trace_holds since old (event ∷ events) [] t honest h = absurd t

pub begun_holds : (w : DiskWorld) → HasBegun w → Holds w.told w
begun_holds w b =
    let all = acknowledged_all w b.sound b.acknowledged in
    record {
      runs = λ e. begun_run w b;
      all = all;
      noted = λ e. subst (λ n. IfSome n IsCovered) (sym b.noted) tt;
      each = starts (FindsIn IsCovered) (Some w.told) all.could;
    }

pub crashes_lose_nothing : CrashesLoseNothing
crashes_lose_nothing start events trace begins are t honest =
    trace_loses start.told start events trace t honest (begun_holds start begins)
