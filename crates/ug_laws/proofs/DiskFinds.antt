-- Whatever happens an image is found that is of a moment so far, and no older than the last
-- acknowledged one; and no run number comes again.
use Rattle.std.proofs.Common.{◌≡◌, inl, inr, ℕ, suc, ◌+◌, ◌<◌, ◌≤◌, List, [], ◌∷◌, Option, None, Some, IfSome, refl, sym, ◌∙◌, ap, subst, arith}
use Rattle.std.specs.Prelude.{Contains}
use Rattle.ug_disk.specs.Histories.{History}
use Rattle.ug_disk.specs.Crashes.{Leaves}
use Rattle.ug_disk.specs.Memories.{begun}
use Rattle.ug_rules.specs.declared.settings.Settings.{Settings}
use Rattle.ug_rules.specs.State.{BookState}
use Rattle.ug_image.specs.declared.image.Image.{Image}
use Rattle.ug_checkpoint.specs.declared.found.Found.{Found}
use Rattle.ug_checkpoint.specs.Savers.{CouldFind, last_slot, sequence_of}
use Rattle.ug_snapshot.specs.Moments.{IsImageOf}
use Rattle.ug_restart.specs.declared.outcome.Attempt.{Attempt}
use Rattle.ug_restart.specs.declared.outcome.Attempt.TheVariants.{Saved, Missed, Unsaved}
use Rattle.ug_restart.specs.Moments.{FindsIn, IsOfRun}
use Rattle.ug_restart.specs.Openings.{IsAcknowledgedStart}
use Rattle.ug_restart.specs.Starts.{IsGoneOn}
use Rattle.ug_laws.specs.declared.event.Event.{Event}
use Rattle.ug_laws.specs.declared.disk_event.DiskEvent.{DiskEvent}
use Rattle.ug_laws.specs.declared.disk_event.DiskEvent.TheVariants.{World as InWorld, Note, Save, Crash, Stop}
use Rattle.ug_laws.specs.Saves.{IsAttempt, next_found}
use Rattle.ug_laws.specs.Machines.{DiskWorld, HappensOnDisk, HasAttempted, HasNoted, HasRestarted, IsDiskTrace, OfWorld, SavesWhat, store_of}
use Rattle.ug_laws.specs.DiskFinds.{AreFound, IsBetween, IsFoundThrough, IsLatest, IsNoOlder, IsOfStart, IsOfWorld}
use Rattle.ug_laws.specs.DiskLaws.{AreNumbered, HasBegun, ImagesAreFound, IsNumbered, RunsRise}
use Rattle.ug_laws.proofs.Finds.{CouldAll, HasAll, OfGoneOn, all_alike, all_found, all_more, could_crashed, could_has, could_more, each_alike, find_crashed, refused_all, restart_each, saved_all, saved_each}

-- ---- images of moments

here : (past : List DiskWorld) (w : DiskWorld) → Contains (w ∷ past) w
here past w = (0, omega arith, refl)

-- its sequence is the one under which it is an image of the book
own_moment : (b : BookState) (sequence : ℕ) (image : Image) → IsImageOf b sequence image
    → IsImageOf b image.sequence image
own_moment b sequence image m =
    subst (λ n. IsImageOf b n image) (sym (ap (λ (i : Image). i.sequence) m.is)) m

-- it is one as well under another sequence
moment_under : (b : BookState) (image next : Image) → IsImageOf b image.sequence image
    → next ≡ record image { sequence = next.sequence } → IsImageOf b next.sequence next
moment_under b image next m same = record {
  nodes = m.nodes;
  primitive = m.primitive;
  is = same ∙ ap (λ (i : Image). record i { sequence = next.sequence }) m.is;
}

-- it is of the book's problem and run
run_of_moment : (b : BookState) (sequence : ℕ) (image : Image) → IsImageOf b sequence image
    → IsOfRun b image
run_of_moment b sequence image m = record {
  problem = ap (λ (i : Image). i.problem) m.is;
  run = ap (λ (i : Image). i.run) m.is;
}

more_past : (past : List DiskWorld) (new w : DiskWorld) → Contains past w → Contains (new ∷ past) w
more_past past new w (k, l, same) = (suc k, omega (arith, l), same)

world_more : (past : List DiskWorld) (new : DiskWorld) (image : Image) → IsOfWorld past image
    → IsOfWorld (new ∷ past) image
world_more past new image t = record {
  world = t.world;
  among = more_past past new t.world t.among;
  moment = t.moment;
}

start_more : (past : List DiskWorld) (new : DiskWorld) (image : Image) → IsOfStart past image
    → IsOfStart (new ∷ past) image
start_more past new image t = record {
  world = t.world;
  among = more_past past new t.world t.among;
  settings = t.settings;
  book = t.book;
  goes_on = t.goes_on;
  moment = t.moment;
}

-- ---- no older

older_on : (run sequence new_run new_sequence : ℕ) (image : Image) → new_run ≡ run
    → new_sequence ≡ sequence → IsNoOlder run sequence image
    → IsNoOlder new_run new_sequence image
older_on run sequence new_run new_sequence image same alike (inl later) =
    inl (omega (arith, same, later))
older_on run sequence new_run new_sequence image same alike (inr t) =
    inr (t.0 ∙ sym same, omega (arith, alike, t.1))

least_run : (run sequence : ℕ) (image : Image) → IsNoOlder run sequence image → run ≤ image.run
least_run run sequence image (inl later) = omega (arith, later)
least_run run sequence image (inr t) = omega (arith, t.0)

-- one world more, of the same run, with the same image acknowledged last
latest_on : (past : List DiskWorld) (new : DiskWorld) (old b : BookState) (sequence after : ℕ)
    (image : Image) → b.problem ≡ old.problem → b.run ≡ old.run → after ≡ sequence
    → IsLatest past old sequence image → IsLatest (new ∷ past) b after image
latest_on past new old b sequence after image problem run same t = record {
  problem = t.problem ∙ sym problem;
  no_older = older_on old.run sequence b.run after image run same t.no_older;
  of = elim t.of [
    | inl world ↦ inl (world_more past new image world)
    | inr start ↦ inr (start_more past new image start)
  ];
}

run_on : (old new : BookState) (image : Image) → new.problem ≡ old.problem → new.run ≡ old.run
    → IsOfRun old image → IsOfRun new image
run_on old new image problem run t =
    record { problem = t.problem ∙ sym problem; run = t.run ∙ sym run }

-- ---- between two events

-- the noted image is of the run and of one of these worlds
pub record IsNotable (past : List DiskWorld) (book : BookState) (image : Image) : Type 0 where
  pub run : IsOfRun book image
  pub of : IsOfWorld past image

notable_on : (past : List DiskWorld) (new : DiskWorld) (old b : BookState) (noted : Option Image)
    → b.problem ≡ old.problem → b.run ≡ old.run → IfSome noted (IsNotable past old)
    → IfSome noted (IsNotable (new ∷ past) b)
notable_on past new old b None problem run t = tt
notable_on past new old b (Some image) problem run t = record {
  run = run_on old b image problem run t.run;
  of = world_more past new image t.of;
}

pub record Keeps (past : List DiskWorld) (w : DiskWorld) : Type 0 where
  pub among : Contains past w
  pub all : HasAll (IsBetween past w) w
  pub noted : w.refused ≡ None → IfSome w.noted (IsNotable past w.world.book)

-- what an event keeps and finds
pub record Steps (past : List DiskWorld) (old : DiskWorld) (event : DiskEvent) (new : DiskWorld)
    : Type 0 where
  pub found : Keeps (new ∷ past) new
  pub through : IsFoundThrough past old event new
  pub numbered : IsNumbered old event new

-- ---- if the disk is left alone

-- the image found at each moment of an event other than a restart
abbrev Through : List DiskWorld → DiskWorld → Image → Type 0
Through past old image = IsLatest past old.world.book (sequence_of old.saver) image
    × IsOfRun old.world.book image

of_between : (past : List DiskWorld) (old : DiskWorld) → old.refused ≡ None → (image : Image)
    → IsBetween past old image → Through past old image
of_between past old goes_on image t = (t.0, t.1 goes_on)

-- a run that continues, with the same image acknowledged last
module _ (past : List DiskWorld) (old new : DiskWorld)
    (problem : new.world.book.problem ≡ old.world.book.problem)
    (run : new.world.book.run ≡ old.world.book.run)
    (same : sequence_of new.saver ≡ sequence_of old.saver) where
  to_between : (image : Image) → Through past old image → IsBetween (new ∷ past) new image
  to_between image t = (
    latest_on past new old.world.book new.world.book (sequence_of old.saver)
        (sequence_of new.saver) image problem run same t.0,
    λ e. run_on old.world.book new.world.book image problem run t.1,
  )

  still_all : new.told ≡ old.told → last_slot new.saver ≡ last_slot old.saver
      → old.refused ≡ None → Keeps past old → HasAll (IsBetween (new ∷ past) new) new
  still_all told slot goes_on h =
      all_alike (IsBetween (new ∷ past) new) old new told slot (λ e. goes_on)
      (all_more (IsBetween past old) (IsBetween (new ∷ past) new)
      (λ image t. to_between image (of_between past old goes_on image t)) old h.all)

still_each : (past : List DiskWorld) (old new : DiskWorld) → new.told ≡ old.told
    → old.refused ≡ None → Keeps past old
    → Leaves (FindsIn (Through past old)) (Some old.told) (Some new.told)
still_each past old new told goes_on h =
    each_alike (Through past old) old.told new.told told
    (could_more (IsBetween past old) (Through past old) (of_between past old goes_on) old.told
    h.all.could)

world_steps : (past : List DiskWorld) (event : Event) (old new : DiskWorld)
    → OfWorld event old new → Keeps past old → Steps past old (InWorld event) new
world_steps past event old new t h =
    let told = ap (λ (w : DiskWorld). w.told) t.rest in
    let saver : new.saver ≡ old.saver = ap (λ (w : DiskWorld). w.saver) t.rest in
    let all = still_all past old new t.same.problem t.same.run (ap sequence_of saver) told
    (ap last_slot saver) t.goes_on h in
    record {
      found = record {
        among = here past new;
        all = all;
        noted = λ e. subst (λ n. IfSome n (IsNotable (new ∷ past) new.world.book))
            (sym (ap (λ (w : DiskWorld). w.noted) t.rest))
            (notable_on past new old.world.book new.world.book old.noted t.same.problem t.same.run
            (h.noted t.goes_on));
      };
      through = record {
        each = still_each past old new told t.goes_on h;
        after = all.could;
      };
      numbered = t.same.run;
    }

noted_steps : (past : List DiskWorld) (old new : DiskWorld) → HasNoted old new → Keeps past old
    → Steps past old Note new
noted_steps past old new t h =
    let told = ap (λ (w : DiskWorld). w.told) t.rest in
    let saver : new.saver ≡ old.saver = ap (λ (w : DiskWorld). w.saver) t.rest in
    let book : new.world.book ≡ old.world.book = ap (λ (w : DiskWorld). w.world.book) t.rest in
    let problem = ap (λ (b : BookState). b.problem) book in
    let run = ap (λ (b : BookState). b.run) book in
    let all = still_all past old new problem run (ap sequence_of saver) told (ap last_slot saver)
    t.goes_on h in
    let notable : IsNotable (new ∷ past) new.world.book t.image = record {
      run = subst (λ b. IsOfRun b t.image) (sym book)
          (run_of_moment old.world.book 1 t.image t.moment);
      of = world_more past new t.image (record {
        world = old;
        among = h.among;
        moment = own_moment old.world.book 1 t.image t.moment;
      });
    } in
    record {
      found = record {
        among = here past new;
        all = all;
        noted = λ e. subst (λ n. IfSome n (IsNotable (new ∷ past) new.world.book))
            (sym (ap (λ (w : DiskWorld). w.noted) t.rest)) notable;
      };
      through = record {
        each = still_each past old new told t.goes_on h;
        after = all.could;
      };
      numbered = run;
    }

-- ---- a save

-- the saved image is under the next sequence
next_through : (past : List DiskWorld) (old : DiskWorld) (image next : Image)
    → IsNotable past old.world.book image → next ≡ record image { sequence = next.sequence }
    → sequence_of old.saver ≤ next.sequence → Through past old next
next_through past old image next t same above =
    let problem : next.problem ≡ old.world.book.problem =
    ap (λ (i : Image). i.problem) same ∙ t.run.problem in
    let run : next.run ≡ old.world.book.run = ap (λ (i : Image). i.run) same ∙ t.run.run in (
      record {
        problem = problem;
        no_older = inr (run, above);
        of = inl (record {
          world = t.of.world;
          among = t.of.among;
          moment = moment_under t.of.world.world.book image next t.of.moment same;
        });
      },
      record { problem = problem; run = run },
    )

-- the images found at each moment of the save, and after it
pub record Saves (past : List DiskWorld) (old new : DiskWorld) : Type 0 where
  pub each : Leaves (FindsIn (Through past old)) (Some old.told) (Some new.told)
  pub all : HasAll (IsBetween (new ∷ past) new) new

-- it is acknowledged
done_found : (past : List DiskWorld) (old new : DiskWorld) (next : Image)
    → new.world.book ≡ old.world.book → Through past old next
    → sequence_of new.saver ≡ next.sequence → IsBetween (new ∷ past) new next
done_found past old new next book t same =
    let problem = ap (λ (b : BookState). b.problem) book in
    let run = ap (λ (b : BookState). b.run) book in
    let on = latest_on past new old.world.book new.world.book (sequence_of old.saver)
    (sequence_of old.saver) next problem run refl t.0 in (
      record {
        problem = on.problem;
        no_older = inr (t.1.run ∙ sym run, omega (arith, same));
        of = on.of;
      },
      λ e. run_on old.world.book new.world.book next problem run t.1,
    )

attempted : (past : List DiskWorld) (attempt : Attempt) (old new : DiskWorld) (image next : Image)
    → old.refused ≡ None → new.world.book ≡ old.world.book → Keeps past old
    → IsNotable past old.world.book image → next ≡ record image { sequence = next.sequence }
    → IsAttempt attempt (store_of old) next (store_of new) → Saves past old new
attempted past Saved old new image next goes_on book h notable same t =
    let all = all_more (IsBetween past old) (Through past old) (of_between past old goes_on) old
    h.all in
    let through = next_through past old image next notable same (omega (arith, t.0.next)) in
    record {
      each = saved_each (Through past old) Saved old new next goes_on all through t;
      all = all_found (IsBetween (new ∷ past) new) new (next_found old.saver next) t.1.finds
          t.1.last t.1.written (done_found past old new next book through t.1.sequence);
    }
attempted past Missed old new image next goes_on book h notable same t =
    let all = all_more (IsBetween past old) (Through past old) (of_between past old goes_on) old
    h.all in
    let through = next_through past old image next notable same (omega (arith, t.0.next)) in
    record {
      each = saved_each (Through past old) Missed old new next goes_on all through t;
      all = all_more (Through past old) (IsBetween (new ∷ past) new)
          (to_between past old new (ap (λ (b : BookState). b.problem) book)
          (ap (λ (b : BookState). b.run) book) t.1.sequence) new
          (saved_all (Through past old) Missed old new next goes_on all through t);
    }
attempted past Unsaved old new image next goes_on book h notable same t = record {
  each = still_each past old new t.1 goes_on h;
  all = still_all past old new (ap (λ (b : BookState). b.problem) book)
      (ap (λ (b : BookState). b.run) book) t.0.sequence t.1 t.0.last goes_on h;
}

attempted_steps : (past : List DiskWorld) (old new : DiskWorld) (image : Image)
    → old.refused ≡ None → old.noted ≡ Some image → HasAttempted image old new → Keeps past old
    → Steps past old Save new
attempted_steps past old new image goes_on is t h =
    let book : new.world.book ≡ old.world.book = ap (λ (w : DiskWorld). w.world.book) t.rest in
    let notable : IsNotable past old.world.book image =
    subst (λ n. IfSome n (IsNotable past old.world.book)) is (h.noted goes_on) in
    let s = attempted past t.attempt old new image t.next goes_on book h notable t.same t.is in
    let next : IsNotable (new ∷ past) new.world.book t.next = record {
      run = subst (λ b. IsOfRun b t.next) (sym book) (record {
        problem = ap (λ (i : Image). i.problem) t.same ∙ notable.run.problem;
        run = ap (λ (i : Image). i.run) t.same ∙ notable.run.run;
      });
      of = world_more past new t.next (record {
        world = notable.of.world;
        among = notable.of.among;
        moment = moment_under notable.of.world.world.book image t.next notable.of.moment t.same;
      });
    } in
    record {
      found = record {
        among = here past new;
        all = s.all;
        noted = λ e. subst (λ n. IfSome n (IsNotable (new ∷ past) new.world.book))
            (sym (ap (λ (w : DiskWorld). w.noted) t.rest)) next;
      };
      through = record { each = s.each; after = s.all.could };
      numbered = ap (λ (b : BookState). b.run) book;
    }

-- if nothing was noted nothing happens
none_steps : (past : List DiskWorld) (old new : DiskWorld) → old.refused ≡ None → new ≡ old
    → Keeps past old → Steps past old Save new
none_steps past old new goes_on same h =
    let told = ap (λ (w : DiskWorld). w.told) same in
    let saver : new.saver ≡ old.saver = ap (λ (w : DiskWorld). w.saver) same in
    let book : new.world.book ≡ old.world.book = ap (λ (w : DiskWorld). w.world.book) same in
    let problem = ap (λ (b : BookState). b.problem) book in
    let run = ap (λ (b : BookState). b.run) book in
    let all = still_all past old new problem run (ap sequence_of saver) told (ap last_slot saver)
    goes_on h in
    record {
      found = record {
        among = here past new;
        all = all;
        noted = λ e. subst (λ n. IfSome n (IsNotable (new ∷ past) new.world.book))
            (sym (ap (λ (w : DiskWorld). w.noted) same))
            (notable_on past new old.world.book new.world.book old.noted problem run
            (h.noted goes_on));
      };
      through = record { each = still_each past old new told goes_on h; after = all.could };
      numbered = run;
    }

saved_steps : (past : List DiskWorld) (old new : DiskWorld) (noted : Option Image)
    → old.refused ≡ None → old.noted ≡ noted → SavesWhat noted old new → Keeps past old
    → Steps past old Save new
saved_steps past old new None goes_on is t h = none_steps past old new goes_on t h
saved_steps past old new (Some image) goes_on is t h =
    attempted_steps past old new image goes_on is t h

-- ---- a run that begins

-- its first image
first_between : (past : List DiskWorld) (w : DiskWorld) (image : Image) → Contains past w
    → IsImageOf w.world.book (sequence_of w.saver) image → IsBetween past w image
first_between past w image among m =
    let run = run_of_moment w.world.book (sequence_of w.saver) image m in
    let sequence : image.sequence ≡ sequence_of w.saver =
    ap (λ (i : Image). i.sequence) m.is in (
      record {
        problem = run.problem;
        no_older = inr (run.run, omega (arith, sequence));
        of = inl (record {
          world = w;
          among = among;
          moment = own_moment w.world.book (sequence_of w.saver) image m;
        });
      },
      λ e. run,
    )

acknowledged_all : (past : List DiskWorld) (w : DiskWorld) → Contains past w
    → IsAcknowledgedStart (Some w.told) w.world.book w.saver → HasAll (IsBetween past w) w
acknowledged_all past w among a =
    all_found (IsBetween past w) w a.found a.finds a.last a.written
    (first_between past w a.found.image among a.image)

begun_found : (w : DiskWorld) → HasBegun w → Keeps (w ∷ []) w
begun_found w b = record {
  among = here [] w;
  all = acknowledged_all (w ∷ []) w (here [] w) b.acknowledged;
  noted = λ e. subst (λ n. IfSome n (IsNotable (w ∷ []) w.world.book)) (sym b.noted) tt;
}

-- ---- a restart

-- an image that is no older, and of a moment
abbrev Latest : List DiskWorld → DiskWorld → Image → Type 0
Latest past old image = IsLatest past old.world.book (sequence_of old.saver) image × Unit {0}

-- a book that continues has a greater number than what could be found
above : (past : List DiskWorld) (old : DiskWorld) (settings : Settings) (told : History)
    (b : BookState) → CouldAll (Latest past old) told
    → IsGoneOn old.world.book.problem settings (Some told) b → old.world.book.run < b.run
above past old settings told b all t =
    let latest = could_has (Latest past old) told all t.found t.could in
    let low = least_run old.world.book.run (sequence_of old.saver) t.found.image
    latest.0.no_older in
    let run : b.run ≡ t.found.image.run + 1 = ap (λ (c : BookState). c.run) t.is in
    omega (arith, low, run)

-- its images are such
of_gone_on : (past : List DiskWorld) (old : DiskWorld) (settings : Settings) (told : History)
    → Contains past old
    → ((found : Option Found) → CouldFind (Some told) found → CouldFind (Some old.told) found)
    → CouldAll (Latest past old) told
    → OfGoneOn (Latest past old) old.world.book.problem settings told
of_gone_on past old settings told among before all b t sequence image m =
    let run = run_of_moment b sequence image m in
    let more = above past old settings told b all t in (
      record {
        problem = run.problem ∙ ap (λ (c : BookState). c.problem) t.is;
        no_older = inl (omega (arith, more, run.run));
        of = inr (record {
          world = old;
          among = among;
          settings = settings;
          book = b;
          goes_on = record {
            found = t.found;
            could = before (Some t.found) t.could;
            problem = t.problem;
            gap = t.gap;
            room = t.room;
            is = t.is;
          };
          moment = own_moment b sequence image m;
        });
      },
      tt,
    )

-- what a restart keeps and finds, on a disk that a crash has left or not
pub record Restarts (past : List DiskWorld) (old : DiskWorld) (told : History) (new : DiskWorld)
    : Type 0 where
  pub found : Keeps (new ∷ past) new
  pub each : Leaves (FindsIn (Latest past old)) (Some told) (Some new.told)
  pub rises : new.refused ≡ None → old.world.book.run < new.world.book.run

restart_steps : (past : List DiskWorld) (settings : Settings) (old : DiskWorld) (told : History)
    (new : DiskWorld) → Contains past old
    → ((found : Option Found) → CouldFind (Some told) found → CouldFind (Some old.told) found)
    → CouldAll (Latest past old) told → HasRestarted settings (record old { told = told }) new
    → Restarts past old told new
restart_steps past settings old told new among before all t =
    let leaves = restart_each (Latest past old) settings (record old { told = told }) new all
    (of_gone_on past old settings told among before all) t in
    elim t.ends [
      | inl goes ↦
          let none : new.noted ≡ None = ap (λ (w : DiskWorld). w.noted) goes.rest in
          record {
            found = record {
              among = here past new;
              all = acknowledged_all (new ∷ past) new (here past new) goes.acknowledged;
              noted = λ e. subst (λ n. IfSome n (IsNotable (new ∷ past) new.world.book)) (sym none)
                  tt;
            };
            each = leaves;
            rises = λ e. above past old settings told new.world.book all goes.book;
          }
      | inr refused ↦
          let is : new.refused ≡ Some refused.fault =
          ap (λ (w : DiskWorld). w.refused) refused.rest in
          let book : new.world.book ≡ old.world.book =
          ap (λ (w : DiskWorld). w.world.book) refused.rest in
          let saver : new.saver ≡ old.saver = ap (λ (w : DiskWorld). w.saver) refused.rest in
          record {
            found = record {
              among = here past new;
              all = all_more (Latest past old) (IsBetween (new ∷ past) new) (λ image l. (
                latest_on past new old.world.book new.world.book (sequence_of old.saver)
                    (sequence_of new.saver) image (ap (λ (b : BookState). b.problem) book)
                    (ap (λ (b : BookState). b.run) book) (ap sequence_of saver) l.0,
                λ none. absurd (cc (sym none ∙ is)),
              )) new
                  (refused_all (Latest past old) settings (record old { told = told }) new leaves
                  refused);
              noted = λ none. absurd (cc (sym none ∙ is));
            };
            each = leaves;
            rises = λ none. absurd (cc (sym none ∙ is));
          }
    ]

latest_of : (past : List DiskWorld) (old : DiskWorld) → Keeps past old
    → CouldAll (Latest past old) old.told
latest_of past old h =
    could_more (IsBetween past old) (Latest past old) (λ image t. (t.0, tt)) old.told h.all.could

-- ---- each event

step : (past : List DiskWorld) (event : DiskEvent) (old new : DiskWorld)
    → HappensOnDisk old event new → Keeps past old → Steps past old event new
step past (InWorld event) old new t h = world_steps past event old new t h
step past Note old new t h = noted_steps past old new t h
step past Save old new t h = saved_steps past old new old.noted t.goes_on refl t.saves h
step past (Crash zero one settings) old new (left, t) h =
    let told = begun zero.items one.items in
    let s = restart_steps past settings old told new h.among
    (λ found c. find_crashed old.told zero.items one.items found left c)
    (could_crashed (Latest past old) old.told zero.items one.items (latest_of past old h) left) t
    in
    record {
      found = s.found;
      through = record { each = s.each; after = s.found.all.could };
      numbered = s.rises;
    }
step past (Stop settings) old new t h =
    let s = restart_steps past settings old old.told new h.among (λ found c. c)
    (latest_of past old h) t in
    record {
      found = s.found;
      through = record { each = s.each; after = s.found.all.could };
      numbered = s.rises;
    }

trace_found : (past : List DiskWorld) (old : DiskWorld) (events : List DiskEvent)
    (trace : List DiskWorld) → IsDiskTrace old events trace → Keeps past old
    → AreFound past old events trace
trace_found past old [] [] t h = tt
trace_found past old (event ∷ events) (new ∷ trace) t h =
    let first = step past event old new t.0 h in
    (first.through, trace_found (new ∷ past) new events trace t.1 first.found)
trace_found past old [] (new ∷ trace) t h = absurd t
trace_found past old (event ∷ events) [] t h = absurd t

trace_numbers : (past : List DiskWorld) (old : DiskWorld) (events : List DiskEvent)
    (trace : List DiskWorld) → IsDiskTrace old events trace → Keeps past old
    → AreNumbered old events trace
trace_numbers past old [] [] t h = tt
trace_numbers past old (event ∷ events) (new ∷ trace) t h =
    let first = step past event old new t.0 h in
    (first.numbered, trace_numbers (new ∷ past) new events trace t.1 first.found)
trace_numbers past old [] (new ∷ trace) t h = absurd t
trace_numbers past old (event ∷ events) [] t h = absurd t

pub images_are_found : ImagesAreFound
images_are_found start events trace begins t =
    trace_found (start ∷ []) start events trace t (begun_found start begins)

pub runs_rise : RunsRise
runs_rise start events trace begins t =
    trace_numbers (start ∷ []) start events trace t (begun_found start begins)
