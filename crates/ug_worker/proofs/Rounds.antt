-- What the steps of a round, hands and reports make of where a worker stands.
use Rattle.std.proofs.Common.{◌≡◌, inl, inr, ℕ, zero, suc, ◌+◌, ◌-◌, ◌<◌, ◌≤◌, List, length, Option, Some, Bool, true, false, [], ℤ, ◌⊎◌, refl, sym, ap, subst, ◌∙◌, arith, if◌then◌else◌}
use Rattle.ug_rows.specs.declared.area.Interval.{Interval}
use Rattle.ug_base.specs.declared.handed.Handed.{Handed}
use Rattle.ug_base.specs.Hands.{IsGiven, IsHanded}
use Rattle.ug_base.specs.Steps.{IsFound}
use Rattle.ug_base.specs.Tasks.{IsLeastFloor, IsTask, TaskState}
use Rattle.ug_worker.specs.declared.reply.Reply.{Reply}
use Rattle.ug_worker.specs.declared.search.Asked.{Asked}
use Rattle.ug_worker.specs.declared.round_count.RoundCount.{RoundCount}
use Rattle.ug_worker.specs.Engagements.{AreQuiet, Engaged, GoesOn, HasBegun, HasObliged, IsFoundBy, IsHandedBy, IsQuiet, IsSince, IsStatedBy, due_by, due_of, lowered, steps_of_round, under}
use Rattle.ug_worker.specs.Releases.{IsDue}
use Rattle.ug_worker.specs.Workers.{HasHanded, IsGiving, IsSearched, IsToTell, StandsAt}

-- a box asked for was handed, where one was due
due_less : (racing : Bool) (asked due : ℕ) → (if racing then 0 else asked) ≡ due → 0 < due
    → (if racing then 0 else (asked - 1)) ≡ due - 1
due_less true asked due e some = absurd (omega (arith, e, some))
due_less false asked due e some = omega (arith, e, some)

-- fewer are asked for where a box was given
due_at_most : (racing : Bool) (asked : ℕ) → (if racing then 0 else asked) ≡ 0
    → (if racing then 0 else (asked - 1)) ≡ 0
due_at_most true asked e = refl
due_at_most false asked e = omega (arith, e)

-- fewer are left behind one that was given
pub given_left : (old new : TaskState) (given : Handed) → IsGiven old new given
    → length old.boxes ≡ length new.boxes + 1
given_left old new given h =
    omega (arith, ap (λ (boxes : List (List Interval)). length boxes) h.boxes)

still_obliged : (old new : TaskState) (e : Engaged) (given : Handed) → IsGiven old new given
    → HasObliged e old → HasObliged (record e { task = new; made = 64; asked = e.asked - 1 }) new
still_obliged old new e given h (inl none) = inl (due_at_most e.racing e.asked none)
still_obliged old new e given h (inr few) = inr (omega (arith, given_left old new given h, few))

-- nothing happened since
pub since_now : (e : Engaged) → e.made ≤ steps_of_round → IsSince e e.task e.made
since_now e room = record { more = 0; quiet = refl; made = omega arith; within = room }

-- before a round no step was made, and the task is what it was
since_more : (more : ℕ) (e : Engaged) (task : TaskState) → AreQuiet more e.task task → 0 ≡ e.made + more
    → (e.made ≡ 0) × (task ≡ e.task)
since_more zero e task quiet made = (omega (arith, made), quiet)
since_more (suc more) e task quiet made = absurd (omega (arith, made))

pub since_none : (e : Engaged) (task : TaskState) → IsSince e task 0 → (e.made ≡ 0) × (task ≡ e.task)
since_none e task since = since_more since.more e task since.quiet since.made

-- a box is left where one was handed
pub some_left : (old new : TaskState) (given : Handed) → IsHanded old new given → 0 < length new.boxes
some_left old new given h =
    omega (arith, h.two, ap (λ (boxes : List (List Interval)). length boxes) h.given.boxes)

module _ (At : Option Engaged → Type 0) where
  -- a step more found nothing
  pub made_quiet : (old new : TaskState) (made : ℕ) (asked : Asked) → made < 64 → IsQuiet old new
      → StandsAt At old made asked → StandsAt At new (made + 1) asked
  made_quiet old new made asked room quiet s = record {
    now = s.now;
    at = s.at;
    since = record {
      more = suc s.since.more;
      quiet = (old, s.since.quiet, quiet);
      made = omega (arith, s.since.made);
      within = omega (arith, room);
    };
    due = s.due;
    racing = s.racing;
  }

  -- what the seat has behind a point that was found
  abbrev pub found_now : Engaged → TaskState → ℕ → Engaged
  found_now e new made = record e { task = new; made = made + 1 }

  pub found_by : (old new : TaskState) (made : ℕ) (asked : Asked) (x : List ℤ) → made < 64
      → IsFound old new x → IsTask new → (s : StandsAt At old made asked)
      → IsFoundBy s.now x (found_now s.now new made)
  found_by old new made asked x room found own s = record {
    task = old;
    count = made;
    since = s.since;
    room = room;
    found = found;
    own = own;
    same = refl;
  }

  -- the point was sent
  pub stands_found : (new : TaskState) (e : Engaged) (made : ℕ) (asked : Asked) → made < 64
      → due_of e ≡ asked.count → e.racing ≡ asked.racing → At (Some (found_now e new made))
      → StandsAt At new (made + 1) asked
  stands_found new e made asked room due racing at = record {
    now = found_now e new made;
    at = at;
    since = since_now (found_now e new made) (omega (arith, room));
    due = due;
    racing = racing;
  }

  -- what the seat has behind a box that was handed
  abbrev pub handed_now : Engaged → TaskState → Engaged
  handed_now e new = record e { task = new; made = 64; asked = e.asked - 1 }

  pub handed_by : (round_count : RoundCount) (old new : TaskState) (asked : Asked) (given : Handed) → 0 < asked.count
      → IsHanded old new given → IsTask new → (s : StandsAt At old 64 asked)
      → IsHandedBy round_count s.now given.number given.area (handed_now s.now new)
  handed_by round_count old new asked given some handed own s = record {
    task = old;
    since = s.since;
    cause = inl (record { due = omega (arith, s.due, some); two = handed.two });
    handed = handed.given;
    own = own;
    same = refl;
  }

  pub stands_handed : (new : TaskState) (e : Engaged) (asked : Asked) → 0 < asked.count
      → due_of e ≡ asked.count → e.racing ≡ asked.racing → At (Some (handed_now e new))
      → StandsAt At new 64 (record asked { count = asked.count - 1 })
  stands_handed new e asked some due racing at = record {
    now = handed_now e new;
    at = at;
    since = since_now (handed_now e new) (omega arith);
    due = due_less e.racing e.asked asked.count due some;
    racing = racing;
  }

  -- all boxes are to be given
  pub to_give : (round_count : RoundCount) (task : TaskState) (asked : Asked) → HasHanded At task asked
      → IsDue round_count asked.racing → IsGiving At round_count task
  to_give round_count task asked h due = record {
    now = h.stands.now;
    at = h.stands.at;
    since = h.stands.since;
    renewed = record {
      obliged = subst (λ (n : ℕ). (n ≡ 0) ⊎ (length task.boxes < 2)) (sym h.stands.due) h.all;
      due = subst (IsDue round_count) (sym h.stands.racing) due;
    };
  }

  pub given_by : (round_count : RoundCount) (old new : TaskState) (given : Handed) → IsGiven old new given → IsTask new
      → (s : IsGiving At round_count old)
      → IsHandedBy round_count s.now given.number given.area (handed_now s.now new)
  given_by round_count old new given handed own s = record {
    task = old;
    since = s.since;
    cause = inr s.renewed;
    handed = handed;
    own = own;
    same = refl;
  }

  pub still_giving : (round_count : RoundCount) (old new : TaskState) (given : Handed) → IsGiven old new given
      → (s : IsGiving At round_count old) → (After : Option Engaged → Type 0)
      → After (Some (handed_now s.now new)) → IsGiving After round_count new
  still_giving round_count old new given h s After at = record {
    now = handed_now s.now new;
    at = at;
    since = since_now (handed_now s.now new) (omega arith);
    renewed = record {
      obliged = still_obliged old new s.now given h s.renewed.obliged;
      due = s.renewed.due;
    };
  }

  -- none is left
  pub all_given : (round_count : RoundCount) (task : TaskState) → IsGiving At round_count task → IsTask task → task.boxes ≡ []
      → IsSearched At task
  all_given round_count task s own none = record {
    now = s.now;
    at = s.at;
    done = record { count = steps_of_round; since = s.since; own = own; none = none };
  }

  -- what the seat has behind a report of what is left
  abbrev pub stated_now : Engaged → TaskState → Engaged
  stated_now e task = record e { task = task; made = 0 }

  pub stated_by : (round_count : RoundCount) (task : TaskState) (asked : Asked) (left : ℕ) (floor : ℤ)
      → (h : IsToTell At round_count task asked) → left ≡ length task.boxes
      → IsLeastFloor task.problem task.boxes floor
      → IsStatedBy round_count h.handed.stands.now left floor (stated_now h.handed.stands.now task)
  stated_by round_count task asked left floor h count least = record {
    task = task;
    since = h.handed.stands.since;
    obliged = subst (λ (n : ℕ). (n ≡ 0) ⊎ (length task.boxes < 2)) (sym h.handed.stands.due) h.handed.all;
    kept = λ due. h.kept (subst (IsDue round_count) h.handed.stands.racing due);
    count = count;
    least = least;
    same = refl;
  }

  pub stated_at : (round_count : RoundCount) (task : TaskState) (asked : Asked) (left : ℕ) (floor low : ℤ) → low ≡ floor
      → (h : IsToTell At round_count task asked) → left ≡ length task.boxes
      → IsLeastFloor task.problem task.boxes floor
      → IsStatedBy round_count h.handed.stands.now left low (stated_now h.handed.stands.now task)
  stated_at round_count task asked left floor low e h count least =
      subst (λ (value : ℤ). IsStatedBy round_count h.handed.stands.now left value (stated_now h.handed.stands.now task))
      (sym e) (stated_by round_count task asked left floor h count least)

  -- a task that continues
  pub stands_on : (task new : TaskState) (reply : Reply) → (h : GoesOn At task reply) → new ≡ lowered reply.cutoff task
      → StandsAt At new 0 (record { count = due_by reply; racing = reply.racing })
  stands_on task new reply h e = record {
    now = h.now;
    at = h.at;
    since = record {
      more = 0;
      quiet = e ∙ sym h.its;
      made = omega (arith, h.made);
      within = omega arith;
    };
    due = h.due;
    racing = h.racing;
  }

  -- a task under a lower cutoff, before a round
  pub stands_under : (After : Option Engaged → Type 0) (old new : TaskState) (cutoff : Option ℤ) (asked : Asked)
      → (s : StandsAt At old 0 asked) → new ≡ lowered cutoff old → After (Some (under cutoff s.now))
      → StandsAt After new 0 asked
  stands_under After old new cutoff asked s is at =
      let none = since_none s.now old s.since in
      record {
        now = under cutoff s.now;
        at = at;
        since = record {
          more = 0;
          quiet = is ∙ ap (lowered cutoff) none.1;
          made = omega (arith, none.0);
          within = omega arith;
        };
        due = s.due;
        racing = s.racing;
      }

  -- a task that was begun
  pub stands_begun : (task : TaskState) → (h : HasBegun At task)
      → StandsAt At task 0 (record { count = due_of h.now; racing = h.now.racing })
  stands_begun task h = record {
    now = h.now;
    at = h.at;
    since = record {
      more = 0;
      quiet = sym h.begun.its;
      made = omega (arith, h.begun.made);
      within = omega arith;
    };
    due = refl;
    racing = refl;
  }
