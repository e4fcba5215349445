-- A seat that says nothing of where its worker stands meets all that is asked of its answers.
use Rattle.std.proofs.Common.{refl, Bool, true, false, Option, Some, None, Result, Ok, Err, IfOk}
use Rattle.ug_base.specs.Tasks.{TaskState}
use Rattle.ug_worker.specs.declared.reply.Reply.{Reply}
use Rattle.ug_worker.specs.declared.took.Took.{Took}
use Rattle.ug_worker.specs.declared.took.Took.TheVariants as took
use Rattle.ug_worker.specs.declared.round_count.RoundCount.{RoundCount}
use Rattle.ug_worker.specs.Engagements.{Engaged, HasTaken, is_replied, lowered}
use Rattle.ug_worker.specs.Releases.{begun}

-- a fact about each value holds of the one that came
pub if_ok : {T E : Type 0} (result : Result T E) (P : T → Type 0) → ((x : T) → P x) → IfOk result P
if_ok (Ok x) P all = all x
if_ok (Err e) P all = tt

abbrev starts : TaskState → Engaged
starts task = record { task = task; made = 0; asked = 0; racing = false }

pub took_any : (At : RoundCount → Option Engaged → Type 0) → ((round_count : RoundCount) (some : Option Engaged) → At round_count some)
    → (round_count : RoundCount) (Over : Type 0) → Over → (taken : Took) → HasTaken At round_count Over taken
took_any At at round_count Over over (took.Work task) = record {
  now = starts task;
  at = at (begun round_count) (Some (starts task));
  begun = record { its = refl; made = refl };
}
took_any At at round_count Over over took.Wait = at round_count None
took_any At at round_count Over over took.Over = over

module _ (At : Option Engaged → Type 0) (at : (some : Option Engaged) → At some) where
  abbrev goes : TaskState → Reply → Engaged
  goes task reply = record {
    task = lowered reply.cutoff task;
    made = 0;
    asked = reply.collect;
    racing = reply.racing;
  }

  pub replied_any : (stop : Bool) (task : TaskState) (reply : Reply) → is_replied At stop task reply
  replied_any true task reply = at None
  replied_any false task reply = record {
    now = goes task reply;
    at = at (Some (goes task reply));
    made = refl;
    due = refl;
    racing = refl;
    its = refl;
  }
