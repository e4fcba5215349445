-- What a worker at a desk does, action by action.
use Rattle.std.specs.Prelude.{◌≡◌, ℤ, true, if◌then◌else◌, List, Option, Result, Ok, Err}
use Rattle.ug_base.specs.Tasks.{TaskState}
use Rattle.ug_rules.specs.declared.heard.Heard.{Heard}
use Rattle.ug_rules.specs.declared.heard.Heard.TheVariants.{Kept, NotBetter}
use Rattle.ug_worker.specs.declared.reply.Reply.{Reply}
use Rattle.ug_worker.specs.declared.round_count.ReleasePolicy.{ReleasePolicy}
use Rattle.ug_worker.specs.declared.round_count.RoundCount.{RoundCount}
use Rattle.ug_worker.specs.declared.took.Took.{Took}
use Rattle.ug_worker.specs.declared.took.Took.TheVariants.{Work, Wait, Over}
use Rattle.ug_worker.specs.declared.took.Untaken.{Untaken}
use Rattle.ug_worker.specs.Engagements.{Engaged, IsDoneBy, IsFoundBy, IsHandedBy, IsStatedBy}
use Rattle.ug_worker.specs.Engagements.{lowered, under}
use Rattle.ug_worker.specs.Releases.{begun, counted, fresh}
use Rattle.ug_desk.specs.Histories.{Call, Entry, taken, offered, handed, stated, ended}
use Rattle.ug_desk.specs.Histories.{left, copied}

-- A worker sits down at a pass, with this rule of release; it calls the desk, and is answered; it
-- reads a cutoff; it reports the end of a task whose ticket had ended; or it leaves after its rank
-- was lost. A action in vain has no entry in the history, so it names the history as it was then.
pub data Action : Type 0 where
  Sat : Option ReleasePolicy → Action
  Called : Call → Action
  Read : Option ℤ → Action
  EndedInVain : TaskState → List Entry → Action
  LeftInVain : List Entry → Action

-- the stage of a pass: nobody sits at it; its worker has no task; or it has one
pub data Stage : Type 0 where
  Away : Stage
  Free : RoundCount → Stage
  Busy : RoundCount → Engaged → Stage

-- a task that was taken: nothing is asked for yet, and others may have the same box
abbrev pub taken_up : TaskState → Engaged
taken_up task = record { task = task; made = 0; asked = 0; racing = true }

-- what there was for a worker that has no task
abbrev pub IsTakenBy : RoundCount → Result Took Untaken → Stage → Type 0
IsTakenBy round_count (Ok (Work task)) new = new ≡ Busy (begun round_count) (taken_up task)
IsTakenBy round_count (Ok Wait) new = new ≡ Free round_count
IsTakenBy round_count (Ok Over) new = new ≡ Away
IsTakenBy round_count (Err end) new = new ≡ Free round_count

-- the task continues as was replied
abbrev pub replied_to : Engaged → Reply → Engaged
replied_to e reply = record {
  task = lowered reply.cutoff e.task;
  made = 0;
  asked = reply.collect;
  racing = reply.racing;
}

-- it is dropped where that was replied
abbrev pub behind_reply : RoundCount → Engaged → Reply → Stage
behind_reply round_count e reply = (if reply.stop then Free round_count else Busy round_count (replied_to e reply))

-- it is dropped where its point was neither kept nor feasible and not better
abbrev pub behind_point : RoundCount → Engaged → Heard → Stage
behind_point round_count e Kept = Busy round_count e
behind_point round_count e (NotBetter was given) = Busy round_count e
behind_point round_count e answer = Free round_count

-- a call where nobody sits
abbrev pub IsCalledAway : Call → Stage → Type 0
IsCalledAway left new = new ≡ Away
IsCalledAway call new = ⊥

-- a call of a worker that has no task
abbrev pub IsCalledFree : RoundCount → Call → Stage → Type 0
IsCalledFree round_count (taken took) new = IsTakenBy round_count took new
IsCalledFree round_count left new = new ≡ Away
IsCalledFree round_count copied new = new ≡ Free round_count
IsCalledFree round_count call new = ⊥

-- a call of one that has
abbrev pub IsCalledBusy : RoundCount → Engaged → Call → Stage → Type 0
IsCalledBusy round_count e (offered x answer) new =
    (f : Engaged) × IsFoundBy e x f × (new ≡ behind_point round_count f answer)
IsCalledBusy round_count e (handed number area answer) new =
    (f : Engaged) × IsHandedBy round_count e number area f × (new ≡ Busy round_count f)
IsCalledBusy round_count e (stated count floor (Ok reply)) new = (f : Engaged)
    × IsStatedBy round_count e count floor f × (new ≡ behind_reply (counted round_count) f reply)
IsCalledBusy round_count e (stated count floor (Err end)) new =
    (f : Engaged) × IsStatedBy round_count e count floor f × (new ≡ Busy round_count f)
IsCalledBusy round_count e (ended task answer) new = IsDoneBy e task × (new ≡ Free round_count)
IsCalledBusy round_count e left new = new ≡ Away
IsCalledBusy round_count e copied new = new ≡ Busy round_count e
IsCalledBusy round_count e call new = ⊥

-- an action where nobody sits
abbrev pub IsDoneAway : Action → Stage → Type 0
IsDoneAway (Sat policy) new = new ≡ Free (fresh policy)
IsDoneAway (Called call) new = IsCalledAway call new
IsDoneAway (LeftInVain history) new = new ≡ Away
IsDoneAway action new = ⊥

-- an action of a worker that has no task
abbrev pub IsDoneFree : RoundCount → Action → Stage → Type 0
IsDoneFree round_count (Called call) new = IsCalledFree round_count call new
IsDoneFree round_count (LeftInVain history) new = new ≡ Away
IsDoneFree round_count action new = ⊥

-- A action of one that has. It lowers its cutoff to one that it read between two rounds.
abbrev pub IsDoneBusy : RoundCount → Engaged → Action → Stage → Type 0
IsDoneBusy round_count e (Called call) new = IsCalledBusy round_count e call new
IsDoneBusy round_count e (Read cutoff) new = (e.made ≡ 0) × (new ≡ Busy round_count (under cutoff e))
IsDoneBusy round_count e (EndedInVain task history) new = IsDoneBy e task × (new ≡ Free round_count)
IsDoneBusy round_count e (LeftInVain history) new = new ≡ Away
IsDoneBusy round_count e action new = ⊥

-- what an action makes of where the pass stood
abbrev pub NextState : Stage → Action → Stage → Type 0
NextState Away action new = IsDoneAway action new
NextState (Free round_count) action new = IsDoneFree round_count action new
NextState (Busy round_count e) action new = IsDoneBusy round_count e action new
