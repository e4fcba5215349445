-- The history of a desk: the calls of its passes, and what each did.
use Rattle.std.specs.Prelude.{◌≡◌, ℕ, ℤ, List, [], ◌∷◌, Result, Ok, Err}
use Rattle.ug_rows.specs.declared.area.Interval.{Interval}
use Rattle.ug_rules.specs.declared.heard.Heard.{Heard}
use Rattle.ug_rules.specs.State.{BookState}
use Rattle.ug_rules.specs.Deaths.{killed}
use Rattle.ug_stock.specs.declared.unfinished.Unfinished.{Unfinished}
use Rattle.ug_base.specs.Tasks.{TaskState}
use Rattle.ug_worker.specs.declared.took.Took.{Took}
use Rattle.ug_worker.specs.declared.took.Untaken.{Untaken}
use Rattle.ug_worker.specs.declared.reply.Reply.{Reply}
use Rattle.ug_desk.specs.DeskStates.{OfBook, DeskState, own_ticket}
use Rattle.ug_desk.specs.Takes.{HasTaken, IsCutShort}
use Rattle.ug_desk.specs.Reports.{HasHanded, HasNotStated, HasOffered, HasStated}
use Rattle.ug_desk.specs.Dones.{HasDone}

-- a call, and what it was answered
pub data Call : Type 0 where
  taken : Result Took Untaken → Call
  offered : List ℤ → Heard → Call
  handed : ℕ → List Interval → Heard → Call
  stated : ℕ → ℤ → Result Reply Unfinished → Call
  ended : TaskState → Heard → Call
  left : Call
  copied : Call

-- the rank was lost
abbrev pub HasGone : ℕ → BookState → BookState → Type 0
HasGone r old new = new ≡ killed r old

-- what a call of pass r does, by the rules of the book
abbrev pub Step : ℕ → Call → DeskState → DeskState → Type 0
Step r (taken (Ok took)) old new = HasTaken r took old new
Step r (taken (Err end)) old new = OfBook (IsCutShort r end) old new
Step r (offered x answer) old new = OfBook (HasOffered r (own_ticket old r) x answer) old new
Step r (handed number area answer) old new =
    OfBook (HasHanded r (own_ticket old r) number area answer) old new
Step r (stated count floor (Ok reply)) old new =
    OfBook (HasStated r (own_ticket old r) count floor reply) old new
Step r (stated count floor (Err end)) old new =
    OfBook (HasNotStated r (own_ticket old r) count floor end.stood) old new
Step r (ended task answer) old new = OfBook (HasDone r task answer) old new
Step r left old new = OfBook (HasGone r) old new
Step r copied old new = new ≡ old

-- a call of a pass
pub record Entry : Type 0 where
  pub pass : ℕ
  pub call : Call

-- the calls, one after another, lead from the old to the new
abbrev pub Replays : DeskState → List Entry → DeskState → Type 0
Replays old [] new = new ≡ old
Replays old (entry ∷ history) new =
    (next : DeskState) × Step entry.pass entry.call old next × Replays next history new
