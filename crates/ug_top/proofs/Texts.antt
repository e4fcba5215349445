-- What the file that was kept states, all bytes of the source state.
use Rattle.std.proofs.Common.{ℕ, List, Option, Some, None, IfSome}
use Rattle.ug_problem.specs.Instances.{Instance}
use Rattle.ug_mps.specs.Reads.{Reads}
use Rattle.ug_mps.specs.Enough.{IsEnough}
use Rattle.ug_top.specs.Lines.{States}
use Rattle.ug_top.specs.Unread.{IsTextUnread, IsUnread}
use Rattle.ug_top.specs.declared.ended.Ended.{Ended}
use Rattle.ug_top.specs.declared.ended.Ended.TheVariants.{Lines, Quiet, Refused, ReadFault, Memory}

pub told_problem : (left : Option (List ℕ)) (text : List ℕ) (boxed : Option ℕ) (p : Instance)
    → IfSome left (λ bytes. IsEnough bytes text) → Reads text boxed p → States left boxed p
told_problem None text boxed p enough reads = tt
told_problem (Some bytes) text boxed p enough reads = enough.problem boxed p reads

pub told_unread : (left : Option (List ℕ)) (text : List ℕ) (boxed : Option ℕ) (e : Ended)
    → IfSome left (λ bytes. IsEnough bytes text) → IsTextUnread boxed text e
    → IsUnread boxed left e
told_unread left text boxed (Lines status told best) enough unread = absurd unread
told_unread left text boxed (Quiet status) enough unread = absurd unread
told_unread None text boxed (Refused refusal told) enough (f, first, same, at) =
    (record { fault = f; first = tt; is = same }, record { fault = f; first = tt; is = at })
told_unread (Some bytes) text boxed (Refused refusal told) enough (f, first, same, at) = (
  record { fault = f; first = enough.fault boxed f first; is = same },
  record { fault = f; first = enough.fault boxed f first; is = at },
)
told_unread left text boxed ReadFault enough unread = absurd unread
told_unread left text boxed Memory enough unread = tt
