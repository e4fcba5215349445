-- That what is seen of a link shows the status.
use Rattle.std.proofs.Common.{◌≡◌, inl, inr, ℕ, List, Option, None, Some, IfSome, refl}
use Rattle.std.proofs.lemmas.Bool.{false≢true}
use Rattle.std.specs.Prelude.{IsSome}
use Rattle.ug_io.specs.declared.link.Said.{Said}
use Rattle.ug_io.specs.Links.{LinkSeen}
use Rattle.ug_serve.specs.Endings.{IsLost, ServicesEndInOneWay}
use Rattle.ug_serve.specs.Serving.{HasEnded, HasFailed, HasMetBad}
use Rattle.ug_cli.specs.declared.plan.Plan.{Plan}
use Rattle.ug_cli.specs.declared.plan.Plan.TheVariants as plans
use Rattle.ug_top.specs.Outside.{Outside}
use Rattle.ug_top.specs.Ends.{AreLinesOf, AreWorkerLines, ShowsStatus}
use Rattle.ug_top.specs.Ran.{IsExactOf}
use Rattle.ug_top.specs.declared.status.Status.{Status}
use Rattle.ug_top.specs.declared.status.Status.TheVariants as statuses

not_both : ServicesEndInOneWay → (seen : LinkSeen) (said : Option (List Said)) (at : ℕ) → seen.said ≡ said
    → IsSome said → HasEnded seen → HasMetBad seen at → ⊥
not_both law seen None at is told ended bad = absurd (false≢true told)
not_both law seen (Some said) at is told ended bad = law.ended_not_bad seen said at is ended bad

failed_lost : (seen : LinkSeen) → HasFailed seen → IsLost seen
failed_lost seen failed = elim failed.cause [
  | inl fault ↦ inl fault
  | inr cut ↦ inr cut.ended
]

shows : ServicesEndInOneWay → (seen : LinkSeen) (status : Status) (text : List ℕ)
    → AreWorkerLines (Some seen) status text → ShowsStatus seen status
shows law seen statuses.Answered text is = record {
  fault = λ lost. absurd (law.lost_not_ended seen lost is.0);
  bad = λ told at bad. absurd (not_both law seen seen.said at refl told is.0 bad);
  ended = λ told ended. inl refl;
}
shows law seen statuses.LinkFault text is = record {
  fault = λ lost. inl refl;
  bad = λ told at bad. absurd (law.lost_not_bad seen at (failed_lost seen is.0) bad);
  ended = λ told ended. absurd (law.lost_not_ended seen (failed_lost seen is.0) ended);
}
shows law seen statuses.BadFrame text is = record {
  fault = λ lost. absurd (law.lost_not_bad seen is.0.at lost is.0.is);
  bad = λ told at bad. inl refl;
  ended = λ told ended. absurd (not_both law seen seen.said is.0.at refl told ended is.0.is);
}
shows law seen statuses.Memory text is = record {
  fault = λ lost. inr refl;
  bad = λ told at bad. inr refl;
  ended = λ told ended. inr refl;
}
shows law seen statuses.Limited text is = absurd is
shows law seen statuses.Stranded text is = absurd is
shows law seen statuses.Usage text is = absurd is
shows law seen statuses.Refused text is = absurd is
shows law seen statuses.ReadFault text is = absurd is
shows law seen statuses.WriteFault text is = absurd is
shows law seen statuses.DiskFault text is = absurd is
shows law seen statuses.NoCheckpoint text is = absurd is
shows law seen statuses.OtherProblem text is = absurd is
shows law seen statuses.BadImage text is = absurd is
shows law seen statuses.Spent text is = absurd is
shows law seen statuses.SmallerGap text is = absurd is

link_shows : ServicesEndInOneWay → (link : Option LinkSeen) (status : Status) (text : List ℕ)
    → AreWorkerLines link status text → IfSome link (λ seen. ShowsStatus seen status)
link_shows law None status text is = tt
link_shows law (Some seen) status text is = shows law seen status text is

pub lines_exact : ServicesEndInOneWay → (plan : Plan) (old new : Outside) (status : Status) (text : List ℕ)
    → AreLinesOf plan old new status text → IsExactOf plan new.link status
lines_exact law (plans.Solve solve) old new status text is = tt
lines_exact law (plans.Restart restart) old new status text is = tt
lines_exact law (plans.Worker worker) old new status text is = link_shows law new.link status text is
lines_exact law (plans.Show show) old new status text is = tt
lines_exact law (plans.Gen gen) old new status text is = tt
