-- What a command leaves beside its lines.
use Rattle.std.proofs.Common.{◌≡◌, ℕ, List, Option, None, Some, IfSome, ap, refl, sym, subst, inl, inr}
use Rattle.std.specs.Prelude.{option_map}
use Rattle.clap.specs.Walk.{Text}
use Rattle.ug_problem.specs.Instances.{Instance}
use Rattle.ug_restart.specs.declared.fault.StartFault.{StartFault}
use Rattle.ug_restart.specs.declared.outcome.Outcome.{Outcome}
use Rattle.ug_disk.specs.Histories.{DiskSeen}
use Rattle.ug_checkpoint.specs.declared.found.Found.{Found}
use Rattle.ug_checkpoint.specs.Recovery.{HasFound}
use Rattle.ug_cli.specs.declared.plan.Asked.{Asked}
use Rattle.ug_cli.specs.declared.plan.Gen.{Gen}
use Rattle.ug_io.specs.Links.{LinkSeen}
use Rattle.ug_cli.specs.declared.plan.Plan.{Plan}
use Rattle.ug_cli.specs.Taken.{TakenWords}
use Rattle.ug_top.specs.Outside.{Outside}
use Rattle.ug_top.specs.Lines.{IsFaultLine, States}
use Rattle.ug_top.specs.Ends.{AreGenLines, AreShowLines, AreWorkerLines, BeginsAlways, HasNotBegun, HasNotGoneOn, HasRunAlone, HasRunOn, HasRunSaved, crews_at, status_of, text_of}
use Rattle.ug_top.specs.Left.{IsBestFor, IsBestOf, IsFaultFor, IsFaultOf, IsIncumbentOf, IsPointFound, IsSolveBest, best_of, line_of}
use Rattle.ug_top.specs.Outcomes.{TellsEnd, TellsFault, TellsImage, TellsRun}
use Rattle.ug_top.specs.Unread.{IsUnread}
use Rattle.ug_top.specs.declared.ended.Ended.{Ended}
use Rattle.ug_top.specs.declared.ended.Ended.TheVariants.{Lines, Quiet, Refused, ReadFault, Memory}

-- ---- the best point

mapped : {A B : Type 0} (f : A → B) (P : B → Type 0) (o : Option A) → IfSome o (λ a. P (f a))
    → IfSome (option_map f o) P
mapped f P None t = tt
mapped f P (Some a) t = t

weaker : {A : Type 0} (P Q : A → Type 0) (o : Option A) → ((a : A) → P a → Q a) → IfSome o P → IfSome o Q
weaker P Q None of t = tt
weaker P Q (Some a) of t = of a t

pub none_left : {A : Type 0} (P : A → Type 0) (o : Option A) → o ≡ None → IfSome o P
none_left P o is = subst (λ q. IfSome q P) (sym is) tt

-- for a run
run_best : (Ran : Instance → Outcome → Type 0) (Not : Instance → StartFault → Type 0) (boxed : Option ℕ)
    (left : Option (List ℕ)) (p : Instance) → States left boxed p → (gap : ℕ) (e : Ended)
    → TellsRun (Ran p) (Not p) gap e → IfSome (best_of e) (IsIncumbentOf Ran boxed left)
run_best Ran Not boxed left p states gap (Lines status text best) (inl (outcome, ran, printed)) =
    weaker _ _ (option_map (λ v. v.items) best)
    (λ lines is. record { problem = p; states = states; outcome = outcome; ran = ran; is = is })
    printed.best
run_best Ran Not boxed left p states gap (Lines status text best) (inr (fault, not, tells)) =
    mapped (λ v. v.items) (IsIncumbentOf Ran boxed left) best (none_left _ best tells.2)
run_best Ran Not boxed left p states gap (Quiet status) t = absurd t
run_best Ran Not boxed left p states gap (Refused refusal text) t = absurd t
run_best Ran Not boxed left p states gap ReadFault t = absurd t
run_best Ran Not boxed left p states gap Memory t = tt

pub run_line : (P : ℕ → Type 0) (Ran : Outcome → Type 0) (Not : StartFault → Type 0) (gap : ℕ) (e : Ended)
    → TellsRun Ran Not gap e → IfSome (line_of e) P
run_line P Ran Not gap (Lines status text best) t = tt
run_line P Ran Not gap (Quiet status) t = absurd t
run_line P Ran Not gap (Refused refusal text) t = absurd t
run_line P Ran Not gap ReadFault t = absurd t
run_line P Ran Not gap Memory t = tt

-- for a command that read no problem
pub unread_best : (P : List ℕ → Type 0) (boxed : Option ℕ) (left : Option (List ℕ)) (e : Ended)
    → IsUnread boxed left e → IfSome (best_of e) P
unread_best P boxed left (Lines status text best) t = absurd t
unread_best P boxed left (Quiet status) t = absurd t
unread_best P boxed left (Refused refusal text) t = tt
unread_best P boxed left ReadFault t = tt
unread_best P boxed left Memory t = tt

-- the line at which its file is at fault
pub unread_fault : (boxed : Option ℕ) (left : Option (List ℕ)) (e : Ended) → IsUnread boxed left e
    → IfSome (line_of e) (IsFaultLine boxed left)
unread_fault boxed left (Lines status text best) t = absurd t
unread_fault boxed left (Quiet status) t = absurd t
unread_fault boxed left (Refused refusal text) t = t.1
unread_fault boxed left ReadFault t = tt
unread_fault boxed left Memory t = tt

-- for a solve without a checkpoint
pub alone_best : {A : Type 0} (folder : Option A) (asked : Asked) (old new : Outside) (p : Instance)
    → folder ≡ None → States old.source.left asked.bounds.boxed p → (e : Ended)
    → TellsRun (HasRunAlone (crews_at old new) asked old.disk new.disk p) (BeginsAlways p)
    asked.bounds.gap e → IfSome (best_of e) (IsSolveBest folder asked old new)
alone_best {A} folder asked old new p is states e t =
    subst (λ (k : Option A). IfSome (best_of e) (IsSolveBest k asked old new)) (sym is)
    (run_best (HasRunAlone (crews_at old new) asked old.disk new.disk) BeginsAlways
    asked.bounds.boxed old.source.left p states asked.bounds.gap e t)

-- of one with a checkpoint
pub saved_best : {A : Type 0} (folder : Option A) (name : A) (asked : Asked) (old new : Outside)
    (p : Instance) → folder ≡ Some name → States old.source.left asked.bounds.boxed p → (e : Ended)
    → TellsRun (HasRunSaved (crews_at old new) asked old.disk new.disk p)
    (HasNotBegun (crews_at old new) asked old.disk new.disk p) asked.bounds.gap e
    → IfSome (best_of e) (IsSolveBest folder asked old new)
saved_best {A} folder name asked old new p is states e t =
    subst (λ (k : Option A). IfSome (best_of e) (IsSolveBest k asked old new)) (sym is)
    (run_best (HasRunSaved (crews_at old new) asked old.disk new.disk)
    (HasNotBegun (crews_at old new) asked old.disk new.disk)
    asked.bounds.boxed old.source.left p states asked.bounds.gap e t)

-- for a restart
pub restart_best : (asked : Asked) (old new : Outside) (p : Instance)
    → States old.source.left asked.bounds.boxed p → (e : Ended)
    → TellsRun (HasRunOn (crews_at old new) asked old.disk new.disk p)
    (HasNotGoneOn (crews_at old new) asked old.disk new.disk p) asked.bounds.gap e
    → IfSome (best_of e) (IsIncumbentOf (HasRunOn (crews_at old new) asked old.disk new.disk)
    asked.bounds.boxed old.source.left)
restart_best asked old new p states e t =
    run_best (HasRunOn (crews_at old new) asked old.disk new.disk)
    (HasNotGoneOn (crews_at old new) asked old.disk new.disk)
    asked.bounds.boxed old.source.left p states asked.bounds.gap e t

-- for a checkpoint that is shown
pub image_best : (old new : DiskSeen) (found : Found) → HasFound old.told new.told (Some found)
    → (e : Ended) → TellsImage found.image e → IfSome (best_of e) (IsPointFound old new)
image_best old new found has (Lines status text best) t =
    mapped (λ v. v.items) (IsPointFound old new) best
    (weaker _ (λ v. IsPointFound old new v.items) best (λ v is. record { found = found; has = has; is = is })
    t.2)
image_best old new found has (Quiet status) t = absurd t
image_best old new found has (Refused refusal text) t = absurd t
image_best old new found has ReadFault t = absurd t
image_best old new found has Memory t = tt

-- for a fault that is printed
pub fault_best : (P : List ℕ → Type 0) (fault : StartFault) (e : Ended) → TellsFault fault e
    → IfSome (best_of e) P
fault_best P fault (Lines status text best) t = mapped (λ v. v.items) P best (none_left _ best t.2)
fault_best P fault (Quiet status) t = absurd t
fault_best P fault (Refused refusal text) t = absurd t
fault_best P fault ReadFault t = absurd t
fault_best P fault Memory t = tt

-- for a run whose end is printed
pub end_best : (outcome : Outcome) (e : Ended) → TellsEnd outcome e → best_of e ≡ None
end_best outcome (Lines status text best) t = ap (option_map (λ v. v.items)) t.1
end_best outcome (Quiet status) t = absurd t
end_best outcome (Refused refusal text) t = absurd t
end_best outcome ReadFault t = absurd t
end_best outcome Memory t = refl

-- if no file is read none is at fault
pub show_line : (P : ℕ → Type 0) (old new : DiskSeen) (e : Ended)
    → AreShowLines old new (status_of e) (text_of e) → IfSome (line_of e) P
show_line P old new (Lines status text best) t = tt
show_line P old new (Quiet status) t = tt
show_line P old new (Refused refusal text) t = absurd t
show_line P old new ReadFault t = tt
show_line P old new Memory t = tt

pub gen_line : (P : ℕ → Type 0) (gen : Gen) (old new : DiskSeen) (e : Ended)
    → AreGenLines gen old new (status_of e) (text_of e) → IfSome (line_of e) P
gen_line P gen old new (Lines status text best) t = tt
gen_line P gen old new (Quiet status) t = tt
gen_line P gen old new (Refused refusal text) t = absurd t
gen_line P gen old new ReadFault t = tt
gen_line P gen old new Memory t = tt

pub worker_line : (P : ℕ → Type 0) (link : Option LinkSeen) (e : Ended)
    → AreWorkerLines link (status_of e) (text_of e) → IfSome (line_of e) P
worker_line P link (Lines status text best) t = tt
worker_line P link (Quiet status) t = tt
worker_line P link (Refused refusal text) t = absurd t
worker_line P link ReadFault t = tt
worker_line P link Memory t = tt

-- ---- what the words ask for

pub best_for : (words : List Text) (plan : Plan) (old new : Outside) (o : Option (List ℕ))
    → TakenWords words plan → IfSome o (IsBestOf plan old new) → IfSome o (IsBestFor words old new)
best_for words plan old new o taken t =
    weaker _ _ o (λ lines best. record { plan = plan; taken = taken; best = best }) t

pub fault_for : (words : List Text) (plan : Plan) (old : Outside) (o : Option ℕ)
    → TakenWords words plan → IfSome o (IsFaultOf plan old) → IfSome o (IsFaultFor words old)
fault_for words plan old o taken t =
    weaker _ _ o (λ line fault. record { plan = plan; taken = taken; fault = fault }) t

-- a statement about a mapped option holds of the option
pub unmapped : {A B : Type 0} (f : A → B) (P : B → Type 0) (o : Option A) (q : Option B)
    → option_map f o ≡ q → IfSome q P → IfSome o (λ a. P (f a))
unmapped f P None q is t = tt
unmapped f P (Some a) q is t = subst (λ r. IfSome r P) (sym is) t
