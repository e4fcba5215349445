-- How a solve by workers ends.
use Rattle.std.proofs.Common.{◌≡◌, inl, inr, ℕ, false, List, length, Option, Some, refl, sym, ap, subst, arith}
use Rattle.std.specs.Prelude.{IfSome, replicate}
use Rattle.std.proofs.lemmas.Bool.{cases_lt}
use Rattle.std.proofs.lemmas.List.{get_or-replicate, get_or_past, length-replicate}
use Rattle.ug_io.specs.declared.crew.Exchange.{Exchange}
use Rattle.ug_io.specs.Crews.{CrewSeen}
use Rattle.ug_io.specs.Outside.{IsCalm}
use Rattle.ug_ranks.specs.Looks.{is_alive, is_joined}
use Rattle.ug_ranks.specs.States.{state_at}
use Rattle.ug_ranks.specs.declared.state.Off.TheVariants.{Died}
use Rattle.ug_ranks.specs.declared.state.State.TheVariants.{Absent, Dead}
use Rattle.ug_rules.specs.State.{BookState}
use Rattle.ug_book.specs.declared.opening.Opening.{Opening}
use Rattle.ug_book.specs.Openings.{IsOpening, opening_book}
use Rattle.ug_restart.specs.declared.outcome.End.{End}
use Rattle.ug_restart.specs.declared.outcome.End.TheVariants.{Answered, Limited, Stranded, Memory}
use Rattle.ug_restart.specs.Outcomes.{IfBook, IsStranded}
use Rattle.ug_coord.specs.Ends.{AllDead, is_ended}
use Rattle.ug_coord.specs.Coordinators.{HasCoordinated}
use Rattle.ug_serve.specs.Worked.{AreAlwaysWorked}
use Rattle.ug_laws.specs.Calm.{CalmWorkersLive}

stranded_dead : (end : End) (b : BookState) → is_ended end b → IsStranded end → AllDead b
stranded_dead (Answered own) b is stranded = absurd stranded
stranded_dead (Limited own) b is stranded = absurd stranded
stranded_dead (Stranded own) b is stranded = is.1.dead
stranded_dead Memory b is stranded = absurd stranded

stranded_wants : (P : Type 0) (end : End) → IfBook end (λ book. P) → IsStranded end → P
stranded_wants P (Answered own) has stranded = absurd stranded
stranded_wants P (Limited own) has stranded = absurd stranded
stranded_wants P (Stranded own) has stranded = has
stranded_wants P Memory has stranded = absurd stranded

-- no rank of an opening's book has joined
unjoined : (solvers rank : ℕ) → is_joined (state_at (replicate solvers Absent) rank) ≡ false
unjoined solvers rank = elim (cases_lt rank solvers) [
  | inl below ↦ ap is_joined (get_or-replicate solvers rank Absent (Dead Died) below)
  | inr past ↦ ap is_joined (get_or_past (replicate solvers Absent) rank (Dead Died)
      (omega (arith, past, length-replicate solvers Absent)))
]

-- a rank that is dead, or none
dead_anyway : (b : BookState) (rank : ℕ) → AllDead b → is_alive (state_at b.ranks rank) ≡ false
dead_anyway b rank dead = elim (cases_lt rank (length b.ranks)) [
  | inl below ↦ dead rank below
  | inr past ↦ ap is_alive (get_or_past b.ranks rank (Dead Died) past)
]

module _ (o : Opening) (end : End) (before : ℕ) (after : CrewSeen) (said : List Exchange) (Tried : ℕ → Type 0) (Safe : Type 0)
    (h : HasCoordinated (opening_book o) before after end Tried Safe) (told : after.said ≡ Some said) where
  -- what was received and reported in the actions is what the crew says
  pub was_said : AreAlwaysWorked said → AreAlwaysWorked h.now.said
  was_said worked = subst AreAlwaysWorked
      (subst (λ (shown : Option (List Exchange)). IfSome shown (λ s. s ≡ h.now.said)) told h.shown) worked

  -- if no call of the crew failed some rank lives
  pub never_stranded : CalmWorkersLive → IsOpening o → AreAlwaysWorked said → IsCalm before after.faults
      → ¬ IsStranded end
  never_stranded law opening worked calm stranded =
      law (opening_book o) before h.now h.come (record {
        unused = record { last = refl; orders = refl };
        away = unjoined o.settings.solvers;
        worked = was_said worked;
        calm = subst (IsCalm before) (sym h.failed) calm;
        memory = stranded_wants (h.now.out_of_memory ≡ false) end h.out_of_memory stranded;
      }) 0
      (h.causes 0 (omega (arith, opening.settings.some, length-replicate o.settings.solvers Absent))
      (dead_anyway h.now.book 0 (stranded_dead end h.now.book h.ended stranded)))
