-- What a rank is sent that is asked for nodes, or for no more of them.
use Rattle.std.proofs.Common.{◌≡◌, ℕ, zero, suc, ◌+◌, ◌<◌, List, [], ◌∷◌, ◌++◌, length, get_or, set, take, refl, sym, ap, ◌∙◌, arith}
use Rattle.std.specs.Prelude.{Some, None, slice_set}
use Rattle.std.proofs.lemmas.Option.{none-some, same_Some}
use Rattle.std.proofs.lemmas.List.{set-get_or}
use Rattle.ug_frames.specs.declared.order.Order.TheVariants.{CollectIn, CollectOut}
use Rattle.ug_nodes.specs.declared.name.Ticket.{Ticket}
use Rattle.ug_ranks.specs.declared.state.Off.TheVariants.{Died}
use Rattle.ug_ranks.specs.declared.state.State.{State}
use Rattle.ug_ranks.specs.declared.state.State.TheVariants.{Absent, Idle, Racing, Active, Dead}
use Rattle.ug_ranks.specs.States.{state_at}
use Rattle.ug_ranks.specs.Changes.{asked_for}
use Rattle.ug_rules.specs.State.{BookState, nodes_of}
use Rattle.ug_rules.specs.Deciding.{collect_in, collect_out, stopped_collecting}
use Rattle.ug_rules.proofs.BookLemmas.{asked_alike}
use Rattle.ug_rules.proofs.WorkLemmas.{same_nodes}
use Rattle.ug_ranks.specs.Looks.{work_ticket}

pub not_told_in : (r count : ℕ) (s : State) → work_ticket s ≡ None → collect_in r count s ≡ []
not_told_in r count (Active work) e = absurd (none-some work.ticket (sym e))
not_told_in r count Absent e = refl
not_told_in r count Idle e = refl
not_told_in r count (Racing racer) e = refl
not_told_in r count (Dead how) e = refl

pub told_in : (r count : ℕ) (s : State) (ticket : Ticket) → work_ticket s ≡ Some ticket
    → collect_in r count s ≡ record { rank = r; order = CollectIn ticket count } ∷ []
told_in r count (Active work) ticket e =
    ap (λ (t : Ticket). record { rank = r; order = CollectIn t count } ∷ [])
    (same_Some work.ticket ticket e)
told_in r count Absent ticket e = absurd (none-some ticket e)
told_in r count Idle ticket e = absurd (none-some ticket e)
told_in r count (Racing racer) ticket e = absurd (none-some ticket e)
told_in r count (Dead how) ticket e = absurd (none-some ticket e)

pub not_told_out : (r : ℕ) (s : State) → work_ticket s ≡ None → collect_out r s ≡ []
not_told_out r (Active work) e = absurd (none-some work.ticket (sym e))
not_told_out r Absent e = refl
not_told_out r Idle e = refl
not_told_out r (Racing racer) e = refl
not_told_out r (Dead how) e = refl

pub told_out : (r : ℕ) (s : State) (ticket : Ticket) → work_ticket s ≡ Some ticket
    → collect_out r s ≡ record { rank = r; order = CollectOut ticket } ∷ []
told_out r (Active work) ticket e =
    ap (λ (t : Ticket). record { rank = r; order = CollectOut t } ∷ [])
    (same_Some work.ticket ticket e)
told_out r Absent ticket e = absurd (none-some ticket e)
told_out r Idle ticket e = absurd (none-some ticket e)
told_out r (Racing racer) ticket e = absurd (none-some ticket e)
told_out r (Dead how) ticket e = absurd (none-some ticket e)

-- a rank that does not work stays as it is
pub kept_asked : (ss : List State) (r count : ℕ) → work_ticket (state_at ss r) ≡ None
    → ss ≡ set ss r (asked_for count (state_at ss r))
kept_asked ss r count e =
    sym (ap (λ (s : State). set ss r s) (same (state_at ss r) e) ∙ set-get_or ss r (Dead Died))
  where
    same : (s : State) → work_ticket s ≡ None → asked_for count s ≡ s
    same (Active work) e = absurd (none-some work.ticket (sym e))
    same Absent e = refl
    same Idle e = refl
    same (Racing racer) e = refl
    same (Dead how) e = refl

-- asking for nodes changes no node that is worked on
pub asked_works : (ss : List State) (r count : ℕ)
    → nodes_of (slice_set ss r (asked_for count (state_at ss r))) ≡ nodes_of ss
asked_works ss r count = same_nodes ss r (asked_for count (state_at ss r))
    (asked_alike count (state_at ss r)).nodes

-- one rank more is sent the order to stop handing nodes
abbrev pub stopped_one : ℕ → BookState → BookState
stopped_one r b = record b {
  ranks = slice_set b.ranks r (asked_for 0 (state_at b.ranks r));
  orders = b.orders ++ collect_out r (state_at b.ranks r);
}

pub stopped_more : (rs : List ℕ) (k : ℕ) (b : BookState) → k < length rs
    → stopped_collecting (take (k + 1) rs) b
    ≡ stopped_one (get_or rs k 0) (stopped_collecting (take k rs) b)
stopped_more [] k b there = absurd (omega (arith, there))
stopped_more (r ∷ rs) zero b there = refl
stopped_more (r ∷ rs) (suc k) b there =
    let e : suc k + 1 ≡ suc (k + 1) = omega arith in
    ap (λ (n : ℕ). stopped_collecting (take n (r ∷ rs)) b) e
    ∙ stopped_more rs k (stopped_one r b) (omega (arith, there))
