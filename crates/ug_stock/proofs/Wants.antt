-- The needs of the ranks that work can be reported.
use Rattle.std.proofs.Common.{◌≡◌, ℕ, ◌+◌, ◌<◌, ◌≤◌, ◌^◌, List, [], ◌∷◌, length, filter, refl, sym, subst, ap, arith}
use Rattle.std.specs.Prelude.{All, not}
use Rattle.std.proofs.lemmas.List.{length-map}
use Rattle.std.proofs.lemmas.List.Elements.{All-append, All-cons, All-contains, All-filter, All-map, All-nil}
use Rattle.std.proofs.lemmas.List.Filters.{length-filter_both}
use Rattle.ug_rules.specs.declared.member.Member.{Member}
use Rattle.ug_rules.specs.declared.demand.Wanted.{Wanted}
use Rattle.ug_rules.specs.declared.demand.Wanted.TheVariants.{Ask, Enough, Nothing}
use Rattle.ug_rules.specs.Asking.{collecting_ranks}
use Rattle.ug_rules.specs.Wants.{IsWanted}
use Rattle.ug_ranks.specs.declared.state.State.{State}
use Rattle.ug_ranks.specs.declared.state.State.TheVariants.{Absent, Idle, Racing, Active, Dead}
use Rattle.ug_rules.specs.Ranks.{member_at, members_in, of_ranks}
use Rattle.ug_stock.specs.Books.{CanBeTold}
use Rattle.ug_stock.proofs.Works.{few_work}
use Rattle.ug_stock.proofs.Counts.{members_work}

-- the members are some of the ranks
abbrev IsBelow : ℕ → Member → Type 0
IsBelow n member = member.rank < n

members_within : (n k : ℕ) (ss : List State) → k + length ss ≤ n
    → All (IsBelow n) (of_ranks member_at k ss)
members_within n k [] le = All-nil (IsBelow n)
members_within n k (s ∷ ss) le = All-append (IsBelow n) (member_at k s)
    (of_ranks member_at (k + 1) ss) (own s) (members_within n (k + 1) ss (omega (arith, le)))
  where
    own : (t : State) → All (IsBelow n) (member_at k t)
    own Absent = All-nil (IsBelow n)
    own Idle = All-nil (IsBelow n)
    own (Racing racer) = All-nil (IsBelow n)
    own (Active work) = All-cons (IsBelow n) _ [] (omega (arith, le))
        (All-nil (IsBelow n))
    own (Dead how) = All-nil (IsBelow n)

ranks_within : (ss : List State) → All (IsBelow (length ss)) (members_in ss)
ranks_within ss = members_within (length ss) 0 ss (omega arith)

-- those that collect are some of the members
some_collect : (members : List Member) → length (collecting_ranks members) ≤ length members
some_collect members =
    let some = filter (λ (member : Member). member.collecting) members in omega (
      arith,
      length-map some (λ (member : Member). member.rank),
      length-filter_both (λ (member : Member). member.collecting)
          (λ (member : Member). not member.collecting) (λ member. refl) members,
    )

pub can_be_told : (len low high : ℕ) (ss : List State) (demand : Wanted) → high < 2 ^ 32
    → IsWanted len low high (members_in ss) demand → CanBeTold (length ss) demand
can_be_told len low high ss (Ask rank count) fits w =
    let within = All-contains (IsBelow (length ss)) (members_in ss)
    w.first.member (ranks_within ss) w.first.first.among in
    (omega (arith, within, w.first.named), omega (arith, fits, w.up_to_high))
can_be_told len low high ss (Enough ranks) fits w = (
  subst (λ (rs : List ℕ). All (λ (rank : ℕ). rank < length ss) rs) (sym w.all)
      (All-map (λ (rank : ℕ). rank < length ss) (λ (member : Member). member.rank) _
      (All-filter (λ (member : Member). member.collecting) (IsBelow (length ss)) (members_in ss)
      (ranks_within ss))),
  omega (
    arith,
    ap (λ (rs : List ℕ). length rs) w.all,
    some_collect (members_in ss),
    members_work ss,
    few_work ss,
  ),
)
can_be_told len low high ss Nothing fits w = tt

-- so it is by other words for the numbers
pub wanted_so : (len low high len2 low2 high2 : ℕ) (ms : List Member) (d : Wanted) → len ≡ len2
    → low ≡ low2 → high ≡ high2 → IsWanted len low high ms d → IsWanted len2 low2 high2 ms d
wanted_so len low high len2 low2 high2 ms d e f g w =
    subst (λ n. IsWanted n low2 high2 ms d) e
    (subst (λ n. IsWanted len n high2 ms d) f (subst (λ n. IsWanted len low n ms d) g w))
