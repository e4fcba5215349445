-- The ranks of rising members rise, also of those alone that are collecting.
use Rattle.std.proofs.Common.{ℕ, ◌<◌, List, map, filter, length, arith}
use Rattle.std.specs.List.{AllPairs}
use Rattle.std.proofs.lemmas.List.{get_or-map, length-map}
use Rattle.std.proofs.lemmas.List.Kept.{AllPairs-filter}
use Rattle.ug_rules.specs.declared.member.Member.{Member}
use Rattle.ug_rules.specs.Asking.{AreRising, collecting_ranks}
use Rattle.ug_stock.proofs.AskedFirst.{no_member}

abbrev rank_of : Member → ℕ
rank_of member = member.rank

ranks_rise : (members : List Member) → AreRising members
    → AllPairs (λ one later. one < later) (map (λ member. member.rank) members)
ranks_rise members h = λ i j d before there.
    let later : j < length members = omega (arith, length-map members rank_of) in
    let one : i < length members = omega arith in
    omega (
      arith,
      get_or-map rank_of members i no_member d one,
      get_or-map rank_of members j no_member d later,
      h i j no_member before later,
    )

pub collecting_rise : (members : List Member) → AreRising members
    → AllPairs (λ one later. one < later) (collecting_ranks members)
collecting_rise members h = ranks_rise (filter (λ member. member.collecting) members)
    (AllPairs-filter (λ one later. one.rank < later.rank) (λ member. member.collecting) members h)
