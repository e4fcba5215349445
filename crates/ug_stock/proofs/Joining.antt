-- How far the loop over the ranks that join a race has come.
use Rattle.std.proofs.Common.{◌≡◌, ℕ, zero, suc, ◌+◌, ◌<◌, ◌≤◌, Bool, false, if◌then◌else◌, List, [], ◌∷◌, ◌++◌, length, drop, refl, ap, sym, ◌∙◌, arith}
use Rattle.std.specs.Prelude.{All, slice_set, Some}
use Rattle.std.specs.Option.{option_to_list}
use Rattle.std.proofs.lemmas.List.{drop_more, length-append, length-set}
use Rattle.std.proofs.lemmas.List.Elements.{All-pop}
use Rattle.ug_nodes.specs.declared.change.Change.{Change}
use Rattle.ug_pool.specs.declared.entry.Entry.{Entry}
use Rattle.ug_ranks.specs.declared.state.Racer.{Racer}
use Rattle.ug_ranks.specs.declared.state.Off.TheVariants.{Died}
use Rattle.ug_ranks.specs.declared.state.State.{State}
use Rattle.ug_ranks.specs.declared.state.State.TheVariants.{Idle, Racing, Dead}
use Rattle.ug_ranks.specs.States.{state_at}
use Rattle.ug_rules.specs.State.{BookState, nodes_of}
use Rattle.ug_rules.specs.Ranks.{of_ranks, rank_if, ranks_that}
use Rattle.ug_ranks.specs.Looks.{is_idle}
use Rattle.ug_rules.specs.Deciding.{raced_by_all}
use Rattle.ug_rules.proofs.WorkLemmas.{state_there}
use Rattle.ug_stock.specs.declared.terms.Terms.{Terms}
use Rattle.ug_stock.specs.declared.frontier.Frontier.{Frontier}
use Rattle.ug_stock.specs.Frontiers.{AreTermsOf, with_frontier}
use Rattle.ug_stock.specs.Racing.{HasJoinedRace, HaveJoinedRace, KeepsPoolAndRace}
use Rattle.ug_stock.proofs.Places.{none_works}

-- the idle ranks from r on
abbrev pub idle_from : ℕ → List State → List ℕ
idle_from r ss = of_ranks (rank_if is_idle) r (drop r ss)

-- r is the first of them, if it is idle
idle_next : (ss : List State) (r : ℕ) → r < length ss → state_at ss r ≡ Idle
    → idle_from r ss ≡ r ∷ idle_from (r + 1) ss
idle_next ss r there idle =
    ap (λ (xs : List State). of_ranks (rank_if is_idle) r xs) (drop_more ss r (Dead Died) there)
    ∙ ap (λ (s : State). rank_if is_idle r s ++ idle_from (r + 1) ss) idle

idle_later : (ss : List State) (r : ℕ) → r < length ss → is_idle (state_at ss r) ≡ false
    → idle_from r ss ≡ idle_from (r + 1) ss
idle_later ss r there other =
    ap (λ (xs : List State). of_ranks (rank_if is_idle) r xs) (drop_more ss r (Dead Died) there)
    ∙ ap (λ (b : Bool). (if b then r ∷ [] else []) ++ idle_from (r + 1) ss) other

idle_none : (ss : List State) (r : ℕ) → length ss ≤ r → idle_from r ss ≡ []
idle_none ss r end = ap (λ (xs : List State). of_ranks (rank_if is_idle) r xs) (drop_all ss r end)
  where
    drop_all : (ss : List State) (r : ℕ) → length ss ≤ r → drop r ss ≡ []
    drop_all [] zero end = refl
    drop_all [] (suc r) end = refl
    drop_all (s ∷ ss) zero end = absurd (omega (arith, end))
    drop_all (s ∷ ss) (suc r) end = drop_all ss r (omega (arith, end))

-- the idle ranks before r have joined, each with one of the boxes
pub record Joining (terms : Terms) (first boxes : List (List Change)) (old now : Frontier) (r : ℕ)
    : Type 0 where
  pub alike : (entry : Entry) → All (λ box. entry.node.changes ≡ box) first
      → All (λ box. entry.node.changes ≡ box) boxes
  pub joined : (b : BookState) (entry : Entry) → AreTermsOf b terms
      → All (λ box. entry.node.changes ≡ box) first
      → raced_by_all (idle_from r old.ranks) entry (with_frontier b now)
      ≡ raced_by_all (ranks_that is_idle old.ranks) entry (with_frontier b old)
  pub left : length boxes ≡ length (idle_from r old.ranks)
  pub wide : length now.ranks ≡ length old.ranks
  pub rest : (j : ℕ) → r ≤ j → state_at now.ranks j ≡ state_at old.ranks j
  pub last : now.last ≤ r
  pub spare : now.orders.spare + length (ranks_that is_idle old.ranks)
      ≡ old.orders.spare + length (idle_from r old.ranks)
  pub nodes : length (nodes_of now.ranks) ≡ length (nodes_of old.ranks)
  pub kept : KeepsPoolAndRace old now

pub none_joined : (terms : Terms) (boxes : List (List Change)) (old : Frontier)
    → length boxes ≡ length (ranks_that is_idle old.ranks) → old.last ≡ 0
    → Joining terms boxes boxes old old 0
none_joined terms boxes old as_many start = record {
  alike = λ entry same. same;
  joined = λ b entry is same. refl;
  left = as_many;
  wide = refl;
  rest = λ j le. refl;
  last = omega (arith, start);
  spare = refl;
  nodes = refl;
  kept = record { pool = refl; raced = refl };
}

-- a rank that is not idle is passed
pub other_passed : (terms : Terms) (first boxes : List (List Change)) (old now : Frontier) (r : ℕ)
    → r < length old.ranks → is_idle (state_at now.ranks r) ≡ false
    → Joining terms first boxes old now r → Joining terms first boxes old now (r + 1)
other_passed terms first boxes old now r there other p = record {
  alike = p.alike;
  joined = λ b entry is same. ap
      (λ (rs : List ℕ). raced_by_all rs entry (with_frontier b now)) (sym later)
      ∙ p.joined b entry is same;
  left = p.left ∙ ap (λ (rs : List ℕ). length rs) later;
  wide = p.wide;
  rest = λ j le. p.rest j (omega (arith, le));
  last = omega (arith, p.last);
  spare = p.spare ∙ ap (λ (rs : List ℕ). old.orders.spare + length rs) later;
  nodes = p.nodes;
  kept = p.kept;
}
  where
    later : idle_from r old.ranks ≡ idle_from (r + 1) old.ranks
    later = idle_later old.ranks r there (ap is_idle (sym (p.rest r (omega arith))) ∙ other)

-- while one that is idle is left, so is a box
pub box_left : (terms : Terms) (first boxes : List (List Change)) (old now : Frontier) (r : ℕ)
    → r < length old.ranks → state_at now.ranks r ≡ Idle → Joining terms first boxes old now r
    → 0 < length boxes
box_left terms first boxes old now r there idle p =
    let more = idle_next old.ranks r there (sym (p.rest r (omega arith)) ∙ idle) in
    omega (arith, p.left, ap (λ (rs : List ℕ). length rs) more)

-- so is a place in the queue
pub place_left : (terms : Terms) (first boxes : List (List Change)) (old now : Frontier) (r : ℕ)
    → r < length old.ranks → state_at now.ranks r ≡ Idle
    → length (ranks_that is_idle old.ranks) ≤ old.orders.spare
    → Joining terms first boxes old now r → 0 < now.orders.spare
place_left terms first boxes old now r there idle room p =
    let more = idle_next old.ranks r there (sym (p.rest r (omega arith)) ∙ idle) in
    omega (arith, p.spare, room, ap (λ (rs : List ℕ). length rs) more)

-- one that is idle joins
pub one_joins : (terms : Terms) (first boxes less : List (List Change)) (box : List Change)
    (old now new : Frontier) (racer : Racer) (r : ℕ) → r < length old.ranks
    → state_at now.ranks r ≡ Idle → boxes ≡ less ++ option_to_list (Some box)
    → new.ranks ≡ slice_set now.ranks r (Racing racer) → new.last ≡ now.last + 1
    → new.orders.spare + 1 ≡ now.orders.spare → KeepsPoolAndRace now new
    → HasJoinedRace terms r box now new
    → Joining terms first boxes old now r → Joining terms first less old new (r + 1)
one_joins terms first boxes less box old now new racer r there idle popped written counted pushed
    stays made p = record {
      alike = λ entry same. (halves entry same).0;
      joined = λ b entry is same. ap
          (λ (c : BookState). raced_by_all (idle_from (r + 1) old.ranks) entry c)
          (made b entry is (halves entry same).1)
          ∙ (ap (λ (rs : List ℕ). raced_by_all rs entry (with_frontier b now)) (sym more)
          ∙ p.joined b entry is same);
      left = omega (
        arith,
        p.left,
        ap (λ (rs : List ℕ). length rs) more,
        ap (λ (xs : List (List Change)). length xs) popped,
        length-append less (box ∷ []),
      );
      wide = ap (λ (ss : List State). length ss) written
          ∙ (length-set now.ranks r (Racing racer) ∙ p.wide);
      rest = λ j le. ap (λ (ss : List State). state_at ss j) written
          ∙ (state_there now.ranks r (Racing racer) j (λ e. omega (arith, e, le))
          ∙ p.rest j (omega (arith, le)));
      last = omega (arith, p.last, counted);
      spare = omega (arith, p.spare, pushed, ap (λ (rs : List ℕ). length rs) more);
      nodes = ap (λ (ss : List State). length (nodes_of ss)) written
          ∙ (none_works now.ranks r racer (omega (arith, there, p.wide)) idle ∙ p.nodes);
      kept = record { pool = stays.pool ∙ p.kept.pool; raced = stays.raced ∙ p.kept.raced };
    }
  where
    more : idle_from r old.ranks ≡ r ∷ idle_from (r + 1) old.ranks
    more = idle_next old.ranks r there (sym (p.rest r (omega arith)) ∙ idle)

    halves : (entry : Entry) → All (λ box. entry.node.changes ≡ box) first
        → All (λ box. entry.node.changes ≡ box) less × (entry.node.changes ≡ box)
    halves entry same = All-pop (λ box. entry.node.changes ≡ box) boxes less (Some box) popped
        (p.alike entry same)

-- in the end all have joined
pub all_joined : (terms : Terms) (first boxes : List (List Change)) (old now : Frontier) (r : ℕ)
    → length old.ranks ≤ r → Joining terms first boxes old now r
    → HaveJoinedRace terms first old now
all_joined terms first boxes old now r end p = λ b entry is same.
    ap (λ (rs : List ℕ). raced_by_all rs entry (with_frontier b now))
    (sym (idle_none old.ranks r end))
    ∙ p.joined b entry is same

-- and each has taken one place
pub as_many_spare : (terms : Terms) (first boxes : List (List Change)) (old now : Frontier) (r : ℕ)
    → length old.ranks ≤ r → Joining terms first boxes old now r
    → now.orders.spare + length (ranks_that is_idle old.ranks) ≡ old.orders.spare
as_many_spare terms first boxes old now r end p = omega (
  arith,
  p.spare,
  ap (λ (rs : List ℕ). length rs) (idle_none old.ranks r end),
)
