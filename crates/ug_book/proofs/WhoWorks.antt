-- Whether some rank works on a node, or races for one.
use Rattle.std.proofs.Common.{◌≡◌, ◌≢◌, true, false, List, [], ◌∷◌, refl, length, ap, arith}
use Rattle.std.specs.Prelude.{ℕ, All, Any, IsSome, IsTrue}
use Rattle.std.specs.List.{list_any}
use Rattle.std.proofs.lemmas.Bool.{true≢false, false≢true}
use Rattle.std.proofs.lemmas.List.Folds.{list_any_none, list_any-from_Any}
use Rattle.ug_nodes.specs.declared.node.Node.{Node}
use Rattle.ug_ranks.specs.declared.state.State.{State}
use Rattle.ug_ranks.specs.declared.state.State.TheVariants.{Absent, Idle, Racing, Active, Dead}
use Rattle.ug_ranks.specs.States.{state_at}
use Rattle.ug_rules.specs.State.{BookState, nodes_of}
use Rattle.ug_ranks.specs.Looks.{is_racing, is_working}
use Rattle.ug_rules.specs.Books.{IsBook}
use Rattle.ug_rules.proofs.RacerLemmas.{are_racing}

none_by : (ss : List State) → list_any is_working ss ≡ false → nodes_of ss ≡ []
none_by [] e = refl
none_by (Absent ∷ ss) e = none_by ss e
none_by (Idle ∷ ss) e = none_by ss e
none_by (Racing racer ∷ ss) e = none_by ss e
none_by (Active work ∷ ss) e = absurd (true≢false e)
none_by (Dead how ∷ ss) e = none_by ss e

-- if none does there is no such node
pub none_work : (ss : List State) → All (λ s. is_working s ≡ false) ss → nodes_of ss ≡ []
none_work ss all = none_by ss (list_any_none is_working ss all)

some_by : (ss : List State) → list_any is_working ss ≡ true → nodes_of ss ≢ []
some_by [] e = λ none. false≢true e
some_by (Absent ∷ ss) e = some_by ss e
some_by (Idle ∷ ss) e = some_by ss e
some_by (Racing racer ∷ ss) e = some_by ss e
some_by (Active work ∷ ss) e =
    λ none. absurd (omega (arith, ap (λ (ns : List Node). length ns) none))
some_by (Dead how ∷ ss) e = some_by ss e

-- and where some does there is one
pub some_work : (ss : List State) → Any (λ s. IsTrue (is_working s)) ss → nodes_of ss ≢ []
some_work ss any = some_by ss (list_any-from_Any is_working ss any)

-- if a rank races there is a node that is raced
pub raced_where_racing : (b : BookState) (rank : ℕ) → IsBook b
    → is_racing (state_at b.ranks rank) ≡ true → IsSome b.raced
raced_where_racing b rank book races = book.race.racing (are_racing b.ranks (rank, races))
