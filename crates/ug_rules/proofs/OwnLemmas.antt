-- What a rank that works has, and that none else has it.
use Rattle.std.proofs.Common.{◌≡◌, ℕ, ◌<◌, [], ◌∷◌, length, refl, ap, sym, ◌∙◌, subst, arith}
use Rattle.std.specs.Prelude.{Contains}
use Rattle.std.proofs.lemmas.Option.{same_Some}
use Rattle.ug_nodes.specs.declared.node.Node.{Node}
use Rattle.ug_nodes.specs.Names.{own_name}
use Rattle.ug_ranks.specs.declared.state.Work.{Work}
use Rattle.ug_ranks.specs.declared.state.State.{State}
use Rattle.ug_ranks.specs.declared.state.State.TheVariants.{Absent, Idle, Racing, Active, Dead}
use Rattle.ug_ranks.specs.States.{state_at}
use Rattle.ug_ledger.specs.Ledgers.{Current, IsCurrent}
use Rattle.ug_ledger.specs.Names.{AreNamed}
use Rattle.ug_nodes.specs.Primitive.{times}
use Rattle.ug_ledger.proofs.NameLemmas.{times_some}
use Rattle.ug_rules.specs.State.{BookState, current_for, current_of, held_nodes, ledger_of, node_at}
use Rattle.ug_rules.proofs.WorkLemmas.{WorksOn, works_at}
use Rattle.ug_rules.proofs.HeldLemmas.{current_is, in_work, is_current}
use Rattle.ug_rules.proofs.CountLemmas.{of_held, of_none, of_set, times_adds}
use Rattle.ug_rules.proofs.BookLemmas.{written}

-- the work of a state is one
same_work : (v w : Work) → Active v ≡ Active w → v ≡ w
same_work v w e = ap work_in e
  where
    work_in : State → Work
    work_in (Active u) = u
    work_in Absent = v
    work_in Idle = v
    work_in (Racing racer) = v
    work_in (Dead how) = v

module _ (b : BookState) (r : ℕ) (work : Work) (there : r < length b.ranks)
    (is : state_at b.ranks r ≡ Active work) where
  -- its node is held
  pub own_held : Contains (held_nodes b) work.node
  own_held = in_work b work.node (works_at b.ranks r work is)

  -- and its ticket current
  pub own_current : IsCurrent (ledger_of b) r (current_for work)
  own_current = is_current b r (current_for work) (ap (current_of b.raced) is)

  -- for nothing else
  pub own_ticket : (d : Current) → IsCurrent (ledger_of b) r d → current_for work ≡ d
  own_ticket d h = same_Some (current_for work) d
      (sym (ap (current_of b.raced) is) ∙ current_is b r d h)

  pub own_node : (n : Node) (t : WorksOn b.ranks n) → t.rank ≡ r → work.node ≡ n
  own_node n t e =
      let at = subst (λ q. state_at b.ranks q ≡ Active t.work) e t.state in
      ap (λ (w : Work). w.node) (same_work work t.work (sym is ∙ at)) ∙ t.node

  -- it is held no more where the rank is free
  pub own_gone : (s : State) → node_at s ≡ [] → AreNamed (held_nodes b)
      → Contains (held_nodes (written r s b)) work.node → ⊥
  own_gone s free named h =
      let name = own_name work.node.line in
      let adds = times_adds name in
      let now = of_held (times name) adds (written r s b) in
      let before = of_held (times name) adds b in
      let set_to = of_set (times name) adds b.ranks r s there in
      let had : times name (node_at (state_at b.ranks r)) ≡ times name (work.node ∷ []) =
      ap (λ (t : State). times name (node_at t)) is in
      let one = times_some name (work.node ∷ []) work.node (0, omega arith, refl) refl in
      let has : times name (node_at s) ≡ times name [] = ap (times name) free in
      let some = times_some name (held_nodes (written r s b)) work.node h refl in
      let none = of_none (times name) adds in
      omega (arith, now, before, set_to, had, one, has, none, some, named.once name)
