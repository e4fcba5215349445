-- The parts kept of a rank's work make its task.
use Rattle.std.proofs.Common.{◌≡◌, List, sym, subst}
use Rattle.ug_problem.specs.Better.{IsGap, IsSmallCutoff}
use Rattle.ug_problem.specs.Instances.{Instance, root_of}
use Rattle.ug_branch.specs.declared.params.Params.{Params}
use Rattle.ug_nodes.specs.declared.change.Change.{Change}
use Rattle.ug_nodes.specs.declared.name.Ticket.{Ticket}
use Rattle.ug_nodes.specs.declared.node.Node.{Node}
use Rattle.ug_nodes.specs.Changes.{AreChangesOf}
use Rattle.ug_rules.specs.Books.{IsBook}
use Rattle.ug_rules.specs.State.{BookState, cutoff_of_best}
use Rattle.ug_desk.specs.declared.parcel.Parcel.TheInside.{Inside}
use Rattle.ug_desk.specs.Parcels.{IsParcel, task_in}
use Rattle.ug_desk.specs.Takes.{task_of}

pub is_parcel : (p : Inside) (b : BookState) (node : Node) → IsBook b → p.problem ≡ b.problem
    → p.changes ≡ node.changes → AreChangesOf (root_of b.problem) node.changes → IsSmallCutoff p.cutoff
    → p.gap ≡ b.settings.gap → IsParcel p
is_parcel p b node book problem changes below cutoff gap = record {
  changes = subst (λ (k : Instance). AreChangesOf (root_of k) p.changes) (sym problem)
      (subst (λ (l : List Change). AreChangesOf (root_of b.problem) l) (sym changes) below);
  cutoff = cutoff;
  gap = subst IsGap (sym gap) book.settings.gap;
}

pub parcel_is : (p : Inside) (b : BookState) (ticket : Ticket) (params : Params) (node : Node)
    → p.problem ≡ b.problem → p.ticket ≡ ticket → p.params ≡ params → p.changes ≡ node.changes
    → p.cutoff ≡ cutoff_of_best b → p.gap ≡ b.settings.gap → task_in p ≡ task_of b ticket params node
parcel_is p b ticket params node problem its_ticket its_params changes cutoff gap = cc
