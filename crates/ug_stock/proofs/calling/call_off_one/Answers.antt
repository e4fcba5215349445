use Rattle.std.proofs.Common.{ap, sym, ◌∙◌}
use Rattle.ug_ranks.specs.declared.state.State.{State}
use Rattle.ug_ranks.specs.States.{state_at}
use Rattle.ug_ranks.specs.Looks.{ticket_below}
use Rattle.ug_stock.proofs.CallOff.{kept_state, none_below}
use Rattle.ug_stock.proofs.calling.call_off_one.Goals as goal

pub returns-in_default-clause-ranks : goal.returns-in_default-clause-ranks
returns-in_default-clause-ranks c =
    kept_state c.args.line.now c.args.ranks.now c.args.rank c.requires.there
    (none_below c.args.line.now c.args.rank (state_at c.args.ranks.now c.args.rank)
    (ap (λ (s : State). ticket_below c.args.line.now s) (sym c.state.ensures)
    ∙ sym c.ticket_below.ensures ∙ c.in_default.is)).0
