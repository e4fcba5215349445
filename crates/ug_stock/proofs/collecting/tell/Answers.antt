use Rattle.std.proofs.Common.{◌∙◌, sym, subst, ap, length, List, arith}
use Rattle.std.specs.Prelude.{ℕ}
use Rattle.ug_rules.specs.declared.demand.Wanted.{Wanted}
use Rattle.ug_stock.specs.Queues.{Queued}
use Rattle.ug_ranks.specs.declared.state.State.{State}
use Rattle.ug_rules.specs.State.{nodes_of}
use Rattle.ug_rules.specs.Deciding.{collected, stopped_collecting}
use Rattle.ug_stock.specs.Books.{CanBeTold, with_told}
use Rattle.ug_stock.proofs.Asked.{asked_works}
use Rattle.ug_stock.proofs.Works.{few_work}
use Rattle.ug_stock.proofs.collecting.tell.Goals as goal

pub overflow_add-working : goal.overflow_add-working
overflow_add-working c =
    omega (arith, few_work c.args.ranks.now, c.requires.working.few, c.requires.working.count)

pub overflow_add-working-in-Enough : goal.overflow_add-working-in-Enough
overflow_add-working-in-Enough c =
    let told = subst
    (λ (demand : Wanted). CanBeTold (length c.args.ranks.now) demand) c.in-Enough.is
    c.requires.told in
    omega (
      arith,
      few_work c.args.ranks.now,
      c.requires.working.few,
      c.requires.working.count,
      told.1,
      c.len.ensures,
    )

pub returns-in_ok-reserve-in-Ask-clause-working : goal.returns-in_ok-reserve-in-Ask-clause-working
returns-in_ok-reserve-in-Ask-clause-working c = record {
  work = ap (λ (ss : List State). nodes_of ss) c.ask.ensures.ranks
      ∙ asked_works c.args.ranks.now c.in-Ask.rank c.in-Ask.count;
  room = omega (
    arith,
    ap (λ (ss : List State). length (nodes_of ss)) c.ask.ensures.ranks,
    ap (λ ns. length ns) (asked_works c.args.ranks.now c.in-Ask.rank c.in-Ask.count),
    c.requires.working.count,
    ap (λ (queue : Queued). queue.spare) c.in_ok-reserve-in-Ask.ensures.ok,
    c.ask.ensures.spare,
  );
}

pub returns-in_ok-reserve-in-Enough-clause-ok : goal.returns-in_ok-reserve-in-Enough-clause-ok
returns-in_ok-reserve-in-Enough-clause-ok c = λ b.
    let ss = c.args.ranks.now in
    c.ask_no_more.ensures.told b
    ∙ (ap (λ (queue : Queued). stopped_collecting c.as_slice.result.now
    (with_told b ss queue.orders)) c.in_ok-reserve-in-Enough.ensures.ok
    ∙ (ap (λ (ranks : List ℕ). stopped_collecting ranks
    (with_told b ss c.args.orders.now.orders)) c.as_slice.ensures
    ∙ sym (ap (λ (demand : Wanted). collected demand
    (with_told b ss c.args.orders.now.orders)) c.in-Enough.is)))
