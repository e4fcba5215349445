use Rattle.std.proofs.Common.{◌≡◌, ℕ, ◌<◌, ◌≤◌, List, subst, sym, ap, ◌∙◌, arith}
use Rattle.std.specs.Prelude.{ℤ, Option}
use Rattle.ug_pool.specs.declared.entry.Entry.{Entry}
use Rattle.ug_stock.specs.declared.frontier.Frontier.{Frontier}
use Rattle.ug_ranks.specs.declared.state.State.{State}
use Rattle.ug_stock.specs.Races.{StandsAlone}
use Rattle.ug_stock.specs.Frontiers.{with_frontier}
use Rattle.ug_rules.specs.declared.settings.Settings.{Settings}
use Rattle.ug_rules.specs.State.{BookState}
use Rattle.ug_rules.specs.Deciding.{announced_as, below_cutoff, dropped, announced, IsRaceEnded}
use Rattle.ug_stock.proofs.Decisions.{all_made, few_made, some_made}
use Rattle.ug_stock.proofs.frontier.Frontier.decide.Goals as goal

le_of : (n m : ℕ) → n ≡ m → n ≤ m
le_of n m e = omega (arith, e)

lt_of : (n m : ℕ) → n < m → n ≤ m
lt_of n m l = omega (arith, l)

pub announce-requires : goal.announce-requires
announce-requires c = record {
  pool = omega (arith, c.requires.room.pool, c.drop_hopeless.ensures.spare);
  orders = c.requires.room.orders;
}

pub end_race-requires-clause-alone : goal.end_race-requires-clause-alone
end_race-requires-clause-alone c =
    let only = c.announce.ensures.only in
    subst (λ (ss : List State). StandsAlone ss c.announce.new.self.raced) (sym only.ranks)
    (subst (λ (e : Option Entry). StandsAlone c.args.self.now.ranks e) (sym only.raced)
    c.requires.can.alone)

pub returns-in_default-end_race-clause-stands : goal.returns-in_default-end_race-clause-stands
returns-in_default-end_race-clause-stands c = λ b under.
    let b0 : BookState = with_frontier b c.args.self.now in
    let b1 : BookState = with_frontier b (record c.args.self.now { pool = c.drop_hopeless.new.pool }) in
    let b2 : BookState = with_frontier b c.announce.new.self in
    let cut : b1 ≡ dropped b0 =
    ap (λ (es : List Entry). record b0 { pool = es }) c.drop_hopeless.ensures.entries
    ∙ ap (λ (k : Option ℤ). record b0 { pool = below_cutoff k b0.pool }) (sym under.cutoff) in
    let told : b2 ≡ announced b1 =
    c.in-Ok.ensures.ok b ∙ ap (λ (k : Option ℤ). announced_as k b1) (sym under.cutoff) in
    ap (λ (s : Frontier). with_frontier b s) c.in_default-end_race.ensures.err
    ∙ (told ∙ ap announced cut)

pub returns-in_default-collect-clause-stands : goal.returns-in_default-collect-clause-stands
returns-in_default-collect-clause-stands c = λ b under.
    let b0 : BookState = with_frontier b c.args.self.now in
    let b1 : BookState = with_frontier b (record c.args.self.now { pool = c.drop_hopeless.new.pool }) in
    let b2 : BookState = with_frontier b c.announce.new.self in
    let b3 : BookState = with_frontier b c.end_race.new.self in
    let b4 : BookState = with_frontier b c.give_out.new.self in
    let cut : b1 ≡ dropped b0 =
    ap (λ (es : List Entry). record b0 { pool = es }) c.drop_hopeless.ensures.entries
    ∙ ap (λ (k : Option ℤ). record b0 { pool = below_cutoff k b0.pool }) (sym under.cutoff) in
    let told : b2 ≡ announced b1 =
    c.in-Ok.ensures.ok b ∙ ap (λ (k : Option ℤ). announced_as k b1) (sym under.cutoff) in
    let ended : IsRaceEnded b2 b3 = c.in-Ok-end_race.ensures.ok b
    (ap (λ (s : Settings). s.winner) under.settings) in
    let given_ = c.in-Ok-give_out.ensures.ok b (record {
      run = under.run;
      racing = ap (λ (s : Settings). s.racing) under.settings;
      base = ap (λ (s : Settings). s.base) under.settings;
      cutoff = under.cutoff;
    }) in
    let count = le_of c.in-Ok-give_out.given _ given_.count in
    let few = few_made b0 b1 b2 b3 cut told ended c.in-Ok-give_out.given count c.requires.can.few in
    some_made b0 b1 b2 b3 cut told ended c.in-Ok-give_out.given c.standing.result _ count
    (ap (λ (s : Frontier). with_frontier b s) c.in_default-collect.ensures.err ∙ given_.given_)
    (c.standing.ensures.value few)

pub returns-in-Ok-collect-clause-decided : goal.returns-in-Ok-collect-clause-decided
returns-in-Ok-collect-clause-decided c = λ b under.
    let b0 : BookState = with_frontier b c.args.self.now in
    let b1 : BookState = with_frontier b (record c.args.self.now { pool = c.drop_hopeless.new.pool }) in
    let b2 : BookState = with_frontier b c.announce.new.self in
    let b3 : BookState = with_frontier b c.end_race.new.self in
    let b4 : BookState = with_frontier b c.give_out.new.self in
    let cut : b1 ≡ dropped b0 =
    ap (λ (es : List Entry). record b0 { pool = es }) c.drop_hopeless.ensures.entries
    ∙ ap (λ (k : Option ℤ). record b0 { pool = below_cutoff k b0.pool }) (sym under.cutoff) in
    let told : b2 ≡ announced b1 =
    c.in-Ok.ensures.ok b ∙ ap (λ (k : Option ℤ). announced_as k b1) (sym under.cutoff) in
    let ended : IsRaceEnded b2 b3 = c.in-Ok-end_race.ensures.ok b
    (ap (λ (s : Settings). s.winner) under.settings) in
    let given_ = c.in-Ok-give_out.ensures.ok b (record {
      run = under.run;
      racing = ap (λ (s : Settings). s.racing) under.settings;
      base = ap (λ (s : Settings). s.base) under.settings;
      cutoff = under.cutoff;
    }) in
    all_made b0 b1 b2 b3 cut told ended c.in-Ok-give_out.given b4 _ given_.count given_.given_
    (c.in-Ok-collect.ensures.ok b (ap (λ (s : Settings). s.low) under.settings)
    (ap (λ (s : Settings). s.high) under.settings))

pub returns-in-Err-clause-stands : goal.returns-in-Err-clause-stands
returns-in-Err-clause-stands c = λ b under.
    let b0 : BookState = with_frontier b c.args.self.now in
    let b1 : BookState = with_frontier b (record c.args.self.now { pool = c.drop_hopeless.new.pool }) in
    let b2 : BookState = with_frontier b c.announce.new.self in
    let b3 : BookState = with_frontier b c.end_race.new.self in
    let b4 : BookState = with_frontier b c.give_out.new.self in
    let cut : b1 ≡ dropped b0 =
    ap (λ (es : List Entry). record b0 { pool = es }) c.drop_hopeless.ensures.entries
    ∙ ap (λ (k : Option ℤ). record b0 { pool = below_cutoff k b0.pool }) (sym under.cutoff) in
    let told : b2 ≡ announced b1 =
    c.in-Ok.ensures.ok b ∙ ap (λ (k : Option ℤ). announced_as k b1) (sym under.cutoff) in
    let ended : IsRaceEnded b2 b3 = c.in-Ok-end_race.ensures.ok b
    (ap (λ (s : Settings). s.winner) under.settings) in
    let given_ = c.in-Err.ensures.err b (record {
      run = under.run;
      racing = ap (λ (s : Settings). s.racing) under.settings;
      base = ap (λ (s : Settings). s.base) under.settings;
      cutoff = under.cutoff;
    }) in
    let count = lt_of c.in-Err.stopped.steps _ given_.count in
    let few = few_made b0 b1 b2 b3 cut told ended c.in-Err.stopped.steps count c.requires.can.few in
    some_made b0 b1 b2 b3 cut told ended c.in-Err.stopped.steps c.standing-in-Err.result b4 count
    given_.given_ (c.standing-in-Err.ensures.value few)
