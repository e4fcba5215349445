use Rattle.std.proofs.Common.{◌≡◌, ◌+◌, ◌++◌, ◌∷◌, [], ℕ, List, length, take, get_or, subst, sym, ap, ◌∙◌, arith}
use Rattle.std.specs.Prelude.{All}
use Rattle.std.proofs.lemmas.List.{length-take, take_more}
use Rattle.ug_nodes.specs.declared.change.Change.{Change}
use Rattle.ug_pool.specs.declared.entry.Entry.{Entry}
use Rattle.ug_pool.specs.Pools.{with_entry}
use Rattle.ug_rules.specs.Books.{HasItsFloor}
use Rattle.ug_rules.proofs.PoolLemmas.{all_put}
use Rattle.ug_book.specs.Starts.{start_entries, start_entry, with_entries}
use Rattle.ug_book.proofs.Starts.{one_put}
use Rattle.ug_book.proofs.start.start_pool.Goals as goal

pub loop-changes-preserved : goal.loop-changes-preserved
loop-changes-preserved c =
    let p = c.args.run.now.problem in
    let n = c.args.run.now.number in
    let items = c.as_slice-changes-items.result.now in
    let k = c.loop-changes.changes-index in
    let inv = c.loop-changes.invariant in
    let put = c.in_ok-put_start.ensures.ok in
    let box = c.in_ok-changes.changes in
    let e = start_entry p n c.loop-changes.hand box in
    let first = take k items in
    let same : box ≡ get_or items k c.changes-item.result =
    c.in_ok-changes.ensures ∙ c.changes-item.is in
    let long : length first ≡ k =
    omega (arith, length-take k items, c.loop-changes-test.true) in
    let all : first ++ box ∷ [] ≡ take (k + 1) items =
    ap (λ (x : List Change). first ++ x ∷ []) same
    ∙ sym (take_more items k c.changes-item.result c.loop-changes-test.true) in (
      ap (λ (i : ℕ). i + 1) inv.0,
      put.entries
          ∙ (ap (λ (es : List Entry). with_entry e es) inv.1
          ∙ (ap (λ (h : ℕ). with_entry (start_entry p n h box)
          (with_entries (start_entries p n 0 first) [])) (inv.0 ∙ sym long)
          ∙ (one_put p n first box
          ∙ ap (λ (bs : List (List Change)). with_entries (start_entries p n 0 bs) []) all))),
      subst (λ (es : List Entry). All (HasItsFloor p) es) (sym put.entries)
          (all_put (HasItsFloor p) e c.loop-changes.pool.entries put.floor inv.2),
      omega (arith, put.spare, inv.3),
    )
