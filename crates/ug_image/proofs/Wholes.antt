-- What an image is read of is one, and every image is read.
use Rattle.std.proofs.Common.{◌≡◌, ℕ, ℤ, pos, negsuc, zero, suc, ◌+◌, ◌^◌, ◌<◌, ◌≤◌, List, [], ◌∷◌, length, map, Option, None, Some, IfSome, refl, sym, ◌∙◌, ap, subst, arith, unsigned_abs, inl, inr}
use Rattle.std.specs.Prelude.{◌≤ℤ◌}
use Rattle.std.specs.List.{All}
use Rattle.std.specs.Int.{w32}
use Rattle.std.proofs.lemmas.Bool.{cases_lt}
use Rattle.std.proofs.lemmas.Int.{ints, fits_signed_from_abs}
use Rattle.std.proofs.lemmas.List.{length-map}
use Rattle.ug_rows.specs.declared.area.Interval.{Interval}
use Rattle.ug_rows.specs.Boxes.{interval_at, value_at}
use Rattle.ug_rows.proofs.Orders.{at_most_trans}
use Rattle.ug_problem.specs.declared.column.Column.{Column}
use Rattle.ug_problem.specs.Instances.{Instance, IsColumn, bounds_of, root_of}
use Rattle.ug_problem.specs.Limits.{IsProblem}
use Rattle.ug_problem.specs.Feasible.{Feasible}
use Rattle.ug_nodes.specs.declared.name.Name.{Name}
use Rattle.ug_nodes.specs.declared.change.Change.{Change}
use Rattle.ug_nodes.specs.Names.{IsNameBefore}
use Rattle.ug_nodes.specs.Changes.{AreChangesOf, IsChangeOf, IsRising, change_at}
use Rattle.ug_fields.proofs.Parts.{head_of, tail_of}
use Rattle.ug_fields.proofs.Runs.{Chain}
use Rattle.ug_image.specs.declared.image.Image.{Image}
use Rattle.ug_image.specs.declared.image.SavedNode.{SavedNode}
use Rattle.ug_image.specs.Images.{IsImage, IsSavedNode, AreSavedNodes, DoNamesRise, node_at}
use Rattle.ug_image.specs.Spelling.{AreStarting, IsOfVersion}
use Rattle.ug_image.proofs.Changed.{AreReadChanges, IsNextChange, past}
use Rattle.ug_image.proofs.Named.{AreReadNodes, with_names, without, IsBehind, IsNameOf, IsNextNode, IsStartingNode, next_name, next_place}
use Rattle.ug_image.proofs.Bests.{IsGoodBest, IsGoodPoint, IsSmall, same}
use Rattle.ug_image.proofs.Entire.{IsRead}
use Rattle.ug_records.proofs.Shorts.{record_short}

-- ---- changes

chain_least : (root : List Interval) (least : ℕ) (cs : List Change)
    → Chain (IsNextChange root) past least cs
    → (k : ℕ) → k < length cs → least ≤ (change_at cs k).column
unfolding Chain
chain_least root least [] c k here = absurd (omega (arith, here))
chain_least root least (x ∷ cs) c zero here = c.0.behind
chain_least root least (x ∷ cs) c (suc k) here =
    let behind = chain_least root (x.column + 1) cs c.1 k (omega (arith, here)) in
    omega (arith, behind, c.0.behind)

pub rises : (root : List Interval) (least : ℕ) (cs : List Change)
    → Chain (IsNextChange root) past least cs → IsRising cs
unfolding Chain
rises root least [] c i k before here = absurd (omega (arith, here))
rises root least (x ∷ cs) c i zero before here = absurd (omega (arith, before))
rises root least (x ∷ cs) c zero (suc k) before here =
    let behind = chain_least root (x.column + 1) cs c.1 k (omega (arith, here)) in
    omega (arith, behind)
rises root least (x ∷ cs) c (suc i) (suc k) before here =
    rises root (x.column + 1) cs c.1 i k (omega (arith, before)) (omega (arith, here))

valid : (root : List Interval) (least : ℕ) (cs : List Change)
    → Chain (IsNextChange root) past least cs → AreChangesOf root cs
unfolding Chain
valid root least [] c k here = absurd (omega (arith, here))
valid root least (x ∷ cs) c zero here = c.0.valid
valid root least (x ∷ cs) c (suc k) here =
    valid root (x.column + 1) cs c.1 k (omega (arith, here))

pub read_rises : (root : List Interval) (cs : List Change) → AreReadChanges root cs → IsRising cs
read_rises root cs are = rises root 0 cs are.chain

between : (a z b : ℤ) → a ≤ℤ z → z ≤ℤ b → unsigned_abs a ≤ 10 ^ 9 → unsigned_abs b ≤ 10 ^ 9
    → unsigned_abs z ≤ 10 ^ 9
between (pos a) (pos z) (pos b) h g low high = omega (arith, ints, h, g, low, high)
between (pos a) (pos z) (negsuc b) h g low high = absurd (grind (arith, ints, g))
between (pos a) (negsuc z) b h g low high = absurd (grind (arith, ints, h))
between (negsuc a) (pos z) (pos b) h g low high = omega (arith, ints, g, high)
between (negsuc a) (pos z) (negsuc b) h g low high = absurd (grind (arith, ints, g))
between (negsuc a) (negsuc z) b h g low high = omega (arith, ints, h, low)

root_small : (columns : List Column) → All IsColumn columns → (k : ℕ)
    → k < length (map bounds_of columns)
    → (unsigned_abs (interval_at (map bounds_of columns) k).low ≤ 10 ^ 9)
    × (unsigned_abs (interval_at (map bounds_of columns) k).high ≤ 10 ^ 9)
root_small [] all k here = absurd (omega (arith, here))
root_small (c ∷ columns) all zero here =
    let is = head_of IsColumn c columns all in (is.low, is.high)
root_small (c ∷ columns) all (suc k) here =
    root_small columns (tail_of IsColumn c columns all) k (omega (arith, here))

pub narrow : (p : Instance) → IsProblem p → length (root_of p) ≤ 10 ^ 4
narrow p is = omega (arith, length-map p.columns bounds_of, is.counts.columns)

next_change : (p : Instance) (least : ℕ) (c : Change) → IsProblem p → least ≤ c.column
    → IsChangeOf (root_of p) c → IsNextChange (root_of p) least c
next_change p least c is behind of =
    let side = interval_at (root_of p) c.column in
    let small = root_small p.columns is.formed.columns c.column of.differs.there in
    let le_trans-low : c.low ≤ℤ side.high = at_most_trans c.low c.high side.high of.within.some
    of.within.high in
    let le_trans-high : side.low ≤ℤ c.high = at_most_trans side.low c.low c.high of.within.low
    of.within.some in
    record {
      fits = record {
        column = omega (arith, of.differs.there, narrow p is);
        low = fits_signed_from_abs w32 c.low (omega (
          arith,
          between side.low c.low side.high of.within.low le_trans-low small.0 small.1,
        ));
        high = fits_signed_from_abs w32 c.high (omega (
          arith,
          between side.low c.high side.high le_trans-high of.within.high small.0 small.1,
        ));
      };
      behind = behind;
      valid = of;
    }

change_chain : (p : Instance) (least : ℕ) (cs : List Change) → IsProblem p
    → ((k : ℕ) → k < length cs → least ≤ (change_at cs k).column)
    → IsRising cs → AreChangesOf (root_of p) cs → Chain (IsNextChange (root_of p)) past least cs
unfolding Chain
change_chain p least [] is behind rising of = tt
change_chain p least (c ∷ cs) is behind rising of = (
  next_change p least c is (behind 0 (omega arith)) (of 0 (omega arith)),
  change_chain p (c.column + 1) cs is
      (λ k here. let more = rising 0 (suc k) (omega arith) (omega (arith, here)) in
      omega (arith, more))
      (λ i k before here. rising (suc i) (suc k) (omega (arith, before)) (omega (arith, here)))
      (λ k here. of (suc k) (omega (arith, here))),
)

-- change k is of column k or one behind it
at_least_place : (cs : List Change) → IsRising cs → (k : ℕ) → k < length cs
    → k ≤ (change_at cs k).column
at_least_place cs rising zero here = omega arith
at_least_place cs rising (suc k) here =
    omega (
      arith,
      at_least_place cs rising k (omega (arith, here)),
      rising k (suc k) (omega arith) here,
    )

pub few : (p : Instance) (cs : List Change) → IsProblem p → IsRising cs → AreChangesOf (root_of p) cs
    → length cs ≤ 10 ^ 4
few p [] is rising of = omega arith
few p (c ∷ cs) is rising of =
    omega (
      arith,
      at_least_place (c ∷ cs) rising (length cs) (omega arith),
      (of (length cs) (omega arith)).differs.there,
      narrow p is,
    )

changes_read : (p : Instance) (cs : List Change) → IsProblem p → IsRising cs
    → AreChangesOf (root_of p) cs → AreReadChanges (root_of p) cs
changes_read p cs is rising of = record {
  few = few p cs is rising of;
  chain = change_chain p 0 cs is (λ k here. omega arith) rising of;
}

-- ---- nodes

before_is : (a b : Name) → a.ticket.run ≡ b.ticket.run → IsBehind (Some a) b → IsNameBefore a b
before_is a b run (inl less) = inl (inr (run, less))
before_is a b run (inr both) =
    inr (λ i. record { run = run i; number = both.0 i }, both.1)

behind_is : (a b : Name) → a.ticket.run ≡ b.ticket.run → IsNameBefore a b → IsBehind (Some a) b
behind_is a b run (inl (inl less)) = absurd (omega (arith, run, less))
behind_is a b run (inl (inr both)) = inl both.1
behind_is a b run (inr both) = inr (λ i. (both.0 i).number, both.1)

saved : (run : ℕ) (root : List Interval) (node : SavedNode) → IsNameOf run node.name
    → AreReadChanges root node.changes → IsSavedNode run root node
saved run root node name are = record {
  of_run = name.of_run;
  number = name.number;
  hand = name.hand;
  rising = read_rises root node.changes are;
  changes = valid root 0 node.changes are.chain;
}

named_saved : (run : ℕ) (root : List Interval) (last : Option Name) (nodes : List SavedNode)
    → Chain (IsNextNode run root) next_name last nodes → AreSavedNodes run root nodes
unfolding Chain
named_saved run root last [] c k here = absurd (omega (arith, here))
named_saved run root last (n ∷ nodes) c zero here = saved run root n c.0.name c.0.changes
named_saved run root last (n ∷ nodes) c (suc k) here =
    named_saved run root (Some n.name) nodes c.1 k (omega (arith, here))

named_rise : (run : ℕ) (root : List Interval) (last : Option Name) (nodes : List SavedNode)
    → Chain (IsNextNode run root) next_name last nodes → DoNamesRise nodes
unfolding Chain
named_rise run root last [] c k here = absurd (omega (arith, here))
named_rise run root last (n ∷ []) c k here = absurd (omega (arith, here))
named_rise run root last (n ∷ m ∷ nodes) c zero here =
    before_is n.name m.name (c.0.name.of_run ∙ sym c.1.0.name.of_run) c.1.0.behind
named_rise run root last (n ∷ m ∷ nodes) c (suc k) here =
    named_rise run root (Some n.name) (m ∷ nodes) c.1 k (omega (arith, here))

starting : (run : ℕ) (root : List Interval) (at : ℕ) (nodes : List SavedNode)
    → Chain (IsStartingNode run root) next_place at nodes → (k : ℕ) → k < length nodes
    → (node_at nodes k).name
    ≡ record { ticket = record { run = run; number = 0 }; hand = at + k }
unfolding Chain
starting run root at [] c k here = absurd (omega (arith, here))
starting run root at (n ∷ nodes) c zero here =
    c.0.name ∙ (λ i. record { ticket = record { run = run; number = 0 }; hand = plus_zero i })
  where
    plus_zero : at ≡ at + 0
    plus_zero = omega arith
starting run root at (n ∷ nodes) c (suc k) here =
    starting run root (at + 1) nodes c.1 k (omega (arith, here))
    ∙ (λ i. record { ticket = record { run = run; number = 0 }; hand = one_more i })
  where
    one_more : at + 1 + k ≡ at + suc k
    one_more = omega arith

starting_saved : (run : ℕ) (root : List Interval) (at : ℕ) (nodes : List SavedNode)
    → at + length nodes ≤ 2 ^ 64
    → Chain (IsStartingNode run root) next_place at nodes → AreSavedNodes run root nodes
unfolding Chain
starting_saved run root at [] fits c k here = absurd (omega (arith, here))
starting_saved run root at (n ∷ nodes) fits c zero here = saved run root n (record {
  of_run = ap (λ (name : Name). name.ticket.run) c.0.name;
  number = subst (λ (name : Name). name.ticket.number < 2 ^ 64) (sym c.0.name) (omega arith);
  hand = subst (λ (name : Name). name.hand < 2 ^ 64) (sym c.0.name) (omega (arith, fits));
}) c.0.changes
starting_saved run root at (n ∷ nodes) fits c (suc k) here =
    starting_saved run root (at + 1) nodes (omega (arith, fits)) c.1 k (omega (arith, here))

starting_rise : (run : ℕ) (nodes : List SavedNode) → AreStarting run nodes → DoNamesRise nodes
starting_rise run nodes are k here =
    subst (λ (name : Name). IsNameBefore name (node_at nodes (suc k)).name)
    (sym (are k (omega (arith, here))))
    (subst (λ (name : Name). IsNameBefore
    (record { ticket = record { run = run; number = 0 }; hand = k }) name)
    (sym (are (suc k) here)) (inr (refl, omega arith)))

named_chain : (p : Instance) (run : ℕ) (last : Option Name) (nodes : List SavedNode)
    → IsProblem p → AreSavedNodes run (root_of p) nodes → DoNamesRise nodes
    → (0 < length nodes → IsBehind last (node_at nodes 0).name)
    → Chain (IsNextNode run (root_of p)) next_name last nodes
unfolding Chain
named_chain p run last [] is are rise behind = tt
named_chain p run last (n ∷ nodes) is are rise behind =
    let one = are 0 (omega arith) in (
      record {
        name = record { of_run = one.of_run; number = one.number; hand = one.hand };
        behind = behind (omega arith);
        changes = changes_read p n.changes is one.rising one.changes;
      },
      named_chain p run (Some n.name) nodes is
          (λ k here. are (suc k) (omega (arith, here)))
          (λ k here. rise (suc k) (omega (arith, here)))
          (λ some. behind_is n.name (node_at nodes 0).name
          (one.of_run ∙ sym (are 1 (omega (arith, some))).of_run)
          (rise 0 (omega (arith, some)))),
    )

starting_chain : (p : Instance) (run at : ℕ) (nodes : List SavedNode) → IsProblem p
    → AreSavedNodes run (root_of p) nodes
    → ((k : ℕ) → k < length nodes → (node_at nodes k).name
    ≡ record { ticket = record { run = run; number = 0 }; hand = at + k })
    → Chain (IsStartingNode run (root_of p)) next_place at nodes
unfolding Chain
starting_chain p run at [] is are start = tt
starting_chain p run at (n ∷ nodes) is are start =
    let one = are 0 (omega arith) in (
      record {
        name = start 0 (omega arith)
            ∙ (λ i. record { ticket = record { run = run; number = 0 }; hand = no_more i });
        changes = changes_read p n.changes is one.rising one.changes;
      },
      starting_chain p run (at + 1) nodes is
          (λ k here. are (suc k) (omega (arith, here)))
          (λ k here. start (suc k) (omega (arith, here))
          ∙ (λ i. record { ticket = record { run = run; number = 0 }; hand = one_less k i })),
    )
  where
    no_more : at + 0 ≡ at
    no_more = omega arith

    one_less : (k : ℕ) → at + suc k ≡ at + 1 + k
    one_less k = omega arith

-- ---- points

small_chain : (x : List ℤ) → ((k : ℕ) → k < length x → unsigned_abs (value_at x k) ≤ 10 ^ 9)
    → Chain IsSmall same tt x
unfolding Chain
small_chain [] all = tt
small_chain (v ∷ x) all = (
  all 0 (omega arith),
  small_chain x (λ k here. all (suc k)
      (omega (arith, here))),
)

pub good_point : (p : Instance) (x : List ℤ) → IsProblem p → Feasible p x → IsGoodPoint p x
good_point p x is feasible = (
  record {
    few = omega (arith, feasible.inside.width, narrow p is);
    chain = small_chain x (λ k here.
        let there : k < length (root_of p) = omega (arith, here, feasible.inside.width) in
        let small = root_small p.columns is.formed.columns k there in
        let within = feasible.inside.each k there in
        between _ (value_at x k) _ within.low within.high small.0 small.1);
  },
  feasible,
)

pub good_best : (p : Instance) (best : Option (List ℤ)) → IsProblem p → IfSome best (Feasible p)
    → IsGoodBest p best
good_best p None is feasible = tt
good_best p (Some x) is feasible = good_point p x is feasible

feasible_best : (p : Instance) (best : Option (List ℤ)) → IsGoodBest p best
    → IfSome best (Feasible p)
feasible_best p None good = tt
feasible_best p (Some x) good = good.1

-- ---- images

none_more : (k : ℕ) → 0 + k ≡ k
none_more k = omega arith

pub read_is_image : (v : ℕ) (image : Image) → IsRead v image → IsImage image × IsOfVersion v image
read_is_image v image is =
    let of_nodes : AreSavedNodes image.run (root_of image.problem) image.nodes
    × DoNamesRise image.nodes × (v ≤ 1 → AreStarting image.run image.nodes) =
    elim is.nodes [
      | with_names high size chain ↦ (
        named_saved image.run (root_of image.problem) None image.nodes chain,
        named_rise image.run (root_of image.problem) None image.nodes chain,
        λ low. absurd (omega (arith, low, high)),
      )
      | without low size chain ↦
          let start : AreStarting image.run image.nodes = λ k here.
          starting image.run (root_of image.problem) 0 image.nodes chain k here
          ∙ (λ i. record {
            ticket = record { run = image.run; number = 0 };
            hand = none_more k i;
          }) in (
            starting_saved image.run (root_of image.problem) 0 image.nodes
                (omega (arith, is.count)) chain,
            starting_rise image.run image.nodes start,
            λ l. start,
          )
    ] in (
      record {
        run = is.run.0;
        run_fits = is.run.1;
        sequence = is.sequence.0;
        sequence_fits = is.sequence.1;
        problem = is.problem.is;
        best = feasible_best image.problem image.best is.best;
        heard = is.heard.0;
        gap = is.gap.0;
        count = is.count;
        nodes = of_nodes.0;
        names = of_nodes.1;
      },
      record {
        least = is.least;
        most = is.most;
        gap = is.gap.1;
        heard = is.heard.1;
        starting = of_nodes.2;
      },
    )

nodes_read : (v : ℕ) (image : Image) → IsImage image → IsOfVersion v image
    → AreReadNodes v image.run (root_of image.problem) (length image.nodes) image.nodes
nodes_read v image is of =
    elim (cases_lt 1 v) [
      | inl high ↦ with_names high refl
          (named_chain image.problem image.run None image.nodes is.problem is.nodes is.names
          (λ some. tt))
      | inr low ↦ without low refl
          (starting_chain image.problem image.run 0 image.nodes is.problem is.nodes
          (λ k here. of.starting low k here
          ∙ (λ i. record {
            ticket = record { run = image.run; number = 0 };
            hand = sym (none_more k) i;
          })))
    ]

pub image_is_read : (v : ℕ) (image : Image) → IsImage image → IsOfVersion v image → IsRead v image
image_is_read v image is of = record {
  least = of.least;
  most = of.most;
  run = (is.run, is.run_fits);
  sequence = (is.sequence, is.sequence_fits);
  problem = record { is = is.problem; short = record_short image.problem is.problem };
  best = good_best image.problem image.best is.problem is.best;
  heard = (is.heard, of.heard);
  gap = (is.gap, of.gap);
  count = is.count;
  nodes = nodes_read v image is of;
}
