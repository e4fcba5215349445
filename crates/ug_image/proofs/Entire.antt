-- A whole image, read as it is spelled.
use Rattle.std.proofs.Common.{◌≡◌, ℕ, ℤ, ◌^◌, ◌<◌, ◌≤◌, cond, eqb, List, [], ◌∷◌, ◌++◌, length, Option, Result, Ok, Err, append_assoc, refl, sym, ◌∙◌, ap, subst, arith}
use Rattle.std.proofs.lemmas.Bool.{eqb-true}
use Rattle.std.proofs.lemmas.List.{append-nil, length-append}
use Rattle.ug_problem.specs.Instances.{Instance, root_of}
use Rattle.ug_fields.specs.Reading.{Reading, ◌>>=◌, small_at, long_at}
use Rattle.ug_fields.specs.Readers.{IsBytes, IsReader, Takes}
use Rattle.ug_fields.specs.Spelling.{long_field}
use Rattle.ug_fields.proofs.Takes.{Takes-then, first, then_, ok_is, bind_ok, bind_err, bind_again, bind_same}
use Rattle.ug_fields.proofs.Parts.{nothing}
use Rattle.ug_fields.proofs.Tests.{single, single_stops}
use Rattle.ug_fields.proofs.Simple.{small_reader, long_reader}
use Rattle.ug_image.specs.declared.counts.Counts.{Counts}
use Rattle.ug_image.specs.declared.image.Image.{Image}
use Rattle.ug_image.specs.declared.image.SavedNode.{SavedNode}
use Rattle.ug_image.specs.Spelling.{problem_fields, best_fields, heard_field, gap_field, nodes_fields, spelled_in}
use Rattle.ug_image.specs.Reading.{problem_at, best_at, heard_at, gap_at, counts_at, nodes_at, behind_problem, fields_at, image_at}
use Rattle.ug_image.proofs.Plain.{IsNone, IsGapOf, heard_reader, gap_reader}
use Rattle.ug_image.proofs.Named.{AreReadNodes, nodes_reader, size_of}
use Rattle.ug_image.proofs.Bests.{IsGoodBest, IsReadProblem, best_reader, problem_reader}

-- what an image that is read in a version is
pub record IsRead (version : ℕ) (image : Image) : Type 0 where
  pub least : 1 ≤ version
  pub most : version ≤ 3
  pub run : (1 ≤ image.run) × (image.run < 2 ^ 64)
  pub sequence : (1 ≤ image.sequence) × (image.sequence < 2 ^ 64)
  pub problem : IsReadProblem image.problem
  pub best : IsGoodBest image.problem image.best
  pub heard : IsNone version image.heard
  pub gap : IsGapOf version image.gap
  pub count : length image.nodes < 2 ^ 64
  pub nodes : AreReadNodes version image.run (root_of image.problem) (length image.nodes)
      image.nodes

-- the fields from one on, each before those behind it
abbrev pub from_count : ℕ → Image → List ℕ
from_count v i = long_field (length i.nodes) ++ nodes_fields v i.nodes

abbrev pub from_gap : ℕ → Image → List ℕ
from_gap v i = gap_field v i.gap ++ from_count v i

abbrev pub from_heard : ℕ → Image → List ℕ
from_heard v i = heard_field v i.heard ++ from_gap v i

abbrev pub from_best : ℕ → Image → List ℕ
from_best v i = best_fields i.best ++ from_heard v i

abbrev pub from_problem : ℕ → Image → List ℕ
from_problem v i = problem_fields i.problem ++ from_best v i

abbrev pub from_sequence : ℕ → Image → List ℕ
from_sequence v i = long_field i.sequence ++ from_problem v i

abbrev pub from_run : ℕ → Image → List ℕ
from_run v i = long_field i.run ++ from_sequence v i

pub nine : (a b c d e f g h i : List ℕ) → a ++ b ++ c ++ d ++ e ++ f ++ g ++ h ++ i
    ≡ a ++ (b ++ (c ++ (d ++ (e ++ (f ++ (g ++ (h ++ i)))))))
nine a b c d e f g h i =
    append_assoc (a ++ b ++ c ++ d ++ e ++ f ++ g) h i
    ∙ append_assoc (a ++ b ++ c ++ d ++ e ++ f) g (h ++ i)
    ∙ append_assoc (a ++ b ++ c ++ d ++ e) f (g ++ (h ++ i))
    ∙ append_assoc (a ++ b ++ c ++ d) e (f ++ (g ++ (h ++ i)))
    ∙ append_assoc (a ++ b ++ c) d (e ++ (f ++ (g ++ (h ++ i))))
    ∙ append_assoc (a ++ b) c (d ++ (e ++ (f ++ (g ++ (h ++ i)))))
    ∙ append_assoc a b (c ++ (d ++ (e ++ (f ++ (g ++ (h ++ i))))))

pub in_order : (v : ℕ) (i : Image) → spelled_in v i ≡ (v ∷ []) ++ from_run v i
in_order v i = nine (v ∷ []) (long_field i.run) (long_field i.sequence) (problem_fields i.problem)
    (best_fields i.best) (heard_field v i.heard) (gap_field v i.gap)
    (long_field (length i.nodes)) (nodes_fields v i.nodes)

-- the use of the values read before a field
module _ (v run sequence : ℕ) where
  abbrev image_from : Instance → Option (List ℤ) → ℕ → ℤ → List SavedNode → Image
  image_from p best heard gap nodes = record {
    run = run;
    sequence = sequence;
    problem = p;
    best = best;
    heard = heard;
    gap = gap;
    nodes = nodes;
  }

  abbrev after_nodes : Instance → Option (List ℤ) → ℕ → ℤ → List SavedNode × List ℕ
      → Reading Image
  after_nodes p best heard gap nodes =
      Ok (image_from p best heard gap nodes.0, nodes.1)

  abbrev after_count : Instance → Option (List ℤ) → ℕ → ℤ → ℕ × List ℕ → Reading Image
  after_count p best heard gap count =
      nodes_at v run (root_of p) count.0 count.1 >>= after_nodes p best heard gap

  abbrev after_gap : Instance → Option (List ℤ) → ℕ → ℤ × List ℕ → Reading Image
  after_gap p best heard gap = long_at 0 gap.1 >>= after_count p best heard gap.0

  abbrev after_heard : Instance → Option (List ℤ) → ℕ × List ℕ → Reading Image
  after_heard p best heard = gap_at v heard.1 >>= after_gap p best heard.0

  abbrev after_counts : Instance → Option (List ℤ) → Counts × List ℕ → Reading Image
  after_counts p best counts = nodes_at v run (root_of p) counts.0.nodes counts.1
      >>= after_nodes p best counts.0.heard counts.0.gap

  abbrev after_best : Instance → Option (List ℤ) × List ℕ → Reading Image
  after_best p best = counts_at v best.1 >>= after_counts p best.0

  abbrev after_problem : Instance × List ℕ → Reading Image
  after_problem p = best_at p.0 p.1 >>= after_best p.0

  -- facts read from the counts hold of each
  counts_apart : (p : Instance) (best : Option (List ℤ)) (bytes : List ℕ)
      → (counts_at v bytes >>= after_counts p best)
      ≡ (heard_at v bytes >>= after_heard p best)
  unfolding counts_at
  counts_apart p best bytes =
      bind_again (heard_at v bytes) (λ heard. gap_at v heard.1 >>= λ gap.
      long_at 0 gap.1 >>= λ nodes.
      Ok (record { heard = heard.0; gap = gap.0; nodes = nodes.0 }, nodes.1))
      (after_counts p best)
      ∙ bind_same (heard_at v bytes) _ _ (λ heard.
      bind_again (gap_at v heard.1) (λ gap. long_at 0 gap.1 >>= λ nodes.
      Ok (record { heard = heard.0; gap = gap.0; nodes = nodes.0 }, nodes.1))
      (after_counts p best)
      ∙ bind_same (gap_at v heard.1) _ _ (λ gap.
      bind_again (long_at 0 gap.1) (λ nodes.
      Ok (record { heard = heard.0; gap = gap.0; nodes = nodes.0 }, nodes.1))
      (after_counts p best)))

abbrev after_sequence : ℕ → ℕ → ℕ × List ℕ → Reading Image
after_sequence v run sequence = problem_at sequence.1 >>= after_problem v run sequence.0

abbrev after_run : ℕ → ℕ × List ℕ → Reading Image
after_run v run = long_at 1 run.1 >>= after_sequence v run.0

abbrev after_version : ℕ × List ℕ → Reading Image
after_version version = long_at 1 version.1 >>= after_run version.0

-- what stands of an image behind its best point, where this was read before
record IsTail (v run sequence : ℕ) (p : Instance) (best : Option (List ℤ)) (image : Image)
    : Type 0 where
  is_run : image.run ≡ run
  is_sequence : image.sequence ≡ sequence
  is_problem : image.problem ≡ p
  is_best : image.best ≡ best
  heard : IsNone v image.heard
  gap : IsGapOf v image.gap
  count : length image.nodes < 2 ^ 64
  nodes : AreReadNodes v run (root_of p) (length image.nodes) image.nodes

module _ (v run sequence : ℕ) (p : Instance) (best : Option (List ℤ)) where
  abbrev Tail : List ℕ → Image → List ℕ → Type 0
  Tail bytes image rest = Takes bytes (from_heard v image) rest
      × IsTail v run sequence p best image

  nodes_taken : (heard : ℕ) (gap : ℤ) (bytes : List ℕ) (image : Image) (rest : List ℕ)
      → IsBytes bytes
      → (long_at 0 bytes >>= after_count v run sequence p best heard gap) ≡ Ok (image, rest)
      → (nodes : List SavedNode) × (Takes bytes (long_field (length nodes) ++ nodes_fields v nodes) rest)
      × (length nodes < 2 ^ 64) × AreReadNodes v run (root_of p) (length nodes) nodes
      × (image ≡ image_from v run sequence p best heard gap nodes)
  nodes_taken heard gap bytes image rest h e =
      let b8 = bind_ok (long_at 0 bytes) (after_count v run sequence p best heard gap)
      (image, rest) e in
      let t8 = (long_reader 0).taken bytes b8.0.0 b8.0.1 h b8.1 in
      let b9 = bind_ok (nodes_at v run (root_of p) b8.0.0 b8.0.1)
      (after_nodes v run sequence p best heard gap) (image, rest) b8.2 in
      let t9 = (nodes_reader v run (root_of p) b8.0.0).taken b8.0.1 b9.0.0 b9.0.1
      t8.0.rest_fits b9.1 in
      let made : Image = image_from v run sequence p best heard gap b9.0.0 in
      let same = ok_is (made, b9.0.1) (image, rest) b9.2 in
      let size : length b9.0.0 ≡ b8.0.0 = size_of v run (root_of p) b8.0.0 b9.0.0 t9.1 in
      let counted : Takes bytes (long_field (length b9.0.0)) b8.0.1 =
      subst (λ n. Takes bytes (long_field n) b8.0.1) (sym size) t8.0 in (
        b9.0.0,
        subst (λ r. Takes bytes (long_field (length b9.0.0) ++ nodes_fields v b9.0.0) r)
            (λ i. (same i).1)
            (Takes-then bytes (long_field (length b9.0.0)) b8.0.1 (nodes_fields v b9.0.0) b9.0.1
            counted t9.0),
        subst (λ n. n < 2 ^ 64) (sym size) t8.1.1,
        subst (λ n. AreReadNodes v run (root_of p) n b9.0.0) (sym size) t9.1,
        λ i. (sym same i).0,
      )

  tail_taken : (bytes : List ℕ) (image : Image) (rest : List ℕ) → IsBytes bytes
      → (heard_at v bytes >>= after_heard v run sequence p best) ≡ Ok (image, rest)
      → Tail bytes image rest
  tail_taken bytes image rest h e =
      let b6 = bind_ok (heard_at v bytes) (after_heard v run sequence p best)
      (image, rest) e in
      let t6 = (heard_reader v).taken bytes b6.0.0 b6.0.1 h b6.1 in
      let b7 = bind_ok (gap_at v b6.0.1) (after_gap v run sequence p best b6.0.0) (image, rest)
      b6.2 in
      let t7 = (gap_reader v).taken b6.0.1 b7.0.0 b7.0.1 t6.0.rest_fits b7.1 in
      let n = nodes_taken b6.0.0 b7.0.0 b7.0.1 image rest t7.0.rest_fits b7.2 in
      let made : Image = image_from v run sequence p best b6.0.0 b7.0.0 n.0 in
      subst (λ i. Tail bytes i rest) (sym n.4) (
        Takes-then bytes (heard_field v b6.0.0) b6.0.1 (from_gap v made) rest t6.0
            (Takes-then b6.0.1 (gap_field v b7.0.0) b7.0.1 (from_count v made) rest t7.0 n.1),
        record {
          is_run = refl;
          is_sequence = refl;
          is_problem = refl;
          is_best = refl;
          heard = t6.1;
          gap = t7.1;
          count = n.2;
          nodes = n.3;
        },
      )

-- what stands of an image behind its sequence, where this was read before
record IsMiddle (v run sequence : ℕ) (image : Image) : Type 0 where
  problem : IsReadProblem image.problem
  best : IsGoodBest image.problem image.best
  tail : IsTail v run sequence image.problem image.best image

middle_taken : (v run sequence : ℕ) (bytes : List ℕ) (image : Image) (rest : List ℕ)
    → IsBytes bytes
    → (problem_at bytes >>= after_problem v run sequence) ≡ Ok (image, rest)
    → Takes bytes (from_problem v image) rest × IsMiddle v run sequence image
middle_taken v run sequence bytes image rest h e =
    let b4 = bind_ok (problem_at bytes) (after_problem v run sequence) (image, rest) e in
    let t4 = problem_reader.taken bytes b4.0.0 b4.0.1 h b4.1 in
    let b5 = bind_ok (best_at b4.0.0 b4.0.1) (after_best v run sequence b4.0.0) (image, rest)
    b4.2 in
    let t5 = (best_reader b4.0.0).taken b4.0.1 b5.0.0 b5.0.1 t4.0.rest_fits b5.1 in
    let apart = sym (counts_apart v run sequence b4.0.0 b5.0.0 b5.0.1) ∙ b5.2 in
    let tail = tail_taken v run sequence b4.0.0 b5.0.0 b5.0.1 image rest t5.0.rest_fits apart in
    let all = Takes-then bytes (problem_fields b4.0.0) b4.0.1
    (best_fields b5.0.0 ++ from_heard v image) rest t4.0
    (Takes-then b4.0.1 (best_fields b5.0.0) b5.0.1 (from_heard v image) rest t5.0 tail.0) in
    let p : b4.0.0 ≡ image.problem = sym tail.1.is_problem in
    let best : b5.0.0 ≡ image.best = sym tail.1.is_best in (
      subst (λ text. Takes bytes text rest)
          (λ i. problem_fields (p i) ++ (best_fields (best i) ++ from_heard v image)) all,
      record {
        problem = subst IsReadProblem p t4.1;
        best = subst (λ (y : Instance × Option (List ℤ)). IsGoodBest y.0 y.1)
            (λ i. (p i, best i)) t5.1;
        tail = subst (λ (y : Instance × Option (List ℤ)). IsTail v run sequence y.0 y.1 image)
            (λ i. (p i, best i)) tail.1;
      },
    )

-- what was taken, and of what
pub record IsTaken (bytes : List ℕ) (image : Image) (rest : List ℕ) : Type 0 where
  pub version : ℕ
  pub takes : Takes bytes (spelled_in version image) rest
  pub is : IsRead version image

fields_taken : (bytes : List ℕ) (image : Image) (rest : List ℕ) → IsBytes bytes
    → fields_at bytes ≡ Ok (image, rest) → IsTaken bytes image rest
unfolding fields_at behind_problem
fields_taken bytes image rest h e =
    let b1 = bind_ok (small_at 1 3 bytes) after_version (image, rest) e in
    let v = b1.0.0 in
    let t1 = (small_reader 1 3).taken bytes v b1.0.1 h b1.1 in
    let b2 = bind_ok (long_at 1 b1.0.1) (after_run v) (image, rest) b1.2 in
    let t2 = (long_reader 1).taken b1.0.1 b2.0.0 b2.0.1 t1.0.rest_fits b2.1 in
    let b3 = bind_ok (long_at 1 b2.0.1) (after_sequence v b2.0.0) (image, rest) b2.2 in
    let t3 = (long_reader 1).taken b2.0.1 b3.0.0 b3.0.1 t2.0.rest_fits b3.1 in
    let m = middle_taken v b2.0.0 b3.0.0 b3.0.1 image rest t3.0.rest_fits b3.2 in
    let run : b2.0.0 ≡ image.run = sym m.1.tail.is_run in
    let sequence : b3.0.0 ≡ image.sequence = sym m.1.tail.is_sequence in
    let all = Takes-then bytes (v ∷ []) b1.0.1
    (long_field b2.0.0 ++ (long_field b3.0.0 ++ from_problem v image)) rest t1.0
    (Takes-then b1.0.1 (long_field b2.0.0) b2.0.1 (long_field b3.0.0 ++ from_problem v image) rest
    t2.0
    (Takes-then b2.0.1 (long_field b3.0.0) b3.0.1 (from_problem v image) rest t3.0 m.0)) in
    record {
      version = v;
      takes = subst (λ text. Takes bytes text rest)
          ((λ i. (v ∷ []) ++ (long_field (run i) ++ (long_field (sequence i)
          ++ from_problem v image))) ∙ sym (in_order v image)) all;
      is = record {
        least = t1.1.0;
        most = t1.1.1;
        run = subst (λ n. (1 ≤ n) × (n < 2 ^ 64)) run t2.1;
        sequence = subst (λ n. (1 ≤ n) × (n < 2 ^ 64)) sequence t3.1;
        problem = m.1.problem;
        best = m.1.best;
        heard = m.1.tail.heard;
        gap = m.1.tail.gap;
        count = m.1.tail.count;
        nodes = subst (λ n. AreReadNodes v n (root_of image.problem) (length image.nodes)
            image.nodes) run m.1.tail.nodes;
      };
    }

fields_again : (v : ℕ) (image : Image) (rest : List ℕ) → IsRead v image
    → fields_at (spelled_in v image ++ rest) ≡ Ok (image, rest)
unfolding fields_at behind_problem
fields_again v i rest is =
    ap (λ t. fields_at (t ++ rest)) (in_order v i)
    ∙ ap (λ t. small_at 1 3 t >>= after_version) (append_assoc (v ∷ []) (from_run v i) rest)
    ∙ ap (λ r. r >>= after_version)
    ((small_reader 1 3).again v (from_run v i ++ rest) (is.least, is.most))
    ∙ ap (λ t. long_at 1 t >>= after_run v) (append_assoc (long_field i.run) (from_sequence v i) rest)
    ∙ ap (λ r. r >>= after_run v)
    ((long_reader 1).again i.run (from_sequence v i ++ rest) is.run)
    ∙ ap (λ t. long_at 1 t >>= after_sequence v i.run)
    (append_assoc (long_field i.sequence) (from_problem v i) rest)
    ∙ ap (λ r. r >>= after_sequence v i.run)
    ((long_reader 1).again i.sequence (from_problem v i ++ rest) is.sequence)
    ∙ ap (λ t. problem_at t >>= after_problem v i.run i.sequence)
    (append_assoc (problem_fields i.problem) (from_best v i) rest)
    ∙ ap (λ r. r >>= after_problem v i.run i.sequence)
    (problem_reader.again i.problem (from_best v i ++ rest) is.problem)
    ∙ ap (λ t. best_at i.problem t >>= after_best v i.run i.sequence i.problem)
    (append_assoc (best_fields i.best) (from_heard v i) rest)
    ∙ ap (λ r. r >>= after_best v i.run i.sequence i.problem)
    ((best_reader i.problem).again i.best (from_heard v i ++ rest) is.best)
    ∙ counts_apart v i.run i.sequence i.problem i.best (from_heard v i ++ rest)
    ∙ ap (λ t. heard_at v t >>= after_heard v i.run i.sequence i.problem i.best)
    (append_assoc (heard_field v i.heard) (from_gap v i) rest)
    ∙ ap (λ r. r >>= after_heard v i.run i.sequence i.problem i.best)
    ((heard_reader v).again i.heard (from_gap v i ++ rest) is.heard)
    ∙ ap (λ t. gap_at v t >>= after_gap v i.run i.sequence i.problem i.best i.heard)
    (append_assoc (gap_field v i.gap) (from_count v i) rest)
    ∙ ap (λ r. r >>= after_gap v i.run i.sequence i.problem i.best i.heard)
    ((gap_reader v).again i.gap (from_count v i ++ rest) is.gap)
    ∙ ap (λ t. long_at 0 t >>= after_count v i.run i.sequence i.problem i.best i.heard i.gap)
    (append_assoc (long_field (length i.nodes)) (nodes_fields v i.nodes) rest)
    ∙ ap (λ r. r >>= after_count v i.run i.sequence i.problem i.best i.heard i.gap)
    ((long_reader 0).again (length i.nodes) (nodes_fields v i.nodes ++ rest)
    (omega arith, is.count))
    ∙ ap (λ r. r >>= after_nodes v i.run i.sequence i.problem i.best i.heard i.gap)
    ((nodes_reader v i.run (root_of i.problem) (length i.nodes)).again i.nodes rest is.nodes)

-- what fails behind a field that was read has no more left than there was
module _ {X Y : Type 0} (Good : X → Type 0) (field : X → List ℕ) (read : List ℕ → Reading X)
    (next : X × List ℕ → Reading Y) where
  step : IsReader Good field read
      → ((x : X) (rest : List ℕ) (left : ℕ) → Good x → IsBytes rest → next (x, rest) ≡ Err left
      → left ≤ length rest)
      → (bytes : List ℕ) (left : ℕ) → IsBytes bytes → (read bytes >>= next) ≡ Err left
      → left ≤ length bytes
  step reader others bytes left h e =
      elim (bind_err (read bytes) next left e) [
        | first f ↦ reader.within bytes left h f
        | then_ x r f ↦
            let t = reader.taken bytes x.0 x.1 h r in
            let less = others x.0 x.1 left t.1 t.0.rest_fits f in
            omega (arith, less, ap length t.0.parts, length-append (field x.0) x.1)
      ]

fields_within : (bytes : List ℕ) (left : ℕ) → IsBytes bytes → fields_at bytes ≡ Err left
    → left ≤ length bytes
unfolding fields_at behind_problem
fields_within bytes left h e =
    step _ _ _ after_version (small_reader 1 3)
    (λ v rest1 left1 g1 h1 e1. step _ _ _ (after_run v) (long_reader 1)
    (λ run rest2 left2 g2 h2 e2. step _ _ _ (after_sequence v run) (long_reader 1)
    (λ sequence rest3 left3 g3 h3 e3. step _ _ _ (after_problem v run sequence) problem_reader
    (λ p rest4 left4 g4 h4 e4. step _ _ _ (after_best v run sequence p) (best_reader p)
    (λ best rest5 left5 g5 h5 e5. step _ _ _ (after_heard v run sequence p best)
    (heard_reader v)
    (λ heard rest6 left6 g6 h6 e6. step _ _ _ (after_gap v run sequence p best heard)
    (gap_reader v)
    (λ gap rest7 left7 g7 h7 e7. step _ _ _
    (after_count v run sequence p best heard gap) (long_reader 0)
    (λ count rest8 left8 g8 h8 e8. step _ _ _
    (after_nodes v run sequence p best heard gap)
    (nodes_reader v run (root_of p) count)
    (λ nodes rest9 left9 g9 h9 e9. absurd (cc e9)) rest8 left8 h8 e8)
    rest7 left7 h7 e7) rest6 left6 h6 e6) rest5 left5 h5
    (sym (counts_apart v run sequence p best rest5) ∙ e5)) rest4 left4 h4 e4)
    rest3 left3 h3 e3) rest2 left2 h2 e2) rest1 left1 h1 e1) bytes left h e

abbrev ends : Image × List ℕ → Result Image ℕ
ends image = cond (eqb (length image.1) 0) (Ok image.0) (Err (length image.1))

pub image_taken : (bytes : List ℕ) (image : Image) → IsBytes bytes → image_at bytes ≡ Ok image
    → (v : ℕ) × (bytes ≡ spelled_in v image) × IsRead v image
unfolding image_at
image_taken bytes image h e =
    let b = bind_ok (fields_at bytes) ends image e in
    let t = fields_taken bytes b.0.0 b.0.1 h b.1 in
    let g = single (eqb (length b.0.1) 0) (length b.0.1) b.0.0 image b.2 in
    let none : b.0.1 ≡ [] = nothing b.0.1 (eqb-true _ _ g.0) in (
      t.version,
      t.takes.parts ∙ ap (λ r. spelled_in t.version b.0.0 ++ r) none
          ∙ append-nil (spelled_in t.version b.0.0) ∙ ap (spelled_in t.version) g.1,
      subst (IsRead t.version) g.1 t.is,
    )

pub image_again : (v : ℕ) (image : Image) → IsRead v image
    → image_at (spelled_in v image) ≡ Ok image
unfolding image_at
image_again v image is =
    ap (λ r. r >>= ends) (ap fields_at (sym (append-nil (spelled_in v image)))
    ∙ fields_again v image [] is)

pub image_within : (bytes : List ℕ) (left : ℕ) → IsBytes bytes → image_at bytes ≡ Err left
    → left ≤ length bytes
unfolding image_at
image_within bytes left h e =
    elim (bind_err (fields_at bytes) ends left e) [
      | first f ↦ fields_within bytes left h f
      | then_ x r f ↦
          let t = fields_taken bytes x.0 x.1 h r in
          let same = single_stops (eqb (length x.1) 0) (length x.1) left x.0 f in
          omega (
            arith,
            same,
            ap length t.takes.parts,
            length-append (spelled_in t.version x.0) x.1,
          )
    ]

-- bytes that begin with an image's spelling are read as that image
pub image_cut : (v w : ℕ) (image another : Image) (r s : List ℕ) → IsRead v image
    → IsRead w another → spelled_in v image ++ r ≡ spelled_in w another ++ s
    → (image ≡ another) × (r ≡ s)
image_cut v w image another r s is other same =
    let e = ok_is (image, r) (another, s) (sym (fields_again v image r is) ∙ ap fields_at same
    ∙ fields_again w another s other) in
    (λ i. (e i).0, λ i. (e i).1)
