-- That what is received from a worker can be read: no bad bytes come from it.
use Rattle.std.proofs.Common.{◌≡◌, ◌⊎◌, inl, inr, ℕ, ◌<◌, List, [], ◌∷◌, ◌++◌, length, append_assoc, append-nil, refl, sym, ap, subst, ◌∙◌, arith}
use Rattle.std.specs.Prelude.{All}
use Rattle.std.specs.List.{flat_map}
use Rattle.std.specs.Int.{w32, from_be_bytes}
use Rattle.std.proofs.lemmas.Bool.{cases_lt}
use Rattle.std.proofs.lemmas.Grind.{flat_map-append}
use Rattle.std.proofs.lemmas.List.{append_cancel_left, length-append, take-append-le}
use Rattle.std.proofs.lemmas.List.Elements.{All-append, All-cons, All-head, All-nil, All-tail}
use Rattle.ug_io.specs.declared.crew.Exchange.{Exchange}
use Rattle.ug_io.specs.declared.link.Said.{Said}
use Rattle.ug_frames.specs.declared.decoded.Decoded.TheVariants.{Bad}
use Rattle.ug_frames.specs.declared.report.Report.{Report}
use Rattle.ug_frames.specs.Fronts.{IsCutShort, IsDecoded, IsLength, length_told}
use Rattle.ug_frames.specs.ReportFrames as reports
use Rattle.ug_frames.specs.Spelling.{framed}
use Rattle.ug_frames.proofs.Fronts.{framed_long, told_is, unique}
use Rattle.ug_frames.specs.ReportReading.{report_in}
use Rattle.ug_frames.proofs.ReportReaders.{body_of, report_small, report_whole}
use Rattle.ug_serve.specs.Traces.{IsTrace, ServerState, beginning}
use Rattle.ug_serve.specs.Actions.{Action, Came, Took, Told}
use Rattle.ug_serve.specs.LinkBytes.{told_in}
use Rattle.ug_serve.specs.Serving.{IsPartTold}
use Rattle.ug_serve.specs.Worked.{IsWorked, heard_at}
use Rattle.ug_serve.proofs.Heard.{front_of, one_way}
use Rattle.ug_serve.proofs.LinkBytes.{told_more, told_still}

-- a prefix of a frame that is shorter than it is cut short
pub front_cut : (bytes tail text rest : List ℕ) → IsLength (length text)
    → bytes ++ tail ≡ framed text ++ rest → length bytes < length (framed text) → IsCutShort bytes
front_cut bytes tail text rest small same less = elim (cases_lt (length bytes) 4) [
  | inl few ↦ inl few
  | inr four ↦
      let told : length_told bytes ≡ length text =
      ap (from_be_bytes w32) (sym (take-append-le 4 bytes tail four)) ∙ ap length_told same
      ∙ told_is text rest small in
      inr (record {
        fine = subst IsLength (sym told) small;
        short = omega (arith, told, less, framed_long text);
      })
]

abbrev first_of : ℕ → List ℕ → ℕ
first_of other [] = other
first_of other (x ∷ xs) = x

abbrev behind_first : List ℕ → List ℕ
behind_first [] = []
behind_first (x ∷ xs) = xs

-- if one list begins another, or is longer than its front
front_or : (bytes tail front rest : List ℕ) → bytes ++ tail ≡ front ++ rest
    → (length bytes < length front) ⊎ ((more : List ℕ) × (bytes ≡ front ++ more))
front_or bytes tail [] rest same = inr (bytes, refl)
front_or [] tail (f ∷ front) rest same = inl (omega arith)
front_or (b ∷ bytes) tail (f ∷ front) rest same =
    let first : b ≡ f = ap (first_of b) same in
    elim (front_or bytes tail front rest (ap behind_first same)) [
      | inl less ↦ inl (omega (arith, less))
      | inr all ↦ inr (all.0, λ i. first i ∷ all.1 i)
    ]

-- what begins the frames of reports is not bad
pub not_bad : (ms : List Report) (bytes tail : List ℕ) → All reports.IsCarried ms
    → bytes ++ tail ≡ flat_map reports.spelled ms → IsDecoded reports.IsCarried reports.spelled bytes Bad → ⊥
not_bad [] bytes tail carried same bad =
    bad.0 (inl (omega (arith, length-append bytes tail, ap (λ (b : List ℕ). length b) same)))
not_bad (m ∷ ms) bytes tail carried same bad =
    let first = All-head reports.IsCarried m ms carried in
    elim (front_or bytes tail (reports.spelled m) (flat_map reports.spelled ms) same) [
      | inl less ↦ bad.0 (front_cut bytes tail (body_of m) (flat_map reports.spelled ms) (report_small m first) same less)
      | inr all ↦ bad.1 m (record { carried = first; rest = all.0; parts = all.1 })
    ]

later_carried : (ms ns : List Report) → All reports.IsCarried (ms ++ ns) → All reports.IsCarried ns
later_carried [] ns all = all
later_carried (m ∷ ms) ns all = later_carried ms ns (All-tail reports.IsCarried m (ms ++ ns) all)

-- ---- what a worker reported

-- it is the frames of these reports, and the rest of one
record IsTelling (shown : List Said) : Type 0 where
  all : List Report
  carried : All reports.IsCarried all
  rest : List ℕ
  parts : told_in shown ++ rest ≡ flat_map reports.spelled all

one_more : (said : List Said) (ms : List Report) (m : Report) → told_in said ≡ flat_map reports.spelled ms
    → told_in said ++ reports.spelled m ≡ flat_map reports.spelled (ms ++ m ∷ [])
one_more said ms m so =
    ap (λ (b : List ℕ). b ++ reports.spelled m) so
    ∙ ap (λ (b : List ℕ). flat_map reports.spelled ms ++ b) (sym (append-nil (reports.spelled m)))
    ∙ sym (flat_map-append reports.spelled ms (m ∷ []))

record IsTold (said : List Said) : Type 0 where
  all : List Report
  carried : All reports.IsCarried all
  parts : told_in said ≡ flat_map reports.spelled all

told_by : (a : ServerState) (actions : List Action) (b : ServerState) → IsTrace a actions b → IsTold a.said → IsTold b.said
told_by a [] b same t = subst (λ (s : ServerState). IsTold s.said) (sym same) t
told_by a (Came bytes ∷ actions) b (mid, does, more) t = told_by mid actions b more (record {
  all = t.all;
  carried = t.carried;
  parts = ap (λ (s : ServerState). told_in s.said) does ∙ told_still a.said bytes ∙ t.parts;
})
told_by a (Took order ∷ actions) b (mid, does, more) t = told_by mid actions b more (record {
  all = t.all;
  carried = t.carried;
  parts = ap (λ (s : List Said). told_in s) does.said ∙ t.parts;
})
told_by a (Told report ∷ actions) b (mid, does, more) t = told_by mid actions b more (record {
  all = t.all ++ report ∷ [];
  carried = All-append reports.IsCarried t.all (report ∷ []) t.carried
      (All-cons reports.IsCarried report [] does.carried (All-nil reports.IsCarried));
  parts = ap (λ (s : List Said). told_in s) does.said ∙ told_more a.said (reports.spelled report)
      ∙ one_more a.said t.all report t.parts;
})

telling : (now : ServerState) (shown : List Said) → IsTold now.said → (shown ≡ now.said) ⊎ IsPartTold now shown
    → IsTelling shown
telling now shown t (inl same) = record {
  all = t.all;
  carried = t.carried;
  rest = [];
  parts = append-nil (told_in shown) ∙ ap (λ (s : List Said). told_in s) same ∙ t.parts;
}
telling now shown t (inr part) = record {
  all = t.all ++ part.report ∷ [];
  carried = All-append reports.IsCarried t.all (part.report ∷ []) t.carried
      (All-cons reports.IsCarried part.report [] part.carried (All-nil reports.IsCarried));
  rest = part.rest;
  parts = ap (λ (b : List ℕ). b ++ part.rest)
      (ap (λ (s : List Said). told_in s) part.same ∙ told_more now.said part.front)
      ∙ append_assoc (told_in now.said) part.front part.rest
      ∙ ap (λ (b : List ℕ). told_in now.said ++ b) (sym part.parts)
      ∙ one_more now.said t.all part.report t.parts;
}

-- the bytes behind the frames of reports received from a worker are not bad
pub never_bad : (said : List Exchange) (rank : ℕ) (heard : List Report) (rest : List ℕ) → IsWorked said rank
    → All reports.IsCarried heard → heard_at rank said ≡ flat_map reports.spelled heard ++ rest
    → IsDecoded reports.IsCarried reports.spelled rest Bad → ⊥
never_bad said rank heard rest w carried parts bad =
    let t = telling w.now w.shown
    (told_by beginning w.come.actions w.now w.come.trace
    (record { all = []; carried = All-nil reports.IsCarried; parts = refl })) w.shows in
    let tail = w.behind ++ t.rest in
    let whole : flat_map reports.spelled heard ++ (rest ++ tail) ≡ flat_map reports.spelled t.all =
    sym (append_assoc (flat_map reports.spelled heard) rest tail)
    ∙ ap (λ (b : List ℕ). b ++ tail) (sym parts)
    ∙ sym (append_assoc (heard_at rank said) w.behind t.rest)
    ∙ ap (λ (b : List ℕ). b ++ t.rest) (sym w.heard) ∙ t.parts in
    let front = front_of reports.IsCarried reports.spelled one_way
    (unique reports.IsCarried body_of report_in report_whole report_small) heard t.all (rest ++ tail) carried t.carried
    whole in
    not_bad front.0 rest tail
    (later_carried heard front.0 (subst (λ (ms : List Report). All reports.IsCarried ms) front.1 t.carried))
    (append_cancel_left (flat_map reports.spelled heard) (rest ++ tail) (flat_map reports.spelled front.0)
    (whole ∙ ap (λ (ms : List Report). flat_map reports.spelled ms) front.1
    ∙ flat_map-append reports.spelled heard front.0)) bad
