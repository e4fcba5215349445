-- A file has one outcome.
use Rattle.std.proofs.Common.{◌≡◌, ℕ, ◌+◌, ◌-◌, ◌<◌, ◌≤◌, ◌⊎◌, inl, inr, true, false, List, [], ◌∷◌, ◌++◌, length, take, get_or, Option, Some, None, refl, sym, ap, ◌∙◌, subst, arith, zero, suc, ⊎_elim}
use Rattle.std.specs.Prelude.{reverse, option_and_then}
use Rattle.std.proofs.lemmas.List.{take_more, reverse-append}
use Rattle.std.proofs.lemmas.Bool.{cases_order, cases_Bool, false≢true}
use Rattle.ug_lines.specs.declared.section.Section.TheVariants.{Endata}
use Rattle.ug_lines.specs.Lines.{Line, lines_of}
use Rattle.ug_problem.specs.Instances.{Instance}
use Rattle.ug_drafts.specs.declared.fault.MpsFault.{MpsFault}
use Rattle.ug_drafts.specs.declared.fault.Kind.TheVariants.{NoEnd}
use Rattle.ug_drafts.specs.FirstFaults.{fault_at}
use Rattle.ug_mps.specs.Entries.{Entry, header, sense, row, marker, column, sides, ranges, bound}
use Rattle.ug_mps.specs.Faults.{Complaint}
use Rattle.ug_mps.specs.Says.{line_fault, line_says, is_ended, after_fault, after, history}
use Rattle.ug_mps.specs.Stated.{stated}
use Rattle.ug_mps.specs.Reads.{no_line, lines_before, Says, Ends, IsFaulty, IsEndless, end_fault, Reads, FirstFault}
use Rattle.ug_mps.specs.Laws.{HasOneOutcome}
use Rattle.ug_mps.proofs.DraftLemmas.{section_same}

-- line k
abbrev pub line_at : List ℕ → ℕ → Line
line_at text k = get_or (lines_of text) k no_line

-- one line more
pub lines_before_more : (text : List ℕ) (k : ℕ) → k < length (lines_of text) → lines_before text (k + 1) ≡ line_at text k ∷ lines_before text k
lines_before_more text k h = ap reverse (take_more (lines_of text) k no_line h) ∙ reverse-append (take k (lines_of text)) (line_at text k ∷ [])

-- the statements up to line k, by those before it
abbrev pub after_line : List ℕ → ℕ → List Entry → Option (List Entry)
after_line text k h = after h (length (lines_before text k) + 1) (line_at text k)

-- what the lines before the latest say
pub record RowsAndObjective (before : List Line) (line : Line) (h : List Entry) : Type 0 where
  pub earlier : List Entry
  pub said : history before ≡ Some earlier
  pub after_ : after earlier (length before + 1) line ≡ Some h

parts_of_history : (before : List Line) (line : Line) (h : List Entry) (o : Option (List Entry)) → history before ≡ o
    → option_and_then (λ h. after h (length before + 1) line) o ≡ Some h → RowsAndObjective before line h
parts_of_history before line h None p r = cc
parts_of_history before line h (Some earlier) p r = record { earlier = earlier; said = p; after_ = r }

pub make_rows : (before : List Line) (line : Line) (h : List Entry) → history (line ∷ before) ≡ Some h → RowsAndObjective before line h
make_rows before line h r = parts_of_history before line h (history before) refl r

-- the parts of what k + 1 lines say
pub says_parts : (text : List ℕ) (k : ℕ) (h : List Entry) → Says text (k + 1) h → RowsAndObjective (lines_before text k) (line_at text k) h
says_parts text k h s = make_rows _ _ h (subst (λ b. history b ≡ Some h) (lines_before_more text k (omega (arith, s.there))) s.said)

-- a line more says more
pub says_more : (text : List ℕ) (k : ℕ) (h h' : List Entry) → k < length (lines_of text) → Says text k h → after_line text k h ≡ Some h' → Says text (k + 1) h'
says_more text k h h' lt s e = record {
  there = omega (arith, lt);
  said = ap history (lines_before_more text k lt) ∙ ap (option_and_then (λ h. after h (length (lines_before text k) + 1) (line_at text k))) s.said ∙ e;
}

-- fewer lines say something too
pub says_fewer : (text : List ℕ) (j d : ℕ) (h : List Entry) → Says text (j + d) h → (h' : List Entry) × Says text j h'
says_fewer text j zero h s = (h, subst (λ n. Says text n h) (omega arith) s)
says_fewer text j (suc d) h s =
    let s' : Says text ((j + d) + 1) h = subst (λ n. Says text n h) (omega arith) s in
    let q = says_parts text (j + d) h s' in
    says_fewer text j d q.earlier (record { there = omega (arith, s.there); said = q.said })

pub says_less : (text : List ℕ) (j k : ℕ) (h : List Entry) → j ≤ k → Says text k h → (h' : List Entry) × Says text j h'
says_less text j k h le s = says_fewer text j (k - j) h (subst (λ n. Says text n h) (omega arith) s)

-- the same lines say the same
pub says_one : (text : List ℕ) (k : ℕ) (g h : List Entry) → Says text k g → Says text k h → g ≡ h
says_one text k g h p q = let a = p.said in let b = q.said in cc

-- nothing is said after ENDATA, or after a fault
pub after_end : (h : List Entry) (n : ℕ) (line : Line) → is_ended h ≡ true → after h n line ≡ None
after_end h n line e = rw e refl

pub after_open : (h : List Entry) (n : ℕ) (line : Line) → is_ended h ≡ false → after h n line ≡ after_fault h n line (line_fault h line)
after_open h n line e = rw e refl

pub after_bad : (h : List Entry) (n : ℕ) (line : Line) (c : Complaint) → line_fault h line ≡ Some c → after h n line ≡ None
after_bad h n line c e = ⊎_elim
    (λ t. after_end h n line t)
    (λ f. after_open h n line f ∙ ap (after_fault h n line) e)
    (cases_Bool (is_ended h))

pub after_good : (h : List Entry) (n : ℕ) (line : Line) → is_ended h ≡ false → line_fault h line ≡ None → after h n line ≡ Some (line_says h n line ++ h)
after_good h n line f e = after_open h n line f ∙ ap (after_fault h n line) e

-- if nothing is said, no more lines say anything
pub stops : (text : List ℕ) (k m : ℕ) (h h' : List Entry) → Says text k h → after_line text k h ≡ None → k < m → Says text m h' → ⊥
stops text k m h h' s none lt t =
    let f = says_less text (k + 1) m h' (omega arith) t in
    let q = says_parts text k f.0 f.1 in
    let same : q.earlier ≡ h = says_one text k q.earlier h (record { there = s.there; said = q.said }) s in
    let after_ = q.after_ in
    absurd (let e : after_line text k h ≡ Some f.0 = subst (λ g. after_line text k g ≡ Some f.0) same after_ in cc)

same_tail : (g h : List Entry) → header Endata ∷ g ≡ header Endata ∷ h → g ≡ h
same_tail g h e = cc

-- nothing follows ENDATA
pub ends_last : (text : List ℕ) (k m : ℕ) (h h' : List Entry) → Ends text k h → k < m → Says text m h' → ⊥
ends_last text k m h h' s lt t = stops text k m _ h' s (after_end (header Endata ∷ h) (length (lines_before text k) + 1) (line_at text k) refl) lt t

-- there is one ENDATA line
pub ends_once : (text : List ℕ) (j k : ℕ) (g h : List Entry) → Ends text j g → Ends text k h → (j ≡ k) × (g ≡ h)
ends_once text j k g h p q = elim (cases_order j k) [
  | inl e ↦ (e, same_tail g h (says_one text k _ _ (subst (λ n. Ends text n g) e p) q))
  | inr o ↦ elim o [ inl lt ↦ absurd (ends_last text j k g _ p lt q) | inr gt ↦ absurd (ends_last text k j h _ q gt p) ]
]

-- the lines said so far continue where ENDATA was not said
pub open_before : (text : List ℕ) (j k : ℕ) (g h : List Entry) → Ends text j g → Says text k h → is_ended h ≡ false → k < j
open_before text j k g h p q o = elim (cases_order k j) [
  | inl e ↦ absurd (false≢true (sym o ∙ ap is_ended (says_one text j h _ (subst (λ n. Says text n h) e q) p)))
  | inr c ↦ elim c [ inl lt ↦ lt | inr gt ↦ absurd (ends_last text j k g _ p gt q) ]
]

one_problem : (text : List ℕ) (boxed : Option ℕ) (p q : Instance) → Reads text boxed p → Reads text boxed q → p ≡ q
one_problem text boxed p q (j, g, e, b, s) (k, h, e', b', s') =
    let same = (ends_once text j k g h e e').1 in s ∙ ap (stated boxed) same ∙ sym s'

-- nothing is said after the faulty line
faulty_after : (text : List ℕ) (k : ℕ) (h : List Entry) (c : Complaint) → IsFaulty text k h c → after_line text k h ≡ None
faulty_after text k h c n = after_bad h (length (lines_before text k) + 1) (line_at text k) c n.fault

-- a faulty line, with a later end
faulty_ends : (text : List ℕ) (j k : ℕ) (g h : List Entry) (c : Complaint) → Ends text j g → IsFaulty text k h c → ⊥
faulty_ends text j k g h c p n = stops text k j h _ n.before (faulty_after text k h c n) (open_before text j k g h p n.before n.open_) p

-- no end, with an end
endless_ends : (text : List ℕ) (j : ℕ) (g h : List Entry) → Ends text j g → IsEndless text h → ⊥
endless_ends text j g h p n =
    let lt = open_before text j (length (lines_of text)) g h p n.all n.open_ in
    let there = p.there in
    absurd (omega arith)

-- a faulty line, where none is
faulty_endless : (text : List ℕ) (k : ℕ) (g h : List Entry) (c : Complaint) → IsFaulty text k g c → IsEndless text h → ⊥
faulty_endless text k g h c m n = stops text k (length (lines_of text)) g h m.before (faulty_after text k g c m) m.there n.all

-- a fault at the end, where there is none
end_apart : (boxed : Option ℕ) (g h : List Entry) (f : MpsFault) → g ≡ h → end_fault boxed g ≡ None → end_fault boxed h ≡ Some f → ⊥
end_apart boxed g h f same p q = let bad : None ≡ Some f = sym p ∙ ap (end_fault boxed) same ∙ q in absurd (cc)

apart : (text : List ℕ) (boxed : Option ℕ) (p : Instance) (f : MpsFault) → Reads text boxed p → FirstFault text boxed f → ⊥
apart text boxed p f (j, g, e, b, s) (inl (k, h, c, n, w)) = faulty_ends text j k g h c e n
apart text boxed p f (j, g, e, b, s) (inr (inl (h, n, w))) = endless_ends text j g h e n
apart text boxed p f (j, g, e, b, s) (inr (inr (k, h, e', u))) = end_apart boxed g h f (ends_once text j k g h e e').1 b u

-- two faulty lines are one
one_faulty : (text : List ℕ) (j k : ℕ) (g h : List Entry) (c d : Complaint) → IsFaulty text j g c → IsFaulty text k h d → j ≡ k
one_faulty text j k g h c d m n = elim (cases_order j k) [
  | inl e ↦ e
  | inr o ↦ elim o [
    | inl lt ↦ absurd (stops text j k g h m.before (faulty_after text j g c m) lt n.before)
    | inr gt ↦ absurd (stops text k j h g n.before (faulty_after text k h d n) gt m.before)
  ]
]

-- and have one fault
same_fault : (text : List ℕ) (k : ℕ) (g h : List Entry) (c d : Complaint) → IsFaulty text k g c → IsFaulty text k h d → c ≡ d
same_fault text k g h c d m n =
    let same : g ≡ h = says_one text k g h m.before n.before in
    let a : line_fault h (line_at text k) ≡ Some c = subst (λ x. line_fault x (line_at text k) ≡ Some c) same m.fault in
    let b : Some c ≡ Some d = sym a ∙ n.fault in cc

faults_same : (text : List ℕ) (j k : ℕ) (g h : List Entry) (c d : Complaint) → j ≡ k → IsFaulty text j g c → IsFaulty text k h d → fault_at (j + 1) c.kind c.word ≡ fault_at (k + 1) d.kind d.word
faults_same text j k g h c d e m n =
    let m' = subst (λ i. IsFaulty text i g c) e m in
    ap (λ i. fault_at (i + 1) c.kind c.word) e ∙ ap (λ (x : Complaint). fault_at (k + 1) x.kind x.word) (same_fault text k g h c d m' n)

one_end_fault : (boxed : Option ℕ) (g h : List Entry) (f e : MpsFault) → g ≡ h → end_fault boxed g ≡ Some f → end_fault boxed h ≡ Some e → f ≡ e
one_end_fault boxed g h f e same p q = let b : Some f ≡ Some e = sym p ∙ ap (end_fault boxed) same ∙ q in cc

one_fault : (text : List ℕ) (boxed : Option ℕ) (f g : MpsFault) → FirstFault text boxed f → FirstFault text boxed g → f ≡ g
one_fault text boxed f g (inl (j, a, c, m, v)) (inl (k, b, d, n, w)) = v ∙ faults_same text j k a b c d (one_faulty text j k a b c d m n) m n ∙ sym w
one_fault text boxed f g (inl (j, a, c, m, v)) (inr (inl (b, n, w))) = absurd (faulty_endless text j a b c m n)
one_fault text boxed f g (inl (j, a, c, m, v)) (inr (inr (k, b, e, u))) = absurd (faulty_ends text k j b a c e m)
one_fault text boxed f g (inr (inl (a, m, v))) (inl (k, b, d, n, w)) = absurd (faulty_endless text k b a d n m)
one_fault text boxed f g (inr (inl (a, m, v))) (inr (inl (b, n, w))) = v ∙ sym w
one_fault text boxed f g (inr (inl (a, m, v))) (inr (inr (k, b, e, u))) = absurd (endless_ends text k b a e m)
one_fault text boxed f g (inr (inr (j, a, e, u))) (inl (k, b, d, n, w)) = absurd (faulty_ends text j k a b d e n)
one_fault text boxed f g (inr (inr (j, a, e, u))) (inr (inl (b, n, w))) = absurd (endless_ends text j a b e n)
one_fault text boxed f g (inr (inr (j, a, e, u))) (inr (inr (k, b, e', u'))) = one_end_fault boxed a b f g (ends_once text j k a b e e').1 u u'

-- ---- there is an outcome

-- the statements end with ENDATA
pub ended_form : (h : List Entry) → is_ended h ≡ true → (g : List Entry) × (h ≡ header Endata ∷ g)
ended_form [] e = absurd (false≢true e)
ended_form (header s ∷ h) e = (h, ap (λ s. header s ∷ h) (section_same s Endata e))
ended_form (sense b ∷ h) e = absurd (false≢true e)
ended_form (row line kind name ∷ h) e = absurd (false≢true e)
ended_form (marker b ∷ h) e = absurd (false≢true e)
ended_form (column line name pairs ∷ h) e = absurd (false≢true e)
ended_form (sides set pairs ∷ h) e = absurd (false≢true e)
ended_form (ranges set pairs ∷ h) e = absurd (false≢true e)
ended_form (bound set name change ∷ h) e = absurd (false≢true e)

-- a problem that the file states, or a first fault
abbrev pub Outcome : List ℕ → Option ℕ → Type 0
Outcome text boxed = ((p : Instance) × Reads text boxed p) ⊎ ((f : MpsFault) × FirstFault text boxed f)

by_end : (text : List ℕ) (boxed : Option ℕ) (k : ℕ) (h : List Entry) (o : Option MpsFault) → Ends text k h → end_fault boxed h ≡ o → Outcome text boxed
by_end text boxed k h None e q = inl (stated boxed h, (k, h, e, q, refl))
by_end text boxed k h (Some f) e q = inr (f, inr (inr (k, h, e, q)))

-- the first k lines have no fault and no ENDATA
abbrev IsOpen : List ℕ → ℕ → Type 0
IsOpen text k = (h : List Entry) × Says text k h × (is_ended h ≡ false)

by_fault : (text : List ℕ) (boxed : Option ℕ) (k : ℕ) (h : List Entry) (o : Option Complaint) → k < length (lines_of text) → Says text k h → is_ended h ≡ false → line_fault h (line_at text k) ≡ o → Outcome text boxed ⊎ IsOpen text (k + 1)
by_fault text boxed k h (Some c) lt s f q = inl (inr (fault_at (k + 1) c.kind c.word, inl (k, h, c, record { there = lt; before = s; open_ = f; fault = q }, refl)))
by_fault text boxed k h None lt s f q =
    let g = line_says h (length (lines_before text k) + 1) (line_at text k) ++ h in
    let more : Says text (k + 1) g = says_more text k h g lt s (after_good h (length (lines_before text k) + 1) (line_at text k) f q) in ⊎_elim
    (λ t. let form = ended_form g t in inl (by_end text boxed (k + 1) form.0 (end_fault boxed form.0) (subst (λ x. Says text (k + 1) x) form.1 more) refl))
    (λ n. inr (g, more, n))
    (cases_Bool (is_ended g))

so_far : (text : List ℕ) (boxed : Option ℕ) (k : ℕ) → k ≤ length (lines_of text) → Outcome text boxed ⊎ IsOpen text k
so_far text boxed zero le = inr ([], record { there = omega arith; said = refl }, refl)
so_far text boxed (suc k) le = elim (so_far text boxed k (omega (arith, le))) [
  | inl o ↦ inl o
  | inr (h, s, f) ↦ subst (λ n. Outcome text boxed ⊎ IsOpen text n) (omega arith) (by_fault text boxed k h (line_fault h (line_at text k)) (omega (arith, le)) s f refl)
]

some_outcome : (text : List ℕ) (boxed : Option ℕ) → Outcome text boxed
some_outcome text boxed = elim (so_far text boxed (length (lines_of text)) (omega arith)) [
  | inl o ↦ o
  | inr (h, s, f) ↦ inr (fault_at (length (lines_of text)) NoEnd None, inr (inl (h, record { all = s; open_ = f }, refl)))
]

-- a file has one outcome
pub one_outcome : (text : List ℕ) (boxed : Option ℕ) → HasOneOutcome text boxed
one_outcome text boxed = record { some = some_outcome text boxed; problem = one_problem text boxed; fault = one_fault text boxed; apart = apart text boxed }
