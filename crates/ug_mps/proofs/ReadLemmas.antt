-- One line more is read.
use Rattle.std.proofs.Common.{◌≡◌, ℕ, ◌+◌, ◌-◌, ◌<◌, inl, inr, false, List, [], ◌∷◌, ◌++◌, length, take, get_or, Option, Some, None, Result, Ok, Err, IfOk, IfErr, MatchResult, refl, sym, ap, ◌∙◌, subst, arith, append-nil}
use Rattle.std.specs.Prelude.{reverse, option_and_then}
use Rattle.std.proofs.lemmas.List.{take_at, get_or_at, reverse-append, length-append, length-reverse, append_assoc}
use Rattle.ug_lines.specs.declared.section.Section.TheVariants.{Endata}
use Rattle.ug_lines.specs.Lines.{Line, pieces, content_of, lines_after, lines_of}
use Rattle.ug_problem.specs.Instances.{Instance}
use Rattle.ug_drafts.specs.declared.fault.Kind.TheVariants.{NoEnd}
use Rattle.ug_drafts.specs.declared.fault.MpsFault.{MpsFault}
use Rattle.ug_drafts.specs.declared.fault.MpsError.{MpsError}
use Rattle.ug_drafts.specs.declared.fault.MpsError.TheVariants.{Memory, Fault}
use Rattle.ug_drafts.specs.FirstFaults.{fault_at}
use Rattle.ug_mps.specs.Entries.{Entry, header}
use Rattle.ug_mps.specs.Faults.{Complaint}
use Rattle.ug_mps.specs.Says.{line_fault, line_says, is_ended, after, history}
use Rattle.ug_mps.specs.Stated.{stated}
use Rattle.ug_mps.specs.Drafts.{IsFaultOf}
use Rattle.ug_mps.specs.Finish.{IsEndFault}
use Rattle.ug_mps.specs.Reading.{HasTaken}
use Rattle.ug_mps.specs.Reads.{no_line, Says, Ends, IsFaulty, IsEndless, end_fault, Reads, IsRefusal}
use Rattle.ug_mps.proofs.Outcome.{line_at, after_good}

some_same : (f g : MpsFault) → Some f ≡ Some g → f ≡ g
some_same f g e = cc

-- the lines at the front say what they say
pub says_front : (text : List ℕ) (front more : List Line) (k : ℕ) (h : List Entry) → lines_of text ≡ front ++ more → length front ≡ k → history (reverse front) ≡ Some h → Says text k h
says_front text front more k h lines count said =
    let len : length (lines_of text) ≡ length front + length more = ap length lines ∙ length-append front more in
    let same : take k (lines_of text) ≡ front = ap (take k) lines ∙ take_at front more k count in
    record { there = omega arith; said = subst (λ l. history (reverse l) ≡ Some h) (sym same) said }

-- one line more and what it says
pub history_more : (front : List Line) (line : Line) (k : ℕ) (h g : List Entry) → length front ≡ k → history (reverse front) ≡ Some h → after h (k + 1) line ≡ Some g → history (reverse (front ++ line ∷ [])) ≡ Some g
history_more front line k h g c p q =
    ap history (reverse-append front (line ∷ []))
    ∙ ap (option_and_then (λ h. after h (length (reverse front) + 1) line)) p
    ∙ ap (λ n. after h (n + 1) line) (length-reverse front ∙ c)
    ∙ q

-- a line by its parts
abbrev pub as_line : List ℕ → ℕ → Line
as_line content through = record { content = content; through = through }

-- the next line
abbrev pub next_line : List ℕ → List ℕ → List ℕ → Line
next_line text piece after' = record { content = content_of piece; through = length text - length after' }

-- the next line follows the front
pub line_next : (text rest piece after' : List ℕ) (k : ℕ) (h : List Entry) (t : HasTaken text rest k h) → pieces rest ≡ piece ∷ pieces after' → rest ≡ piece ++ after'
    → lines_of text ≡ t.front ++ next_line text piece after' ∷ lines_after (length text - length after') (pieces after')
line_next text rest piece after' k h t p w =
    let room = t.room in
    let len : length rest ≡ length piece + length after' = ap length w ∙ length-append piece after' in
    let far : (length text - length rest) + length piece ≡ length text - length after' = omega arith in
    t.lines ∙ ap (λ ps. t.front ++ lines_after (length text - length rest) ps) p
    ∙ ap (λ n. t.front ++ record { content = content_of piece; through = n } ∷ lines_after n (pieces after')) far

module _ (text rest piece after' : List ℕ) (k : ℕ) (h : List Entry) (t : HasTaken text rest k h) (p : pieces rest ≡ piece ∷ pieces after') (w : rest ≡ piece ++ after') where
  line : Line
  line = next_line text piece after'

  -- a line was taken
  pub taken_more : 0 < length piece → line_fault h (next_line text piece after') ≡ None → is_ended (line_says h (k + 1) (next_line text piece after') ++ h) ≡ false
      → HasTaken text after' (k + 1) (line_says h (k + 1) (next_line text piece after') ++ h)
  taken_more some good going =
      let room = t.room in
      let len : length rest ≡ length piece + length after' = ap length w ∙ length-append piece after' in
      let count = t.count in
      record {
        front = t.front ++ next_line text piece after' ∷ [];
        count = length-append t.front (next_line text piece after' ∷ []) ∙ omega arith;
        lines = line_next text rest piece after' k h t p w ∙ sym (append_assoc t.front (next_line text piece after' ∷ []) (lines_after (length text - length after') (pieces after')));
        room = omega arith;
        said = history_more t.front (next_line text piece after') k h _ count t.said (after_good h (k + 1) (next_line text piece after') t.open_ good);
        open_ = going;
      }

  -- the line has a fault
  pub faulty_next : (c : Complaint) → line_fault h (next_line text piece after') ≡ Some c → IsFaulty text k h c
  faulty_next c fault =
      let lines = line_next text rest piece after' k h t p w in
      let count = t.count in
      let len : length (lines_of text) ≡ length t.front + length (next_line text piece after' ∷ lines_after (length text - length after') (pieces after')) = ap length lines ∙ length-append t.front _ in
      let at : line_at text k ≡ next_line text piece after' = ap (λ l. get_or l k no_line) lines ∙ get_or_at t.front (next_line text piece after') _ no_line k count in
      record {
        there = omega arith;
        before = says_front text t.front _ k h lines count t.said;
        open_ = t.open_;
        fault = subst (λ l. line_fault h l ≡ Some c) (sym at) fault;
      }

  refused_by : (boxed : Option ℕ) (e : MpsError) (o : Option Complaint) → line_fault h (next_line text piece after') ≡ o → IsFaultOf (k + 1) o e → IsRefusal text boxed e
  refused_by boxed Memory o q r = tt
  refused_by boxed (Fault f) None q r = let bad : None ≡ Some f = r in absurd (cc)
  refused_by boxed (Fault f) (Some c) q r =
      let is : Some (fault_at (k + 1) c.kind c.word) ≡ Some f = r in inl (k, h, c, faulty_next c q, some_same f (fault_at (k + 1) c.kind c.word) (sym is))

  -- so the file is refused
  pub refused_next : (boxed : Option ℕ) (e : MpsError) → IsFaultOf (k + 1) (line_fault h (next_line text piece after')) e → IsRefusal text boxed e
  refused_next boxed e r = refused_by boxed e (line_fault h (next_line text piece after')) refl r

  -- the file ended with the line
  pub ended_next : (g : List Entry) → line_fault h (next_line text piece after') ≡ None → line_says h (k + 1) (next_line text piece after') ++ h ≡ header Endata ∷ g → Ends text (k + 1) g
  ended_next g good is =
      let lines = line_next text rest piece after' k h t p w ∙ sym (append_assoc t.front (next_line text piece after' ∷ []) (lines_after (length text - length after') (pieces after'))) in
      let count = t.count in
      says_front text (t.front ++ next_line text piece after' ∷ []) _ (k + 1) (header Endata ∷ g) lines
      (length-append t.front (next_line text piece after' ∷ []) ∙ omega arith)
      (history_more t.front (next_line text piece after') k h (header Endata ∷ g) count t.said (after_good h (k + 1) (next_line text piece after') t.open_ good ∙ ap Some is))

-- the file ended without one
pub endless_now : (text rest : List ℕ) (k : ℕ) (h : List Entry) → HasTaken text rest k h → rest ≡ [] → IsEndless text h × (length (lines_of text) ≡ k)
endless_now text rest k h t e =
    let lines : lines_of text ≡ t.front ++ [] = t.lines ∙ ap (λ r. t.front ++ lines_after (length text - length rest) (pieces r)) e in
    let len : length (lines_of text) ≡ k = ap length (lines ∙ append-nil t.front) ∙ t.count in
    (record { all = subst (λ n. Says text n h) (sym len) (says_front text t.front [] k h lines t.count t.said); open_ = t.open_ }, len)

-- nothing was read yet
pub none_taken : (text : List ℕ) → HasTaken text text 0 []
none_taken text = record {
  front = [];
  count = refl;
  lines = ap (λ n. lines_after n (pieces text)) (omega arith);
  room = omega arith;
  said = refl;
  open_ = refl;
}

-- the problem that is made is what the file states
pub finish_reads : (text : List ℕ) (boxed : Option ℕ) (k : ℕ) (h : List Entry) (r : Result Instance MpsError) → Ends text k h
    → MatchResult r (λ p. (end_fault boxed h ≡ None) × (p ≡ stated boxed h)) (IsEndFault boxed h) → IfOk r (Reads text boxed)
finish_reads text boxed k h (Ok p) e m = (k, h, e, m.0, m.1)
finish_reads text boxed k h (Err f) e m = tt

-- and the fault is the file's first
pub finish_refuses : (text : List ℕ) (boxed : Option ℕ) (k : ℕ) (h : List Entry) (r : Result Instance MpsError) → Ends text k h
    → MatchResult r (λ p. (end_fault boxed h ≡ None) × (p ≡ stated boxed h)) (IsEndFault boxed h) → IfErr r (IsRefusal text boxed)
finish_refuses text boxed k h (Ok p) e m = tt
finish_refuses text boxed k h (Err Memory) e m = tt
finish_refuses text boxed k h (Err (Fault f)) e m = inr (inr (k, h, e, m))

-- the want of an end is the first fault
pub endless_is : (text rest : List ℕ) (boxed : Option ℕ) (k : ℕ) (h : List Entry) (e : MpsError) → HasTaken text rest k h → rest ≡ []
    → IsFaultOf k (Some (record { kind = NoEnd; word = None })) e → IsRefusal text boxed e
endless_is text rest boxed k h Memory t r w = tt
endless_is text rest boxed k h (Fault f) t r w =
    let n = endless_now text rest k h t r in
    let is : Some (fault_at k NoEnd None) ≡ Some f = w in
    inr (inl (h, n.0, some_same f (fault_at k NoEnd None) (sym is) ∙ ap (λ m. fault_at m NoEnd None) (sym n.1)))
