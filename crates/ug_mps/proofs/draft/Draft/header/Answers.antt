use Rattle.std.proofs.Common.{◌∙◌, Bor, List, ℕ, map, sym}
use Rattle.ug_mps.proofs.HeaderLines.{header_taken}
use Rattle.ug_mps.proofs.draft.Draft.header.Goals as goal

pub returns : goal.returns
returns c = λ h d.
    header_taken h c.args.word.now (map (λ (word : Bor (List ℕ)). word.now) c.args.words.now) c.in-Some.section c.args.self.now c.begin.new.self c.sense_behind.new.self d
    (sym c.section_of.ensures ∙ c.in-Some.is) (sym c.if-has_begun.ensures) (sym c.if-not-may_follow.ensures) c.in_ok-begin.ensures c.sense_behind.ensures
