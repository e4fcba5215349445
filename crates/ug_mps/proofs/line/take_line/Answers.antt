use Rattle.std.proofs.Common.{Bor, List, ℕ, map, take, sym, ap, subst}
use Rattle.ug_lines.specs.Words.{words_of}
use Rattle.ug_drafts.specs.declared.fault.Kind.TheVariants as kinds
use Rattle.ug_mps.specs.Faults.{fault_where}
use Rattle.ug_mps.specs.Taking.{AreWords}
use Rattle.ug_mps.proofs.LineLemmas.{legible_words, words_taken, line_taken}
use Rattle.ug_mps.proofs.line.take_line.Goals as goal

pub take_words-requires : goal.take_words-requires
take_words-requires c =
    subst AreWords (sym c.words_of-count.ensures.words)
    (words_taken 6 (words_of c.args.content.now) (legible_words c.args.content.now (sym c.if-not-is_legible.ensures)))

pub returns : goal.returns
returns c = λ h d.
    line_taken h c.args.line (record { content = c.args.content.now; through = c.args.through }) _ c.take_words.result c.is_data.result
    (map (λ (word : Bor (List ℕ)). word.now) (take c.words_of-count.result c.words_of-count.new.places))
    (ap (fault_where kinds.TooLong) (sym c.if-is_too_long.ensures)) (sym c.if-is_comment.ensures) (sym c.if-not-is_legible.ensures) c.is_data.ensures
    c.words_of-count.ensures.words (c.take_words.ensures h d)
