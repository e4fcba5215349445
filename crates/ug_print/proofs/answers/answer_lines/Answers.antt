use Rattle.std.proofs.Common.{IfOk, ◌≡◌, ◌∙◌, ap, sym, subst}
use Rattle.ug_problem.specs.Instances.{Instance}
use Rattle.ug_problem.specs.declared.answer.Answer.{Answer}
use Rattle.ug_problem.specs.declared.answer.Answer.TheVariants.{Optimal}
use Rattle.ug_problem.specs.Right.{answer_of}
use Rattle.ug_book.specs.Reads.{answered}
use Rattle.ug_print.specs.Answers.{AreAnswerLines, ArePointLines}
use Rattle.ug_print.proofs.answers.answer_lines.Goals as goal

pub returns-in-Some-Optimal : goal.returns-in-Some-Optimal
returns-in-Some-Optimal c =
    let problem = c.problem-in-Some-Optimal.ensures.value ∙ c.problem.ensures.value in
    let is : Optimal c.in-Some-Optimal.point.now ≡ answer_of c.args.book.now.best =
    sym (ap answered c.in-Some-Optimal.field-0-is) ∙ c.in-Some-Optimal.ensures.answer.answer in
    subst (λ (a : Answer). IfOk c.point_lines.result
    (λ text. AreAnswerLines c.args.gap c.args.book.now.problem a text.items))
    is
    (subst (λ (p : Instance). IfOk c.point_lines.result
    (λ text. ArePointLines c.args.gap p c.in-Some-Optimal.point.now text.items)) problem
    c.point_lines.ensures)
