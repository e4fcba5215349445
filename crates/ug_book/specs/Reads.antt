-- Reading a book.
use Rattle.std.specs.Prelude.{◌≡◌, [], ◌∷◌}
use Rattle.ug_problem.specs.Right.{answer_of}
use Rattle.ug_problem.specs.declared.answer.Answer.{Answer}
use Rattle.ug_problem.specs.declared.answer.Answer.TheVariants.{Optimal as IsOptimal}
use Rattle.ug_problem.specs.declared.answer.Answer.TheVariants.{Infeasible as IsInfeasible}
use Rattle.ug_rules.specs.declared.told.Told.{Told}
use Rattle.ug_rules.specs.State.{BookState, held_nodes}
use Rattle.ug_book.specs.declared.reads.Answered.{Answered}
use Rattle.ug_book.specs.declared.reads.Answered.TheVariants.{Optimal, Infeasible}

-- the answer that is lent
abbrev pub answered : Answered → Answer
answered (Optimal point) = IsOptimal point.now
answered Infeasible = IsInfeasible

-- nothing is held, and the answer is the incumbent, or that there is none
pub record IsAnswerOf (b : BookState) (a : Answered) : Type 0 where
  pub none : held_nodes b ≡ []
  pub answer : answered a ≡ answer_of b.best

-- the earliest order left, and nothing else changed
pub record IsOrderTold (old new : BookState) (told : Told) : Type 0 where
  pub first : old.orders ≡ told ∷ new.orders
  pub rest : new ≡ record old { orders = new.orders }
