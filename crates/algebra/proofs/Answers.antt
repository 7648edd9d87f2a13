-- Answers of tests.
--   answer-yes, answer-no      true, where A holds; false, where it does not
--   answer-from                a test that comes to the same
use mathlib.Core.Bool.{Bool, true, false, true≢false, false≢true}
use Rattle.algebra.specs.Answers.{Answers}

module _ {A : Type 0} where
  pub answer-yes : A → Answers A true
  answer-yes a = record { holds = λ e. a; fails = λ e. absurd (true≢false e) }

  pub answer-no : ¬ A → Answers A false
  answer-no n = record { holds = λ e. absurd (false≢true e); fails = λ e. n }

pub answer-from : {A B : Type 0} (b : Bool) → Answers A b → (A → B) → (B → A) → Answers B b
answer-from b a f g = record { holds = λ e. f (a.holds e); fails = λ e y. a.fails e (g y) }
