-- What a walk over two strings of bytes ensures.
--   WalkOf a b w      w holds how many pairs of words of a and b are compared, and whether a and b have the same words
use Rattle.std.specs.Prelude.{◌≡◌, List, ℕ}
use Rattle.algebra.specs.Answers.{Answers}
use Rattle.words.specs.Words.{words, compared}
use Rattle.words.specs.declared.Walk.{Walk}

pub record WalkOf (a b : List ℕ) (w : Walk) : Type 0 where
  pub count : w.compared ≡ compared (words a) (words b)
  pub same : Answers (words a ≡ words b) w.same
