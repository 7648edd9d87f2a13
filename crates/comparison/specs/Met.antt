-- What a walk over two divisors a and b on the curve c meets.
--   Met c a b w        c, a and b are accepted; w says whether a and b are the same bytes, and how many pairs of words are compared, at most 10
--   WalkRead c a b r   walked: the walk over accepted divisors, or the first cause
use Rattle.std.specs.Prelude.{◌≡◌, List, ℕ, ◌≤◌, Result, Ok, Err}
use Rattle.algebra.specs.Answers.{Answers}
use Rattle.words.specs.Words.{words, compared}
use Rattle.words.specs.declared.Walk.{Walk}
use Rattle.refusal.specs.Refusal.{number_of}
use Rattle.refusal.specs.declared.Refusal.{Refusal}
use Rattle.record.specs.Cause.{FirstCause, Passes}
use Rattle.classes.specs.Made.{two_stages}

pub record Met (c a b : List ℕ) (w : Walk) : Type 0 where
  pub passes : Passes (two_stages c a b)
  pub same : Answers (a ≡ b) w.same
  pub count : w.compared ≡ compared (words a) (words b)
  pub few : w.compared ≤ 10

abbrev pub WalkRead : (c a b : List ℕ) → Result Walk Refusal → Type 0
WalkRead c a b (Ok w) = Met c a b w
WalkRead c a b (Err e) = FirstCause (two_stages c a b) (number_of e)
