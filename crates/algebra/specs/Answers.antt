-- What a test says.
--   Answers A b        b is true exactly if A holds
use Rattle.std.specs.Prelude.{◌≡◌, Bool, true, false}

pub record Answers (A : Type 0) (b : Bool) : Type 0 where
  pub holds : b ≡ true → A
  pub fails : b ≡ false → ¬ A
