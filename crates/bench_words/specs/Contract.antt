-- What the walks say.
--   Says A r       r is 1 if A holds, else 0
use Rattle.std.specs.Prelude.{◌≡◌, ◌⊎◌, ℕ}

abbrev pub Says : Type 0 → ℕ → Type 0
Says A r = (A × (r ≡ 1)) ⊎ ((¬ A) × (r ≡ 0))
