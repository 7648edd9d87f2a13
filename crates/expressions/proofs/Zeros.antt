-- Equations between the values of closed expressions, from expressions whose values are zero.
--   Zeros R ρ ds           the values of the expressions ds at the elements ρ are zero
--   from-zeros             if l is r and a combination of such expressions, then l and r have the same value
use mathlib.Core.Path.{◌≡◌, refl, ◌∙◌, ap}
use mathlib.Core.List.{List, [], ◌∷◌}
use Rattle.algebra.specs.Ring.{CommRing}
use Rattle.algebra.proofs.Laws as laws
use Rattle.algebra.proofs.Norm.{E, nil, Same}
use Rattle.algebra.proofs.Solve.{◌⊞◌, combine}
use Rattle.algebra.proofs.Sound.{head, tail, value, same-value}

module _ (R : CommRing) (ρ : List R.Car) where
  abbrev pub Zeros : List E → Type 0
  Zeros [] = Unit
  Zeros (d ∷ ds) = (value R d ρ ≡ R.zero) × Zeros ds

  zero_step : (q d s : R.Car) → d ≡ R.zero → s ≡ R.zero → R.add (R.mul q d) s ≡ R.zero
  zero_step q d s e f = cc (e, f, laws.mul-zero R q, R.add_zero R.zero)

  combine_zero : (ds qs : List E) → Zeros ds → value R (combine ds qs) ρ ≡ R.zero
  combine_zero [] qs _ = refl
  combine_zero (d ∷ ds) qs (e, es) = zero_step (value R (head nil qs) ρ) (value R d ρ) _ e (combine_zero ds (tail qs) es)

  pub from-zeros : (l r : E) (ds qs : List E) → Same l (r ⊞ combine ds qs) → Zeros ds → value R l ρ ≡ value R r ρ
  from-zeros l r ds qs t es = same-value R l (r ⊞ combine ds qs) t ρ ∙ ap (R.add (value R r ρ)) (combine_zero ds qs es) ∙ R.add_zero _
