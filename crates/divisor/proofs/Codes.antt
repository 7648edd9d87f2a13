-- The five kinds by their numbers, and that only the numbers below a kind's count matter.
--   kind-of n          the kind of code n; kind 0 for a number that is no code
--   code_injective     two kinds with the same code are the same
--   code-small         a code has two bytes
--   count_small, size-least, size-most    at most 9 numbers; 4 to 40 bytes
--   polynomials-same, ideal-same, basis-same    numbers that agree below the count give the same polynomials, ideal and basis
use mathlib.Core.Path.{◌≡◌, refl, sym, ap, ◌∙◌, subst}
use mathlib.Core.Logic.{ite}
use mathlib.Core.List.{List}
use Prim.Native.Nat.{ℕ, ◌<◌, ◌≤◌}
use native.Mathlib.Decide.{ℕ_discrete}
use native.Mathlib.Omega.{arith}
use Rattle.algebra.specs.Ring.{CommRing}
use Rattle.ideal.specs.Ideal.{SameIdeal, Generated}
use Rattle.curve.specs.Curve.{Curve, Coordinate}
use Rattle.divisor.specs.Kind.{Kind, k0, k11, k21, k22, k31, code, count, size, polynomials, IdealOf, IsBasis}

abbrev pub kind-of : ℕ → Kind
kind-of n = ite (ℕ_discrete n 11) k11 (ite (ℕ_discrete n 21) k21 (ite (ℕ_discrete n 22) k22 (ite (ℕ_discrete n 31) k31 k0)))

kind-of-code : (κ : Kind) → kind-of (code κ) ≡ κ
unfolding ℕ_discrete
kind-of-code k0 = refl
kind-of-code k11 = refl
kind-of-code k21 = refl
kind-of-code k22 = refl
kind-of-code k31 = refl

pub code_injective : (κ κ' : Kind) → code κ ≡ code κ' → κ ≡ κ'
code_injective κ κ' e = sym (kind-of-code κ) ∙ ap (λ (n : ℕ). kind-of n) e ∙ kind-of-code κ'

pub code-small : (κ : Kind) → code κ < 65536
code-small k0 = omega arith
code-small k11 = omega arith
code-small k21 = omega arith
code-small k22 = omega arith
code-small k31 = omega arith

pub count_small : (κ : Kind) → count κ ≤ 9
count_small k0 = omega arith
count_small k11 = omega arith
count_small k21 = omega arith
count_small k22 = omega arith
count_small k31 = omega arith

pub size-least : (κ : Kind) → 4 ≤ size κ
size-least κ = omega arith

pub size-most : (κ : Kind) → size κ ≤ 40
size-most κ = omega (arith, count_small κ)

module _ {k : CommRing} (C : Curve k) (n n' : ℕ → k.Car) where
  pub polynomials-same : (κ : Kind) → ((i : ℕ) → i < count κ → n i ≡ n' i) → polynomials C κ n ≡ polynomials C κ n'
  polynomials-same k0 h = refl
  polynomials-same k11 h = cc (h 0 (omega arith), h 1 (omega arith))
  polynomials-same k21 h = cc (h 0 (omega arith), h 1 (omega arith), h 2 (omega arith), h 3 (omega arith))
  polynomials-same k22 h = cc (h 0 (omega arith), h 1 (omega arith), h 2 (omega arith))
  polynomials-same k31 h =
      let e0 = h 0 (omega arith) in
      let e1 = h 1 (omega arith) in
      let e2 = h 2 (omega arith) in
      let e3 = h 3 (omega arith) in
      let e4 = h 4 (omega arith) in
      let e5 = h 5 (omega arith) in
      let e6 = h 6 (omega arith) in
      let e7 = h 7 (omega arith) in
      let e8 = h 8 (omega arith) in
      cc

  pub ideal-same : (κ : Kind) → ((i : ℕ) → i < count κ → n i ≡ n' i) → SameIdeal (Coordinate C) (IdealOf C κ n) (IdealOf C κ n')
  ideal-same κ h g =
      let e = polynomials-same κ h in (
        subst (λ (gs : List (Coordinate C).Car). Generated (Coordinate C) gs g) e,
        subst (λ (gs : List (Coordinate C).Car). Generated (Coordinate C) gs g) (sym e),
      )

  pub basis-same : (κ : Kind) → ((i : ℕ) → i < count κ → n i ≡ n' i) → IsBasis C κ n → IsBasis C κ n'
  basis-same κ h b g i m = b g ((ideal-same κ h g).1 i) m
