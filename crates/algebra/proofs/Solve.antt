-- The ring solver, as it is called.
--
-- (a) solve R n l r tt proves (x₁ … xₙ : Car) → l x₁ … xₙ ≡ r x₁ … xₙ, where l and r are λ-terms over expressions, written with ⊞ ⊠ ⊟ ^^:
--         solve R 2 (λ x y. (x ⊞ y) ⊠ (x ⊞ y)) (λ x y. x ⊠ x ⊞ num 2 ⊠ x ⊠ y ⊞ y ⊠ y) tt
-- (b) A formula that is written once over Ops A is the ring's formula at `ops R` and an expression at `E-ops`:
--         solve R 2 (λ x y. formula E-ops x y) (λ x y. …) tt
-- (c) solve_from R n hs l r tt proves the same under hypotheses. hs lists them, each `given m a b` for the equation a ≡ b and the factor m
--     with which it enters: l − r is the sum of m·(a − b). The proofs of the equations follow the values, as (e₁, (e₂, tt)).
--   ⊞ ⊠ ⊟ ^^           sums, products, negatives and powers of expressions
--   combine es qs      the sum of the products q·e of two lists, of those q that are there
--   Fn, apply          functions of n expressions, and their values at variables
--   Each               a statement about every list of n values
--   Hyp, Hold          hypotheses, and that they hold; combined hs r: r and the sum of the m·(a − b)
-- A call that is refused with `⊥` (expected) and `Unit` (found) at the tt states something false.
use mathlib.Core.Path.{◌≡◌, refl, ◌∙◌}
use mathlib.Core.List.{List, [], ◌∷◌}
use Prim.Native.Nat.{ℕ, zero, suc}
use Rattle.algebra.specs.Ring.{CommRing}
use Rattle.algebra.proofs.Laws as L
use Rattle.algebra.proofs.Norm.{E, var, nil, sum, prod, opp, pow, Same}
use Rattle.algebra.proofs.Sound.{head, tail, value, same-value}

infixl 60 ◌⊞◌
infixl 70 ◌⊠◌
infix 80 ⊟◌
infix 90 ◌^^◌
abbrev pub ◌⊞◌ : E → E → E
a ⊞ b = sum a b

abbrev pub ◌⊠◌ : E → E → E
a ⊠ b = prod a b

abbrev pub ⊟◌ : E → E
⊟ a = opp a

abbrev pub ◌^^◌ : E → ℕ → E
a ^^ n = pow a n

abbrev pub combine : List E → List E → E
combine [] qs = nil
combine (e ∷ es) qs = head nil qs ⊠ e ⊞ combine es (tail qs)

-- functions of n expressions, with values in B
abbrev pub Fn : Type 0 → ℕ → Type 0
Fn B zero = B
Fn B (suc n) = E → Fn B n

-- f at the variables i, i + 1, …
abbrev pub apply : {B : Type 0} (n : ℕ) → ℕ → Fn B n → B
apply zero i f = f
apply (suc n) i f = apply n (suc i) (f (var i))

-- a statement about every list of n values, one value after the other
abbrev pub Each : {A : Type 0} → ℕ → (List A → Type 0) → Type 0
Each zero P = P []
Each {A = A} (suc n) P = (x : A) → Each n (λ ρ. P (x ∷ ρ))

each : {A : Type 0} (n : ℕ) (P : List A → Type 0) → ((ρ : List A) → P ρ) → Each n P
each zero P f = f []
each (suc n) P f = λ x. each n (λ ρ. P (x ∷ ρ)) (λ ρ. f (x ∷ ρ))

pub solve : (R : CommRing) (n : ℕ) (l r : Fn E n) → Same (apply n 0 l) (apply n 0 r)
    → Each n (λ ρ. value R (apply n 0 l) ρ ≡ value R (apply n 0 r) ρ)
solve R n l r t =
    each n (λ ρ. value R (apply n 0 l) ρ ≡ value R (apply n 0 r) ρ) (same-value R (apply n 0 l) (apply n 0 r) t)

-- an equation left ≡ right, and the factor with which it enters
pub record Hyp : Type 0 where
  pub factor : E
  pub left : E
  pub right : E

abbrev pub given : E → E → E → Hyp
given m a b = record { factor = m; left = a; right = b }

abbrev pub Hold : (R : CommRing) → List Hyp → List R.Car → Type 0
Hold R [] ρ = Unit
Hold R (h ∷ hs) ρ = (value R h.left ρ ≡ value R h.right ρ) × Hold R hs ρ

-- r and the sum of the m·(a − b)
abbrev pub combined : List Hyp → E → E
combined [] r = r
combined (h ∷ hs) r = sum (combined hs r) (prod h.factor (sum h.left (opp h.right)))

combined_step : (R : CommRing) (c m a b : R.Car) → a ≡ b → R.add c (R.mul m (R.add a (R.neg b))) ≡ c
combined_step R c m a b e = cc (L.eq→sub-zero R a b e, L.mul-zero R m, R.add_zero c)

combined-value : (R : CommRing) (hs : List Hyp) (r : E) (ρ : List R.Car) → Hold R hs ρ → value R (combined hs r) ρ ≡ value R r ρ
combined-value R [] r ρ h = refl
combined-value R (k ∷ hs) r ρ h = combined_step R _ _ _ _ h.0 ∙ combined-value R hs r ρ h.1

pub solve_from : (R : CommRing) (n : ℕ) (hs : Fn (List Hyp) n) (l r : Fn E n) → Same (apply n 0 l) (combined (apply n 0 hs) (apply n 0 r))
    → Each n (λ ρ. Hold R (apply n 0 hs) ρ → value R (apply n 0 l) ρ ≡ value R (apply n 0 r) ρ)
solve_from R n hs l r t =
    each n (λ ρ. Hold R (apply n 0 hs) ρ → value R (apply n 0 l) ρ ≡ value R (apply n 0 r) ρ)
    (λ ρ h. same-value R (apply n 0 l) (combined (apply n 0 hs) (apply n 0 r)) t ρ ∙ combined-value R (apply n 0 hs) (apply n 0 r) ρ h)
