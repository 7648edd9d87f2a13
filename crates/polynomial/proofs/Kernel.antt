-- A[Y] modulo a monic cubic F: a ring map φ from A to B and an element b of B at which F vanishes, 1, b and b² independent over A.
-- Then evaluation at b has the multiples of F for its kernel, and what 1, b and b² span for its image.
--   at_quadratic at-cubic          φ a0 + φ a1·b + φ a2·b², and the same of F
--   eval_quadratic eval-cubic      they are the values of quadratic polynomials and of F at b
--   Independent φ b                φ a0 + φ a1·b + φ a2·b² is zero only for a0 = a1 = a2 = 0
--   eval-rest                      the value of f is that of its rest modulo F
--   kernel                         f vanishes at b exactly if it is a multiple of F
use mathlib.Core.Path.{◌≡◌, sym, ◌∙◌, ap, ap₂}
use mathlib.Core.Logic.{◌↔◌}
use Rattle.algebra.specs.Ring.{CommRing}
use Rattle.algebra.proofs.Laws.{zero-add, mul-zero}
use Rattle.polynomial.specs.Poly.{Poly, X}
use Rattle.algebra.specs.RingMap.{RingMap}
use Rattle.polynomial.specs.Eval.{eval}
use Rattle.polynomial.proofs.Cubic.{cubic, quadratic, quadratic_zero}
use Rattle.polynomial.proofs.Division.{Divided, divide}
use Rattle.polynomial.proofs.Eval.{eval_add, eval_mul, eval-const, eval-X}

module _ {A B : CommRing} (φ : RingMap A B) (b : B.Car) where
  open B use {zero as 𝟘, add as ◌⊕◌, mul as ◌⊗◌}
  open Poly A use {Car as Pol, add as ◌+ₚ◌, mul as ◌·ₚ◌}

  infixl 60 ◌⊕◌ ◌+ₚ◌
  infixl 70 ◌⊗◌ ◌·ₚ◌
  abbrev pub at_quadratic : A.Car → A.Car → A.Car → B.Car
  at_quadratic a0 a1 a2 = φ.map a0 ⊕ φ.map a1 ⊗ b ⊕ φ.map a2 ⊗ (b ⊗ b)

  abbrev pub at-cubic : A.Car → A.Car → A.Car → B.Car
  at-cubic t0 t1 t2 = b ⊗ b ⊗ b ⊕ φ.map t2 ⊗ (b ⊗ b) ⊕ φ.map t1 ⊗ b ⊕ φ.map t0

  abbrev pub Independent : Type 0
  Independent = (a0 a1 a2 : A.Car) → at_quadratic a0 a1 a2 ≡ 𝟘 → (a0 ≡ A.zero) × (a1 ≡ A.zero) × (a2 ≡ A.zero)

  eval-square : eval φ b (X A ·ₚ X A) ≡ b ⊗ b
  eval-square = eval_mul φ b _ _ ∙ ap₂ ◌⊗◌ (eval-X φ b) (eval-X φ b)

  pub eval_quadratic : (a0 a1 a2 : A.Car) → eval φ b (quadratic A a0 a1 a2) ≡ at_quadratic a0 a1 a2
  unfolding quadratic
  eval_quadratic a0 a1 a2 =
      eval_add φ b _ _
      ∙ ap₂ ◌⊕◌ (eval_add φ b _ _ ∙ ap₂ ◌⊕◌ (eval-const φ b a0) (eval_mul φ b _ _ ∙ ap₂ ◌⊗◌ (eval-const φ b a1) (eval-X φ b)))
      (eval_mul φ b _ _ ∙ ap₂ ◌⊗◌ (eval-const φ b a2) eval-square)

  pub eval-cubic : (t0 t1 t2 : A.Car) → eval φ b (cubic A t0 t1 t2) ≡ at-cubic t0 t1 t2
  unfolding cubic
  eval-cubic t0 t1 t2 =
      eval_add φ b _ _
      ∙ ap₂ ◌⊕◌
      (eval_add φ b _ _
      ∙ ap₂ ◌⊕◌
      (eval_add φ b _ _ ∙ ap₂ ◌⊕◌ (eval_mul φ b _ _ ∙ ap₂ ◌⊗◌ eval-square (eval-X φ b)) (eval_mul φ b _ _ ∙ ap₂ ◌⊗◌ (eval-const φ b t2) eval-square))
      (eval_mul φ b _ _ ∙ ap₂ ◌⊗◌ (eval-const φ b t1) (eval-X φ b)))
      (eval-const φ b t0)

  module _ (t0 t1 t2 : A.Car) (root : at-cubic t0 t1 t2 ≡ 𝟘) where
    eval-multiple : (q : Pol) → eval φ b (q ·ₚ cubic A t0 t1 t2) ≡ 𝟘
    eval-multiple q = eval_mul φ b _ _ ∙ ap (λ v. eval φ b q ⊗ v) (eval-cubic t0 t1 t2 ∙ root) ∙ mul-zero B _

    pub eval-rest : (f : Pol) (d : Divided A t0 t1 t2 f) → eval φ b f ≡ at_quadratic d.0.c0 d.0.c1 d.0.c2
    eval-rest f d = ap (eval φ b) d.1 ∙ eval_add φ b _ _ ∙ ap₂ ◌⊕◌ (eval-multiple d.0.quotient) (eval_quadratic _ _ _) ∙ zero-add B _

    pub kernel : Independent → (f : Pol) → (eval φ b f ≡ 𝟘) ↔ ((q : Pol) × (f ≡ q ·ₚ cubic A t0 t1 t2))
    kernel independent f = (there, λ m. ap (eval φ b) m.1 ∙ eval-multiple m.0)
      where
        there : eval φ b f ≡ 𝟘 → (q : Pol) × (f ≡ q ·ₚ cubic A t0 t1 t2)
        there e =
            let d = divide A t0 t1 t2 f in
            let z = independent d.0.c0 d.0.c1 d.0.c2 (sym (eval-rest f d) ∙ e) in (
              d.0.quotient,
              d.1 ∙ (λ i. d.0.quotient ·ₚ cubic A t0 t1 t2 +ₚ quadratic A (z.0 i) (z.1 i) (z.2 i))
                  ∙ ap (λ r. d.0.quotient ·ₚ cubic A t0 t1 t2 +ₚ r) (quadratic_zero A) ∙ (Poly A).add_zero _,
            )
