-- Spans inside powers of a span.
--   IsPower u s k          the span of s is the k-th power of that of u, where this is an ideal
--   power-first, power-next    u itself; the product of u and a power
--   stands, stands_not     what a test says of a span inside a power
--   square-asked, cube-asked   what the two products ask
--   found_none, found_once, found-twice, found-thrice      what the tests say of the multiplicity
use mathlib.Core.Path.{◌≡◌, subst}
use mathlib.Core.Bool.{Bool, true, false, not}
use mathlib.Core.List.{List}
use Prim.Native.Nat.{ℕ, suc}
use native.Mathlib.Omega.{arith}
use borrow.Author.Tests.{not-true, not-false}
use Rattle.ideal.specs.Ideal.{IsIdeal, SameIdeal}
use Rattle.ideal.proofs.Same.{same_refl, same_sym, same_trans}
use Rattle.ideal.proofs.Product.{product-same}
use Rattle.powers.specs.Power.{Power, Inside}
use Rattle.powers.proofs.Powers.{power-one}
use Rattle.triple.specs.Setting.{ring, Ready}
use Rattle.triple.specs.Triple.{Spanned}
use Rattle.product.specs.Contract.{ProductAsked, Multiplied}
use Rattle.multiplicity.specs.Contract.{InsideTest, MultiplicityAsked, MultiplicityFound}
use Rattle.multiplicity.proofs.Rests.{small-inside}

pub record IsPower (p : ℕ) (y3 : List ℕ) (u s : List (List ℕ)) (k : ℕ) : Type 0 where
  pub same :
      (R : Ready p y3) → IsIdeal (ring R.setting) (Spanned R.setting u) →
      SameIdeal (ring R.setting) (Spanned R.setting s) (Power (ring R.setting) (Spanned R.setting u) k)

module _ {p : ℕ} {y3 : List ℕ} {u : List (List ℕ)} where
  pub power-first : IsPower p y3 u u 1
  power-first =
      record {
        same = λ R i. same_sym (ring R.setting) (power-one (ring R.setting) i);
      }

  pub power-next : {s w : List (List ℕ)} {d : List ℕ} {k : ℕ} → Multiplied p y3 u s w d → IsPower p y3 u s k → IsPower p y3 u w (suc k)
  power-next m h =
      record {
        same =
            λ R i.
            same_trans (ring R.setting) (m.same R)
            (product-same (ring R.setting) (same_refl (ring R.setting) (Spanned R.setting u)) (h.same R i));
      }

  module _ {t s : List (List ℕ)} {b : Bool} {k : ℕ} (h : IsPower p y3 u s k) (test : InsideTest p t s b) where
    pub stands : (not b ≡ false) → (R : Ready p y3) → IsIdeal (ring R.setting) (Spanned R.setting u)
        → Inside (ring R.setting) (Spanned R.setting t) (Power (ring R.setting) (Spanned R.setting u) k)
    stands q R i g m = (h.same R i g).0 ((test.answer R.setting).holds (not-false _ q) g m)

    pub stands_not : not b ≡ true → (R : Ready p y3) → IsIdeal (ring R.setting) (Spanned R.setting u)
        → ¬ Inside (ring R.setting) (Spanned R.setting t) (Power (ring R.setting) (Spanned R.setting u) k)
    stands_not q R i n = (test.answer R.setting).fails (not-true _ q) (λ g m. (h.same R i g).1 (n g m))

module _ {p : ℕ} {y3 : List ℕ} {t u : List (List ℕ)} {d e : List ℕ} (a : MultiplicityAsked p y3 t d u e) where
  pub square-asked : ProductAsked p y3 u e u e
  square-asked = record { ready = a.ready; full₁ = a.full_u; small₁ = a.small_u; full₂ = a.full_u; small₂ = a.small_u }

  pub cube-asked : {s : List (List ℕ)} {f : List ℕ} {b : Bool} → Multiplied p y3 u u s f → InsideTest p t s b → (not b ≡ false) → ProductAsked p y3 u e s f
  cube-asked {s} m test q =
      record {
        ready = a.ready;
        full₁ = a.full_u;
        small₁ = a.small_u;
        full₂ = m.full;
        small₂ = small-inside a.ready.setting a.full_t a.small_t m.full.triple (subst (InsideTest p t s) (not-false _ q) test);
      }

module _ {p : ℕ} {y3 : List ℕ} {t u : List (List ℕ)} {b₁ : Bool} (first : InsideTest p t u b₁) where
  pub found_none : not b₁ ≡ true → MultiplicityFound p y3 t u 0
  found_none q = record { most = omega arith; held = λ R i g m. tt; above = λ R i l. stands_not power-first first q R i }

  module _ (yes₁ : (not b₁ ≡ false)) {s : List (List ℕ)} {f : List ℕ} (m : Multiplied p y3 u u s f) {b₂ : Bool} (second : InsideTest p t s b₂) where
    square : IsPower p y3 u s 2
    square = power-next m power-first

    pub found_once : not b₂ ≡ true → MultiplicityFound p y3 t u 1
    found_once q = record { most = omega arith; held = stands power-first first yes₁; above = λ R i l. stands_not square second q R i }

    module _ (yes₂ : (not b₂ ≡ false)) {w : List (List ℕ)} {h : List ℕ} (n : Multiplied p y3 u s w h) {b₃ : Bool} (third : InsideTest p t w b₃) where
      cube : IsPower p y3 u w 3
      cube = power-next n square

      pub found-twice : not b₃ ≡ true → MultiplicityFound p y3 t u 2
      found-twice q = record { most = omega arith; held = stands square second yes₂; above = λ R i l. stands_not cube third q R i }

      pub found-thrice : (not b₃ ≡ false) → MultiplicityFound p y3 t u 3
      found-thrice q = record { most = omega arith; held = stands cube third q; above = λ R i l. absurd (omega arith) }
