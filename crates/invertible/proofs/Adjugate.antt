-- The last member of the certificate of kind 31, q0, and its quotients q0, q1 and q2: a column of the adjugate matrix of Relations, as elements of the ring.
--   q j                    the quotients: f·q j = q0·(f, g, h) j on the curve
--   adjugate               … for the polynomials f, g and h of a basis of kind 31
use mathlib.Core.Path.{◌≡◌, refl, sym, ◌∙◌, ap, subst}
use mathlib.Core.List.{[]}
use Prim.Native.Nat.{ℕ, ◌≤◌}
use lib.Dec.{T}
use lib.ListN.{get_or}
use Rattle.algebra.specs.Ring.{CommRing}
use Rattle.algebra.proofs.Laws as laws
use Rattle.algebra.proofs.Norm.{E, nil, Same}
use Rattle.algebra.proofs.Solve.{solve, combine, ◌⊞◌, ◌⊠◌}
use Rattle.ideal.specs.Ideal.{IsIdeal}
use Rattle.ideal.proofs.Generated.{generated_ideal}
use Rattle.curve.specs.Curve.{Curve, Coordinate}
use Rattle.divisor.specs.Kind.{k31, polynomials, IdealOf, IsBasis}
use Rattle.divisor.proofs.Table.{class_by}
use Rattle.divisor.proofs.Members.{member}
use Rattle.expressions.proofs.Letters.{F}
use Rattle.expressions.proofs.Value.{at_same}
use Rattle.invertible.proofs.Value.{nine, at, F-zero}
use Rattle.invertible.proofs.Vanish.{flat, vanish}
use Rattle.invertible.proofs.Certificate.{Relation, Quotient, form, syzygy, over, own, multiple, total, zeros}
use Rattle.invertible.proofs.Relations.{certificate}

abbrev relation : ℕ → Relation
relation i = get_or (certificate k31).relations i (syzygy [])

abbrev quotient-at : ℕ → Quotient
quotient-at j = get_or (get_or (certificate k31).members 2 (own k31)).quotients j (over nil [])

abbrev pub q : ℕ → E
q j = (quotient-at j).quotient

module _ {k : CommRing} (C : Curve k) (n : ℕ → k.Car) (basis : IsBasis C k31 n) where
  open Coordinate C use {Car as El, zero as 𝟎, add as ◌⊕◌, mul as ◌⊗◌}

  infixl 60 ◌⊕◌
  infixl 70 ◌⊗◌
  abbrev R : CommRing
  R = Coordinate C

  abbrev I : El → Type 0
  I = IdealOf C k31 n

  ideal : IsIdeal R I
  ideal = generated_ideal R (polynomials C k31 n)

  relation_zero : (r : Relation) → T (flat k31 (total k31 r)) → at C n (multiple k31 r) ≡ 𝟎
  relation_zero r t = sym (ap (λ e. at C n (multiple k31 r) ⊕ e) no-F ∙ R.add_zero _) ∙ (vanish C n k31 (total k31 r) t basis (ideal.sum within (subst I (sym no-F) ideal.nil))).0
    where
      no-F : at C n r.factor ⊗ at C n F ≡ 𝟎
      no-F = ap (λ z. at C n r.factor ⊗ z) (F-zero C n) ∙ laws.mul-zero R (at C n r.factor)

      within : I (at C n (multiple k31 r))
      within = (_, _, (_, _, (_, 𝟎, refl, refl), refl), refl)

  sum-zero : (a b c : El) {u v w : El} → u ≡ 𝟎 → v ≡ 𝟎 → w ≡ 𝟎 → a ⊗ u ⊕ (b ⊗ v ⊕ (c ⊗ w ⊕ 𝟎)) ≡ 𝟎
  sum-zero a b c e f g = (λ t. a ⊗ e t ⊕ (b ⊗ f t ⊕ (c ⊗ g t ⊕ 𝟎))) ∙ none a b c
    where
      none : (a b c : El) → a ⊗ 𝟎 ⊕ (b ⊗ 𝟎 ⊕ (c ⊗ 𝟎 ⊕ 𝟎)) ≡ 𝟎
      none = solve R 3 (λ a b c. a ⊠ nil ⊞ (b ⊠ nil ⊞ (c ⊠ nil ⊞ nil))) (λ a b c. nil) tt

  pub adjugate : (j : ℕ) → j ≤ 2 → member C k31 n 0 ⊗ at C n (q j) ≡ at C n (q 0) ⊗ member C k31 n j
  adjugate = class_by (λ j. member C k31 n 0 ⊗ at C n (q j) ≡ at C n (q 0) ⊗ member C k31 n j) (turn 0 tt) (turn 1 tt) (turn 2 tt)
    where
      rest : ℕ → E
      rest j = combine (zeros k31 (certificate k31)) (quotient-at j).rest

      rest-zero : (j : ℕ) → at C n (rest j) ≡ 𝟎
      rest-zero j = sum-zero _ _ _ (relation_zero (relation 0) tt) (relation_zero (relation 1) tt) (relation_zero (relation 2) tt)

      turn : (j : ℕ) → Same (form k31 j ⊠ q 0) (form k31 0 ⊠ q j ⊞ rest j) → at C n (form k31 0) ⊗ at C n (q j) ≡ at C n (q 0) ⊗ at C n (form k31 j)
      turn j t =
          sym (at_same C (nine n) (form k31 j ⊠ q 0) (form k31 0 ⊠ q j ⊞ rest j) t ∙ ap (λ e. at C n (form k31 0) ⊗ at C n (q j) ⊕ e) (rest-zero j) ∙ R.add_zero _)
          ∙ R.mul_comm _ _
