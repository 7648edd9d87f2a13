-- The vectors of a record stand for its members.
--   sum-none … sum_7_4       a sum M + a7·xy + a4·y + a3·x + a0 in which some of the numbers are 0, as the members are written
--   full-of, small_of        three vectors of the degrees of a kind are a full triple
--   rows_0 … rows_31         the vectors of each kind
--   tripled                  the vectors of a record are a triple of its members
use mathlib.Core.Path.{◌≡◌, refl, ◌∙◌, ap, ap₂}
use mathlib.Core.List.{List, [], ◌∷◌}
use mathlib.Core.Logic.{inl}
use Prim.Native.Nat.{ℕ, zero, suc, ◌<◌}
use native.Mathlib.Omega.{arith}
use Rattle.algebra.specs.Ring.{CommRing}
use Rattle.algebra.proofs.Norm.{nil}
use Rattle.algebra.proofs.Solve.{solve, ◌⊞◌, ◌⊠◌}
use Rattle.field.specs.Residue.{Z}
use Rattle.field.proofs.Element.{el-zero}
use Rattle.curve.specs.Curve.{Curve, Coordinate, x, y, constant}
use Rattle.curve.proofs.Coefficient.{constant-zero}
use Rattle.curve.specs.Monomial.{mono}
use Rattle.divisor.specs.Kind.{Kind, k0, k11, k21, k22, k31}
use Rattle.divisor.proofs.Table.{degree_bound}
use Rattle.divisor.proofs.Members.{member}
use Rattle.divisor.proofs.Monomials.{mono-one, mono-x, mono-y, mono_xx, mono_xy, mono_yy}
use Rattle.vector.specs.Vector.{Vec, at, row, element, scalar}
use Rattle.triple.specs.Triple.{Present, Full}
use Rattle.span.specs.Contract.{Small}
use Rattle.basis.specs.declared.Divisor.{Divisor}
use Rattle.basis.specs.Divisor.{numbers_of, residues}
use Rattle.basis.specs.Contract.{coefficients, vectors, three_degrees, Tripled}
use Rattle.basis.proofs.Row.{Monomials, row-vec, row-present, row-value}

-- M + a7·xy + a4·y + a3·x + a0
abbrev sum_of : (R : CommRing) (M u v a7 a4 a3 a0 : R.Car) → R.Car
sum_of R M u v a7 a4 a3 a0 = R.add M (R.add (R.mul a7 (R.mul u v)) (R.add (R.mul a4 v) (R.add (R.mul a3 u) a0)))

module _ (R : CommRing) where
  open R use {Car, zero as 𝟎, add as ◌⊕◌, mul as ◌⊗◌}

  infixl 60 ◌⊕◌
  infixl 70 ◌⊗◌
  sum-none : (M u v : Car) → sum_of R M u v 𝟎 𝟎 𝟎 𝟎 ≡ M
  sum-none = solve R 3 (λ M u v. M ⊞ (nil ⊠ (u ⊠ v) ⊞ (nil ⊠ v ⊞ (nil ⊠ u ⊞ nil)))) (λ M u v. M) tt

  sum_0 : (M u v a : Car) → sum_of R M u v 𝟎 𝟎 𝟎 a ≡ M ⊕ a
  sum_0 = solve R 4 (λ M u v a. M ⊞ (nil ⊠ (u ⊠ v) ⊞ (nil ⊠ v ⊞ (nil ⊠ u ⊞ a)))) (λ M u v a. M ⊞ a) tt

  sum_3_0 : (M u v b a : Car) → sum_of R M u v 𝟎 𝟎 b a ≡ M ⊕ b ⊗ u ⊕ a
  sum_3_0 = solve R 5 (λ M u v b a. M ⊞ (nil ⊠ (u ⊠ v) ⊞ (nil ⊠ v ⊞ (b ⊠ u ⊞ a)))) (λ M u v b a. M ⊞ b ⊠ u ⊞ a) tt

  sum_4_0 : (M u v c a : Car) → sum_of R M u v 𝟎 c 𝟎 a ≡ M ⊕ c ⊗ v ⊕ a
  sum_4_0 = solve R 5 (λ M u v c a. M ⊞ (nil ⊠ (u ⊠ v) ⊞ (c ⊠ v ⊞ (nil ⊠ u ⊞ a)))) (λ M u v c a. M ⊞ c ⊠ v ⊞ a) tt

  sum_4_3_0 : (M u v c b a : Car) → sum_of R M u v 𝟎 c b a ≡ M ⊕ c ⊗ v ⊕ b ⊗ u ⊕ a
  sum_4_3_0 = solve R 6 (λ M u v c b a. M ⊞ (nil ⊠ (u ⊠ v) ⊞ (c ⊠ v ⊞ (b ⊠ u ⊞ a)))) (λ M u v c b a. M ⊞ c ⊠ v ⊞ b ⊠ u ⊞ a) tt

  -- v·(w + a) and v·(v + b·u + a)
  sum_4 : (w u v a : Car) → sum_of R (w ⊗ v) u v 𝟎 a 𝟎 𝟎 ≡ v ⊗ (w ⊕ a)
  sum_4 = solve R 4 (λ w u v a. w ⊠ v ⊞ (nil ⊠ (u ⊠ v) ⊞ (a ⊠ v ⊞ (nil ⊠ u ⊞ nil)))) (λ w u v a. v ⊠ (w ⊞ a)) tt

  sum_7_4 : (u v b a : Car) → sum_of R (v ⊗ v) u v b a 𝟎 𝟎 ≡ v ⊗ (v ⊕ b ⊗ u ⊕ a)
  sum_7_4 = solve R 4 (λ u v b a. v ⊠ v ⊞ (b ⊠ (u ⊠ v) ⊞ (a ⊠ v ⊞ (nil ⊠ u ⊞ nil)))) (λ u v b a. v ⊠ (v ⊞ b ⊠ u ⊞ a)) tt

full-of : {p d₀ d₁ d₂ : ℕ} {v₀ v₁ v₂ : List ℕ} → Vec p v₀ → Vec p v₁ → Vec p v₂
    → Present v₀ 0 d₀ → Present v₁ 1 d₁ → Present v₂ 2 d₂ → Full p (v₀ ∷ v₁ ∷ v₂ ∷ []) (d₀ ∷ d₁ ∷ d₂ ∷ [])
full-of {p} {d₀} {d₁} {d₂} {v₀} {v₁} {v₂} a b c pa pb pc =
    record {
      triple =
          record {
            len_t = refl;
            len_d = refl;
            member = λ j l. record { vec = vec j l; shape = inl (present j l) };
          };
      present = present;
    }
  where
    present : (j : ℕ) → j < 3 → Present (row (v₀ ∷ v₁ ∷ v₂ ∷ []) j) j (at (d₀ ∷ d₁ ∷ d₂ ∷ []) j)
    present zero l = pa
    present (suc zero) l = pb
    present (suc (suc zero)) l = pc
    present (suc (suc (suc j))) l = absurd (omega arith)

    vec : (j : ℕ) → j < 3 → Vec p (row (v₀ ∷ v₁ ∷ v₂ ∷ []) j)
    vec zero l = a
    vec (suc zero) l = b
    vec (suc (suc zero)) l = c
    vec (suc (suc (suc j))) l = absurd (omega arith)

small_of : (κ : Kind) → Small (three_degrees κ)
small_of κ zero l = omega (arith, degree_bound κ 0 (omega arith))
small_of κ (suc zero) l = omega (arith, degree_bound κ 1 (omega arith))
small_of κ (suc (suc zero)) l = degree_bound κ 2 (omega arith)
small_of κ (suc (suc (suc j))) l = absurd (omega arith)

-- three vectors that stand for the members of a record
record Rows (p : ℕ) (κ : Kind) (r : Divisor) (v₀ v₁ v₂ : List ℕ) : Type 0 where
  full : Full p (v₀ ∷ v₁ ∷ v₂ ∷ []) (three_degrees κ)
  value₀ : (C : Curve (Z p)) → element p C v₀ ≡ member C κ (residues p r) 0
  value₁ : (C : Curve (Z p)) → element p C v₁ ≡ member C κ (residues p r) 1
  value₂ : (C : Curve (Z p)) → element p C v₂ ≡ member C κ (residues p r) 2

rows_tripled : {p : ℕ} {κ : Kind} {r : Divisor} {v₀ v₁ v₂ : List ℕ} → Rows p κ r v₀ v₁ v₂ → Tripled p κ r (v₀ ∷ v₁ ∷ v₂ ∷ []) (three_degrees κ)
rows_tripled {κ = κ} h =
    record {
      full = h.full;
      small = small_of κ;
      degrees_are = refl;
      members_are = λ C. ap₂ ◌∷◌ (h.value₀ C) (ap₂ (λ u v. u ∷ v ∷ []) (h.value₁ C) (h.value₂ C));
    }

module _ {p : ℕ} (large : 1 < p) (r : Divisor) (below : (i : ℕ) → at (numbers_of r) i < p) where
  -- the vector's element, with the monomial and the numbers that are 0 put in
  value_of : (C : Curve (Z p)) {m a0 a3 a4 a7 : ℕ} {M b7 b4 b3 b0 : (Coordinate C).Car} → Monomials p m a0 a3 a4 a7
      → mono C m ≡ M → scalar p C a7 ≡ b7 → scalar p C a4 ≡ b4 → scalar p C a3 ≡ b3 → scalar p C a0 ≡ b0
      → element p C (coefficients m a0 a3 a4 a7) ≡ sum_of (Coordinate C) M (x C) (y C) b7 b4 b3 b0
  value_of C h e₁ e₂ e₃ e₄ e₅ = row-value h C ∙ cc (e₁, e₂, e₃, e₄, e₅)

  none : (C : Curve (Z p)) → scalar p C 0 ≡ (Coordinate C).zero
  none C = ap (constant C) (el-zero p) ∙ constant-zero C

  rows_0 : Rows p k0 r (coefficients 0 0 0 0 0) (coefficients 4 0 0 0 0) (coefficients 8 0 0 0 0)
  rows_0 =
      record {
        full = full-of (row-vec a) (row-vec b) (row-vec c) (row-present a) (row-present b) (row-present c);
        value₀ = λ C. value_of C a (mono-one C) (none C) (none C) (none C) (none C) ∙ sum-none (Coordinate C) _ _ _;
        value₁ = λ C. value_of C b (mono-y C) (none C) (none C) (none C) (none C) ∙ sum-none (Coordinate C) _ _ _;
        value₂ = λ C. value_of C c (mono_yy C) (none C) (none C) (none C) (none C) ∙ sum-none (Coordinate C) _ _ _;
      }
    where
      a : Monomials p 0 0 0 0 0
      a = omega arith

      b : Monomials p 4 0 0 0 0
      b = omega arith

      c : Monomials p 8 0 0 0 0
      c = omega arith

  rows_11 : Rows p k11 r (coefficients 3 r.n0 0 0 0) (coefficients 4 r.n1 0 0 0) (coefficients 8 0 0 r.n1 0)
  rows_11 =
      record {
        full = full-of (row-vec a) (row-vec b) (row-vec c) (row-present a) (row-present b) (row-present c);
        value₀ = λ C. value_of C a (mono-x C) (none C) (none C) (none C) refl ∙ sum_0 (Coordinate C) _ _ _ _;
        value₁ = λ C. value_of C b (mono-y C) (none C) (none C) (none C) refl ∙ sum_0 (Coordinate C) _ _ _ _;
        value₂ = λ C. value_of C c (mono_yy C) (none C) refl (none C) (none C) ∙ sum_4 (Coordinate C) _ _ _ _;
      }
    where
      a : Monomials p 3 r.n0 0 0 0
      a = omega (arith, below 0)

      b : Monomials p 4 r.n1 0 0 0
      b = omega (arith, below 1)

      c : Monomials p 8 0 0 r.n1 0
      c = omega (arith, below 1)

  rows_21 : Rows p k21 r (coefficients 6 r.n2 r.n3 0 0) (coefficients 4 r.n0 r.n1 0 0) (coefficients 8 0 0 r.n0 r.n1)
  rows_21 =
      record {
        full = full-of (row-vec a) (row-vec b) (row-vec c) (row-present a) (row-present b) (row-present c);
        value₀ = λ C. value_of C a (mono_xx C) (none C) (none C) refl refl ∙ sum_3_0 (Coordinate C) _ _ _ _ _;
        value₁ = λ C. value_of C b (mono-y C) (none C) (none C) refl refl ∙ sum_3_0 (Coordinate C) _ _ _ _ _;
        value₂ = λ C. value_of C c (mono_yy C) refl refl (none C) (none C) ∙ sum_7_4 (Coordinate C) _ _ _ _;
      }
    where
      a : Monomials p 6 r.n2 r.n3 0 0
      a = omega (arith, below 2, below 3)

      b : Monomials p 4 r.n0 r.n1 0 0
      b = omega (arith, below 0, below 1)

      c : Monomials p 8 0 0 r.n0 r.n1
      c = omega (arith, below 0, below 1)

  rows_22 : Rows p k22 r (coefficients 3 r.n0 0 0 0) (coefficients 7 0 0 r.n0 0) (coefficients 8 r.n1 0 r.n2 0)
  rows_22 =
      record {
        full = full-of (row-vec a) (row-vec b) (row-vec c) (row-present a) (row-present b) (row-present c);
        value₀ = λ C. value_of C a (mono-x C) (none C) (none C) (none C) refl ∙ sum_0 (Coordinate C) _ _ _ _;
        value₁ = λ C. value_of C b (mono_xy C) (none C) refl (none C) (none C) ∙ sum_4 (Coordinate C) _ _ _ _;
        value₂ = λ C. value_of C c (mono_yy C) (none C) refl (none C) refl ∙ sum_4_0 (Coordinate C) _ _ _ _ _;
      }
    where
      a : Monomials p 3 r.n0 0 0 0
      a = omega (arith, below 0)

      b : Monomials p 7 0 0 r.n0 0
      b = omega (arith, below 0)

      c : Monomials p 8 r.n1 0 r.n2 0
      c = omega (arith, below 1, below 2)

  rows_31 : Rows p k31 r (coefficients 6 r.n0 r.n1 r.n2 0) (coefficients 7 r.n3 r.n4 r.n5 0) (coefficients 8 r.n6 r.n7 r.n8 0)
  rows_31 =
      record {
        full = full-of (row-vec a) (row-vec b) (row-vec c) (row-present a) (row-present b) (row-present c);
        value₀ = λ C. value_of C a (mono_xx C) (none C) refl refl refl ∙ sum_4_3_0 (Coordinate C) _ _ _ _ _ _;
        value₁ = λ C. value_of C b (mono_xy C) (none C) refl refl refl ∙ sum_4_3_0 (Coordinate C) _ _ _ _ _ _;
        value₂ = λ C. value_of C c (mono_yy C) (none C) refl refl refl ∙ sum_4_3_0 (Coordinate C) _ _ _ _ _ _;
      }
    where
      a : Monomials p 6 r.n0 r.n1 r.n2 0
      a = omega (arith, below 0, below 1, below 2)

      b : Monomials p 7 r.n3 r.n4 r.n5 0
      b = omega (arith, below 3, below 4, below 5)

      c : Monomials p 8 r.n6 r.n7 r.n8 0
      c = omega (arith, below 6, below 7, below 8)

  pub tripled : (κ : Kind) → Tripled p κ r (vectors κ r) (three_degrees κ)
  tripled k0 = rows_tripled rows_0
  tripled k11 = rows_tripled rows_11
  tripled k21 = rows_tripled rows_21
  tripled k22 = rows_tripled rows_22
  tripled k31 = rows_tripled rows_31
