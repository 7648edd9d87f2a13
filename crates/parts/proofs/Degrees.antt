-- The degree of a divisor by its kind: how many monomials remain.
--   degree_sum         the degrees of the three members are 12 and three times the degree
--   inside-same        if I lies inside J and the degree of I is not larger, J lies inside I
use mathlib.Core.Path.{◌≡◌, refl, sym, ap, subst}
use Prim.Native.Nat.{ℕ, ◌+◌, ◌*◌, ◌%◌, ◌≤◌}
use native.Mathlib.Omega.{arith}
use Rattle.prime_field.specs.Field.{F}
use Rattle.ideal.proofs.Leads.{Lead, ideal_space, lowering}
use Rattle.kind.specs.Kinds.{degree_of}
use Rattle.divisor.specs.Kind.{Kind}
use Rattle.divisor.proofs.Table.{degree, kind_by, class_by, degree_class}
use Rattle.divisor.proofs.Basis.{basis-lead, lead-basis}
use Rattle.triple.specs.Setting.{Setting, ring, poles_of}
use Rattle.basis.specs.declared.Divisor.{Divisor}
use Rattle.basis.specs.Divisor.{residues}
use Rattle.group.specs.Contract.{IsDivisor, ideal}
use Rattle.group.proofs.Divisor.{divisor_footprint}

pub degree_sum : (κ : Kind) → degree κ 0 + degree κ 1 + degree κ 2 ≡ 12 + 3 * degree_of κ
degree_sum = kind_by (λ κ. degree κ 0 + degree κ 1 + degree κ 2 ≡ 12 + 3 * degree_of κ) refl refl refl refl refl

module _ {p : ℕ} (S : Setting p) {x y : Divisor} (D : IsDivisor S x) (E : IsDivisor S y) (inside : (h : (ring S).Car) → ideal S x D h → ideal S y E h) where
  -- the member of x in the class j has a lead that J reaches
  lower : (j : ℕ) → j ≤ 2 → degree E.kind j ≤ degree D.kind j
  lower j l = go (basis-lead (F p S.prime) S.curve S.nonzero D.kind (residues p x) D.based.basis (degree D.kind j) reached)
    where
      reached : degree D.kind (degree D.kind j % 3) ≤ degree D.kind j
      reached = subst (λ i. degree D.kind i ≤ degree D.kind j) (sym (degree_class D.kind j l)) (omega arith)

      go : Lead (poles_of S) (ideal S x D) (degree D.kind j) → degree E.kind j ≤ degree D.kind j
      go (u, mu, pu) =
          subst (λ i. degree E.kind i ≤ degree D.kind j) (degree_class D.kind j l)
          (lead-basis (F p S.prime) S.curve S.nonzero E.kind (residues p y) E.based.basis (degree D.kind j) (u, inside u mu, pu))

  pub inside-same : degree_of x.kind ≤ degree_of y.kind → (h : (ring S).Car) → ideal S y E h → ideal S x D h
  inside-same n =
      lowering (poles_of S) (ideal_space (poles_of S) (divisor_footprint S D).ideal) (ideal_space (poles_of S) (divisor_footprint S E).ideal) inside leads
    where
      sums : degree D.kind 0 + degree D.kind 1 + degree D.kind 2 ≤ degree E.kind 0 + degree E.kind 1 + degree E.kind 2
      sums = omega (arith, degree_sum D.kind, degree_sum E.kind, ap degree_of D.based.shaped.kind, ap degree_of E.based.shaped.kind, n)

      equal : (j : ℕ) → j ≤ 2 → degree D.kind j ≤ degree E.kind j
      equal = class_by (λ j. degree D.kind j ≤ degree E.kind j) (omega (arith, sums, all)) (omega (arith, sums, all)) (omega (arith, sums, all))
        where
          all : (degree E.kind 0 ≤ degree D.kind 0) × (degree E.kind 1 ≤ degree D.kind 1) × (degree E.kind 2 ≤ degree D.kind 2)
          all = (lower 0 (omega arith), lower 1 (omega arith), lower 2 (omega arith))

      leads : (m : ℕ) → Lead (poles_of S) (ideal S y E) m → Lead (poles_of S) (ideal S x D) m
      leads m l =
          basis-lead (F p S.prime) S.curve S.nonzero D.kind (residues p x) D.based.basis m
          (omega (arith, equal (m % 3) (omega arith), lead-basis (F p S.prime) S.curve S.nonzero E.kind (residues p y) E.based.basis m l))
