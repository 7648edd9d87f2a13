-- The divisor of the formulas solves the equations for the numbers of the sum.
--   numbers-shaped         nine numbers below p make a divisor of kind 31
--   complete               what the function computes
use mathlib.Core.Path.{◌≡◌, refl, sym, ◌∙◌, ap}
use Prim.Native.Nat.{ℕ, zero, suc, ◌<◌}
use native.Mathlib.Omega.{arith}
use Rattle.algebra.specs.Ring.{CommRing, ops}
use Rattle.algebra.proofs.Laws.{zero-add}
use Rattle.field.specs.Residue.{Z, el}
use Rattle.field.proofs.Element.{el-zero}
use Rattle.curve.specs.Curve.{Curve}
use Rattle.divisor.specs.Kind.{k31}
use Rattle.type61_numbers.proofs.Equations.{Equations, F2-of, c-of}
use Rattle.barrett.specs.Contract.{more₁, less₁, cross₂}
use Rattle.chains.specs.Contract.{more₁_less₁, more₁_less₂, more₂_less₁, more₂_less₂}
use Rattle.basis.specs.declared.Divisor.{Divisor}
use Rattle.basis.specs.Divisor.{numbers_of, residues, Shaped}
use Rattle.vector.specs.Vector.{at}
use Rattle.matrix.specs.declared.Column.{Column}
use Rattle.matrix.specs.Matrix.{residues_of}
use Rattle.entries.specs.declared.Lower.{Lower}
use Rattle.entries.specs.Contract.{NumbersBelow}
use Rattle.formulas.specs.declared.Tail.{Tail}
use Rattle.formulas.specs.declared.Head.{Head}
use Rattle.formulas.specs.declared.Body.{Body}
use Rattle.formulas.specs.declared.Last.{Last}
use Rattle.formulas.specs.Contract.{TailOf, HeadOf, BodyOf, LastOf}
use Rattle.usual.specs.Contract.{IsLower, us_of, vs_of, CompleteOf}
use Rattle.usual.proofs.Equate.{l-at, q-at, less-at, k2-at, f2_equals, r0_equals, g1_equals, g2_equals, f0_equals, g0_equals, cleared_by, difference-of, h2_equals, h1_equals}

-- the divisor that the function returns
abbrev pub made : Head → Body → Last → Divisor
made h b l =
    record { kind = k31; n0 = b.f0; n1 = b.f1; n2 = h.f2; n3 = b.g0; n4 = h.g1; n5 = b.g2; n6 = l.h0; n7 = l.h1; n8 = l.h2 }

pub numbers-shaped : {p : ℕ} {r : Divisor} → r.kind ≡ k31 → NumbersBelow p (numbers_of r) → Shaped p k31 r
numbers-shaped {p} {r} e b = record { kind = e; below = go }
  where
    go : (i : ℕ) → at (numbers_of r) i < p
    go zero = b.n0
    go (suc zero) = b.n1
    go (suc (suc zero)) = b.n2
    go (suc (suc (suc zero))) = b.n3
    go (suc (suc (suc (suc zero)))) = b.n4
    go (suc (suc (suc (suc (suc zero))))) = b.n5
    go (suc (suc (suc (suc (suc (suc zero)))))) = b.n6
    go (suc (suc (suc (suc (suc (suc (suc zero))))))) = b.n7
    go (suc (suc (suc (suc (suc (suc (suc (suc zero)))))))) = b.n8
    go (suc (suc (suc (suc (suc (suc (suc (suc (suc i))))))))) = omega (arith, b.n0)

module _ {p : ℕ} {o : Lower} {n : Divisor} {s t : Column} {i : ℕ} {u v : Tail} {h : Head} {b : Body} {l : Last} (U : TailOf p n n.n0 n.n1 n.n2 s u)
    (W : TailOf p n n.n3 n.n4 n.n5 t v) (H : HeadOf p o u v s.y t.y h) (B : BodyOf p o u v s.y h i b) (L : LastOf p h b i l) where
  abbrev R : CommRing
  R = Z p

  abbrev us : ℕ → R.Car
  us = us_of p n (residues_of p s)

  abbrev vs : ℕ → R.Car
  vs = vs_of p n (residues_of p t)

  abbrev S : R.Car
  S = el p s.y

  abbrev T : R.Car
  T = el p t.y

  module _ (C : Curve (Z p)) (O : IsLower p C o) where
    abbrev a0 : R.Car
    a0 = C.a0

    u2 : el p u.t2 ≡ us 2
    u2 = U.t2_is ∙ ap (λ z. R.add z (us 2)) (el-zero p) ∙ zero-add R (us 2)

    v2 : el p v.t2 ≡ vs 2
    v2 = W.t2_is ∙ ap (λ z. R.add z (vs 2)) (el-zero p) ∙ zero-add R (vs 2)

    l_is : el p h.l ≡ l-at (ops R) a0 S
    l_is = H.l_is ∙ (λ j. R.mul (O.n12_is j) S)

    q_is : el p h.q ≡ q-at (ops R) a0 S T
    q_is = H.q_is ∙ (λ j. less₁ R T (l_is j) S)

    k2_is : el p h.k2 ≡ k2-at (ops R) C.c7 (us 3) S
    k2_is = H.k2_is ∙ (λ j. less₁ R (U.t3_is j) (O.n10_is j) S)

    e3_is : el p h.e3 ≡ less-at (ops R) a0 S (us 3) (vs 3)
    e3_is = H.e3_is ∙ (λ j. less₁ R (W.t3_is j) (l_is j) (U.t3_is j))

    e4_is : el p h.e4 ≡ less-at (ops R) a0 S (us 4) (vs 4)
    e4_is = H.e4_is ∙ (λ j. less₁ R (W.t4_is j) (l_is j) (U.t4_is j))

    f2_is : el p h.f2 ≡ F2-of (ops R) a0 (c-of C) us vs
    f2_is = H.f2_is ∙ (λ j. less₁ R (R.add (U.t4_is j) (q_is j)) (O.n11_is j) S) ∙ f2_equals R a0 C.c8 (us 4) S T

    -- r0 = f1 − g2
    r0-difference : R.add (el p b.f1) (R.neg (el p b.g2)) ≡ el p h.r0
    r0-difference = ap (λ z. R.add z (R.neg (el p b.g2))) B.f1_is ∙ difference-of R (el p h.r0) (el p b.g2)

    pub complete_equations : R.mul (el p h.f2) (el p i) ≡ R.one → Equations C us vs (residues p (made h b l))
    complete_equations unit =
        record {
          F2 = f2_is;
          F1_G2 = r0-difference ∙ H.r0_is ∙ (λ j. more₁ R (R.add (k2_is j) (R.neg (W.t4_is j))) (l_is j) (R.add (el p h.f2) (U.t4_is j)))
              ∙ r0_equals R a0 C.c7 (us 3) (us 4) S (vs 4) (el p h.f2);
          G1 = H.g1_is
              ∙ (λ j. more₁_less₂ R (W.t3_is j) (O.n9_is j) S (l_is j) (R.add (U.t3_is j) (sym r0-difference j)) (R.mul (O.n12_is j) (el p h.f2)) (q_is j))
              ∙ g1_equals R a0 C.c6 (us 3) S (vs 3) T (el p h.f2) (el p b.f1) (el p b.g2);
          F2G2 = ap (R.mul (el p h.f2)) B.g2_is ∙ cleared_by R (el p h.f2) (el p i) _ unit
              ∙ (λ j. more₂_less₁ R (R.neg (u2 j)) (el p h.f2) (less₁ R (e4_is j) (O.n11_is j) (q_is j)) S (R.add (el p h.g1) (O.n8_is j)) (q_is j) (sym r0-difference j))
              ∙ g2_equals R a0 C.c5 C.c8 (us 2) (us 4) S (vs 4) T (el p h.f2) (el p b.f1) (el p b.g2) (el p h.g1);
          F0 = B.f0_is
              ∙ (λ j. more₁_less₁ R
              (more₂_less₂ R (R.add (U.t1_is j) (R.neg (v2 j))) (el p h.g1) (U.t4_is j) (l_is j) (u2 j) (el p h.f2) (less₁ R (e3_is j) (O.n10_is j) (q_is j)) (O.n7_is j) S)
              (el p b.g2) (k2_is j) (el p b.f1) (e4_is j))
              ∙ f0_equals R a0 C.c4 C.c7 (us 1) (us 2) (us 3) (us 4) S (vs 2) (vs 3) (vs 4) T (el p b.f1) (el p h.f2) (el p h.g1) (el p b.g2);
          G0 = B.g0_is
              ∙ (λ j. more₁_less₂ R
              (more₁_less₁ R (W.t1_is j) (O.n6_is j) S (el p h.g1) (U.t3_is j))
              (el p b.f1) (e3_is j) (O.n9_is j) (cross₂ R (el p h.f2) (q_is j) (el p b.g2) S)
              (l_is j) (R.add (el p b.f0) (U.t1_is j)))
              ∙ g0_equals R a0 C.c3 C.c6 (us 1) (us 3) S (vs 1) (vs 3) T (el p b.f0) (el p b.f1) (el p h.f2) (el p h.g1) (el p b.g2);
          F2H2 = ap (R.mul (el p h.f2)) (L.h2_is ∙ (λ j. more₁ R (el p h.g1) (el p i) (less₁ R (el p b.f0) (el p b.g2) (sym r0-difference j))))
              ∙ h2_equals R (el p i) (el p b.f0) (el p b.f1) (el p h.f2) (el p h.g1) (el p b.g2) unit;
          F2H1 = ap (R.mul (el p h.f2)) L.h1_is ∙ cleared_by R (el p h.f2) (el p i) _ unit ∙ h1_equals R (el p b.g0) (el p h.g1) (el p b.g2);
          F2H0 = ap (R.mul (el p h.f2)) L.h0_is ∙ cleared_by R (el p h.f2) (el p i) _ unit
              ∙ (λ j. cross₂ R (el p b.f0) (el p h.g1) (el p b.g0) (sym r0-difference j));
        }

  pub complete : p < 2147483648 → CompleteOf p o n s t i (made h b l)
  complete small =
      record {
        shaped =
            numbers-shaped refl
            (record {
              small = small;
              n0 = B.below.f0;
              n1 = B.below.f1;
              n2 = H.below.f2;
              n3 = B.below.g0;
              n4 = H.below.g1;
              n5 = B.below.g2;
              n6 = L.below.h0;
              n7 = L.below.h1;
              n8 = L.below.h2;
            });
        second = f2_is;
        equations = complete_equations;
      }
