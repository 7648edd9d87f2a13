-- The determinant z of the first three columns, and z²·f2: where neither is zero the formulas serve.
--   Front, front           z and z times the last two columns of the row-reduced form
--   times_columns          z·s = d for the columns s of the row-reduced form and d of z times this form
--   factor-is              the factor is z²·f2
--   unserved, served       what the function returns
--   form-below             the columns of the row-reduced form are below p
use mathlib.Core.Path.{◌≡◌, refl, sym, ◌∙◌, ap, subst}
use mathlib.Core.Logic.{◌⊎◌, inl, inr}
use mathlib.Core.List.{List, [], ◌∷◌}
use Prim.Native.Nat.{ℕ, zero, suc, ◌≤◌, ◌<◌}
use native.Mathlib.Omega.{arith}
use Rattle.algebra.specs.Ring.{CommRing, Field, Ops, ops}
use Rattle.algebra.proofs.Norm.{E-ops, unit}
use Rattle.algebra.proofs.Laws.{neg-neg, mul-zero, zero-mul, sub-zero→eq}
use Rattle.algebra.proofs.Solve.{solve, solve_from, given, ◌⊞◌, ◌⊠◌, ⊟◌}
use Rattle.prime.specs.Prime.{Prime}
use Rattle.field.specs.Residue.{Z, el}
use Rattle.field.specs.Contract.{Is}
use Rattle.field.proofs.Element.{el-zero, el_pos}
use Rattle.field.proofs.Invert.{lt_of_ne}
use Rattle.prime_field.specs.Field.{F}
use Rattle.curve.specs.Curve.{Curve}
use Rattle.curve.proofs.Poles.{no-zero_divisors}
use Rattle.columns.proofs.Column.{independent}
use Rattle.type61_numbers.proofs.Equations.{F2-of, c-of}
use Rattle.columns.specs.Pivots.{determinant}
use Rattle.barrett.specs.Contract.{dot₃, cross₂}
use Rattle.chains.specs.Contract.{more₁_less₁}
use Rattle.basis.specs.declared.Divisor.{Divisor}
use Rattle.basis.specs.Divisor.{residues}
use Rattle.matrix.specs.declared.Column.{Column}
use Rattle.matrix.specs.Matrix.{entry, column_at, ColumnBelow, residues_of}
use Rattle.matrix.specs.Contract.{Combines, column_residues, Cleared, RowReduced, RowReducedOf}
use Rattle.matrix.proofs.Reduced.{unscaled}
use Rattle.entries.specs.declared.Lower.{Lower}
use Rattle.formulas.specs.Contract.{FactorsOf, InversesOf}
use Rattle.formulas.specs.declared.Factors.{Factors}
use Rattle.formulas.specs.declared.Inverses.{Inverses}
use Rattle.usual.specs.Contract.{IsLower, us_of, vs_of, CompleteOf, Pivoted, Solved, Unsolved}
use Rattle.usual.proofs.Equate.{five, six}

pub record Front (p : ℕ) (m c : List (List ℕ)) (z : ℕ) (d e : Column) : Type 0 where
  pub z_is : Is p z (determinant (ops (Z p)) (column_residues p m 0) (column_residues p m 1) (column_residues p m 2))
  pub z_at : entry c 0 0 ≡ z
  pub d_below : ColumnBelow p d
  pub e_below : ColumnBelow p e
  pub d_is : Combines (Z p) (column_residues p m 0) (column_residues p m 1) (column_residues p m 2) (residues_of p d) (el p z) (column_residues p m 3)
  pub e_is : Combines (Z p) (column_residues p m 0) (column_residues p m 1) (column_residues p m 2) (residues_of p e) (el p z) (column_residues p m 4)

module _ {p : ℕ} {m c : List (List ℕ)} (k : Cleared p m c) where
  front_at : Front p m c k.z k.d k.e
  front_at =
      record {
        z_is = k.z_is;
        z_at = ap (λ n. entry n 0 0) k.rows;
        d_below = k.d_below;
        e_below = k.e_below;
        d_is = k.d_is;
        e_is = k.e_is;
      }

  pub front : {f d e : Column} → f ≡ column_at c 0 → d ≡ column_at c 3 → e ≡ column_at c 4 → Front p m c f.one d e
  front {f} {d} {e} ef ed ee =
      subst (λ v. Front p m c f.one d v) (sym (ee ∙ ap (λ n. column_at n 4) k.rows))
      (subst (λ v. Front p m c f.one v k.e) (sym (ed ∙ ap (λ n. column_at n 3) k.rows))
      (subst (λ v. Front p m c v.one k.d k.e) (sym (ef ∙ ap (λ n. column_at n 0) k.rows)) front_at))

-- z·s − d combines the columns to zero
combined-zero : (R : CommRing) (z v s0 s1 s2 d0 d1 d2 a b c : R.Car) → R.mul R.one v ≡ dot₃ R s0 a s1 b s2 c → R.mul z v ≡ dot₃ R d0 a d1 b d2 c
    → dot₃ R (R.add (R.mul z s0) (R.neg d0)) a (R.add (R.mul z s1) (R.neg d1)) b (R.add (R.mul z s2) (R.neg d2)) c ≡ R.zero
combined-zero R z v s0 s1 s2 d0 d1 d2 a b c e h =
    solve_from R 11
    (λ z v s0 s1 s2 d0 d1 d2 a b c. given (⊟ z) (unit ⊠ v) (s0 ⊠ a ⊞ s1 ⊠ b ⊞ s2 ⊠ c) ∷ given unit (z ⊠ v) (d0 ⊠ a ⊞ d1 ⊠ b ⊞ d2 ⊠ c) ∷ [])
    (λ z v s0 s1 s2 d0 d1 d2 a b c. (z ⊠ s0 ⊞ ⊟ d0) ⊠ a ⊞ (z ⊠ s1 ⊞ ⊟ d1) ⊠ b ⊞ (z ⊠ s2 ⊞ ⊟ d2) ⊠ c) (λ z v s0 s1 s2 d0 d1 d2 a b c. E-ops.zero) tt z v s0 s1 s2 d0 d1 d2 a b c (e, (h, tt))

times_columns : (K : Field) (a b c s d v : ℕ → K.ring.Car) (z : K.ring.Car) → ¬ (determinant (ops K.ring) a b c ≡ K.ring.zero) → Combines K.ring a b c s K.ring.one v
    → Combines K.ring a b c d z v → (j : ℕ) → j ≤ 2 → K.ring.mul z (s j) ≡ d j
times_columns K a b c s d v z full hs hd j l =
    sub-zero→eq R (R.mul z (s j)) (d j)
    (independent K a b c full (λ j. R.add (R.mul z (s j)) (R.neg (d j))) (λ i _. combined-zero R z (v i) (s 0) (s 1) (s 2) (d 0) (d 1) (d 2) (a i) (b i) (c i) (hs i) (hd i)) j l)
  where
    R : CommRing
    R = K.ring

-- z·(z·f2 + (e2 − d1) + c8·d2) + a0·d2² for d = z·s and e = z·t
abbrev factor-at : {A : Type 0} → Ops A → A → A → A → A → A → A → A → A
factor-at O a0 c8 f2 z s1 s2 t2 =
    let ◌⊹◌ : _ = O.add in
    let ◌·◌ : _ = O.mul in
    ◌⊹◌ (◌·◌ z (◌⊹◌ (◌⊹◌ (◌⊹◌ (◌·◌ z t2) (O.neg (◌·◌ z s1))) (◌·◌ z f2)) (O.neg (◌·◌ (O.neg c8) (◌·◌ z s2))))) (O.neg (◌·◌ (◌·◌ (O.neg a0) (◌·◌ z s2)) (◌·◌ z s2)))

factor_equals : (R : CommRing) (a0 c8 f2 z s1 s2 t2 : R.Car)
    → factor-at (ops R) a0 c8 f2 z s1 s2 t2
    ≡ R.mul (R.mul z z) (F2-of (ops R) a0 (six (ops R) R.zero R.zero R.zero R.zero R.zero c8) (five (ops R) R.zero R.zero R.zero (R.add f2 (R.neg s1)) s2) (five (ops R) R.zero R.zero R.zero R.zero t2))
factor_equals R =
    let e = E-ops in
    let o = e.zero in
    solve R 7 (factor-at e) (λ a0 c8 f2 z s1 s2 t2. z ⊠ z ⊠ F2-of e a0 (six e o o o o o c8) (five e o o o (f2 ⊞ ⊟ s1) s2) (five e o o o o t2)) tt

-- the determinant of the first three columns
abbrev pivot : (p : ℕ) → List (List ℕ) → (Z p).Car
pivot p m = determinant (ops (Z p)) (column_residues p m 0) (column_residues p m 1) (column_residues p m 2)

abbrev UnitCombines : (p : ℕ) → List (List ℕ) → (ℕ → (Z p).Car) → ℕ → Type 0
UnitCombines p m s j = Combines (Z p) (column_residues p m 0) (column_residues p m 1) (column_residues p m 2) s (Z p).one (column_residues p m j)

abbrev second-of : (p : ℕ) → Divisor → Curve (Z p) → (s t : ℕ → (Z p).Car) → (Z p).Car
second-of p n C s t = F2-of (ops (Z p)) C.a0 (c-of C) (us_of p n s) (vs_of p n t)

-- a curve with these coefficients of y³
abbrev some-curve : (p : ℕ) → Lower → Curve (Z p)
some-curve p o =
    let minus : ℕ → (Z p).Car = λ a. (Z p).neg (el p a) in
    record {
      a0 = minus o.n12;
      c0 = (Z p).zero;
      c1 = (Z p).zero;
      c2 = (Z p).zero;
      c3 = minus o.n6;
      c4 = minus o.n7;
      c5 = minus o.n8;
      c6 = minus o.n9;
      c7 = minus o.n10;
      c8 = minus o.n11;
    }

some-lower : (p : ℕ) (o : Lower) → IsLower p (some-curve p o) o
some-lower p o =
    record { n6_is = back _; n7_is = back _; n8_is = back _; n9_is = back _; n10_is = back _; n11_is = back _; n12_is = back _ }
  where
    back : (a : (Z p).Car) → a ≡ (Z p).neg ((Z p).neg a)
    back a = sym (neg-neg (Z p) a)

none_or_some : (k : ℕ) → (k ≡ 0) ⊎ (0 < k)
none_or_some zero = inl refl
none_or_some (suc k) = inr (omega arith)

-- f2·w = 1 for y = z²·f2, y·w = z² and z·u = 1
unit-of : (R : CommRing) (z u y w f : R.Car) → R.mul z u ≡ R.one → y ≡ R.mul (R.mul z z) f → R.mul y w ≡ R.mul z z → R.mul f w ≡ R.one
unit-of R z u y w f h e g =
    solve_from R 5
    (λ z u y w f. given (⊟ (f ⊠ w ⊠ (z ⊠ u ⊞ unit)) ⊞ z ⊠ u ⊞ unit) (z ⊠ u) unit ∷ given (⊟ (u ⊠ u ⊠ w)) y (z ⊠ z ⊠ f) ∷ given (u ⊠ u) (y ⊠ w) (z ⊠ z) ∷ [])
    (λ z u y w f. f ⊠ w) (λ z u y w f. unit) tt z u y w f (h, (e, (g, tt)))

module _ (p : ℕ) (prime : Prime p) (o : Lower) (n : Divisor) (m c : List (List ℕ)) (z : ℕ) (d e : Column) (W : Front p m c z d e) where
  abbrev R : CommRing
  R = Z p

  abbrev K : Field
  K = F p prime

  pivots-zero : z ≡ 0 → Unsolved p o n m
  pivots-zero h = inl (sym W.z_is.is ∙ ap (el p) h ∙ el-zero p)

  module _ (f : Factors) (Y : FactorsOf p o n.n2 z d.x d.y e.y f) where
    module _ (z-nonzero : ¬ (el p z ≡ R.zero)) where
      full : ¬ (pivot p m ≡ R.zero)
      full h = z-nonzero (W.z_is.is ∙ h)

      factor-is : (s t : ℕ → R.Car) → UnitCombines p m s 3 → UnitCombines p m t 4 → (C : Curve R) → IsLower p C o
          → el p f.y ≡ R.mul (R.mul (el p z) (el p z)) (second-of p n C s t)
      factor-is s t hs ht C O =
          Y.y_is.is
          ∙ (λ i. cross₂ R (el p z) (more₁_less₁ R (R.add (t_2 i) (R.neg (s_1 i))) (el p z) (el p n.n2) (O.n11_is i) (s_2 i)) (R.mul (O.n12_is i) (s_2 i)) (s_2 i))
          ∙ factor_equals R C.a0 C.c8 (el p n.n2) (el p z) (s 1) (s 2) (t 2)
        where
          s_1 : el p d.x ≡ R.mul (el p z) (s 1)
          s_1 = sym (times_columns K _ _ _ s (residues_of p d) _ (el p z) full hs W.d_is 1 (omega arith))

          s_2 : el p d.y ≡ R.mul (el p z) (s 2)
          s_2 = sym (times_columns K _ _ _ s (residues_of p d) _ (el p z) full hs W.d_is 2 (omega arith))

          t_2 : el p e.y ≡ R.mul (el p z) (t 2)
          t_2 = sym (times_columns K _ _ _ t (residues_of p e) _ (el p z) full ht W.e_is 2 (omega arith))

      second-zero : el p f.y ≡ R.zero → Unsolved p o n m
      second-zero h =
          inr (
            record { pivots = full; s = over d; t = over e; s_is = over_is d _ W.d_is; t_is = over_is e _ W.e_is },
            λ C O.
                no-zero_divisors K (R.mul (el p z) (el p z)) _ (sym (factor-is (over d) (over e) (over_is d _ W.d_is) (over_is e _ W.e_is) C O) ∙ h)
                (λ f. z-nonzero (no-zero_divisors K (el p z) (el p z) f z-nonzero)),
          )
        where
          over : Column → ℕ → R.Car
          over v j = R.mul (residues_of p v j) (K.inv (el p z))

          over_is : (v : Column) (w : ℕ → R.Car) → Combines R (column_residues p m 0) (column_residues p m 1) (column_residues p m 2) (residues_of p v) (el p z) w
              → Combines R (column_residues p m 0) (column_residues p m 1) (column_residues p m 2) (over v) R.one w
          over_is v w h i = unscaled R (el p z) (K.inv (el p z)) (w i) _ _ _ _ _ _ _ _ _ (h i) (K.mul_inv (el p z) z-nonzero) refl refl refl

    pub unserved : f.zy ≡ 0 → Unsolved p o n m
    unserved h = go (none_or_some z)
      where
        go : (z ≡ 0) ⊎ (0 < z) → Unsolved p o n m
        go (inl none) = pivots-zero none
        go (inr some) =
            let nz : ¬ (el p z ≡ R.zero) = el_pos p z some W.z_is.below in
            second-zero nz (no-zero_divisors K (el p z) (el p f.y) (sym Y.zy_is.is ∙ ap (el p) h ∙ el-zero p) nz)

    module _ (ny : ¬ (f.zy ≡ 0)) (i : Inverses) (I : InversesOf p f i) (q : List (List ℕ)) (k : Cleared p m c) (h : RowReducedOf p c i.one q) (s t : Column) (es : s ≡ column_at q 3) (et : t ≡ column_at q 4) where
      product-nonzero : ¬ (el p f.zy ≡ R.zero)
      product-nonzero = el_pos p f.zy (lt_of_ne f.zy ny) Y.zy_is.below

      nonzero : ¬ (el p z ≡ R.zero)
      nonzero g = product-nonzero (Y.zy_is.is ∙ ap (λ a. R.mul a (el p f.y)) g ∙ zero-mul R (el p f.y))

      y-nonzero : ¬ (el p f.y ≡ R.zero)
      y-nonzero g = product-nonzero (Y.zy_is.is ∙ ap (R.mul (el p z)) g ∙ mul-zero R (el p z))

      one_is : R.mul (el p z) (el p i.one) ≡ R.one
      one_is = I.one_is (el p z) Y.zy_is.is product-nonzero

      Q : RowReduced p m q
      Q = h m k (ap (λ a. R.mul (el p a) (el p i.one)) W.z_at ∙ one_is)

      s_is : s ≡ Q.d
      s_is = es ∙ ap (λ n. column_at n 3) Q.rows

      t_is : t ≡ Q.e
      t_is = et ∙ ap (λ n. column_at n 4) Q.rows

      pivoted : Pivoted p m
      pivoted =
          record {
            pivots = full nonzero;
            s = residues_of p s;
            t = residues_of p t;
            s_is = subst (λ v. UnitCombines p m (residues_of p v) 3) (sym s_is) Q.d_is;
            t_is = subst (λ v. UnitCombines p m (residues_of p v) 4) (sym t_is) Q.e_is;
          }

      pub form-below : ColumnBelow p s × ColumnBelow p t
      form-below = (subst (ColumnBelow p) (sym s_is) Q.d_below, subst (ColumnBelow p) (sym t_is) Q.e_below)

      module _ (sum : Divisor) (M : CompleteOf p o n s t i.two sum) where
        y_is : el p f.y ≡ R.mul (R.mul (el p z) (el p z)) (residues p sum 2)
        unfolding pivoted
        y_is =
            factor-is nonzero (residues_of p s) (residues_of p t) pivoted.s_is pivoted.t_is (some-curve p o) (some-lower p o)
            ∙ ap (R.mul (R.mul (el p z) (el p z))) (sym (M.second (some-curve p o) (some-lower p o)))

        pub served : Solved p o n m sum
        unfolding pivoted
        served =
            record {
              pivoted = pivoted;
              shaped = M.shaped;
              typical = λ f. y-nonzero (y_is ∙ ap (R.mul (R.mul (el p z) (el p z))) f ∙ mul-zero R _);
              equations = λ C O. M.equations C O (unit-of R (el p z) (el p i.one) (el p f.y) (el p i.two) (residues p sum 2) one_is y_is (I.two_is (el p z) Y.zy_is.is Y.zzz_is.is product-nonzero));
            }
