-- The row-reduced form of a matrix from the vector and scalar products of its columns.
--   below_at               the columns of a matrix of numbers below p
--   Made, cleared_made     z times the form
--   unscaled               d from z·d, by the inverse of z
--   row_reduced            the form, where c is z times it and u the inverse of z
use mathlib.Core.Path.{◌≡◌, sym, ◌∙◌, ap, subst}
use mathlib.Core.List.{List, [], ◌∷◌}
use Prim.Native.Nat.{ℕ, zero, suc, ◌<◌}
use Rattle.algebra.specs.Ring.{CommRing, ops}
use Rattle.algebra.proofs.Solve.{solve_from, given, ◌⊞◌, ◌⊠◌, ⊟◌}
use Rattle.algebra.proofs.Norm.{unit}
use Rattle.field.specs.Residue.{Z, el}
use Rattle.field.specs.Contract.{Is}
use Rattle.columns.specs.Pivots.{determinant}
use Rattle.barrett.specs.Contract.{dot₃}
use Rattle.matrix.specs.declared.Column.{Column}
use Rattle.matrix.specs.Matrix.{entry, column, column_at, rows_of, ColumnBelow, MatrixBelow, residues_of}
use Rattle.matrix.specs.Contract.{Crossed, scalar, Coordinates, Combines, column_residues, Cleared, RowReducedOf, Times}
use Rattle.matrix.proofs.Cramer.{along, IsCross, cramer}

pub below_at : {p : ℕ} {m : List (List ℕ)} {v : Column} → MatrixBelow p m → (j : ℕ) → j < 5 → v ≡ column_at m j → ColumnBelow p v
below_at {p} b j l e = subst (ColumnBelow p) (sym e) (b.below j l)

-- what the function computes, of the columns a, b, c, v and w
pub record Made (p : ℕ) (r : List (List ℕ)) (a b c v w bc ca ab : Column) (z : ℕ) (d e : Column) : Type 0 where
  pub bc_is : Crossed p b c bc
  pub ca_is : Crossed p c a ca
  pub ab_is : Crossed p a b ab
  pub z_is : Is p z (scalar p a bc)
  pub d_is : Coordinates p v bc ca ab d
  pub e_is : Coordinates p w bc ca ab e
  pub rows : r ≡ rows_of (column z 0 0) (column 0 z 0) (column 0 0 z) d e

is_cross : {p : ℕ} {a b r : Column} → Crossed p a b r → IsCross (Z p) (residues_of p a) (residues_of p b) (residues_of p r)
is_cross h = record { one = h.one; in_x = h.x; in_y = h.y }

-- the residues of a column are the same from place 2 on
along_residues : (p z : ℕ) (a b c d v : Column) (i : ℕ)
    → (Z p).mul (el p z) (along (residues_of p v) i) ≡ dot₃ (Z p) (el p d.one) (along (residues_of p a) i) (el p d.x) (along (residues_of p b) i) (el p d.y) (along (residues_of p c) i)
    → (Z p).mul (el p z) (residues_of p v i) ≡ dot₃ (Z p) (el p d.one) (residues_of p a i) (el p d.x) (residues_of p b i) (el p d.y) (residues_of p c i)
along_residues p z a b c d v zero e = e
along_residues p z a b c d v (suc zero) e = e
along_residues p z a b c d v (suc (suc i)) e = e

combines : {p : ℕ} {a b c v bc ca ab d : Column} {z : ℕ} → Crossed p b c bc → Crossed p c a ca → Crossed p a b ab → Is p z (scalar p a bc) → Coordinates p v bc ca ab d
    → Combines (Z p) (residues_of p a) (residues_of p b) (residues_of p c) (residues_of p d) (el p z) (residues_of p v)
combines {p} {a} {b} {c} {v} {bc} {ca} {ab} {d} {z} hx hy hw hz h i =
    along_residues p z a b c d v i
    (cramer (Z p) (residues_of p a) (residues_of p b) (residues_of p c) (residues_of p v) (residues_of p bc) (residues_of p ca) (residues_of p ab) (is_cross hx) (is_cross hy) (is_cross hw)
    (el p z) hz.is (residues_of p d) h.one h.x h.y i)

module _ {p : ℕ} {m r : List (List ℕ)} {bc ca ab : Column} {z : ℕ} {d e : Column} where
  cleared_at : Made p r (column_at m 0) (column_at m 1) (column_at m 2) (column_at m 3) (column_at m 4) bc ca ab z d e → Cleared p m r
  cleared_at h = record {
    z = z;
    d = d;
    e = e;
    rows = h.rows;
    z_is = record { below = h.z_is.below; is = h.z_is.is ∙ dotted };
    d_below = h.d_is.below;
    e_below = h.e_is.below;
    d_is = combines h.bc_is h.ca_is h.ab_is h.z_is h.d_is;
    e_is = combines h.bc_is h.ca_is h.ab_is h.z_is h.e_is;
  }
    where
      dotted : scalar p (column_at m 0) bc ≡ determinant (ops (Z p)) (column_residues p m 0) (column_residues p m 1) (column_residues p m 2)
      dotted i = dot₃ (Z p) (el p (entry m 0 0)) (h.bc_is.one i) (el p (entry m 1 0)) (h.bc_is.x i) (el p (entry m 2 0)) (h.bc_is.y i)

  pub cleared_made : {a b c v w : Column} → a ≡ column_at m 0 → b ≡ column_at m 1 → c ≡ column_at m 2 → v ≡ column_at m 3 → w ≡ column_at m 4
      → Made p r a b c v w bc ca ab z d e → Cleared p m r
  cleared_made {a} {b} {c} {v} {w} ea eb ec ev ew h =
      cleared_at
      (subst (λ t. Made p r (column_at m 0) (column_at m 1) (column_at m 2) (column_at m 3) t bc ca ab z d e) ew
      (subst (λ t. Made p r (column_at m 0) (column_at m 1) (column_at m 2) t w bc ca ab z d e) ev
      (subst (λ t. Made p r (column_at m 0) (column_at m 1) t v w bc ca ab z d e) ec
      (subst (λ t. Made p r (column_at m 0) t c v w bc ca ab z d e) eb (subst (λ t. Made p r t b c v w bc ca ab z d e) ea h)))))

-- d = z·u·d for u·z = 1
pub unscaled : (R : CommRing) (z u d s0 s1 s2 a b c t0 t1 t2 : R.Car) → R.mul z d ≡ dot₃ R s0 a s1 b s2 c → R.mul z u ≡ R.one → t0 ≡ R.mul s0 u → t1 ≡ R.mul s1 u → t2 ≡ R.mul s2 u
    → R.mul R.one d ≡ dot₃ R t0 a t1 b t2 c
unscaled R z u d s0 s1 s2 a b c t0 t1 t2 e h e0 e1 e2 =
    solve_from R 12
    (λ z u d s0 s1 s2 a b c t0 t1 t2. given u (z ⊠ d) (s0 ⊠ a ⊞ s1 ⊠ b ⊞ s2 ⊠ c) ∷ given (⊟ d) (z ⊠ u) unit ∷ given (⊟ a) t0 (s0 ⊠ u) ∷ given (⊟ b) t1 (s1 ⊠ u) ∷ given (⊟ c) t2 (s2 ⊠ u) ∷ [])
    (λ z u d s0 s1 s2 a b c t0 t1 t2. unit ⊠ d) (λ z u d s0 s1 s2 a b c t0 t1 t2. t0 ⊠ a ⊞ t1 ⊠ b ⊞ t2 ⊠ c) tt z u d s0 s1 s2 a b c t0 t1 t2 (e, (h, (e0, (e1, (e2, tt)))))

scaled : (p u z : ℕ) (a b f s : Column) {d : Column} (v : ℕ → (Z p).Car) → Combines (Z p) (residues_of p a) (residues_of p b) (residues_of p f) (residues_of p s) (el p z) v
    → (Z p).mul (el p z) (el p u) ≡ (Z p).one → Times p s u d
    → Combines (Z p) (residues_of p a) (residues_of p b) (residues_of p f) (residues_of p d) (Z p).one v
scaled p u z a b f s v k h t i = unscaled (Z p) _ _ _ _ _ _ _ _ _ _ _ _ (k i) h t.one t.x t.y

module _ {p u : ℕ} {c r : List (List ℕ)} where
  pub row_reduced : {v w d e : Column} → v ≡ column_at c 3 → w ≡ column_at c 4 → Times p v u d → Times p w u e → r ≡ rows_of (column 1 0 0) (column 0 1 0) (column 0 0 1) d e → RowReducedOf p c u r
  row_reduced {d = d} {e = e} ev ew hd he q m k h =
      record {
        d = d;
        e = e;
        rows = q;
        d_below = hd.below;
        e_below = he.below;
        d_is = scaled p u k.z (column_at m 0) (column_at m 1) (column_at m 2) k.d (column_residues p m 3) k.d_is unit_is (subst (λ v. Times p v u d) (ev ∙ ap (λ n. column_at n 3) k.rows) hd);
        e_is = scaled p u k.z (column_at m 0) (column_at m 1) (column_at m 2) k.e (column_residues p m 4) k.e_is unit_is (subst (λ v. Times p v u e) (ew ∙ ap (λ n. column_at n 4) k.rows) he);
      }
    where
      unit_is : (Z p).mul (el p k.z) (el p u) ≡ (Z p).one
      unit_is = ap (λ n. (Z p).mul (el p (entry n 0 0)) (el p u)) (sym k.rows) ∙ h
