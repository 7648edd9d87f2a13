-- The formulas give the sum where they serve, and where they do not, f2 of the sum is zero or there are no pivots.
--   tried-from             … for an ideal that is of type 61 if the determinant is not zero
--   tried-sum, tried-double        … for the sum of two divisors, and for a double
use mathlib.Core.Path.{◌≡◌, sym, ◌∙◌, ap, subst}
use mathlib.Core.Logic.{inl, inr}
use mathlib.Core.List.{List}
use Rattle.std.specs.Prelude.{Option, Some, None}
use Prim.Native.Nat.{ℕ}
use Rattle.algebra.specs.Ring.{CommRing, Field, ops}
use Rattle.algebra.proofs.Laws.{one-mul}
use Rattle.field.specs.Residue.{Z, el}
use Rattle.prime_field.specs.Field.{F}
use Rattle.ideal.specs.Ideal.{Product}
use Rattle.ideal.specs.Poles.{Poles}
use Rattle.ideal.specs.Reduced.{IsReduced}
use Rattle.curve.specs.Curve.{Curve, Coordinate}
use Rattle.divisor.specs.Kind.{k31, IdealOf, IsBasis}
use Rattle.divisor.proofs.Members.{member}
use Rattle.invertible.proofs.Value as value
use Rattle.invertible.proofs.Adjugate.{q}
use Rattle.type61.proofs.Form.{cubic, quartic}
use Rattle.type61.proofs.Shape.{Type61}
use Rattle.type61_numbers.proofs.Record.{type61_record, type61_second}
use Rattle.columns.specs.Pivots.{determinant, difference, square}
use Rattle.columns.proofs.Column.{Solves}
use Rattle.columns.proofs.Products.{sum_type61, double_type61}
use Rattle.vector.specs.Vector.{at}
use Rattle.triple.specs.Setting.{Setting, poles_of}
use Rattle.ground.specs.declared.Ground.{Ground}
use Rattle.basis.specs.declared.Divisor.{Divisor}
use Rattle.basis.specs.Divisor.{numbers_of, residues}
use Rattle.matrix.specs.declared.Column.{Column}
use Rattle.matrix.specs.Matrix.{rows_of, residues_of}
use Rattle.matrix.specs.Contract.{Combines}
use Rattle.entries.specs.Contract.{lower_of, SumMatrix, DoubleMatrix}
use Rattle.usual.specs.Contract.{us_of, vs_of, Pivoted, Solved, Unsolved, SolvedOf}
use Rattle.usual.specs.Trial.{TriedAsked, curve_on, product_on, HasPivots, Summed, Untypical, TriedIs}
use Rattle.usual.proofs.Matrices.{lower-is, Columns, sum_columns, double_columns}

solves : (R : CommRing) (a b c s d : ℕ → R.Car) → Combines R a b c s R.one d → Solves R a b c d s
solves R a b c s d h i _ = sym (one-mul R (d i)) ∙ h i

module _ {g : Ground} {a b : Divisor} (A : TriedAsked g a b) where
  abbrev p : ℕ
  p = g.p

  abbrev R : CommRing
  R = Z p

  abbrev C : Curve R
  C = curve_on A

  abbrev S : Setting p
  S = A.grounded.ready.setting

  abbrev K : Field
  K = F p S.prime

  abbrev P : Poles (Coordinate C)
  P = poles_of S

  -- the product is of type 61 if the determinant of the columns ca, cb, cc is not zero
  abbrev OfType61 : (ca cb cc cd ce : Column) → Type 0
  OfType61 ca cb cc cd ce =
      ¬ (determinant (ops R) (residues_of p ca) (residues_of p cb) (residues_of p cc) ≡ R.zero) → (s t : ℕ → R.Car)
      → Solves R (residues_of p ca) (residues_of p cb) (residues_of p cc) (residues_of p cd) s → Solves R (residues_of p ca) (residues_of p cb) (residues_of p cc) (residues_of p ce) t
      → Type61 P (product_on A) (cubic C (us_of p a s)) (quartic C (vs_of p a t))

  module _ {ca cb cc cd ce : Column} {m : List (List ℕ)} (rows : m ≡ rows_of ca cb cc cd ce) (type61 : OfType61 ca cb cc cd ce)
      (there : ¬ (determinant (ops R) (residues_of p ca) (residues_of p cb) (residues_of p cc) ≡ R.zero) → HasPivots A)
      (back : HasPivots A → ¬ (determinant (ops R) (residues_of p ca) (residues_of p cb) (residues_of p cc) ≡ R.zero)) where
    shape : (q : Pivoted p (rows_of ca cb cc cd ce)) → Type61 P (product_on A) (cubic C (us_of p a q.s)) (quartic C (vs_of p a q.t))
    shape q = type61 q.pivots q.s q.t (solves R _ _ _ q.s _ q.s_is) (solves R _ _ _ q.t _ q.t_is)

    summed : {s : Divisor} → Solved p (lower_of g.cube) a (rows_of ca cb cc cd ce) s → Summed A s
    summed {s} v = record { pivots = there v.pivoted.pivots; based = record { shaped = v.shaped; basis = made.0 }; typical = v.typical; reduced = made.1 }
      where
        made : IsBasis C k31 (residues p s) × IsReduced P (product_on A) (IdealOf C k31 (residues p s))
        made =
            type61_record K C S.nonzero (us_of p a v.pivoted.s) (vs_of p a v.pivoted.t) (residues p s) (shape v.pivoted)
            (v.equations C (lower-is A.grounded.ready.cube)) v.typical

    untypical : Unsolved p (lower_of g.cube) a (rows_of ca cb cc cd ce) → Untypical A
    untypical (inl z) f κ n basis reduced = absurd (back f z)
    untypical (inr (q, z)) f κ n basis reduced =
        (type61_second K C S.nonzero (us_of p a q.s) (vs_of p a q.t) (shape q) κ n basis reduced).1 ∙ z C (lower-is A.grounded.ready.cube)

    tried-at : (r : Option Divisor) → SolvedOf p (lower_of g.cube) a (rows_of ca cb cc cd ce) r → TriedIs A r
    tried-at None h = record { yes = h.yes; no = untypical h.no }
    tried-at (Some s) h = record { yes = summed h.yes; no = h.no }

    pub tried-from : {r : Option Divisor} → SolvedOf p (lower_of g.cube) a m r → TriedIs A r
    tried-from {r} h = tried-at r (subst (λ n. SolvedOf p (lower_of g.cube) a n r) rows h)

  pub tried-sum : {m : List (List ℕ)} {r : Option Divisor} → ¬ (numbers_of a ≡ numbers_of b) → SumMatrix p (numbers_of a) (numbers_of b) m → SolvedOf p (lower_of g.cube) a m r → TriedIs A r
  tried-sum d M =
      tried-from M.rows
      (λ full s t. sum_type61 K C S.nonzero (residues p a) (residues p b) A.a_is.basis A.b_is.basis w.a_is w.b_is w.c_is full _ _ s t w.d_is w.e_is)
      (λ full. record { different = λ _ z. full (w.pivot_is ∙ z); equal = λ e. absurd (d e) })
      (λ h z. h.different d (sym w.pivot_is ∙ z))
    where
      w : Columns p C b (member C k31 (residues p a)) (difference (ops R) (residues p a) (residues p b)) M.a M.b M.c M.d M.e
      w = sum_columns p C a b M

  pub tried-double : {m : List (List ℕ)} {r : Option Divisor} → numbers_of a ≡ numbers_of b → DoubleMatrix p (lower_of g.cube) (numbers_of a) m → SolvedOf p (lower_of g.cube) a m r → TriedIs A r
  tried-double e M =
      tried-from M.rows
      (λ full s t hs ht.
      subst (λ n. Type61 P (Product (Coordinate C) (IdealOf C k31 (residues p a)) (IdealOf C k31 n)) (cubic C (us_of p a s)) (quartic C (vs_of p a t))) (ap (λ ns i. el p (at ns i)) e)
      (double_type61 K C S.nonzero (residues p a) A.a_is.basis w.a_is w.b_is w.c_is full _ _ s t w.d_is w.e_is hs ht))
      (λ full. record { different = λ d. absurd (d e); equal = λ _ z. full (w.pivot_is ∙ z) })
      (λ h z. h.equal e (sym w.pivot_is ∙ z))
    where
      w : Columns p C a (λ j. value.at C (residues p a) (q j)) (square (ops R) C.a0 C.c3 C.c4 C.c5 C.c6 C.c7 C.c8 (residues p a)) M.a M.b M.c M.d M.e
      w = double_columns p C (lower-is A.grounded.ready.cube) a M
