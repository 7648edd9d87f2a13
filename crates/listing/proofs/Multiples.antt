-- The multiplicity of a point, by the triples of the divisor and of the point.
--   multiplicity_none      a point whose ideal does not hold the divisor's has multiplicity 0
--   multiplicity_asked     what the search of the multiplicity asks
--   multiplicity_found     … and that it finds the multiplicity
use mathlib.Core.Path.{sym, subst}
use mathlib.Core.List.{List}
use Prim.Native.Nat.{ℕ, zero, suc, ◌<◌, ◌≤◌}
use native.Mathlib.Omega.{arith}
use native.Mathlib.Decide.{dec_lt}
use Rattle.ideal.specs.Ideal.{IsIdeal, SameIdeal}
use Rattle.ideal.proofs.Same.{same_trans}
use Rattle.powers.specs.Power.{Power, Inside}
use Rattle.powers.proofs.Powers.{power-one, power-same, power-less}
use Rattle.triple.specs.Setting.{Setting}
use Rattle.triple.specs.Triple.{Spanned}
use Rattle.ground.specs.declared.Ground.{Ground}
use Rattle.basis.specs.declared.Divisor.{Divisor}
use Rattle.basis.specs.Contract.{TripleOf}
use Rattle.group.specs.Contract.{IsDivisor, ideal}
use Rattle.group.proofs.Divisor.{divisor_tripled, divisor_span, divisor-same}
use Rattle.multiplicity.specs.Contract.{MultiplicityAsked, MultiplicityFound}
use Rattle.record.specs.Curve.{modulus, AcceptedCurve, setting_of}
use Rattle.reader.specs.Reading.{On, GivenOn}
use Rattle.reader.proofs.Ground.{ground-is, grounded-at}
use Rattle.calls.specs.Class.{Ring, Ideal}
use Rattle.calls.proofs.Values.{value_ideal}
use Rattle.point.specs.Point.{Pair, Point, point_record, PointPower, IsMultiplicity}
use Rattle.point.proofs.Copies.{most-three}

module _ (c : List ℕ) (A : AcceptedCurve c) where
  abbrev S : Setting (modulus c)
  S = setting_of c A

  module _ {w : List ℕ} {r : Divisor} (v : GivenOn c w r) where
    abbrev D : IsDivisor S r
    D = record { kind = v.kind; based = v.based }

    -- the ideal of a divisor's bytes is the span of its triple
    given_span : {t : List (List ℕ)} {d : List ℕ} → TripleOf r t d → SameIdeal (Ring c) (Spanned S t) (Ideal c w)
    given_span h =
        same_trans (Ring c) (divisor-same S D h)
        (subst (λ (s : List ℕ). SameIdeal (Ring c) (ideal S r D) (Ideal c s)) v.bytes (value_ideal c A v.kind r v.based.shaped))

  -- A point whose ideal does not hold the divisor's has multiplicity 0.
  pub multiplicity_none : (w : List ℕ) (q : Pair) → IsIdeal (Ring c) (Ideal c (point_record c q)) → ¬ Inside (Ring c) (Ideal c w) (Ideal c (point_record c q))
      → IsMultiplicity c w q 0
  multiplicity_none w q i n = record { inside = λ h m. tt; largest = λ j. largest j }
    where
      largest : (j : ℕ) → Inside (Ring c) (Ideal c w) (PointPower c q j) → j ≤ 0
      largest zero m = omega arith
      largest (suc j) m = absurd (n (λ h k. (power-one (Ring c) i h).0 (power-less (Ring c) (Ideal c (point_record c q)) 1 (suc j) (omega arith) h (m h k))))

module _ {c : List ℕ} {g : Ground} (o : On c g) {w : List ℕ} {r x : Divisor} (v : GivenOn c w r) (q : Pair) (vx : GivenOn c (point_record c q) x)
    {t u : List (List ℕ)} {d e : List ℕ} (h : TripleOf r t d) (hx : TripleOf x u e) where
  abbrev A : AcceptedCurve c
  A = o.accepted

  pub multiplicity_asked : MultiplicityAsked g.p g.cube t d u e
  multiplicity_asked =
      let tr = divisor_tripled (S c A) (D c A v) h in
      let tx = divisor_tripled (S c A) (D c A vx) hx in
      subst (λ (k : Ground). MultiplicityAsked k.p k.cube t d u e) (sym (ground-is o))
      (record { ready = (grounded-at o).ready; full_t = tr.full; small_t = tr.small; full_u = tx.full; small_u = tx.small })

  pub multiplicity_found : Point c q → {k : ℕ} → MultiplicityFound g.p g.cube t u k → IsMultiplicity c w q k
  multiplicity_found pt {k} f = record { inside = inside; largest = λ j m. largest j m (dec_lt k j) (dec_lt k 3) }
    where
      found : MultiplicityFound (modulus c) g.cube t u k
      found = subst (λ (k' : Ground). MultiplicityFound k'.p k'.cube t u k) (ground-is o) f

      same : (j : ℕ) → SameIdeal (Ring c) (Power (Ring c) (Spanned (S c A) u) j) (PointPower c q j)
      same = power-same (Ring c) (given_span c A vx hx)

      span : IsIdeal (Ring c) (Spanned (S c A) u)
      span = divisor_span (S c A) (D c A vx) hx

      inside : Inside (Ring c) (Ideal c w) (PointPower c q k)
      inside a m = (same k a).0 (found.held (grounded-at o).ready span a ((given_span c A v h a).1 m))

      largest : (j : ℕ) → Inside (Ring c) (Ideal c w) (PointPower c q j) → Dec (k < j) → Dec (k < 3) → j ≤ k
      largest j m (no l) b = omega arith
      largest j m (yes l) (no b) = omega (arith, most-three c A w v.accepted q pt j m)
      largest j m (yes l) (yes b) =
          absurd
          (found.above (grounded-at o).ready span b
          (λ a i. (same (suc k) a).1 (power-less (Ring c) (Ideal c (point_record c q)) (suc k) j (omega arith) a (m a ((given_span c A v h a).0 i)))))
