-- What opposite computes: −v over the lead of a product of two monic elements.
--   opposite-one, opposite_turn        over the lead 1, and over the lead −a0
use mathlib.Core.Path.{◌≡◌, sym, ◌∙◌, ap}
use Prim.Native.Nat.{ℕ, ◌+◌, ◌%◌, ◌<◌, ◌≤◌}
use native.Mathlib.Omega.{arith}
use Rattle.algebra.proofs.Laws as L
use Rattle.field.specs.Residue.{Z, el}
use Rattle.field.specs.Contract.{Is}
use Rattle.curve.specs.Curve.{Curve}
use Rattle.curve.specs.Sequence.{twist}
use Rattle.curve.proofs.Lead.{twist-one, twist_turn}
use Rattle.ground.specs.Ground.{UnitOf}
use Rattle.lambda.specs.declared.Pose.{Pose}
use Rattle.lambda.specs.Lambda.{Opposite, OppositeOf}

module _ {q : Pose} where
  open q use {p, unit}

  pub opposite-one : {m v r : ℕ} → m < 3 → Is p r ((Z p).neg (el p v)) → OppositeOf q m v r
  opposite-one {m} {v} {r} h i = record { below = i.below; is = go }
    where
      go : (C : Curve (Z p)) (a b : ℕ) → UnitOf p unit C → a % 3 + b % 3 ≡ m → Opposite q (twist C a b) (el p v) r
      go C a b u e =
          ((Z p).one, ap ((Z p).mul (Z p).one) (twist-one C a b (omega arith)) ∙ (Z p).mul_one _, i.is ∙ ap (Z p).neg (sym (L.one-mul (Z p) _)))

  pub opposite_turn : {m v w r : ℕ} → 3 ≤ m → Is p w ((Z p).mul (el p unit) (el p v)) → Is p r ((Z p).neg (el p w)) → OppositeOf q m v r
  opposite_turn {m} {v} {w} {r} h j i = record { below = i.below; is = go }
    where
      go : (C : Curve (Z p)) (a b : ℕ) → UnitOf p unit C → a % 3 + b % 3 ≡ m → Opposite q (twist C a b) (el p v) r
      go C a b u e =
          (el p unit, ap ((Z p).mul (el p unit)) (twist_turn C a b (omega arith)) ∙ u.inverse, i.is ∙ ap (Z p).neg j.is)
