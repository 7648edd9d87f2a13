-- What stands finds, from what read_pair found of the pair.
--   stands_asked       the search of the multiplicity may be made
--   stands-point       a point: its multiplicity
--   stands-other       a pair that is refused is no point
use mathlib.Core.Path.{refl}
use mathlib.Core.Logic.{inl, inr}
use mathlib.Core.List.{List}
use Prim.Native.Nat.{ℕ}
use Rattle.std.specs.Prelude.{Ok, Err}
use Rattle.refusal.specs.Refusal.{number_of}
use Rattle.refusal.specs.declared.Refusal.{Refusal}
use Rattle.ground.specs.declared.Ground.{Ground}
use Rattle.basis.specs.declared.Divisor.{Divisor}
use Rattle.basis.specs.Contract.{TripleOf}
use Rattle.multiplicity.specs.Contract.{MultiplicityAsked, MultiplicityFound}
use Rattle.record.specs.Cause.{FirstCause}
use Rattle.classes.specs.Found.{OnCurves}
use Rattle.point.specs.Point.{Pair, Point}
use Rattle.point.specs.PointCall.{pair_stages}
use Rattle.pair.specs.Contract.{PairRead}
use Rattle.listing.specs.Contract.{StandsAsked, Stands}
use Rattle.listing.proofs.Multiples.{multiplicity_asked, multiplicity_found}

no-point : (c : List ℕ) (q : Pair) (n : ℕ) → FirstCause (pair_stages c q) n → ¬ Point c q
no-point c q n (inl (f, _)) (i, o) = f i
no-point c q n (inr (_, inl (f, _))) (i, o) = f o
no-point c q n (inr (_, inr (_, e))) p = e

module _ {g : Ground} (r : Divisor) (a b : ℕ) where
  module _ (x : Divisor) (given : OnCurves g (λ c. PairRead c (a, b) (Ok x))) where
    pub stands_asked : {t u : List (List ℕ)} {d e : List ℕ} → TripleOf x u e → StandsAsked g r t d → MultiplicityAsked g.p g.cube t d u e
    stands_asked triple s =
        let o = s.divided.2 in
        multiplicity_asked o s.divided.3 (a, b) (given s.divided.0 o).1 s.triple triple

    pub stands-point : {t u : List (List ℕ)} {d e : List ℕ} → TripleOf x u e → TripleOf r t d → {k : ℕ} → MultiplicityFound g.p g.cube t u k → Stands g r a b k
    stands-point triple s f =
        record { found = λ c w o v. let p = given c o in inl (p.0, multiplicity_found o v (a, b) p.1 s triple p.0 f) }

  pub stands-other : (e : Refusal) → OnCurves g (λ c. PairRead c (a, b) (Err e)) → Stands g r a b 0
  stands-other e h = record { found = λ c w o v. inr (no-point c (a, b) (number_of e) (h c o), refl) }
