-- Lists of elements by number, and their spans.
--   listed-each, listed_at, listed-rest    what holds of each element of listed f n bs
--   span_cons              one element more on both sides
--   listed_same            … and several
use mathlib.Core.Path.{◌≡◌, sym, subst}
use mathlib.Core.List.{List, ◌∷◌}
use Prim.Native.Nat.{ℕ, zero, suc, ◌<◌}
use native.Mathlib.Omega.{arith}
use native.Mathlib.Decide.{ℕ_discrete}
use Rattle.algebra.specs.Ring.{CommRing}
use Rattle.ideal.specs.Ideal.{SameIdeal}
use Rattle.ideal.specs.Poles.{Poles}
use Rattle.ideal.proofs.Every.{Every, every_map}
use Rattle.ideal.proofs.Span.{Span, span_each, span_first, span_rest, span_same}
use Rattle.triple.specs.Triple.{listed}

module _ {A : Type 0} (Q : A → Type 0) (f : ℕ → A) where
  pub listed-each : (n : ℕ) (bs : List A) → ((i : ℕ) → i < n → Q (f i)) → Every Q bs → Every Q (listed f n bs)
  listed-each zero bs g q = q
  listed-each (suc n) bs g q = (g n (omega arith), listed-each n bs (λ i l. g i (omega arith)) q)

  pub listed_at : (n : ℕ) (bs : List A) → Every Q (listed f n bs) → (i : ℕ) → i < n → Q (f i)
  listed_at zero bs q i l = absurd (omega arith)
  listed_at (suc n) bs (q, qs) i l = go (listed_at n bs qs i) (ℕ_discrete i n)
    where
      go : (i < n → Q (f i)) → Dec (i ≡ n) → Q (f i)
      go r (yes e) = subst (λ i. Q (f i)) (sym e) q
      go r (no e) = r (omega arith)

  pub listed-rest : (n : ℕ) (bs : List A) → Every Q (listed f n bs) → Every Q bs
  listed-rest zero bs q = q
  listed-rest (suc n) bs (q, qs) = listed-rest n bs qs

module _ {R : CommRing} (P : Poles R) where
  pub span_cons : (bs cs : List R.Car) (u : R.Car) → SameIdeal R (Span P bs) (Span P cs) → SameIdeal R (Span P (u ∷ bs)) (Span P (u ∷ cs))
  span_cons bs cs u e =
      span_same P (u ∷ bs) (u ∷ cs) (span_first P u cs, every_map (λ b m. span_rest P u cs b ((e b).0 m)) bs (span_each P bs))
      (span_first P u bs, every_map (λ c m. span_rest P u bs c ((e c).1 m)) cs (span_each P cs))

  pub listed_same : (f : ℕ → R.Car) (n : ℕ) (bs cs : List R.Car) → SameIdeal R (Span P bs) (Span P cs) → SameIdeal R (Span P (listed f n bs)) (Span P (listed f n cs))
  listed_same f zero bs cs e = e
  listed_same f (suc n) bs cs e = span_cons (listed f n bs) (listed f n cs) (f n) (listed_same f n bs cs e)
