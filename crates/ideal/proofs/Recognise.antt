-- How the result of an algorithm is recognised as a colon ideal.
--   recognise          a space U inside (f : I) is (f : I) if each pole number n that U lacks is met by a lead d + 5 − n of I
--   colon_member       g is in (f : I), f least, if g takes an element of I of each pole number d + 1, d + 2, d + 5 into the kernel
use mathlib.Core.Path.{◌≡◌, subst}
use mathlib.Core.Logic.{◌⊎◌, inl, inr}
use Prim.Native.Nat.{ℕ, ◌+◌, ◌-◌, ◌≤◌}
use native.Mathlib.Omega.{arith}
use Rattle.algebra.specs.Ring.{CommRing}
use Rattle.ideal.specs.Ideal.{IsIdeal, Colon, SameIdeal}
use Rattle.ideal.specs.Poles.{largest_gap, IsGap, IsPole, Poles, HasPole}
use Rattle.ideal.proofs.Gaps.{gap_dec}
use Rattle.ideal.proofs.Degree.{pole-number}
use Rattle.ideal.proofs.Leads.{IsSpace, ideal_space, Lead, Based, lowering}
use Rattle.ideal.proofs.Colon.{Taken, colon_ideal, colon_not, ker_leads, above_taken}

module _ {R : CommRing} (P : Poles R) {f : R.Car} {d : ℕ} (pf : HasPole P f d) {I : R.Car → Type 0} where
  open R use {Car}

  pub recognise : {U : Car → Type 0} → IsSpace P U → Based P U → ((g : Car) → U g → Colon R f I g)
      → ((n : ℕ) → IsPole n → ¬ Lead P U n → (m : ℕ) × Lead P I m × (n + m ≡ d + largest_gap)) → SameIdeal R U (Colon R f I)
  recognise {U} s base in' met g = (in' g, lowering P s (ideal_space P (colon_ideal R f I)) in' leads g)
    where
      at : (n : ℕ) → Lead P (Colon R f I) n → Dec (Lead P U n) → Lead P U n
      at n l (yes have) = have
      at n (g, k, pg) (no none) = absurd (go (met n (pole-number P pg) none))
        where
          go : (m : ℕ) × Lead P I m × (n + m ≡ d + largest_gap) → ⊥
          go (m, (u, mu, pu), e) = colon_not P pf k pg mu pu e

      leads : (n : ℕ) → Lead P (Colon R f I) n → Lead P U n
      leads n l = at n l (base n)

  pub colon_member : IsIdeal R I → I f → ((h : Car) (n : ℕ) → I h → HasPole P h n → d ≤ n) → (g : Car)
      → ((m : ℕ) → IsGap m → (¬ Lead P I (d + m)) ⊎ Taken P f d I g (d + m)) → Colon R f I g
  colon_member i mf lowest g near = ker_leads P pf i (λ n lead. go n lead (gap_dec (n - d)))
    where
      at : (n : ℕ) → Lead P I n → d ≤ n → (¬ Lead P I (d + (n - d))) ⊎ Taken P f d I g (d + (n - d)) → Taken P f d I g n
      at n lead l (inl none) = absurd (none (subst (Lead P I) (omega arith) lead))
      at n lead l (inr taken) = subst (Taken P f d I g) (omega arith) taken

      go : (n : ℕ) → Lead P I n → Dec (IsGap (n - d)) → Taken P f d I g n
      go n (u, mu, pu) (yes gap) = at n (u, mu, pu) (lowest u n mu pu) (near (n - d) gap)
      go n (u, mu, pu) (no pole) = above_taken P pf i mf g pole (omega (arith, lowest u n mu pu))
