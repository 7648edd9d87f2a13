-- What one call on a pool asks and leaves, by the numbers of its code.
--   sizes                  both slots have a length field, and the bytes that it gives
--   cast_fits, copy_fits   the length that a call returned fits, in the pool and in the buffer
--   step_short, step_long  what a call with a short buffer leaves, and another one
use mathlib.Core.Path.{◌≡◌, sym, ap, ◌∙◌, subst}
use mathlib.Core.List.{List}
use Prim.Native.Nat.{ℕ, ◌+◌, ◌-◌, ◌*◌, ◌<◌, ◌≤◌}
use native.Mathlib.Omega.{arith}
use lib.ListN.{length}
use lib.IntN.{ℤ, pos, nat_abs}
use lib.Dec.{T}
use lib.Signed.{non_neg}
use mir.Val.{Fits}
use mir.Syntax.{w64}
use Rattle.calls.specs.Call.{Sum, room}
use Rattle.calls.specs.Pool.{amount}
use Rattle.calls.proofs.Places.{long-enough, too_short}
use Rattle.slots.specs.Held.{slot, at_slot, Held, Copied, Closed}
use Rattle.pool.specs.Run.{InSlot, Accepted, StepAsked, StepMade, CallMade}
use Rattle.pool.proofs.Calls.{sized, Wrote, wrote, made-short, made-long}

module _ (c s : List ℕ) (n i j : ℕ) (asked : StepAsked c s n i j) where
  pub sizes : InSlot s i × InSlot s j
  sizes = (
    sized c s asked.pool asked.held asked.accepted i (omega (arith, asked.count, asked.i_below)),
    sized c s asked.pool asked.held asked.accepted j (omega (arith, asked.count, asked.j_below)),
  )

  module _ (out : List ℕ) (r : ℤ) (out' : List ℕ) (sum : Sum c (at_slot s i) (at_slot s j) out r out') where
    pub step_short : length out < room → StepMade c s n i j out s n
    step_short l = record {
      left = sym (too_short room (length out) (n - 1) n l);
      made =
          λ p e h a. subst (λ (m : ℕ). CallMade c p i j out s m) e
          (made-short c asked.curve s p h a i j (omega (arith, e, asked.i_below)) (omega (arith, e, asked.j_below)) asked.apart out r out' sum l);
    }

    module _ (y : ℤ) (read : y ≡ r) (l : room ≤ length out) where
      has : Wrote c out r out'
      has =
          wrote c asked.curve s asked.pool asked.held asked.accepted i j (omega (arith, asked.count, asked.i_below))
          (omega (arith, asked.count, asked.j_below)) asked.apart out r out' sum l

      is : y ≡ pos (length has.w)
      is = read ∙ has.returned

      pub cast_fits : T (non_neg y) × Fits w64 (nat_abs y)
      cast_fits = subst (λ (z : ℤ). T (non_neg z) × Fits w64 (nat_abs z)) (sym is) (tt, omega (arith, has.few))

      size : nat_abs y ≡ length has.w
      size = ap nat_abs is

      pub copy_fits : (s₁ : List ℕ) → length s₁ ≡ length s → length out' ≡ length out
          → (40 * (n - 2) + nat_abs y ≤ length s₁) × (nat_abs y ≤ length out')
      copy_fits s₁ e f = (
        omega (arith, size, has.few, e, asked.held.fits, asked.count, asked.i_below, asked.j_below, asked.apart),
        omega (arith, size, has.few, f),
      )

      pub step_long : (s₁ s₂ : List ℕ) → length s₁ ≡ length s → Closed s n i j s₁ → Copied s₁ (40 * (n - 2)) out' 0 (nat_abs y) s₂
          → StepMade c s n i j out s₂ (n - 1)
      step_long s₁ s₂ long closed copied = record {
        left = sym (long-enough room (length out) (n - 1) n l);
        made = made;
      }
        where
          same : nat_abs y ≡ amount r
          same = size ∙ sym (ap amount has.returned)

          made : (p : List (List ℕ)) → length p ≡ n → Held s p → Accepted c p → CallMade c p i j out s₂ (n - 1)
          made p e h a =
              subst (λ (m : ℕ). CallMade c p i j out s₂ (m - 1)) e
              (made-long c asked.curve s p h a i j (omega (arith, e, asked.i_below)) (omega (arith, e, asked.j_below)) asked.apart out r out' sum
              s₁ s₂ l long (closed p e h)
              (subst (λ (m : ℕ). Copied s₁ (slot (m - 2)) out' 0 (amount r) s₂) (sym e)
              (subst (λ (m : ℕ). Copied s₁ (slot (n - 2)) out' 0 m s₂) same copied)))
