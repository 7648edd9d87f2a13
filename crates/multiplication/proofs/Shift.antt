-- What one turn of the loop of shift_y does, over plain variables.
--   shifted_start      before the first turn
--   shifted_more, shifted_skip     a turn that moves a number, and one that does not
--   shifted_as         the same for an equal array
--   shifted_end        after the last turn
use mathlib.Core.Path.{◌≡◌, refl, sym, ◌∙◌, ap, subst}
use mathlib.Core.List.{List}
use Prim.Native.Nat.{ℕ, ◌+◌, ◌%◌, ◌<◌}
use native.Mathlib.Omega.{arith}
use lib.ListN.{length, set, length-set, replicate}
use Rattle.vector.specs.Vector.{at}
use Rattle.vector.proofs.Loop.{set_cases, zeros-at}
use Rattle.multiplication.specs.Contract.{ShiftAsked, Shifted}

pub shifted_start : (v : List ℕ) → Shifted v 0 (replicate 26 0)
shifted_start v =
    record {
      len = refl;
      low = λ n l. zeros-at 26 n;
      moved = λ n l m. absurd (omega arith);
      dropped = λ n l. zeros-at 26 (n + 4);
      high = λ n l. zeros-at 26 (n + 4);
    }

pub shifted_more : {v r : List ℕ} {top n : ℕ} → ShiftAsked v top → Shifted v n r → n < top → n % 3 < 2 → Shifted v (n + 1) (set r (n + 4) (at v n))
shifted_more {v} {r} {top} {n} h a l k =
    record {
      len = length-set r (n + 4) (at v n) ∙ a.len;
      low = λ j m. set_cases (λ w. w ≡ 0) r (n + 4) (at v n) j inside (λ d. absurd (omega arith)) (λ d. a.low j m);
      moved = λ j m b. set_cases (λ w. w ≡ at v j) r (n + 4) (at v n) (j + 4) inside (λ d. ap (at v) (omega arith)) (λ d. a.moved j (omega arith) b);
      dropped = λ j m. set_cases (λ w. w ≡ 0) r (n + 4) (at v n) (j + 4) inside (λ d. absurd (omega arith)) (λ d. a.dropped j m);
      high = λ j m. set_cases (λ w. w ≡ 0) r (n + 4) (at v n) (j + 4) inside (λ d. absurd (omega arith)) (λ d. a.high j (omega arith));
    }
  where
    inside : n + 4 < length r
    inside = omega (arith, a.len, h.room)

pub shifted_skip : {v r : List ℕ} {n : ℕ} → Shifted v n r → n % 3 ≡ 2 → Shifted v (n + 1) r
shifted_skip {v} {r} {n} a k =
    record {
      len = a.len;
      low = a.low;
      moved = λ j m b. a.moved j (omega arith) b;
      dropped = a.dropped;
      high = λ j m. a.high j (omega arith);
    }

pub shifted_as : {v r r' : List ℕ} {n : ℕ} → r' ≡ r → Shifted v n r → Shifted v n r'
shifted_as {v} {n = n} e a = subst (λ l. Shifted v n l) (sym e) a

pub shifted_end : {v r : List ℕ} {n top : ℕ} → Shifted v n r → n ≡ top → Shifted v top r
shifted_end {v} {r} a d = subst (λ k. Shifted v k r) d a
