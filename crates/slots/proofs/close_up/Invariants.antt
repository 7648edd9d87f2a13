-- `slots::close_up` meets its contract. The loop's invariant: m slots are passed, and what is left of their records stands in the first w slots.
use Prim.Native.Nat.{ℕ, ◌≤◌}
use mathlib.Core.Path.{◌≡◌}
use mathlib.Core.List.{List}
use lib.ListN.{length}
use Rattle.slots.specs.Held.{Held}
use Rattle.slots.proofs.Slots.{Closing}
use Rattle.slots.proofs.close_up.Given as goal

abbrev pub invariant-loop-m : goal.invariant-loop-m
invariant-loop-m l =
    (l.w ≤ l.m)
    × (length l.s ≡ length l.initial.s)
    × ((p : List (List ℕ)) → length p ≡ l.n → Held l.initial.s p → Closing l.i l.j p l.m l.w l.s)
