-- `vector::scale` meets its contract. The loop's invariant: what it ensures holds for the numbers seen so far, the rest put behind them.
use Rattle.std.proofs.Common.{◌≡◌, ℕ, ◌+◌, ◌<◌, ◌++◌, List, subst, drop, length, arith}
use Rattle.std.proofs.lemmas.List.{take-append-drop, set-append_left, get_or_append_left, length-take}
use Rattle.field.specs.Residue.{Z, el}
use Rattle.field.specs.Contract.{Is}
use Rattle.vector.specs.Contract.{Scaled}
use Rattle.vector.specs.Vector.{at, res}
use Rattle.vector.proofs.Loop.{scaled_start, scaled_more, scaled_end}
use Rattle.vector.proofs.scale.Goals as goal

-- the number at a place of the first list stands there in the two lists together
front : (xs ys : List ℕ) (n : ℕ) → n < length xs → at (xs ++ ys) n ≡ at xs n
front xs ys n h = get_or_append_left xs ys 0 n h

pub loop-a-init : goal.loop-a-init
loop-a-init c = rw take-append-drop (scaled_start c.requires)

pub mul-requires : goal.mul-requires
mul-requires c =
    let e = front c.loop-a.a-items (drop c.args.e c.args.v.now) c.loop-a.a-index (omega arith) in
    record { below_1 = c.requires.c_below; below_2 = subst (λ n. n < c.args.p) e (c.loop-a.invariant.vec.below _) }

pub loop-a-preserved : goal.loop-a-preserved
loop-a-preserved c =
    let p = c.args.p in
    let rest = drop c.args.e c.args.v.now in
    let e = front c.loop-a.a-items rest c.loop-a.a-index (omega arith) in
    let i : Is p c.mul.result ((Z p).mul (el p c.args.c) (res p (c.loop-a.a-items ++ rest) c.loop-a.a-index)) = rw e c.mul.ensures in
    let stored = set-append_left c.loop-a.a-items rest c.loop-a.a-index c.mul.result (omega arith) in
    subst (Scaled p c.args.v.now c.args.c (c.loop-a.a-index + 1)) stored
    (scaled_more c.requires c.loop-a.invariant (omega (arith, length-take {A = ℕ})) i)

pub returns : goal.returns
returns c = scaled_end c.loop-a.invariant (omega (arith, length-take {A = ℕ}))
