-- `inversion::inverse_by` meets its contract. The loop's invariant is State of proofs/Binary, and its measure x + y.
use Rattle.std.proofs.Common.{not, ltb, arith}
use mathlib.Core.Bool.{beq}
use lib.Count.{count_trailing_zeros, trailing_le}
use Rattle.inversion.proofs.Zeros.{trailing, part-below}
use Rattle.inversion.proofs.Binary.{state-start, state-bits, state-sum, Turn, turn}
use Rattle.inversion.proofs.Finish.{prime-odd, end-most, finish, small-inverse}
use Rattle.inversion.proofs.inverse_by.Goals as goal
use Rattle.inversion.proofs.inverse_by.Goals.{After-select_unpredictable-y}

-- what the calls of a turn give
turned : (c : After-select_unpredictable-y) → Turn c.args.p c.args.a c.loop-y.x c.loop-y.y c.loop-y.cx c.loop-y.cy c.loop-y.k (count_trailing_zeros 64 c.wrapping_sub_u64-down.result)
    c.select_unpredictable-d.result c.select_unpredictable-c.result c.select_unpredictable-y.result (not (beq c.loop-y.negative (ltb c.loop-y.x c.loop-y.y)))
turned c =
    turn c.requires.invertible.prime (omega arith) c.loop-y.invariant (λ e. omega arith) _ _ _ _ _ (omega arith) (omega arith) c.wrapping_sub_u64-up.ensures.value c.wrapping_sub_u64-down.ensures.value
    c.select_unpredictable-d.ensures c.select_unpredictable-c.ensures c.select_unpredictable-y.ensures

pub returns-then-a-lt2 : goal.returns-then-a-lt2
returns-then-a-lt2 c = small-inverse _ _ c.requires.invertible.prime (omega arith)

pub overflow_cast-y-2 : goal.overflow_cast-y-2
overflow_cast-y-2 c = omega (arith, trailing_le 64 c.args.a)

pub overflow_shr-y : goal.overflow_shr-y
overflow_shr-y c = part-below _ _ (trailing 64 _ (omega arith) (omega arith)) (omega arith)

pub loop-y-init : goal.loop-y-init
loop-y-init c = state-start _ _ _ (trailing 64 _ (omega arith) (omega arith)) (prime-odd _ c.requires.invertible.prime (omega arith)) (omega arith) (omega arith)

pub wrapping_sub_u64-up-requires : goal.wrapping_sub_u64-up-requires
wrapping_sub_u64-up-requires c = tt

pub wrapping_sub_u64-down-requires : goal.wrapping_sub_u64-down-requires
wrapping_sub_u64-down-requires c = tt

pub overflow_add-cx : goal.overflow_add-cx
overflow_add-cx c = omega (arith, state-sum c.loop-y.invariant)

pub overflow_cast-cy : goal.overflow_cast-cy
overflow_cast-cy c = omega (arith, (turned (goal.at.overflow_cast-cy c).After-select_unpredictable-y).zeros)

pub overflow_shl-cy : goal.overflow_shl-cy
overflow_shl-cy c = (turned (goal.at.overflow_shl-cy c).After-select_unpredictable-y).zeros

pub overflow_cast-x : goal.overflow_cast-x
overflow_cast-x c = omega (arith, (turned (goal.at.overflow_cast-x c).After-select_unpredictable-y).zeros)

pub overflow_shr-x : goal.overflow_shr-x
overflow_shr-x c = (turned (goal.at.overflow_shr-x c).After-select_unpredictable-y).zeros

pub overflow_add-k : goal.overflow_add-k
overflow_add-k c = omega (arith, state-bits (turned (goal.at.overflow_add-k c).After-select_unpredictable-y).state)

pub loop-y-smaller : goal.loop-y-smaller
loop-y-smaller c = (turned (goal.at.loop-y-smaller c).After-select_unpredictable-y).less

pub loop-y-preserved : goal.loop-y-preserved
loop-y-preserved c = (turned (goal.at.loop-y-preserved c).After-select_unpredictable-y).state

pub ended-requires : goal.ended-requires
ended-requires c =
    record {
      below = omega arith;
      opposite = c.requires.opposite_of (record { below = omega arith; odd = prime-odd _ c.requires.invertible.prime (omega arith) });
      most = omega (arith, state-sum c.loop-y.invariant);
      bits = state-bits c.loop-y.invariant;
    }

pub overflow_cast-result : goal.overflow_cast-result
overflow_cast-result c = omega (arith, end-most c.ended.ensures)

pub returns : goal.returns
returns c =
    let h = c.requires.invertible.prime in
    finish h (prime-odd _ h (omega arith)) (omega arith) (omega arith) c.loop-y.invariant (omega arith) c.ended.ensures
