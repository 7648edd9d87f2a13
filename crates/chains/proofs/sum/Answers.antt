-- `chains::sum` meets its contract: each product is added or taken, and the sum is reduced.
use mathlib.Core.Path.{refl, ◌∙◌, ap}
use native.Mathlib.Omega.{arith}
use Rattle.barrett.proofs.Sums.{reduced-one}
use Rattle.chains.specs.Contract.{less_all}
use Rattle.chains.proofs.Loops.{first_below, second_below, added, taken, all-added, all_taken}
use Rattle.chains.proofs.sum.Goals as goal

pub loop-a-init : goal.loop-a-init
loop-a-init g c = record { most = omega arith; rest = refl; below = c.requires.plus_below }

pub add_product-total-requires : goal.add_product-total-requires
add_product-total-requires g c =
    let h = c.loop-a.invariant in
    record {
      small = c.requires.small;
      room = omega (arith, h.most, c.requires.few, c.requires.x_below, c.requires.small);
      below_1 = first_below c.args.plus (omega arith) h.below;
      below_2 = second_below c.args.plus (omega arith) h.below;
    }

pub loop-a-preserved : goal.loop-a-preserved
loop-a-preserved g c = added (omega arith) c.loop-a.invariant c.add_product-total.ensures

pub loop-c-init : goal.loop-c-init
loop-c-init g c = record { most = omega arith; rest = refl; below = c.requires.minus_below }

pub sub_product-total-requires : goal.sub_product-total-requires
sub_product-total-requires g c =
    let h = c.loop-c.invariant in
    record {
      small = c.requires.small;
      room = omega (arith, h.most, c.loop-a.invariant.most, c.requires.few, c.requires.x_below, c.requires.small);
      below_1 = first_below c.args.minus (omega arith) h.below;
      below_2 = second_below c.args.minus (omega arith) h.below;
    }

pub loop-c-preserved : goal.loop-c-preserved
loop-c-preserved g c = taken (omega arith) c.loop-c.invariant c.sub_product-total.ensures

pub reduce_half-requires : goal.reduce_half-requires
reduce_half-requires g c = omega (arith, c.loop-c.invariant.most, c.loop-a.invariant.most, c.requires.few, c.requires.x_below, c.requires.small)

pub returns-then-this-le2 : goal.returns-then-this-le2
returns-then-this-le2 g c =
    reduced-one _ c.reduce_half.ensures
    (all_taken (omega arith) c.loop-c.invariant ∙ ap (λ y. less_all c.args.modulus.p y c.args.minus) (all-added (omega arith) c.loop-a.invariant))

pub returns-else-this-le2 : goal.returns-else-this-le2
returns-else-this-le2 g c =
    reduced-one _ c.reduce.ensures
    (all_taken (omega arith) c.loop-c.invariant ∙ ap (λ y. less_all c.args.modulus.p y c.args.minus) (all-added (omega arith) c.loop-a.invariant))
