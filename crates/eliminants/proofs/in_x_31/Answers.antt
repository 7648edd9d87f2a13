-- `eliminants::in_x_31` meets its contract, by `in_x_31_of` of proofs/Formulas.
use Rattle.field.proofs.Invert.{prime-large}
use Rattle.eliminants.proofs.Formulas.{in_x_31_of}
use Rattle.eliminants.proofs.in_x_31.Goals as goal

pub add-c2-requires : goal.add-c2-requires
add-c2-requires c = let below = c.requires.shaped.below in record { below_1 = below 1; below_2 = below 5 }

pub mul_add-high-requires : goal.mul_add-high-requires
mul_add-high-requires c =
    let below = c.requires.shaped.below in
    record { below_1 = below 1; below_2 = below 5; below_3 = below 0 }

pub mul_sub-c1-requires : goal.mul_sub-c1-requires
mul_sub-c1-requires c =
    let below = c.requires.shaped.below in
    record { below_1 = below 2; below_2 = below 4; below_3 = c.mul_add-high.ensures.below }

pub mul-low-requires : goal.mul-low-requires
mul-low-requires c =
    let below = c.requires.shaped.below in
    record { below_1 = below 0; below_2 = below 5 }

pub mul_sub-c0-requires : goal.mul_sub-c0-requires
mul_sub-c0-requires c =
    let below = c.requires.shaped.below in
    record { below_1 = below 2; below_2 = below 3; below_3 = c.mul-low.ensures.below }

pub returns : goal.returns
returns c =
    let asked = c.requires in
    in_x_31_of (prime-large _ asked.prime) _ _ _ _ _ _ c.add-c2.ensures c.mul_add-high.ensures
    c.mul_sub-c1.ensures c.mul-low.ensures c.mul_sub-c0.ensures
