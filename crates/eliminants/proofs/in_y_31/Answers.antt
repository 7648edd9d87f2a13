-- `eliminants::in_y_31` meets its contract: the first polynomial where f2 is not 0, and else the one in which y leads.
use Rattle.field.proofs.Invert.{prime-large}
use Rattle.eliminants.proofs.Formulas.{in_y_31-of, first_of}
use Rattle.eliminants.proofs.in_y_31.Goals as goal

pub mul_add-c0-requires : goal.mul_add-c0-requires
mul_add-c0-requires c =
    let asked = c.requires in
    let below = asked.asked.shaped.below in
    record { below_1 = below 7; below_2 = asked.below; below_3 = below 6 }

pub returns-then-r-eq0 : goal.returns-then-r-eq0
returns-then-r-eq0 c =
    let asked = c.requires in
    record {
      line = λ n. absurd (n c.if-r-eq0.true);
      square = λ e. in_y_31-of (prime-large _ asked.asked.prime) _ _ _ _ (asked.asked.shaped.below 8) c.mul_add-c0.ensures;
    }

pub add-sum-requires : goal.add-sum-requires
add-sum-requires c =
    let asked = c.requires in
    record { below_1 = asked.below; below_2 = asked.asked.shaped.below 1 }

pub mul_add-c0-requires-2 : goal.mul_add-c0-requires-2
mul_add-c0-requires-2 c =
    let asked = c.requires in
    record { below_1 = c.add-sum.ensures.below; below_2 = asked.below; below_3 = asked.asked.shaped.below 0 }

pub returns : goal.returns
returns c =
    let asked = c.requires in
    record {
      line = λ n. first_of (prime-large _ asked.asked.prime) _ _ _ _ (asked.asked.shaped.below 2) c.add-sum.ensures c.mul_add-c0-2.ensures;
      square = λ e. absurd (c.if-r-eq0.false e);
    }
