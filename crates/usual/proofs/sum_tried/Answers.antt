-- `usual::sum_tried` meets its contract: the sum by the matrix of the two divisors.
use mathlib.Core.Path.{sym, subst}
use Prim.Native.Nat.{◌<◌}
use Rattle.matrix.specs.Matrix.{MatrixBelow}
use Rattle.usual.specs.Contract.{MatrixAsked, SolveAsked}
use Rattle.usual.proofs.Asked.{lower_below, numbers_below, matrix_below, matrix_tried}
use Rattle.usual.proofs.sum_tried.Goals as goal

pub matrix_of-m-requires : goal.matrix_of-m-requires
matrix_of-m-requires c =
    let asked = c.requires in
    let small = asked.grounded.small in
    subst (λ p. MatrixAsked p c.lower_of-o.result c.args.a c.args.b) (sym asked.grounded.divides)
    (record {
      o_below = lower_below small asked.grounded.ready.y3_vec c.lower_of-o.ensures;
      a_below = numbers_below small asked.a_is.shaped;
      b_below = numbers_below small asked.b_is.shaped;
    })

pub solved-requires : goal.solved-requires
solved-requires c =
    let asked = c.requires in
    let small = asked.grounded.small in
    let at = asked.grounded.divides in
    subst (λ p. SolveAsked p c.lower_of-o.result c.args.a c.matrix_of-m.result) (sym at)
    (record {
      prime = asked.grounded.ready.setting.prime;
      o_below = lower_below small asked.grounded.ready.y3_vec c.lower_of-o.ensures;
      n_below = numbers_below small asked.a_is.shaped;
      m_below = subst (λ p. MatrixBelow p c.matrix_of-m.result) at (matrix_below c.args.a c.args.b (subst (λ p. p < 2147483648) (sym at) small) c.matrix_of-m.ensures);
    })

pub returns : goal.returns
returns c = matrix_tried c.lower_of-o.ensures c.requires.grounded.divides c.matrix_of-m.ensures c.solved.ensures
