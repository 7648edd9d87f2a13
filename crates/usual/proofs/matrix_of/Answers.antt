-- `usual::matrix_of` meets its contract: the arrays of the numbers are the same exactly where the numbers are.
use mathlib.Core.Path.{sym, ◌∙◌, subst}
use mathlib.Core.Bool.{true≢false}
use mathlib.Core.Logic.{inl, inr}
use lib.Pointwise.{bytes_decides}
use Rattle.basis.specs.Divisor.{numbers_of}
use Rattle.entries.specs.Contract.{NumbersBelow, SumMatrix, DoubleMatrix}
use Rattle.usual.proofs.matrix_of.Goals as goal

pub double_matrix-requires : goal.double_matrix-requires
double_matrix-requires c =
    record { o_below = c.requires.o_below; n_below = subst (NumbersBelow c.args.modulus.p) (sym c.numbers-x.ensures) c.requires.a_below }

pub sum_matrix-requires : goal.sum_matrix-requires
sum_matrix-requires c =
    let below = NumbersBelow c.args.modulus.p in
    record { n_below = subst below (sym c.numbers-x.ensures) c.requires.a_below; m_below = subst below (sym c.numbers-y.ensures) c.requires.b_below }

pub returns-then-eq : goal.returns-then-eq
returns-then-eq c =
    let a = c.args in
    let same = (bytes_decides c.numbers-x.result c.numbers-y.result).0 (sym c.eq.ensures ∙ c.if-eq.true) in
    inl (
      sym c.numbers-x.ensures ∙ same ∙ c.numbers-y.ensures,
      subst (λ n. DoubleMatrix a.modulus.p a.o n c.double_matrix.result) c.numbers-x.ensures c.double_matrix.ensures,
    )

pub returns-else-eq : goal.returns-else-eq
returns-else-eq c =
    let a = c.args in
    let M = SumMatrix a.modulus.p in
    let by-x = subst (λ n. M n c.numbers-y.result c.sum_matrix.result) c.numbers-x.ensures c.sum_matrix.ensures in
    inr (
      λ e. true≢false (sym ((bytes_decides c.numbers-x.result c.numbers-y.result).1 (c.numbers-x.ensures ∙ e ∙ sym c.numbers-y.ensures)) ∙ sym c.eq.ensures ∙ c.if-eq.false),
      subst (λ m. M (numbers_of a.a) m c.sum_matrix.result) c.numbers-y.ensures by-x,
    )
