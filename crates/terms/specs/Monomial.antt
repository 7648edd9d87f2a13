-- An entry of the table of normal monomials.
--   IsEntry n m            m has the numbers that stand at the place n of the table of curve/Table
--   MonomialAt n r         monomial: r is that entry, or none at a gap, where the table has the mark 3
use Rattle.std.specs.Prelude.{◌≡◌, Option, ℕ, ◌<◌, MatchOption}
use Rattle.curve.specs.Table.{y_at, x_at}
use Rattle.terms.specs.declared.normal.Monomial.{Monomial}

pub record IsEntry (n : ℕ) (m : Monomial) : Type 0 where
  pub power : m.power ≡ y_at n
  pub pole : m.pole ≡ x_at n
  pub proper : y_at n < 3

abbrev pub MonomialAt : ℕ → Option Monomial → Type 0
MonomialAt n r = MatchOption r (y_at n ≡ 3) (IsEntry n)
