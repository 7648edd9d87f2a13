-- The kinds of divisor records. Document 01, "Records", has the table: number, count, remaining monomials.
--   code κ             the number that stands for the kind in a record
--   count κ            how many numbers its record has
--   degree_of κ        the degree of its divisors: how many monomials remain
--   Known n            n is the number of a kind
--   KindOf n r         r is the kind with the number n, or an error with n, which no kind has
use Rattle.std.specs.Prelude.{◌≡◌, ℕ, Result, MatchResult}
use Rattle.kind.specs.declared.Kind.{Kind}
use Rattle.kind.specs.declared.Kind.TheVariants.{Zero, K11, K21, K22, K31}
use Rattle.kind.specs.declared.UnknownKind.{UnknownKind}

abbrev pub code : Kind → ℕ
code Zero = 0
code K11 = 11
code K21 = 21
code K22 = 22
code K31 = 31

abbrev pub count : Kind → ℕ
count Zero = 0
count K11 = 2
count K21 = 4
count K22 = 3
count K31 = 9

abbrev pub degree_of : Kind → ℕ
degree_of Zero = 0
degree_of K11 = 1
degree_of K21 = 2
degree_of K22 = 2
degree_of K31 = 3

abbrev pub Known : ℕ → Type 0
Known n = (κ : Kind) × (n ≡ code κ)

abbrev pub KindOf : ℕ → Result Kind UnknownKind → Type 0
KindOf n r = MatchResult r (λ κ. n ≡ code κ) (λ e. (e.0 ≡ n) × ¬ Known n)
