-- The table of normal monomials as the code holds it: one test that antt computes says that it is the table of curve/Table.
--   fits o y x         the test of an entry
--   table-says         where it passes at each place, the entry at a place is that of curve/Table
use Rattle.std.proofs.Common.{◌≡◌, refl, Bool, true, false, List, Option, Some, None, ℕ, ◌<◌, get_or}
use Rattle.std.proofs.Math.Dec.{eqb, ltb}
use Rattle.std.proofs.lemmas.Bool.{eqb-true, ltb-true}
use lib.Dec.{T}
use Rattle.algebra.proofs.Test.{both, both_left, both_right, all_below, all_below-at}
use Rattle.curve.specs.Table.{y_at, x_at}
use Rattle.terms.specs.declared.normal.Monomial.{Monomial}
use Rattle.terms.specs.Monomial.{MonomialAt}

abbrev pub fits : Option Monomial → ℕ → ℕ → Bool
fits None y x = eqb y 3
fits (Some m) y x = both (both (eqb m.power y) (eqb m.pole x)) (ltb y 3)

passed : (b : Bool) → T b → b ≡ true
passed true t = refl
passed false t = absurd t

fits-says : (n : ℕ) (o : Option Monomial) → T (fits o (y_at n) (x_at n)) → MonomialAt n o
fits-says n None t = eqb-true (y_at n) 3 (passed _ t)
fits-says n (Some m) t =
    let a = eqb m.power (y_at n) in
    let b = eqb m.pole (x_at n) in
    let l = ltb (y_at n) 3 in
    let ab = both_left (both a b) l t in
    record {
      power = eqb-true m.power (y_at n) (passed a (both_left a b ab));
      pole = eqb-true m.pole (x_at n) (passed b (both_right a b ab));
      proper = ltb-true (y_at n) 3 (passed l (both_right (both a b) l t));
    }

pub table-says :
    (table : List (Option Monomial)) (d : Option Monomial) → T (all_below (λ n. fits (get_or table n d) (y_at n) (x_at n)) 26) →
    (n : ℕ) → n < 26 → MonomialAt n (get_or table n d)
table-says table d t n l = fits-says n (get_or table n d) (all_below-at (λ n. fits (get_or table n d) (y_at n) (x_at n)) 26 t n l)
