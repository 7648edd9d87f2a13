-- Pairs as numbers, two for each.
--   two-left               what is left of a list of numbers from a place on, if it is two or more
--   length_coordinates     two numbers for each pair
--   coordinates_append     pairs one after another
use mathlib.Core.Path.{◌≡◌, refl, sym, ◌∙◌, ap}
use mathlib.Core.List.{List, [], ◌∷◌, ◌++◌}
use Prim.Native.Nat.{ℕ, suc, ◌+◌, ◌*◌, ◌-◌, ◌<◌}
use native.Mathlib.Omega.{arith}
use lib.ListN.{length, get_or, drop}
use lib.Seq.{drop-cons}
use Rattle.point.specs.Point.{Pair}
use Rattle.point.specs.PointCall.{coordinates}

pub two-left : (ns : List ℕ) (at : ℕ) → 1 < length ns - at → drop at ns ≡ get_or ns at 0 ∷ get_or ns (at + 1) 0 ∷ drop (at + 2) ns
two-left ns at l =
    drop-cons ns at 0 (omega arith)
    ∙ ap (λ (t : List ℕ). get_or ns at 0 ∷ t)
    (sym (ap (λ (k : ℕ). drop k ns) one) ∙ drop-cons ns (at + 1) 0 (omega arith) ∙ ap (λ (k : ℕ). get_or ns (at + 1) 0 ∷ drop k ns) two)
  where
    one : at + 1 ≡ suc at
    one = omega arith

    two : suc (at + 1) ≡ at + 2
    two = omega arith

pub length_coordinates : (ps : List Pair) → length (coordinates ps) ≡ 2 * length ps
length_coordinates [] = refl
length_coordinates ((a, b) ∷ ps) = omega (arith, length_coordinates ps)

pub coordinates_append : (ps qs : List Pair) → coordinates (ps ++ qs) ≡ coordinates ps ++ coordinates qs
coordinates_append [] qs = refl
coordinates_append ((a, b) ∷ ps) qs = ap (λ (t : List ℕ). a ∷ b ∷ t) (coordinates_append ps qs)
