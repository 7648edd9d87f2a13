-- Examples for the definitions.
--   width_2                w is 1 for p = 2: the bit length of p − 1 and not of p
--   width_5, size_5        "For p = 5, w is 3 and a short 31 has length 8."
--   bytes_11, bytes_31     the short forms of (1, 2) and of (1, 2) − P on E, the curve y³ + x⁴ + 1 over the field of 5 elements
--   numbers_31             the numbers of the short form of (1, 2) − P
--   filling_11             the first bit of the filling is not zero
use mathlib.Core.Path.{◌≡◌, refl}
use mathlib.Core.List.{[], ◌∷◌}
use native.Mathlib.Omega.{arith}
use Rattle.divisor.specs.Kind.{k11, k31}
use Rattle.layout.specs.Layout.{bytes2}
use Rattle.packing.specs.Packing.{digits, bit_length, packed, unpacked}
use Rattle.short.specs.Short.{width, short_size, short_bytes, short_numbers, ZeroFilling}

pub width_2 : width 2 ≡ 1
unfolding bit_length digits
width_2 = refl

pub width_5 : width 5 ≡ 3
unfolding bit_length digits
width_5 = refl

pub size_5 : short_size 5 k31 ≡ 8
unfolding bit_length digits
size_5 = refl

pub bytes_11 : short_bytes 5 k11 (4 ∷ 3 ∷ []) ≡ 5 ∷ 0 ∷ 111 ∷ 0 ∷ 28 ∷ []
unfolding short_bytes bytes2 bit_length digits packed unpacked
bytes_11 = refl

pub bytes_31 : short_bytes 5 k31 (0 ∷ 4 ∷ 0 ∷ 0 ∷ 3 ∷ 0 ∷ 1 ∷ 2 ∷ 4 ∷ []) ≡ 8 ∷ 0 ∷ 131 ∷ 0 ∷ 32 ∷ 48 ∷ 68 ∷ 4 ∷ []
unfolding short_bytes bytes2 bit_length digits packed unpacked
bytes_31 = refl

pub numbers_31 : short_numbers 5 k31 (8 ∷ 0 ∷ 131 ∷ 0 ∷ 32 ∷ 48 ∷ 68 ∷ 4 ∷ []) ≡ 0 ∷ 4 ∷ 0 ∷ 0 ∷ 3 ∷ 0 ∷ 1 ∷ 2 ∷ 4 ∷ []
unfolding bit_length digits packed unpacked
numbers_31 = refl

pub filling_11 : ¬ ZeroFilling 5 k11 (5 ∷ 0 ∷ 111 ∷ 0 ∷ 92 ∷ [])
unfolding bit_length digits packed
filling_11 h = absurd (omega (arith, h))
