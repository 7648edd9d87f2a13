-- The numbers modulo m are a commutative ring. Sums of remainders are the library's; products are here.
--   mod_mul_mod        (n % m · k) % m = (n · k) % m
--   mul_mod_mod        (n · (k % m)) % m = (n · k) % m
--   fin_path, fin_val  equal remainders give equal residues; a number below m is its own residue
--   plus_comm plus_assoc plus-zero plus-minus times_comm times_assoc times-one times-plus      the ring laws
use mathlib.Core.Path.{◌≡◌, sym, ◌∙◌, ap}
use Prim.Native.Nat.{ℕ, ◌+◌, ◌*◌, ◌-◌, ◌/◌, ◌%◌, ◌<◌, Fin}
use native.Mathlib.Nat.{mod-eq_of_lt, mod_self, zero-mod, mod-add-mod, add-mod-mod, add_comm, add_assoc, mul_comm, mul_assoc, mul-add, div-add-mod', mul-add-mod_self_right}
use native.Mathlib.Omega.{arith}
use Rattle.algebra.specs.Modulo.{fin, plus, times, minus}

-- n · k is (n / m · k) · m and n % m · k
spread : (m n k : ℕ) → n * k ≡ n / m * k * m + n % m * k
spread m n k = omega (arith, ap (λ (x : ℕ). x * k) (div-add-mod' n m))

pub mod_mul_mod : (m n k : ℕ) → (n % m * k) % m ≡ (n * k) % m
mod_mul_mod m n k = sym (ap (λ (x : ℕ). x % m) (spread m n k) ∙ mul-add-mod_self_right (n / m * k) m (n % m * k))

pub mul_mod_mod : (m n k : ℕ) → (n * (k % m)) % m ≡ (n * k) % m
mul_mod_mod m n k = ap (λ (x : ℕ). x % m) (mul_comm n (k % m)) ∙ mod_mul_mod m k n ∙ ap (λ (x : ℕ). x % m) (mul_comm k n)

module _ (m : ℕ) (pos : 0 < m) where
  abbrev res : ℕ → Fin m
  res = fin m pos

  abbrev ◌+ₘ◌ : Fin m → Fin m → Fin m
  ◌+ₘ◌ = plus m pos

  abbrev ◌·ₘ◌ : Fin m → Fin m → Fin m
  ◌·ₘ◌ = times m pos

  abbrev -ₘ◌ : Fin m → Fin m
  -ₘ◌ = minus m pos

  infixl 60 ◌+ₘ◌
  infixl 70 ◌·ₘ◌
  infix 80 -ₘ◌
  pub fin_path : (n k : ℕ) → n % m ≡ k % m → res n ≡ res k
  unfolding fin
  fin_path n k e = native.Mathlib.Fin.val_path e

  pub fin_val : (x : Fin m) → res x.0 ≡ x
  unfolding fin
  fin_val x = native.Mathlib.Fin.val_path (mod-eq_of_lt x.1)

  pub plus_comm : (x y : Fin m) → x +ₘ y ≡ y +ₘ x
  plus_comm x y = ap res (add_comm x.0 y.0)

  pub plus_assoc : (x y z : Fin m) → x +ₘ y +ₘ z ≡ x +ₘ (y +ₘ z)
  unfolding fin
  plus_assoc x y z = native.Mathlib.Fin.val_path (mod-add-mod (x.0 + y.0) m z.0 ∙ ap (λ (n : ℕ). n % m) (add_assoc x.0 y.0 z.0) ∙ sym (add-mod-mod x.0 (y.0 + z.0) m))

  pub plus-zero : (x : Fin m) → x +ₘ res 0 ≡ x
  unfolding fin
  plus-zero x = native.Mathlib.Fin.val_path (add-mod-mod x.0 0 m ∙ ap (λ (n : ℕ). n % m) (omega arith) ∙ mod-eq_of_lt x.1)

  pub plus-minus : (x : Fin m) → x +ₘ -ₘ x ≡ res 0
  unfolding fin
  plus-minus x = native.Mathlib.Fin.val_path (add-mod-mod x.0 (m - x.0) m ∙ ap (λ (n : ℕ). n % m) (whole x.0 x.1) ∙ mod_self m ∙ sym (zero-mod m))
    where
      whole : (n : ℕ) → n < m → n + (m - n) ≡ m
      whole n h = omega arith

  pub times_comm : (x y : Fin m) → x ·ₘ y ≡ y ·ₘ x
  times_comm x y = ap res (mul_comm x.0 y.0)

  pub times_assoc : (x y z : Fin m) → x ·ₘ y ·ₘ z ≡ x ·ₘ (y ·ₘ z)
  unfolding fin
  times_assoc x y z = native.Mathlib.Fin.val_path (mod_mul_mod m (x.0 * y.0) z.0 ∙ ap (λ (n : ℕ). n % m) (mul_assoc x.0 y.0 z.0) ∙ sym (mul_mod_mod m x.0 (y.0 * z.0)))

  pub times-one : (x : Fin m) → x ·ₘ res 1 ≡ x
  unfolding fin
  times-one x = native.Mathlib.Fin.val_path (mul_mod_mod m x.0 1 ∙ ap (λ (n : ℕ). n % m) (omega arith) ∙ mod-eq_of_lt x.1)

  pub times-plus : (x y z : Fin m) → x ·ₘ (y +ₘ z) ≡ x ·ₘ y +ₘ x ·ₘ z
  unfolding fin
  times-plus x y z =
      native.Mathlib.Fin.val_path (mul_mod_mod m x.0 (y.0 + z.0) ∙ ap (λ (n : ℕ). n % m) (mul-add x.0 y.0 z.0)
      ∙ sym (mod-add-mod (x.0 * y.0) m ((x.0 * z.0) % m) ∙ add-mod-mod (x.0 * y.0) (x.0 * z.0) m))
