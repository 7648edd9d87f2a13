-- Laws of the residue of a number: el p carries sums, products and remainders into the ring Z p.
--   cancel                              additive inverses are unique, in every ring
--   el-add el-mul el-zero el-one        el p is a map of rings
--   el_self el_mod                      el p p is zero, el p (n % p) is el p n
--   el-neg el_sub                       negatives and differences
--   el-same el_mod_same                 equal remainders give equal residues, and back
--   el-rest                             if a·b + c has the residue zero, el a · −el b = el c
--   num-lt el-num num-el el_inj         num p x is the one number below p with the residue x
--   num_mod                             num p (el p n) is n % p
--   Z-discrete                          equality of residues is decidable
--   el_pos                              a number from 1 to p − 1 has a residue that is not zero
use mathlib.Core.Path.{◌≡◌, refl, sym, ◌∙◌, ap}
use Prim.Native.Nat.{ℕ, zero, suc, ◌+◌, ◌*◌, ◌-◌, ◌%◌, ◌≤◌, ◌<◌}
use native.Mathlib.Nat.{mod_self, mod-zero, mod-mod, zero-mod, add-mod, mod-eq_of_lt}
use native.Mathlib.Decide.{Fin-discrete}
use native.Mathlib.Omega.{arith}
use Rattle.algebra.specs.Ring.{CommRing}
use Rattle.algebra.proofs.Modulo.{mod_mul_mod, mul_mod_mod, fin_path, fin_val}
use Rattle.field.specs.Residue.{Zmod, order, order_pos, Z, el, num}
use Rattle.algebra.specs.Modulo.{fin}

-- a + b = 0 and c + b = 0 make a = c, in every ring
pub cancel : (R : CommRing) (a b c : R.Car) → R.add a b ≡ R.zero → R.add c b ≡ R.zero → a ≡ c
cancel R a b c e f =
    sym (R.add_zero a)
    ∙ ap (R.add a) (sym f ∙ R.add_comm c b)
    ∙ sym (R.add_assoc a b c)
    ∙ ap (λ x. R.add x c) e
    ∙ R.add_comm R.zero c
    ∙ R.add_zero c

pub el-add : (p a b : ℕ) → el p (a + b) ≡ (Z p).add (el p a) (el p b)
unfolding Z Zmod el fin
el-add p a b = fin_path (order p) (order_pos p) (a + b) _ (add-mod a b (order p))

pub el-mul : (p a b : ℕ) → el p (a * b) ≡ (Z p).mul (el p a) (el p b)
unfolding Z Zmod el fin
el-mul p a b = fin_path (order p) (order_pos p) (a * b) _ (sym (mod_mul_mod (order p) a b) ∙ sym (mul_mod_mod (order p) (a % order p) b))

pub el-zero : (p : ℕ) → el p 0 ≡ (Z p).zero
unfolding Z Zmod el
el-zero p = refl

pub el-one : (p : ℕ) → el p 1 ≡ (Z p).one
unfolding Z Zmod el
el-one p = refl

pub el_mod : (p n : ℕ) → el p (n % p) ≡ el p n
unfolding el
el_mod zero n = ap (el 0) (mod-zero n)
el_mod (suc k) n = fin_path (suc k) (order_pos (suc k)) _ n (mod-mod n (suc k))

pub el-same : (p a b : ℕ) → a % p ≡ b % p → el p a ≡ el p b
el-same p a b e = sym (el_mod p a) ∙ ap (el p) e ∙ el_mod p b

pub el_self : (p : ℕ) → el p p ≡ (Z p).zero
el_self p = el-same p p 0 (mod_self p ∙ sym (zero-mod p)) ∙ el-zero p

num-lt-modulus : (p : ℕ) (x : (Z p).Car) → num p x < order p
unfolding Z Zmod num
num-lt-modulus p x = x.1

pub num-lt : (p : ℕ) (x : (Z p).Car) → 0 < p → num p x < p
num-lt p x h = omega (arith, num-lt-modulus p x)

pub el-num : (p : ℕ) (x : (Z p).Car) → el p (num p x) ≡ x
unfolding Z Zmod el num
el-num p x = fin_val (order p) (order_pos p) x

num-el-modulus : (p n : ℕ) → num p (el p n) ≡ n % order p
unfolding Z Zmod el num fin
num-el-modulus p n = refl

pub num-el : (p n : ℕ) → n < p → num p (el p n) ≡ n
num-el p n h = num-el-modulus p n ∙ mod-eq_of_lt (omega arith)

pub el_inj : (p a b : ℕ) → a < p → b < p → el p a ≡ el p b → a ≡ b
el_inj p a b ha hb e = sym (num-el p a ha) ∙ ap (num p) e ∙ num-el p b hb

pub num_mod : (p n : ℕ) → 0 < p → num p (el p n) ≡ n % p
num_mod p n h = num-el-modulus p n ∙ ap (λ (m : ℕ). n % m) (omega arith)

pub el_mod_same : (p a b : ℕ) → 0 < p → el p a ≡ el p b → a % p ≡ b % p
el_mod_same p a b h e = sym (num_mod p a h) ∙ ap (num p) e ∙ num_mod p b h

pub el_pos : (p a : ℕ) → 0 < a → a < p → ¬ (el p a ≡ (Z p).zero)
el_pos p a h l e = let z : a ≡ 0 = el_inj p a 0 l (omega arith) (e ∙ sym (el-zero p)) in omega arith

pub el-neg : (p a : ℕ) → a ≤ p → el p (p - a) ≡ (Z p).neg (el p a)
el-neg p a h =
    cancel
    (Z p)
    _
    (el p a)
    _
    (sym (el-add p (p - a) a) ∙ ap (el p) (omega arith) ∙ el_self p)
    ((Z p).add_comm _ _ ∙ (Z p).add_neg (el p a))

pub el_sub : (p a b : ℕ) → b ≤ a → el p (a - b) ≡ (Z p).add (el p a) ((Z p).neg (el p b))
el_sub p a b h =
    sym ((Z p).add_zero _)
    ∙ ap ((Z p).add (el p (a - b))) (sym ((Z p).add_neg (el p b)))
    ∙ sym ((Z p).add_assoc _ _ _)
    ∙ ap (λ x. (Z p).add x ((Z p).neg (el p b))) (sym (el-add p (a - b) b) ∙ ap (el p) (omega arith))

pub Z-discrete : (p : ℕ) → Discrete (Z p).Car
unfolding Z Zmod
Z-discrete p = Fin-discrete (order p)

pub el-rest : (p a b c : ℕ) → el p (a * b + c) ≡ (Z p).zero → (Z p).mul (el p a) ((Z p).neg (el p b)) ≡ el p c
el-rest p a b c e =
    cancel
    (Z p)
    _
    (el p (a * b))
    _
    (ap ((Z p).add ((Z p).mul (el p a) ((Z p).neg (el p b)))) (el-mul p a b)
    ∙ sym ((Z p).mul_add _ _ _)
    ∙ ap ((Z p).mul (el p a)) ((Z p).add_comm _ _ ∙ (Z p).add_neg _)
    ∙ ap ((Z p).mul (el p a)) (sym (el-zero p))
    ∙ sym (el-mul p a 0)
    ∙ ap (el p) (omega arith)
    ∙ el-zero p)
    (sym (el-add p c (a * b)) ∙ ap (el p) (omega arith) ∙ e)
