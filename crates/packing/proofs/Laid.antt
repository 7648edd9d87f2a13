-- Bytes of a number laid in a slice, one run of them behind the other.
--   laid_none          before the first byte
--   laid_more          k bytes laid behind the first j, and laid-store: one byte
--   laid-low           what stands in the number above the bytes that are laid does not matter
--   bytes4-unpacked    the bytes of the lowest 32 bits of n are the four lowest bytes of n
--   Written d at end n out place left      out is d with the bytes of n from place `at` on, up to `place`, and `left` is the rest of n
--   written_none, written-more, written_all      no byte is written, one more, all of them
use mathlib.Core.Path.{◌≡◌, refl, sym, ap, ◌∙◌}
use mathlib.Core.List.{List, [], ◌∷◌, ◌++◌, append_assoc, append-nil}
use Prim.Native.Nat.{ℕ, ◌+◌, ◌-◌, ◌*◌, ◌/◌, ◌%◌, ◌^◌, ◌<◌, ◌≤◌}
use native.Mathlib.Nat.{add-zero, sub_self, div-one}
use native.Mathlib.Omega.{arith}
use lib.ListN.{length, take, drop, set, length-append, length-set, take-append-drop}
use lib.Seq.{sets-eq, take_at, drop_at, drop-drop, length-take-le}
use lib.Pow.{shr-shr}
use lib.Bits.{bit_and, and_mask}
use Rattle.layout.specs.Layout.{bytes4}
use Rattle.packing.specs.Packing.{unpacked}
use Rattle.packing.specs.Contract.{laid}
use Rattle.packing.proofs.Laws.{length_unpacked, unpacked-add, unpacked-low}

pub laid_none : (d : List ℕ) (at n : ℕ) → d ≡ laid d at 0 n
unfolding unpacked
laid_none d at n = sym (simp (append-nil, add-zero) (take-append-drop at d))

pub laid_more : (d bs : List ℕ) (at j k n : ℕ) → at + j ≤ length d → bs ≡ unpacked 8 k (n / 2 ^ (8 * j))
    → take (at + j) (laid d at j n) ++ bs ++ drop (at + j + k) (laid d at j n) ≡ laid d at (j + k) n
laid_more d bs at j k n room e =
    let front : List ℕ = take at d ++ unpacked 8 j n in
    let rest : List ℕ = drop (at + j) d in
    let long : length front ≡ at + j =
    omega (arith, length-append (take at d) (unpacked 8 j n), length-take-le at d (omega arith), length_unpacked 8 j n) in
    let tail : drop (at + j + k) (front ++ rest) ≡ drop (at + j + k) d =
    sym (drop-drop k (at + j) (front ++ rest)) ∙ ap (drop k) (drop_at front rest (at + j) long) ∙ drop-drop k (at + j) d in
    let place : at + j + k ≡ at + (j + k) = omega arith in
    rw (take_at front rest (at + j) long, tail, e, unpacked-add 8 j k n, place) (simp append_assoc)

pub laid_store : (d : List ℕ) (at j n : ℕ) → at + j < length (laid d at j n) → at + j ≤ length d
    → set (laid d at j n) (at + j) (n / 2 ^ (8 * j) % 256) ≡ laid d at (j + 1) n
unfolding unpacked
laid_store d at j n inside room =
    sets-eq (n / 2 ^ (8 * j) % 256 ∷ []) (laid d at j n) (at + j) (omega arith) ∙ laid_more d (n / 2 ^ (8 * j) % 256 ∷ []) at j 1 n room refl

pub laid-low : (d : List ℕ) (at j n m : ℕ) → laid d at j (n + m * 2 ^ (8 * j)) ≡ laid d at j n
laid-low d at j n m = ap (λ (bs : List ℕ). take at d ++ bs ++ drop (at + j) d) (unpacked-low 8 j n m)

pub bytes4-unpacked : (n : ℕ) → bytes4 (n % 4294967296) ≡ unpacked 8 4 n
unfolding bytes4 unpacked
bytes4-unpacked n = λ i. first i ∷ second i ∷ third i ∷ fourth i ∷ []
  where
    first : n % 4294967296 % 256 ≡ n % 256
    first = omega arith

    second : n % 4294967296 / 256 % 256 ≡ n / 256 % 256
    second = omega arith

    third : n % 4294967296 / 65536 % 256 ≡ n / 256 / 256 % 256
    third = omega arith

    fourth : n % 4294967296 / 16777216 % 256 ≡ n / 256 / 256 / 256 % 256
    fourth = omega arith

pub record Written (d : List ℕ) (at end n : ℕ) (out : List ℕ) (place left : ℕ) : Type 0 where
  pub from : at ≤ place
  pub upto : place ≤ end
  pub bytes : out ≡ laid d at (place - at) n
  pub rest : left ≡ n / 2 ^ (8 * (place - at))
  pub long : length out ≡ length d

pub written_none : (d : List ℕ) (at end n : ℕ) → at ≤ end → Written d at end n d at n
written_none d at end n h =
    record {
      from = omega arith;
      upto = h;
      bytes = rw (sub_self at) (laid_none d at n);
      rest = rw (sub_self at) (sym (div-one n));
      long = refl;
    }

pub written-more : (d : List ℕ) (at end n : ℕ) (out : List ℕ) (place left : ℕ) → end ≤ length d → place < end
    → Written d at end n out place left → Written d at end n (set out place (bit_and left 255)) (place + 1) (left / 256)
written-more d at end n out place left room h w =
    let j : ℕ = place - at in
    let here : place ≡ at + j = omega (arith, w.from) in
    let next : place + 1 - at ≡ j + 1 = omega (arith, w.from) in
    let low : bit_and left 255 ≡ n / 2 ^ (8 * j) % 256 = and_mask left 8 ∙ ap (λ (k : ℕ). k % 256) w.rest in
    let inside : at + j < length (laid d at j n) = omega (arith, w.long, ap length w.bytes) in
    record {
      from = omega (arith, w.from);
      upto = omega arith;
      bytes = (λ i. set (w.bytes i) (here i) (low i)) ∙ laid_store d at j n inside (omega arith) ∙ ap (λ (k : ℕ). laid d at k n) (sym next);
      rest =
          ap (λ (k : ℕ). k / 256) w.rest
          ∙ shr-shr n (8 * j) 8
          ∙ ap (λ (k : ℕ). n / 2 ^ k) (omega arith);
      long = length-set out place (bit_and left 255) ∙ w.long;
    }

pub written_all : (d : List ℕ) (at end n : ℕ) (out : List ℕ) (place left : ℕ) → ¬ (place < end) → Written d at end n out place left → out ≡ laid d at (end - at) n
written_all d at end n out place left h w =
    let there : place ≡ end = omega (arith, w.upto) in
    w.bytes ∙ ap (λ (k : ℕ). laid d at (k - at) n) there
