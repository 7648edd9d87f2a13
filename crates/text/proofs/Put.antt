-- Bytes put into a buffer one after the other.
--   put_at_nothing   nothing put from a place on
--   put_at_then      a text from a place on and then another, behind it, are the two together
--   put_nothing      nothing put
--   put_then         a text and then another, behind it, are the two together
--   put_length       how many bytes are put then
--   text_only, text_put_at    the bytes of a text that holds one piece alone, and these put from a place on
use mathlib.Core.Path.{◌≡◌, refl, sym, ap, ◌∙◌, subst}
use mathlib.Core.List.{List, [], ◌++◌, append_assoc, append-nil}
use Prim.Native.Nat.{ℕ, ◌+◌, ◌≤◌}
use native.Mathlib.Nat.{add-zero}
use native.Mathlib.Omega.{arith}
use lib.ListN.{length, take, drop, length-append, take-append-drop}
use lib.Seq.{take_at, drop_at, drop-drop, length-take-le}
use Rattle.text.specs.Written.{Written}
use Rattle.text.specs.Put.{PutAt, Put}

pub put_at_nothing : (s : List ℕ) (at : ℕ) → PutAt s at [] at s
put_at_nothing s at = record { next = sym (add-zero at); is = sym (simp (append-nil, add-zero) (take-append-drop at s)) }

pub put_at_then : {s : List ℕ} {at : ℕ} {text : List ℕ} {m : ℕ} {s' more : List ℕ} {r : ℕ} {s'' : List ℕ} → m ≤ length s
    → PutAt s at text m s' → PutAt s' m more r s'' → PutAt s at (text ++ more) r s''
put_at_then {s} {at} {text} {m} {s'} {more} {r} {s''} room p q =
    let both = length-append text more in
    let rest : List ℕ = drop (at + length text) s in
    let front : length (take at s ++ text) ≡ m = omega (arith, length-append (take at s) text, length-take-le at s (omega (arith, p.next)), p.next) in
    let before : take m s' ≡ take at s ++ text = ap (take m) p.is ∙ take_at (take at s ++ text) rest m front in
    let behind : drop m s' ≡ rest = ap (drop m) p.is ∙ drop_at (take at s ++ text) rest m front in
    let far : at + length text + length more ≡ at + length (text ++ more) = omega (arith, both) in
    let last : drop (m + length more) s' ≡ drop (at + length (text ++ more)) s =
    sym (drop-drop (length more) m s')
    ∙ ap (drop (length more)) behind
    ∙ drop-drop (length more) (at + length text) s
    ∙ ap (λ (k : ℕ). drop k s) far in
    record {
      next = omega (arith, q.next, p.next, both);
      is = q.is ∙ rw (before, last) (simp append_assoc);
    }

pub put_nothing : (s : Written) → Put s [] s
put_nothing s = record { is = sym (append-nil s.bytes); rest = refl; left = omega arith }

pub put_then : {s s' s'' : Written} {text more : List ℕ} → Put s text s' → Put s' more s'' → Put s (text ++ more) s''
put_then {s} {s'} {s''} {text} {more} p q =
    let both = length-append text more in
    record {
      is = q.is ∙ ap (λ (bs : List ℕ). bs ++ more) p.is ∙ append_assoc s.bytes text more;
      rest = q.rest ∙ ap (drop (length more)) p.rest ∙ drop-drop (length more) (length text) s.free ∙ ap (λ (k : ℕ). drop k s.free) (sym both);
      left = omega (arith, p.left, q.left, both);
    }

pub put_length : {s s' : Written} {text : List ℕ} → Put s text s' → length s'.bytes ≡ length s.bytes + length text
put_length {s} {s'} {text} p = ap length p.is ∙ length-append s.bytes text

-- the bytes of a text that holds one piece alone
module _ {s s' : Written} {text bytes : List ℕ} (none : s.bytes ≡ []) (p : Put s text s') (same : bytes ≡ s'.bytes) where
  pub text_only : bytes ≡ text
  text_only = same ∙ p.is ∙ ap (λ (bs : List ℕ). bs ++ text) none

  pub text_put_at : {out out' : List ℕ} {at r : ℕ} → PutAt out at bytes r out' → PutAt out at text r out'
  text_put_at {out} {out'} {at} {r} q = subst (λ (bs : List ℕ). PutAt out at bs r out') text_only q
