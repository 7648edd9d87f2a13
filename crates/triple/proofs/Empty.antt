-- The triple without members.
--   no_rows, no-degrees    its vectors and degrees
--   no_row                 each of them
--   empty_triple           it is a triple
--   empty_same             its span is that of no element
use mathlib.Core.Path.{◌≡◌, refl, sym, ◌∙◌, ap, subst}
use mathlib.Core.Logic.{inr}
use mathlib.Core.List.{List, []}
use Prim.Native.Nat.{ℕ, zero, suc, ◌<◌}
use native.Mathlib.Omega.{arith}
use lib.ListN.{replicate}
use Rattle.ideal.specs.Ideal.{SameIdeal}
use Rattle.ideal.proofs.Span.{Span, span_same}
use Rattle.vector.specs.Vector.{Vec, at, row, element, width}
use Rattle.vector.proofs.Loop.{zeros-at, zeros-vec}
use Rattle.triple.specs.Setting.{Setting, ring, poles_of}
use Rattle.triple.specs.Triple.{Member, Triple, elements, Spanned}
use Rattle.triple.proofs.Element.{element-zero}
use Rattle.triple.proofs.Members.{each_row}

abbrev pub no_rows : List (List ℕ)
no_rows = replicate 3 (replicate 26 0)

abbrev pub no-degrees : List ℕ
no-degrees = replicate 3 26

pub no_row : (j : ℕ) → j < 3 → (row no_rows j ≡ replicate 26 0) × (at no-degrees j ≡ width)
no_row zero l = (refl, refl)
no_row (suc zero) l = (refl, refl)
no_row (suc (suc zero)) l = (refl, refl)
no_row (suc (suc (suc j))) l = absurd (omega arith)

pub empty_triple : {p : ℕ} → 0 < p → Triple p no_rows no-degrees
empty_triple {p} h = record { len_t = refl; len_d = refl; member = member }
  where
    absent : (v : List ℕ) (e : ℕ) → v ≡ replicate 26 0 → e ≡ width → (j : ℕ) → Member p v j e
    absent v e q r j = record { vec = subst (Vec p) (sym q) (zeros-vec p h); shape = inr (record { none = r; nought = λ i l. ap (λ u. at u i) q ∙ zeros-at 26 i }) }

    member : (j : ℕ) → j < 3 → Member p (row no_rows j) j (at no-degrees j)
    member j l = absent (row no_rows j) (at no-degrees j) (no_row j l).0 (no_row j l).1 j

pub empty_same : {p : ℕ} → 0 < p → (S : Setting p) → SameIdeal (ring S) (Spanned S no_rows) (Span (poles_of S) [])
empty_same {p} h S = span_same (poles_of S) (elements S no_rows) [] (each_row S (Span (poles_of S) []) no_rows none) tt
  where
    none : (j : ℕ) → j < 3 → element p S.curve (row no_rows j) ≡ (ring S).zero
    none j l = ap (element p S.curve) (no_row j l).0 ∙ element-zero S (zeros-vec p h) (λ i k. zeros-at 26 i)
