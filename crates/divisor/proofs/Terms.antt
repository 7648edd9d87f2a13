-- Sums of constant multiples of normal monomials, given as a list of pairs: y + a·x + b is terms ((1, 4) ∷ (a, 3) ∷ (b, 0) ∷ []).
--   Terms                      lists of pairs of a constant and a pole number
--   terms ts                   the sum of constant a·mono p for the pairs (a, p) of ts
--   find m ts                  the a that stands with m in ts; 0 if none does
--   places ts                  the p of ts
--   absent m ps                test: m is not in ps
--   pole_test n, pole_test_pole    test: n is a pole number
--   distinct ps                test: the ps are pole numbers, and no two agree
--   find_absent                nothing is found at a place that is not in ts
--   coefficient_terms          the coefficients of terms ts are found in ts
--   below ps d                 test: the ps are below d
--   terms_top                  … then terms ts has no coefficient from d on
--   Within ps h, within-neg    h has no coefficient outside the places ps; nor has −h
--   reading ps h, reading_terms    h at the places ps; h is the sum of these terms if it has no others
--   terms_made                 terms ts is made of the monomials of its places
--   made-within, within-made   MadeOf and Within say the same of the monomials of ps
use mathlib.Core.Path.{◌≡◌, refl, sym, ◌∙◌, ap, ap₂, subst}
use mathlib.Core.Bool.{Bool, true, false, not}
use mathlib.Core.List.{List, [], ◌∷◌, map}
use Prim.Native.Nat.{ℕ, ◌≤◌, ◌<◌}
use native.Mathlib.Omega.{arith}
use lib.Dec.{T, eqb, eqb→eq, eqb_refl, ltb, ltb→lt, T_not}
use Rattle.algebra.specs.Ring.{CommRing}
use Rattle.algebra.proofs.Laws as L
use Rattle.algebra.proofs.Test.{both, both_left, both_right}
use Rattle.ideal.specs.Poles.{IsPole}
use Rattle.ideal.proofs.Gaps.{pole_intro}
use Rattle.curve.specs.Curve.{Curve, Coordinate, constant}
use Rattle.curve.specs.Sequence.{coefficient, pick}
use Rattle.curve.specs.Monomial.{mono}
use Rattle.curve.proofs.Term.{coefficient-zero, coefficient-add, coefficient-neg, coefficient-constant-mul, coefficient_ext}
use Rattle.curve.proofs.Product.{coefficient-mono}
use Rattle.curve.proofs.Monomial.{coefficient-mono-other}
use Rattle.divisor.specs.Kind.{MadeOf}

abbrev pub pole_test : ℕ → Bool
pole_test n = both (not (eqb n 1)) (both (not (eqb n 2)) (not (eqb n 5)))

pub pole_test_pole : (n : ℕ) → T (pole_test n) → IsPole n
pole_test_pole n t =
    pole_intro (at 1 (both_left (not (eqb n 1)) rest t)) (at 2 (both_left (not (eqb n 2)) (not (eqb n 5)) u)) (at 5 (both_right (not (eqb n 2)) (not (eqb n 5)) u))
  where
    rest : Bool
    rest = both (not (eqb n 2)) (not (eqb n 5))

    u : T rest
    u = both_right (not (eqb n 1)) rest t

    at : (m : ℕ) → T (not (eqb n m)) → ¬ (n ≡ m)
    at m u e = T_not (eqb n m) u (subst (λ (v : ℕ). T (eqb n v)) e (eqb_refl n))

-- m is not in ps
abbrev pub absent : ℕ → List ℕ → Bool
absent m [] = true
absent m (p ∷ ps) = both (not (eqb m p)) (absent m ps)

abbrev pub distinct : List ℕ → Bool
distinct [] = true
distinct (p ∷ ps) = both (pole_test p) (both (absent p ps) (distinct ps))

abbrev pub below : List ℕ → ℕ → Bool
below [] d = true
below (p ∷ ps) d = both (ltb p d) (below ps d)

below_absent : (ps : List ℕ) (d m : ℕ) → T (below ps d) → d ≤ m → T (absent m ps)
below_absent [] d m t l = tt
below_absent (p ∷ ps) d m t l = go (eqb m p) refl (below_absent ps d m (both_right (ltb p d) (below ps d) t) l)
  where
    less : p < d
    less = ltb→lt p d (both_left (ltb p d) (below ps d) t)

    go : (b : Bool) → eqb m p ≡ b → T (absent m ps) → T (both (not b) (absent m ps))
    go true e u = absurd (omega (arith, less, eqb→eq m p (subst T (sym e) tt)))
    go false e u = u

module _ {k : CommRing} (C : Curve k) where
  open k use {Car, zero as 𝟘, one as 𝟙, add as ◌+ₖ◌, mul as ◌·ₖ◌, neg as -ₖ◌}
  open Coordinate C use {Car as El, zero as 𝟎, one as 𝟏, add as ◌⊕◌, mul as ◌⊗◌, neg as ⊖◌}

  infixl 60 ◌⊕◌ ◌+ₖ◌
  infixl 70 ◌⊗◌ ◌·ₖ◌
  infix 80 -ₖ◌ ⊖◌
  abbrev pub Terms : Type 0
  Terms = List (Car × ℕ)

  abbrev pub terms : Terms → El
  terms [] = 𝟎
  terms ((a, p) ∷ ts) = constant C a ⊗ mono C p ⊕ terms ts

  abbrev pub find : ℕ → Terms → Car
  find m [] = 𝟘
  find m ((a, p) ∷ ts) = pick (eqb m p) a (find m ts)

  abbrev pub places : Terms → List ℕ
  places [] = []
  places ((a, p) ∷ ts) = p ∷ places ts

  pub find_absent : (m : ℕ) (ts : Terms) → T (absent m (places ts)) → find m ts ≡ 𝟘
  find_absent m [] t = refl
  find_absent m ((a, p) ∷ ts) t = go (eqb m p) t (find_absent m ts)
    where
      go : (b : Bool) → T (both (not b) (absent m (places ts))) → (T (absent m (places ts)) → find m ts ≡ 𝟘) → pick b a (find m ts) ≡ 𝟘
      go true u f = absurd u
      go false u f = f u

  pub coefficient_terms : (ts : Terms) → T (distinct (places ts)) → (m : ℕ) → coefficient C m (terms ts) ≡ find m ts
  coefficient_terms [] t m = coefficient-zero C m
  coefficient_terms ((a, p) ∷ ts) t m =
      coefficient-add C m _ _
      ∙ ap (λ u. u +ₖ coefficient C m (terms ts)) (coefficient-constant-mul C m a (mono C p))
      ∙ ap (λ u. a ·ₖ coefficient C m (mono C p) +ₖ u) (coefficient_terms ts apart m)
      ∙ go (eqb m p) refl
    where
      rest : Bool
      rest = both (absent p (places ts)) (distinct (places ts))

      pole : IsPole p
      pole = pole_test_pole p (both_left (pole_test p) rest t)

      apart : T (distinct (places ts))
      apart = both_right (absent p (places ts)) (distinct (places ts)) (both_right (pole_test p) rest t)

      none : find p ts ≡ 𝟘
      none = find_absent p ts (both_left (absent p (places ts)) (distinct (places ts)) (both_right (pole_test p) rest t))

      go : (b : Bool) → eqb m p ≡ b → a ·ₖ coefficient C m (mono C p) +ₖ find m ts ≡ pick b a (find m ts)
      go true e =
          let f : m ≡ p = eqb→eq m p (subst T (sym e) tt) in
          ap₂ (λ u v. a ·ₖ u +ₖ v) (ap (λ v. coefficient C v (mono C p)) f ∙ coefficient-mono C p pole) (ap (λ v. find v ts) f ∙ none)
          ∙ k.add_zero _
          ∙ k.mul_one a
      go false e =
          ap (λ u. a ·ₖ u +ₖ find m ts) (coefficient-mono-other C m p pole (λ f. subst T e (subst (λ (v : ℕ). T (eqb m v)) f (eqb_refl m))))
          ∙ ap (λ u. u +ₖ find m ts) (L.mul-zero k a)
          ∙ L.zero-add k _

  pub terms_top : (ts : Terms) (d m : ℕ) → T (distinct (places ts)) → T (below (places ts) d) → d ≤ m → coefficient C m (terms ts) ≡ 𝟘
  terms_top ts d m t u l = coefficient_terms ts t m ∙ find_absent m ts (below_absent (places ts) d m u l)

  abbrev pub Within : List ℕ → El → Type 0
  Within ps h = (m : ℕ) → T (absent m ps) → coefficient C m h ≡ 𝟘

  terms_within : (ts : Terms) → T (distinct (places ts)) → Within (places ts) (terms ts)
  terms_within ts t m u = coefficient_terms ts t m ∙ find_absent m ts u

  pub within-neg : (ps : List ℕ) (h : El) → Within ps h → Within ps (⊖ h)
  within-neg ps h w m t = coefficient-neg C m h ∙ ap -ₖ◌ (w m t) ∙ L.neg-zero k

  -- h at the places ps
  abbrev pub reading : List ℕ → El → Terms
  reading [] h = []
  reading (p ∷ ps) h = (coefficient C p h, p) ∷ reading ps h

  reading_places : (ps : List ℕ) (h : El) → places (reading ps h) ≡ ps
  reading_places [] h = refl
  reading_places (p ∷ ps) h = ap (λ qs. p ∷ qs) (reading_places ps h)

  find_reading : (ps : List ℕ) (h : El) (m : ℕ) → (T (absent m ps) → coefficient C m h ≡ 𝟘) → find m (reading ps h) ≡ coefficient C m h
  find_reading [] h m w = sym (w tt)
  find_reading (p ∷ ps) h m w = go (eqb m p) refl (find_reading ps h m) w
    where
      go : (b : Bool) → eqb m p ≡ b → ((T (absent m ps) → coefficient C m h ≡ 𝟘) → find m (reading ps h) ≡ coefficient C m h)
          → (T (both (not b) (absent m ps)) → coefficient C m h ≡ 𝟘)
          → pick b (coefficient C p h) (find m (reading ps h)) ≡ coefficient C m h
      go true e f v = ap (λ n. coefficient C n h) (sym (eqb→eq m p (subst T (sym e) tt)))
      go false e f v = f v

  -- an element is the sum of its terms
  pub reading_terms : (ps : List ℕ) (h : El) → T (distinct ps) → Within ps h → terms (reading ps h) ≡ h
  reading_terms ps h t w =
      coefficient_ext C (λ m. coefficient_terms (reading ps h) (subst (λ (qs : List ℕ). T (distinct qs)) (sym (reading_places ps h)) t) m ∙ find_reading ps h m (w m))

  pub terms_made : (ts : Terms) → MadeOf C (map (mono C) (places ts)) (terms ts)
  terms_made [] = refl
  terms_made ((a, p) ∷ ts) = (a, terms ts, terms_made ts, refl)

  pub within-made : (ps : List ℕ) (h : El) → T (distinct ps) → Within ps h → MadeOf C (map (mono C) ps) h
  within-made ps h t w =
      subst (λ (g : El). MadeOf C (map (mono C) ps) g) (reading_terms ps h t w)
      (subst (λ (qs : List ℕ). MadeOf C (map (mono C) qs) (terms (reading ps h))) (reading_places ps h) (terms_made (reading ps h)))

  made_terms : (ps : List ℕ) (h : El) → MadeOf C (map (mono C) ps) h → (ts : Terms) × (places ts ≡ ps) × (h ≡ terms ts)
  made_terms [] h e = ([], refl, e)
  made_terms (p ∷ ps) h (a, s, w, e) = go (made_terms ps s w)
    where
      go : (ts : Terms) × (places ts ≡ ps) × (s ≡ terms ts) → (ts : Terms) × (places ts ≡ p ∷ ps) × (h ≡ terms ts)
      go (ts, f, g) = ((a, p) ∷ ts, ap (λ qs. p ∷ qs) f, e ∙ ap (λ u. constant C a ⊗ mono C p ⊕ u) g)

  pub made-within : (ps : List ℕ) (h : El) → T (distinct ps) → MadeOf C (map (mono C) ps) h → Within ps h
  made-within ps h t w = go (made_terms ps h w)
    where
      go : (ts : Terms) × (places ts ≡ ps) × (h ≡ terms ts) → Within ps h
      go (ts, f, g) m u =
          ap (coefficient C m) g
          ∙ terms_within ts (subst (λ (qs : List ℕ). T (distinct qs)) (sym f) t) m (subst (λ (qs : List ℕ). T (absent m qs)) (sym f) u)
