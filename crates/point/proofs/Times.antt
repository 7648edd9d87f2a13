-- How often a pair stands in a list of pairs, and lists of points.
--   same-pair                  equality of pairs is decidable
--   times_none, times_here, times_other    no pair stands in the empty list; the first pair counts for itself and for no other
--   times_append               in two lists one after the other
--   times_replicate, times_replicate_other     in k copies of a pair
--   times-less                 two lists with the same first pair, without it
--   times-first                the first pair of a list stands in it
--   SameTimes ps qs            every pair stands equally often in ps and in qs
--   every_times, times_every   what holds of each pair of a list holds of a pair that stands in it, and back
--   points_append, points_replicate        lists of points one after the other, k copies of a point
--   points_every               each pair of a list of points is a point
--   times_off                  a pair that is no point does not stand in a list of points
use mathlib.Core.Path.{◌≡◌, refl, sym, ◌∙◌, ap, subst}
use mathlib.Core.Bool.{Bool, true, false, ◌&&◌}
use mathlib.Core.List.{List, [], ◌∷◌, ◌++◌}
use Prim.Native.Nat.{ℕ, zero, suc, ◌+◌}
use native.Mathlib.Decide.{ℕ_discrete}
use native.Mathlib.Omega.{arith}
use lib.Dec.{T, eqb, eqb→eq, eqb_refl}
use lib.ListN.{replicate}
use Rattle.ideal.proofs.Every.{Every}
use Rattle.calls.specs.Call.{one_if}
use Rattle.point.specs.Point.{Pair, Point, times, AllPoints}

pub same-pair : (q r : Pair) → Dec (q ≡ r)
same-pair (a, b) (a', b') = go (ℕ_discrete a a') (ℕ_discrete b b')
  where
    go : Dec (a ≡ a') → Dec (b ≡ b') → Dec (◌≡◌ {A = Pair} (a, b) (a', b'))
    go (yes e) (yes f) = yes (λ i. (e i, f i))
    go (yes e) (no d) = no (λ f. d (ap (λ (q : Pair). q.1) f))
    go (no d) f = no (λ e. d (ap (λ (q : Pair). q.0) e))

one_both : (a b : Bool) → T a → T b → one_if (a && b) ≡ 1
one_both true true s t = refl
one_both true false s t = absurd t
one_both false b s t = absurd s

none_both : (a b : Bool) → (T a → T b → ⊥) → one_if (a && b) ≡ 0
none_both true true n = absurd (n tt tt)
none_both true false n = refl
none_both false b n = refl

pub times_none : (q : Pair) → times q [] ≡ 0
times_none (a, b) = refl

pub times_here : (q : Pair) (ps : List Pair) → times q (q ∷ ps) ≡ suc (times q ps)
times_here (a, b) ps = ap (λ (n : ℕ). n + times (a, b) ps) (one_both (eqb a a) (eqb b b) (eqb_refl a) (eqb_refl b)) ∙ one_more (times (a, b) ps)
  where
    one_more : (n : ℕ) → 1 + n ≡ suc n
    one_more n = omega arith

pub times_other : (q r : Pair) (ps : List Pair) → ¬ (q ≡ r) → times q (r ∷ ps) ≡ times q ps
times_other (a, b) (a', b') ps d =
    ap (λ (n : ℕ). n + times (a, b) ps) (none_both (eqb a a') (eqb b b') (λ s t. d (λ i. (eqb→eq a a' s i, eqb→eq b b' t i)))) ∙ none_more (times (a, b) ps)
  where
    none_more : (n : ℕ) → 0 + n ≡ n
    none_more n = omega arith

pub times_append : (q : Pair) (ps qs : List Pair) → times q (ps ++ qs) ≡ times q ps + times q qs
times_append (a, b) [] qs = start (times (a, b) qs)
  where
    start : (n : ℕ) → n ≡ 0 + n
    start n = omega arith
times_append (a, b) ((a', b') ∷ ps) qs = step (one_if (eqb a a' && eqb b b')) (times (a, b) ps) (times (a, b) qs) (times_append (a, b) ps qs)
  where
    step : (i m n : ℕ) {k : ℕ} → k ≡ m + n → i + k ≡ i + m + n
    step i m n e = omega (arith, e)

pub times_replicate : (q : Pair) (k : ℕ) → times q (replicate k q) ≡ k
times_replicate q zero = times_none q
times_replicate q (suc k) = times_here q (replicate k q) ∙ ap suc (times_replicate q k)

pub times_replicate_other : (q r : Pair) (k : ℕ) → ¬ (q ≡ r) → times q (replicate k r) ≡ 0
times_replicate_other q r zero d = times_none q
times_replicate_other q r (suc k) d = times_other q r (replicate k r) d ∙ times_replicate_other q r k d

pub times-less : (s q : Pair) (ps qs : List Pair) → times s (q ∷ ps) ≡ times s (q ∷ qs) → times s ps ≡ times s qs
times-less (a, b) (a', b') ps qs e = omega (arith, e)

pub times-first : (q : Pair) (ps : List Pair) → ¬ (0 ≡ times q (q ∷ ps))
times-first q ps e = omega (arith, e ∙ times_here q ps)

abbrev pub SameTimes : List Pair → List Pair → Type 0
SameTimes ps qs = (q : Pair) → times q ps ≡ times q qs

pub every_times : (X : Pair → Type 0) (r : Pair) (ps : List Pair) → Every X ps → ¬ (times r ps ≡ 0) → X r
every_times X r [] _ n = absurd (n (times_none r))
every_times X r (q ∷ ps) (h, hs) n = go (same-pair r q) (every_times X r ps hs)
  where
    go : Dec (r ≡ q) → (¬ (times r ps ≡ 0) → X r) → X r
    go (yes e) next = subst X (sym e) h
    go (no d) next = next (λ z. n (times_other r q ps d ∙ z))

-- what does not stand in a list does not stand in it without its first pair
times-rest : (r q : Pair) (ps : List Pair) → times r (q ∷ ps) ≡ 0 → times r ps ≡ 0
times-rest (a, b) (a', b') ps e = omega (arith, e)

pub times_every : (X : Pair → Type 0) (ps : List Pair) → ((r : Pair) → ¬ (times r ps ≡ 0) → X r) → Every X ps
times_every X [] f = tt
times_every X (q ∷ ps) f = (f q (λ e. times-first q ps (sym e)), times_every X ps (λ r n. f r (λ e. n (times-rest r q ps e))))

module _ (c : List ℕ) where
  pub points_append : (ps qs : List Pair) → AllPoints c ps → AllPoints c qs → AllPoints c (ps ++ qs)
  points_append [] qs hs is = is
  points_append (p ∷ ps) qs (h, hs) is = (h, points_append ps qs hs is)

  pub points_replicate : (q : Pair) → Point c q → (k : ℕ) → AllPoints c (replicate k q)
  points_replicate q h zero = tt
  points_replicate q h (suc k) = (h, points_replicate q h k)

  pub points_every : (ps : List Pair) → AllPoints c ps → Every (Point c) ps
  points_every [] _ = tt
  points_every (p ∷ ps) (h, hs) = (h, points_every ps hs)

  pub times_off : (q : Pair) (ps : List Pair) → ¬ Point c q → AllPoints c ps → times q ps ≡ 0
  times_off q [] n _ = times_none q
  times_off q (p ∷ ps) n (h, hs) = times_other q p ps (λ e. n (subst (Point c) (sym e) h)) ∙ times_off q ps n hs
