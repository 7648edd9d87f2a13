-- Refusals are exclusive: a list of stages either passes or has a first cause, and that cause is one number.
--   Sound s            the stage s refuses nothing that it passes, and with one number only
--   AllSound ss        every stage of ss is sound
--   sound_must         the stage must n A is sound
--   passes_refuses     what passes has no first cause
--   one-cause          there is at most one first cause
--   passes_append, first_append    what passes, and the first cause, of two lists of stages one after the other
use mathlib.Core.Path.{◌≡◌, sym, ◌∙◌}
use mathlib.Core.Logic.{◌⊎◌, inl, inr, ◌↔◌}
use mathlib.Core.List.{List, [], ◌∷◌, ◌++◌}
use Prim.Native.Nat.{ℕ}
use Rattle.record.specs.Cause.{Stage, must, FirstCause, Passes}

pub record Sound (s : Stage) : Type 0 where
  pub exclusive : (n : ℕ) → s.refused n → s.passed → ⊥
  pub single : (m n : ℕ) → s.refused m → s.refused n → m ≡ n

abbrev pub AllSound : List Stage → Type 0
AllSound [] = Unit
AllSound (s ∷ ss) = Sound s × AllSound ss

pub sound_must : (n : ℕ) (A : Type 0) → Sound (must n A)
sound_must n A = record { exclusive = λ m r a. r.0 a; single = λ m k r t. r.1 ∙ sym t.1 }

pub passes_refuses : (ss : List Stage) → AllSound ss → Passes ss → (n : ℕ) → FirstCause ss n → ⊥
passes_refuses [] h p n f = f
passes_refuses (s ∷ ss) h p n (inl r) = h.0.exclusive n r p.0
passes_refuses (s ∷ ss) h p n (inr f) = passes_refuses ss h.1 p.1 n f.1

pub one-cause : (ss : List Stage) → AllSound ss → (m n : ℕ) → FirstCause ss m → FirstCause ss n → m ≡ n
one-cause [] h m n f g = absurd f
one-cause (s ∷ ss) h m n (inl r) (inl t) = h.0.single m n r t
one-cause (s ∷ ss) h m n (inl r) (inr g) = absurd (h.0.exclusive m r g.0)
one-cause (s ∷ ss) h m n (inr f) (inl t) = absurd (h.0.exclusive n t f.0)
one-cause (s ∷ ss) h m n (inr f) (inr g) = one-cause ss h.1 m n f.1 g.1

pub passes_append : (ss ts : List Stage) → Passes (ss ++ ts) ↔ (Passes ss × Passes ts)
passes_append [] ts = (λ p. (tt, p), λ p. p.1)
passes_append (s ∷ ss) ts = (
  λ p. let q = (passes_append ss ts).0 p.1 in ((p.0, q.0), q.1),
  λ p. (p.0.0, (passes_append ss ts).1 (p.0.1, p.1)),
)

first-there : (ss ts : List Stage) (n : ℕ) → FirstCause (ss ++ ts) n → FirstCause ss n ⊎ (Passes ss × FirstCause ts n)
first-there [] ts n f = inr (tt, f)
first-there (s ∷ ss) ts n (inl r) = inl (inl r)
first-there (s ∷ ss) ts n (inr f) = go f.0 (first-there ss ts n f.1)
  where
    go : s.passed → FirstCause ss n ⊎ (Passes ss × FirstCause ts n) → FirstCause (s ∷ ss) n ⊎ (Passes (s ∷ ss) × FirstCause ts n)
    go p (inl r) = inl (inr (p, r))
    go p (inr g) = inr ((p, g.0), g.1)

first_back : (ss ts : List Stage) (n : ℕ) → FirstCause ss n ⊎ (Passes ss × FirstCause ts n) → FirstCause (ss ++ ts) n
first_back [] ts n (inl f) = absurd f
first_back [] ts n (inr f) = f.1
first_back (s ∷ ss) ts n (inl (inl r)) = inl r
first_back (s ∷ ss) ts n (inl (inr f)) = inr (f.0, first_back ss ts n (inl f.1))
first_back (s ∷ ss) ts n (inr f) = inr (f.0.0, first_back ss ts n (inr (f.0.1, f.1)))

pub first_append : (ss ts : List Stage) (n : ℕ) → FirstCause (ss ++ ts) n ↔ (FirstCause ss n ⊎ (Passes ss × FirstCause ts n))
first_append ss ts n = (first-there ss ts n, first_back ss ts n)
