-- Lists of pairs in rising order.
--   rises_self, rises_trans    the order of pairs: a pair may follow itself; if r may follow q, and s may follow r, then s may follow q
--   rises_same                 two pairs each of which may follow the other are the same
--   rising_every, rising-first     each other pair of a rising list may follow its first pair; so may each pair that stands in the list
--   rising-rest                a rising list without the pairs in front
--   rising_replicate           copies of a pair
--   rising-copies              a rising list, and behind it copies of a pair that may follow each pair of the list
--   rising-one                 rising lists that have every pair equally often are the same
--   repeats_together           "repeats stand together": between two copies of a pair there are copies of it alone
-- rising-one is by induction: each of the two first pairs stands in the other list too, so each may follow the other.
use mathlib.Core.Path.{◌≡◌, refl, sym, ◌∙◌, ap, subst}
use mathlib.Core.Logic.{inl, inr}
use mathlib.Core.List.IsChain
use mathlib.Core.List.{List, [], ◌∷◌, ◌++◌, IsChain-of_IsChain-cons}
use Prim.Native.Nat.{ℕ, zero, suc}
use native.Mathlib.Omega.{arith}
use lib.ListN.{replicate}
use Rattle.ideal.proofs.Every.{Every, every_map, every_right}
use Rattle.point.specs.Point.{Pair, times, Rises, Rising}
use Rattle.point.proofs.Times.{SameTimes, times_none, times-less, times-first, every_times}

pub rises_self : (q : Pair) → Rises q q
rises_self (a, b) = inr (refl, omega arith)

pub rises_trans : (q r s : Pair) → Rises q r → Rises r s → Rises q s
rises_trans (a, b) (a', b') (a'', b'') (inl l) (inl m) = inl (omega arith)
rises_trans (a, b) (a', b') (a'', b'') (inl l) (inr (e, m)) = inl (omega arith)
rises_trans (a, b) (a', b') (a'', b'') (inr (e, l)) (inl m) = inl (omega arith)
rises_trans (a, b) (a', b') (a'', b'') (inr (e, l)) (inr (f, m)) = inr (e ∙ f, omega arith)

pub rises_same : (q r : Pair) → Rises q r → Rises r q → q ≡ r
rises_same (a, b) (a', b') (inl l) (inl m) = absurd (omega arith)
rises_same (a, b) (a', b') (inl l) (inr (f, m)) = absurd (omega arith)
rises_same (a, b) (a', b') (inr (e, l)) (inl m) = absurd (omega arith)
rises_same (a, b) (a', b') (inr (e, l)) (inr (f, m)) = λ i. (e i, second i)
  where
    second : b ≡ b'
    second = omega arith

pub rising_every : (q : Pair) (ps : List Pair) → Rising (q ∷ ps) → Every (Rises q) ps
rising_every q [] _ = tt
rising_every q (r ∷ ps) (IsChain.cons-cons h t) = (h, every_map (λ s. rises_trans q r s h) ps (rising_every r ps t))

pub rising-first : (q : Pair) (ps : List Pair) (r : Pair) → Rising (q ∷ ps) → ¬ (times r (q ∷ ps) ≡ 0) → Rises q r
rising-first q ps r h = every_times (Rises q) r (q ∷ ps) (rises_self q, rising_every q ps h)

pub rising-rest : (ps qs : List Pair) → Rising (ps ++ qs) → Rising qs
rising-rest [] qs h = h
rising-rest (p ∷ ps) qs h = rising-rest ps qs (IsChain-of_IsChain-cons h)

pub rising_replicate : (k : ℕ) (q : Pair) → Rising (replicate k q)
rising_replicate zero q = IsChain.nil
rising_replicate (suc zero) q = IsChain.singleton q
rising_replicate (suc (suc k)) q = IsChain.cons-cons (rises_self q) (rising_replicate (suc k) q)

pub rising-copies : (ps : List Pair) (q : Pair) (k : ℕ) → Rising ps → Every (λ r. Rises r q) ps → Rising (ps ++ replicate k q)
rising-copies [] q k _ _ = rising_replicate k q
rising-copies (p ∷ []) q zero _ _ = IsChain.singleton p
rising-copies (p ∷ []) q (suc k) _ (h, _) = IsChain.cons-cons h (rising_replicate (suc k) q)
rising-copies (p ∷ r ∷ ps) q k (IsChain.cons-cons h t) (_, hs) = IsChain.cons-cons h (rising-copies (r ∷ ps) q k t hs)

pub rising-one : (ps qs : List Pair) → Rising ps → Rising qs → SameTimes ps qs → ps ≡ qs
rising-one [] [] _ _ e = refl
rising-one [] (q ∷ qs) _ _ e = absurd (times-first q qs (sym (times_none q) ∙ e q))
rising-one (p ∷ ps) [] _ _ e = absurd (times-first p ps (sym (times_none p) ∙ sym (e p)))
rising-one (p ∷ ps) (q ∷ qs) h k e =
    go
    (rises_same p q (rising-first p ps q h (λ z. times-first q qs (sym z ∙ e q))) (rising-first q qs p k (λ z. times-first p ps (sym z ∙ sym (e p)))))
    (rising-one ps qs (IsChain-of_IsChain-cons h) (IsChain-of_IsChain-cons k))
  where
    go : p ≡ q → (SameTimes ps qs → ps ≡ qs) → p ∷ ps ≡ q ∷ qs
    go s next =
        let rest = next (λ r. times-less r q ps qs (ap (λ (t : Pair). times r (t ∷ ps)) (sym s) ∙ e r)) in
        λ i. s i ∷ rest i

between : (q : Pair) (ps qs : List Pair) → Rising (q ∷ ps ++ q ∷ qs) → Every (λ r. r ≡ q) ps
between q [] qs h = tt
between q (r ∷ ps) qs (IsChain.cons-cons h t) =
    go (rises_same r q (every_right (Rises r) ps (q ∷ qs) (rising_every r (ps ++ q ∷ qs) t)).0 h) (between q ps qs)
  where
    go : r ≡ q → (Rising (q ∷ ps ++ q ∷ qs) → Every (λ s. s ≡ q) ps) → (r ≡ q) × Every (λ s. s ≡ q) ps
    go e next = (e, next (subst (λ (s : Pair). Rising (s ∷ ps ++ q ∷ qs)) e t))

pub repeats_together : (q : Pair) (os ps qs : List Pair) → Rising (os ++ (q ∷ ps ++ q ∷ qs)) → Every (λ r. r ≡ q) ps
repeats_together q os ps qs h = between q ps qs (rising-rest os (q ∷ ps ++ q ∷ qs) h)
