-- How many pairs of words are compared, and that the words tell the bytes.
--   Agree i vs ws      the first i elements are the same
--   compared_differ    i pairs are the same and the next differs: i + 1 are compared
--   compared-all       no pair differs: all are compared; compared_self: a list and itself
--   compared-most      no more than there are words
--   length_words       how many words there are
--   same-words         strings of whole words are the same if their words are
--   compared_kinds     records of different kinds: one pair
--   Before i, most     the words of a and b before the i-th are the same; how many pairs there are
--   walk_differ, walk_all      what a walk meets that comes to a pair that differs, and to the end
use mathlib.Core.Path.{◌≡◌, refl, sym, ap, ◌∙◌}
use mathlib.Core.Bool.{Bool, true, false, cond}
use mathlib.Core.List.{List, [], ◌∷◌}
use Prim.Native.Nat.{ℕ, zero, suc, ◌+◌, ◌*◌, ◌/◌, ◌≤◌, ◌<◌, min}
use native.Mathlib.Omega.{arith}
use lib.Dec.{eqb}
use lib.ListN.{length, get_or}
use lib.Seq.{ext_get_or}
use borrow.Author.Tests.{eqb-true, eqb-false, eq-eqb, ne_eqb}
use Rattle.algebra.proofs.Answers.{answer-no, answer-from}
use Rattle.layout.specs.Layout.{Bytes, number2, number4, all_bytes4}
use Rattle.layout.proofs.Read.{length_numbers, numbers-at, all_bytes4-numbers}
use Rattle.words.specs.Words.{words, compared}
use Rattle.words.specs.Contract.{WalkOf}

abbrev pub Agree : ℕ → (vs ws : List ℕ) → Type 0
Agree i vs ws = (k : ℕ) → k < i → get_or vs k 0 ≡ get_or ws k 0

-- the pair that is compared: equal, or not
equal-pair : (v w m n : ℕ) → v ≡ w → cond (eqb v w) m n ≡ m
equal-pair v w m n e = rw (eq-eqb v w e)

other-pair : (v w m n : ℕ) → ¬ (v ≡ w) → cond (eqb v w) m n ≡ n
other-pair v w m n d = rw (ne_eqb v w d)

pub compared_differ : (i : ℕ) (vs ws : List ℕ) → i < length vs → i < length ws → Agree i vs ws → ¬ (get_or vs i 0 ≡ get_or ws i 0) → compared vs ws ≡ i + 1
unfolding compared
compared_differ i [] ws l k a d = absurd (omega arith)
compared_differ i (v ∷ vs) [] l k a d = absurd (omega arith)
compared_differ zero (v ∷ vs) (w ∷ ws) l k a d = other-pair v w (1 + compared vs ws) 1 d
compared_differ (suc i) (v ∷ vs) (w ∷ ws) l k a d =
    equal-pair v w (1 + compared vs ws) 1 (a 0 (omega arith))
    ∙ omega (arith, compared_differ i vs ws (omega arith) (omega arith) (λ j h. a (suc j) (omega arith)) d)

pub compared-all : (vs ws : List ℕ) → Agree (min (length vs) (length ws)) vs ws → compared vs ws ≡ min (length vs) (length ws)
unfolding compared
compared-all [] ws a = omega arith
compared-all (v ∷ vs) [] a = omega arith
compared-all (v ∷ vs) (w ∷ ws) a =
    equal-pair v w (1 + compared vs ws) 1 (a 0 (omega arith)) ∙ omega (arith, compared-all vs ws (λ j h. a (suc j) (omega arith)))

pub compared_self : (vs : List ℕ) → compared vs vs ≡ length vs
compared_self vs = compared-all vs vs (λ k h. refl) ∙ omega arith

pub compared-most : (vs ws : List ℕ) → compared vs ws ≤ length vs
unfolding compared
compared-most [] ws = omega arith
compared-most (v ∷ vs) [] = omega arith
compared-most (v ∷ vs) (w ∷ ws) = go (eqb v w) (compared-most vs ws)
  where
    go : (b : Bool) → compared vs ws ≤ length vs → cond b (1 + compared vs ws) 1 ≤ suc (length vs)
    go true h = omega arith
    go false h = omega arith

module _ (s : List ℕ) where
  pub length_words : length (words s) ≡ length s / 4
  length_words = length_numbers s 0 (length s / 4)

  words-at : (k : ℕ) → k < length s / 4 → get_or (words s) k 0 ≡ number4 s (4 * k)
  words-at k h = numbers-at s 0 (length s / 4) k h ∙ ap (number4 s) (omega arith)

  words-bytes : Bytes s → 4 * (length s / 4) ≡ length s → all_bytes4 (words s) ≡ s
  words-bytes b e = all_bytes4-numbers (length s / 4) s b (sym e)

module _ (a b : List ℕ) where
  pub same-words : Bytes a → 4 * (length a / 4) ≡ length a → Bytes b → 4 * (length b / 4) ≡ length b → words a ≡ words b → a ≡ b
  same-words f g h k e = sym (words-bytes a f g) ∙ ap all_bytes4 e ∙ words-bytes b h k

  -- the kind stands in the first word
  pub compared_kinds : Bytes a → 4 ≤ length a → Bytes b → 4 ≤ length b → ¬ (number2 a 2 ≡ number2 b 2) → compared (words a) (words b) ≡ 1
  unfolding number2 number4
  compared_kinds f l h m d =
      compared_differ 0 (words a) (words b) (omega (arith, length_words a)) (omega (arith, length_words b)) (λ k j. absurd (omega arith))
      (λ e. let first = sym (words-at a 0 (omega arith)) ∙ e ∙ words-at b 0 (omega arith) in d (omega (arith, first, f 0, f 1, h 0, h 1)))

  abbrev pub Before : ℕ → Type 0
  Before i = (k : ℕ) → k < i → number4 a (4 * k) ≡ number4 b (4 * k)

  abbrev pub most : ℕ
  most = min (length a / 4) (length b / 4)

  agree : (i : ℕ) → i ≤ most → Before i → Agree i (words a) (words b)
  agree i l h k j = words-at a k (omega arith) ∙ h k j ∙ sym (words-at b k (omega arith))

  pub walk_differ : (i : ℕ) → i < most → Before i → ¬ (number4 a (4 * i) ≡ number4 b (4 * i)) → WalkOf a b (record { compared = i + 1; same = false })
  walk_differ i l h d =
      let other : ¬ (get_or (words a) i 0 ≡ get_or (words b) i 0) = λ e. d (sym (words-at a i (omega arith)) ∙ e ∙ words-at b i (omega arith)) in
      record {
        count = sym (compared_differ i (words a) (words b) (omega (arith, length_words a)) (omega (arith, length_words b)) (agree i (omega arith) h) other);
        same = answer-no (λ s. other (ap (λ (l : List ℕ). get_or l i 0) s));
      }

  pub walk_all : (n : ℕ) → n ≡ most → Before most → WalkOf a b (record { compared = n; same = eqb (length a / 4) (length b / 4) })
  walk_all n e h =
      let lengths : min (length (words a)) (length (words b)) ≡ most = omega (arith, length_words a, length_words b) in
      let same : Agree most (words a) (words b) = agree most (omega arith) h in
      record {
        count = e ∙ sym lengths ∙ sym (compared-all (words a) (words b) (λ k j. same k (omega (arith, lengths))));
        same =
            answer-from (eqb (length a / 4) (length b / 4)) (record { holds = eqb-true _ _; fails = eqb-false _ _ })
            (λ q. ext_get_or 0 (words a) (words b) (omega (arith, length_words a, length_words b, q)) (λ k j. same k (omega (arith, length_words a, q))))
            (λ q. sym (length_words a) ∙ ap length q ∙ length_words b);
      }
