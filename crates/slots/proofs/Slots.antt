-- The slots of a pool: a record that comes in at the end, and closing up.
--   entry-before, entry_last    the entries of a list with one record more
--   length_more            the length of such a list
--   copied_front           the first bytes of a string, copied
--   held_more              a record that is written behind the others is held with them
--   without_more           what is left of one record more
--   Closing i j p m w s    the first m records of p are passed, and what is left of them stands in the first w slots
--   closing_none, closing_turn, passed-below, closing_all    the loop that closes up
use mathlib.Core.Path.{◌≡◌, refl, sym, ap, ◌∙◌, subst}
use mathlib.Core.List.{List, [], ◌∷◌, ◌++◌, append-nil}
use mathlib.Core.Bool.{Bool, true, false}
use Prim.Native.Nat.{ℕ, suc, ◌+◌, ◌<◌, ◌≤◌}
use native.Mathlib.Numerals.{add-one}
use native.Mathlib.Omega.{arith}
use native.Mathlib.Decide.{ℕ_discrete}
use lib.ListN.{length, get_or, take, length-append, get_or-append}
use lib.Seq.{get_or-append_seam, take-suc, take_all, length-take-le, get_or-take}
use lib.Dec.{eqb}
use Rattle.calls.specs.Call.{room}
use Rattle.curve.specs.Sequence.{pick}
use Rattle.calls.specs.Pool.{entry, without, without_from}
use Rattle.calls.proofs.Places.{same_place, other_place}
use Rattle.slots.specs.Held.{slot, Held, Copied, Passed, first, second, other}

module _ (p : List (List ℕ)) (w : List ℕ) where
  pub entry-before : (m : ℕ) → m < length p → entry (p ++ w ∷ []) m ≡ entry p m
  entry-before m l = get_or-append p (w ∷ []) [] m l

  pub entry_last : entry (p ++ w ∷ []) (length p) ≡ w
  entry_last = get_or-append_seam p w [] []

  pub length_more : length (p ++ w ∷ []) ≡ length p + 1
  length_more = length-append p (w ∷ [])

pub held_more : (s s' : List ℕ) (p : List (List ℕ)) (w : List ℕ) → Held s p → length w ≤ room → slot (length p) + 40 ≤ length s'
    → ((k : ℕ) → k < slot (length p) → get_or s' k 0 ≡ get_or s k 0)
    → ((k : ℕ) → k < length w → get_or s' (slot (length p) + k) 0 ≡ get_or w k 0)
    → Held s' (p ++ w ∷ [])
held_more s s' p w h l f below here = record {
  fits = omega (arith, length_more p w);
  short = λ m n. short' m (omega (arith, length_more p w)) (ℕ_discrete m (length p));
  bytes = λ m k n u. bytes' m k (omega (arith, length_more p w)) u (ℕ_discrete m (length p));
}
  where
    short' : (m : ℕ) → m < length p + 1 → Dec (m ≡ length p) → length (entry (p ++ w ∷ []) m) ≤ room
    short' m n (yes e) = rw (e, entry_last p w) l
    short' m n (no e) = rw (entry-before p w m (omega (arith, e))) (h.short m (omega (arith, e)))

    bytes' : (m k : ℕ) → m < length p + 1 → k < length (entry (p ++ w ∷ []) m) → Dec (m ≡ length p)
        → get_or s' (slot m + k) 0 ≡ get_or (entry (p ++ w ∷ []) m) k 0
    bytes' m k n u (yes e) =
        let same : entry (p ++ w ∷ []) m ≡ w = ap (entry (p ++ w ∷ [])) e ∙ entry_last p w in
        ap (λ (q : ℕ). get_or s' (slot q + k) 0) e
        ∙ here k (subst (λ (v : List ℕ). k < length v) same u)
        ∙ sym (ap (λ (v : List ℕ). get_or v k 0) same)
    bytes' m k n u (no e) =
        let b : m < length p = omega (arith, e) in
        let same : entry (p ++ w ∷ []) m ≡ entry p m = entry-before p w m b in
        let v : k < length (entry p m) = subst (λ (v : List ℕ). k < length v) same u in
        below (slot m + k) (omega (arith, h.short m b))
        ∙ h.bytes m k b v
        ∙ sym (ap (λ (v : List ℕ). get_or v k 0) same)

module _ {A : Type 0} where
  pick_append : (b d : Bool) (y : A) (xs ts : List A)
      → pick b (xs ++ ts) (pick d (xs ++ ts) (y ∷ xs ++ ts)) ≡ pick b xs (pick d xs (y ∷ xs)) ++ ts
  pick_append true d y xs ts = refl
  pick_append false true y xs ts = refl
  pick_append false false y xs ts = refl

  -- what is left of x at place n
  abbrev left : ℕ → ℕ → ℕ → A → List A
  left n i j x = pick (eqb n i) [] (pick (eqb n j) [] (x ∷ []))

  pub without_more : (n i j : ℕ) (xs : List A) (x : A) → without_from n i j (xs ++ x ∷ []) ≡ without_from n i j xs ++ left (n + length xs) i j x
  without_more n i j [] x = ap (λ (m : ℕ). left m i j x) (omega arith)
  without_more n i j (y ∷ ys) x =
      let rest : without_from (suc n) i j (ys ++ x ∷ []) ≡ without_from (suc n) i j ys ++ left (n + suc (length ys)) i j x =
      without_more (suc n) i j ys x ∙ ap (λ (m : ℕ). without_from (suc n) i j ys ++ left m i j x) (omega arith) in
      ap (λ (t : List A). pick (eqb n i) t (pick (eqb n j) t (y ∷ t))) rest
      ∙ pick_append (eqb n i) (eqb n j) y (without_from (suc n) i j ys) (left (n + suc (length ys)) i j x)

  module _ (i j : ℕ) (xs : List A) (x : A) where
    split : without i j (xs ++ x ∷ []) ≡ without i j xs ++ left (length xs) i j x
    split = without_more 0 i j xs x ∙ ap (λ (m : ℕ). without i j xs ++ left m i j x) (omega arith)

    without-first : length xs ≡ i → without i j (xs ++ x ∷ []) ≡ without i j xs
    without-first e = split ∙ ap (λ (t : List A). without i j xs ++ t) (same_place (length xs) i _ _ e) ∙ append-nil (without i j xs)

    without-second : length xs ≡ j → without i j (xs ++ x ∷ []) ≡ without i j xs
    without-second e =
        split
        ∙ ap (λ (t : List A). without i j xs ++ pick (eqb (length xs) i) [] t) (same_place (length xs) j _ _ e)
        ∙ ap (λ (t : List A). without i j xs ++ t) (both (eqb (length xs) i))
        ∙ append-nil (without i j xs)
      where
        both : (b : Bool) → pick {A = List A} b [] [] ≡ []
        both true = refl
        both false = refl

    without_other : ¬ (length xs ≡ i) → ¬ (length xs ≡ j) → without i j (xs ++ x ∷ []) ≡ without i j xs ++ x ∷ []
    without_other a b =
        split
        ∙ ap (λ (t : List A). without i j xs ++ t) (other_place (length xs) i _ _ a ∙ other_place (length xs) j _ _ b)

pub record Closing (i j : ℕ) (p : List (List ℕ)) (m w : ℕ) (s : List ℕ) : Type 0 where
  pub count : length (without i j (take m p)) ≡ w
  pub new : Held s (without i j (take m p))
  pub old : (n k : ℕ) → m ≤ n → n < length p → k < length (entry p n) → get_or s (slot n + k) 0 ≡ get_or (entry p n) k 0

pub closing_none : (i j : ℕ) (p : List (List ℕ)) (s : List ℕ) → Held s p → Closing i j p 0 0 s
closing_none i j p s h = record {
  count = refl;
  new = record { fits = omega arith; short = λ m l. absurd (omega arith); bytes = λ m k l u. absurd (omega arith) };
  old = λ n k _ l u. h.bytes n k l u;
}

module _ (i j : ℕ) (p : List (List ℕ)) (m w : ℕ) (s : List ℕ) (below : m < length p) (h : Closing i j p m w s) where
  next : take (m + 1) p ≡ take m p ++ entry p m ∷ []
  next = ap (λ (n : ℕ). take n p) (add-one m) ∙ take-suc p m [] below

  front : length (take m p) ≡ m
  front = length-take-le m p (omega arith)

  stays : without i j (take (m + 1) p) ≡ without i j (take m p) → Closing i j p (m + 1) w s
  stays e = record {
    count = ap length e ∙ h.count;
    new = subst (Held s) (sym e) h.new;
    old = λ n k l u v. h.old n k (omega arith) u v;
  }

  comes : (s' : List ℕ) → w ≤ m → slot (length p) ≤ length s → length (entry p m) ≤ room → Copied s (slot w) s (slot m) 40 s'
      → without i j (take (m + 1) p) ≡ without i j (take m p) ++ entry p m ∷ [] → Closing i j p (m + 1) (w + 1) s'
  comes s' l f short c e = record {
    count = ap length e ∙ length_more (without i j (take m p)) (entry p m) ∙ ap (λ (n : ℕ). n + 1) h.count;
    new =
        subst (Held s') (sym e)
        (held_more s s' (without i j (take m p)) (entry p m) h.new short (omega (arith, h.count, c.long))
        (λ k u. c.before k (omega (arith, h.count)))
        (λ k u.
        ap (λ (n : ℕ). get_or s' (slot n + k) 0) h.count ∙ c.here k (omega arith) ∙ h.old m k (omega arith) below u));
    old = λ n k a b u. c.after (slot n + k) (omega arith) ∙ h.old n k (omega arith) b u;
  }

  pub closing_turn : (s' : List ℕ) (r : ℕ) → w ≤ m → slot (length p) ≤ length s → length (entry p m) ≤ room → Passed s w m i j s' r
      → Closing i j p (m + 1) r s'
  closing_turn s' r l f short (first e q a) = rw (q, a) (stays (ap (without i j) next ∙ without-first i j (take m p) (entry p m) (front ∙ e)))
  closing_turn s' r l f short (second e q a) = rw (q, a) (stays (ap (without i j) next ∙ without-second i j (take m p) (entry p m) (front ∙ e)))
  closing_turn s' r l f short (other a b c e) =
      rw e
      (comes s' l f short c
      (ap (without i j) next ∙ without_other i j (take m p) (entry p m) (λ q. a (sym front ∙ q)) (λ q. b (sym front ∙ q))))

pub passed-below : {s : List ℕ} {w m i j : ℕ} {s' : List ℕ} {r : ℕ} → w ≤ m → Passed s w m i j s' r → r ≤ m + 1
passed-below l (first e q a) = omega arith
passed-below l (second e q a) = omega arith
passed-below l (other a b c e) = omega arith

pub closing_all : (i j : ℕ) (p : List (List ℕ)) (n w : ℕ) (s : List ℕ) → length p ≡ n → Closing i j p n w s → Held s (without i j p)
closing_all i j p n w s e h = subst (λ (q : List (List ℕ)). Held s (without i j q)) (take_all n p (omega (arith, e))) h.new

-- the first k bytes of t, copied
pub copied_front : (s : List ℕ) (at : ℕ) (t : List ℕ) (k : ℕ) (s' : List ℕ) → k ≤ length t → Copied s at (take k t) 0 (length (take k t)) s' → Copied s at t 0 k s'
copied_front s at t k s' h c =
    let long : length (take k t) ≡ k = length-take-le k t h in
    record {
      long = c.long;
      here = λ i l. c.here i (omega (arith, long)) ∙ get_or-take k t (0 + i) 0 (omega arith);
      before = c.before;
      after = λ i l. c.after i (omega (arith, long));
    }
