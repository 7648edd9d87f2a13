-- Pairs put into a slice.
--   Putting                the loop of put: i pairs are put behind n pairs
--   putting_start, putting_more, putting_end
--   putting_length         the slice keeps its length
--   held_start             no pair is put
--   held-put               k more pairs are put
--   held-room              there is room for a number of pairs
use mathlib.Core.Path.{◌≡◌, refl, sym, ◌∙◌, ap, ap₂}
use mathlib.Core.List.{List, [], ◌∷◌, ◌++◌, append-nil, append_assoc}
use Prim.Native.Nat.{ℕ, ◌+◌, ◌*◌, ◌≤◌, ◌<◌}
use native.Mathlib.Omega.{arith}
use lib.ListN.{length, get_or, take, drop, set, replicate, length-append, length-drop, length-replicate, take-append-drop, replicate-append-replicate}
use lib.Seq.{length-take-le, append_snoc, set_at, take-append_seam, drop-append-add, drop-drop}
use Rattle.point.specs.Point.{Pair}
use Rattle.point.specs.PointCall.{coordinates, points_room}
use Rattle.point.proofs.Coordinates.{two-left, length_coordinates, coordinates_append}
use Rattle.listing.specs.Contract.{PutAsked, Put, Held}

-- two numbers at the end of what is put
write_pair : (xs out : List ℕ) (at a b : ℕ) → length xs ≡ at → at + 2 ≤ length out → set (set (xs ++ drop at out) at a) (at + 1) b ≡ xs ++ (a ∷ b ∷ []) ++ drop (at + 2) out
write_pair xs out at a b e l =
    ap (λ (t : List ℕ). set (set (xs ++ t) at a) (at + 1) b) (two-left out at (omega arith))
    ∙ ap (λ (t : List ℕ). set t (at + 1) b) (set_at xs u (v ∷ rest) a at e ∙ sym (append_snoc xs a (v ∷ rest)))
    ∙ set_at (xs ++ a ∷ []) v rest b (at + 1) (length-append xs (a ∷ []) ∙ ap (λ (k : ℕ). k + 1) e)
    ∙ append_assoc xs (a ∷ []) (b ∷ rest)
    ∙ sym (append_assoc xs (a ∷ b ∷ []) rest)
  where
    u : ℕ
    u = get_or out at 0

    v : ℕ
    v = get_or out (at + 1) 0

    rest : List ℕ
    rest = drop (at + 2) out

pub record Putting (first : List ℕ) (n a b k i : ℕ) (out : List ℕ) : Type 0 where
  pub room : 2 * (n + k) ≤ length first
  pub bound : i ≤ k
  pub is : out ≡ take (2 * n) first ++ coordinates (replicate i (a, b)) ++ drop (2 * (n + i)) first

pub putting_start : {first : List ℕ} {n a b k : ℕ} → PutAsked first n k → Putting first n a b k 0 first
putting_start {first} {n} {a} {b} h =
    record {
      room = h.room;
      bound = omega arith;
      is = sym (ap₂ (λ (s : List ℕ) (m : ℕ). s ++ drop m first) (append-nil (take (2 * n) first)) none ∙ take-append-drop (2 * n) first);
    }
  where
    none : 2 * (n + 0) ≡ 2 * n
    none = omega arith

module _ {first : List ℕ} {n a b k i : ℕ} {out : List ℕ} (h : Putting first n a b k i out) where
  before : List ℕ
  before = take (2 * n) first ++ coordinates (replicate i (a, b))

  before_length : length before ≡ 2 * (n + i)
  unfolding before
  before_length =
      length-append (take (2 * n) first) (coordinates (replicate i (a, b)))
      ∙ ap₂ ◌+◌ (length-take-le (2 * n) first (omega (arith, h.room))) (length_coordinates (replicate i (a, b)) ∙ ap (λ (m : ℕ). 2 * m) (length-replicate i (a, b))) ∙ sum
    where
      sum : 2 * n + 2 * i ≡ 2 * (n + i)
      sum = omega arith

  pub putting_length : length out ≡ length first
  unfolding before before_length
  putting_length =
      ap length h.is ∙ length-append before (drop (2 * (n + i)) first)
      ∙ ap₂ ◌+◌ before_length (length-drop (2 * (n + i)) first)
      ∙ omega (arith, h.room, h.bound)

  pub putting_more : i < k → Putting first n a b k (i + 1) (set (set out (2 * (n + i)) a) (2 * (n + i) + 1) b)
  unfolding before before_length
  putting_more l =
      record {
        room = h.room;
        bound = omega arith;
        is =
            ap (λ (t : List ℕ). set (set t (2 * (n + i)) a) (2 * (n + i) + 1) b) h.is
            ∙ write_pair before first (2 * (n + i)) a b before_length (omega (arith, h.room))
            ∙ ap₂ (λ (s : List ℕ) (m : ℕ). s ++ drop m first) more next;
      }
    where
      more : before ++ (a ∷ b ∷ []) ≡ take (2 * n) first ++ coordinates (replicate (i + 1) (a, b))
      more =
          append_assoc (take (2 * n) first) (coordinates (replicate i (a, b))) (a ∷ b ∷ [])
          ∙ ap (λ (t : List ℕ). take (2 * n) first ++ t)
          (sym (coordinates_append (replicate i (a, b)) ((a, b) ∷ [])) ∙ ap coordinates (replicate-append-replicate i 1 (a, b)))

      next : 2 * (n + i) + 2 ≡ 2 * (n + (i + 1))
      next = omega arith

  pub putting_end : k ≤ i → Put first n a b k out
  putting_end l = record { is = h.is ∙ ap (λ (j : ℕ). take (2 * n) first ++ coordinates (replicate j (a, b)) ++ drop (2 * (n + j)) first) same }
    where
      same : i ≡ k
      same = omega (arith, h.bound)

pub held_start : (out : List ℕ) → Held out [] 0 out
held_start out = record { many = refl; is = refl }

module _ {first : List ℕ} {ps : List Pair} {n : ℕ} {out : List ℕ} (h : Held first ps n out) where
  filled : length (coordinates ps) ≡ 2 * n
  filled = length_coordinates ps ∙ ap (λ (m : ℕ). 2 * m) (sym h.many)

  pub held_length : 2 * n ≤ length first → length out ≡ length first
  held_length l = ap length h.is ∙ length-append (coordinates ps) (drop (2 * n) first) ∙ ap₂ ◌+◌ filled (length-drop (2 * n) first) ∙ omega arith

  pub held-put : {a b k : ℕ} {out' : List ℕ} → Put out n a b k out' → Held first (ps ++ replicate k (a, b)) (n + k) out'
  held-put {a} {b} {k} p =
      record {
        many = ap₂ ◌+◌ h.many (sym (length-replicate k (a, b))) ∙ sym (length-append ps (replicate k (a, b)));
        is =
            p.is
            ∙ ap (λ (t : List ℕ). take (2 * n) t ++ coordinates (replicate k (a, b)) ++ drop (2 * (n + k)) t) h.is
            ∙ ap₂ (λ (s t : List ℕ). s ++ coordinates (replicate k (a, b)) ++ t) old rest
            ∙ ap (λ (s : List ℕ). s ++ drop (2 * (n + k)) first) (sym (coordinates_append ps (replicate k (a, b))));
      }
    where
      old : take (2 * n) (coordinates ps ++ drop (2 * n) first) ≡ coordinates ps
      old = ap (λ (m : ℕ). take m (coordinates ps ++ drop (2 * n) first)) (sym filled) ∙ take-append_seam (coordinates ps) (drop (2 * n) first)

      split : 2 * (n + k) ≡ length (coordinates ps) + 2 * k
      split = omega (arith, filled)

      joined : 2 * n + 2 * k ≡ 2 * (n + k)
      joined = omega arith

      rest : drop (2 * (n + k)) (coordinates ps ++ drop (2 * n) first) ≡ drop (2 * (n + k)) first
      rest =
          ap (λ (m : ℕ). drop m (coordinates ps ++ drop (2 * n) first)) split
          ∙ drop-append-add (coordinates ps) (drop (2 * n) first) (2 * k)
          ∙ drop-drop (2 * k) (2 * n) first
          ∙ ap (λ (m : ℕ). drop m first) joined

  -- three pairs at most, in a slice that has room for them
  pub held-room : {k : ℕ} → points_room ≤ length first → n + k ≤ 3 → PutAsked out n k
  held-room l m = record { room = omega (arith, held_length (omega arith)) }
