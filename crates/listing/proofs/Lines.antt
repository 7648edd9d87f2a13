-- The loops of list_at and list_points: the points seen so far are in the slice.
--   eliminant_asked, eliminant_at_asked    what the eliminants ask
--   root_asked             what a scan for roots asks
--   reached-start          none
--   reached_skip           no point up to the next root at x = a
--   reached-put            the pair at the root is counted and put
--   reached-line           x = a is done
--   reached-lines          no point up to the next root of the eliminant in x
--   reached-all            x is done
--   put-most, put_asked    there is room for the pair
--   reached_length         the slice keeps its length
--   Line                   the invariant of list_at's loop; line-start, line-next, line-end
--   line-here, line-past   … at the root that was found, and where there is none
--   reached-next           the next turn of list_points' loop; reached-here, reached-past likewise
use mathlib.Core.Path.{◌≡◌, sym, subst}
use mathlib.Core.List.{List, [], ◌++◌}
use Prim.Native.Nat.{ℕ, suc, ◌+◌, ◌<◌, ◌≤◌}
use native.Mathlib.Omega.{arith}
use lib.ListN.{length, replicate, length-append, length-replicate}
use Rattle.std.specs.Prelude.{Option, Some, None, unwrap_or}
use Rattle.prime.specs.Prime.{Prime}
use Rattle.ground.specs.declared.Ground.{Ground}
use Rattle.basis.specs.Divisor.{Shaped}
use Rattle.basis.specs.declared.Divisor.{Divisor}
use Rattle.record.specs.Curve.{accepted_prime}
use Rattle.roots.specs.declared.Cubic.{Cubic}
use Rattle.roots.specs.Contract.{RootAsked, RootFound}
use Rattle.eliminants.specs.Contract.{EliminantAsked, EliminantAtAsked, Coefficients, InX, InY}
use Rattle.point.specs.Point.{Pair}
use Rattle.point.specs.PointCall.{points_room}
use Rattle.listing.specs.Contract.{Divided, Stands, PutAsked, Put, Reached, ListedAt, Listed}
use Rattle.listing.proofs.Slices.{held_start, held-put, held-room, held_length}
use Rattle.listing.proofs.Missed.{missed_x, missed_y}
use Rattle.listing.proofs.Scan.{seen_start, seen_skip, seen-put, seen-line, seen-lines, seen_all, seen-three}

module _ {g : Ground} {r : Divisor} where
  ground-prime : Divided g r → Prime g.p
  ground-prime d = subst Prime (sym d.2.ground.modulus) (accepted_prime d.0 d.2.accepted)

  pub eliminant_asked : Divided g r → EliminantAsked g.p r
  eliminant_asked d =
      record {
        prime = ground-prime d;
        kind = d.3.kind;
        shaped = subst (λ (m : ℕ). Shaped m d.3.kind r) (sym d.2.ground.modulus) d.3.based.shaped;
      }

  pub eliminant_at_asked : {a : ℕ} → Divided g r → a < g.p → EliminantAtAsked g.p r a
  eliminant_at_asked d l = record { asked = eliminant_asked d; below = l }

  pub root_asked : {e : Cubic} {from : ℕ} → Divided g r → Coefficients g.p e → from ≤ g.p → RootAsked g.p e from
  root_asked d b l =
      record { prime = ground-prime d; below_c0 = b.below_c0; below_c1 = b.below_c1; below_c2 = b.below_c2; below_c3 = b.below_c3; start = l }

  pub reached-start : (out : List ℕ) → Reached g r out (0, 0) 0 out
  reached-start out = record { pairs = []; held = held_start out; seen = λ c w o v. seen_start c w }

  module _ {first : List ℕ} {a n : ℕ} {out : List ℕ} where
    pub reached_skip : {b b' : ℕ} {e : Cubic} → Reached g r first (a, b) n out → InY g.p r a e → RootFound g.p e b b' → Reached g r first (a, b') n out
    reached_skip {b} {b'} h y root =
        record {
          pairs = h.pairs;
          held = h.held;
          seen = λ c w o v. seen_skip (h.seen c w o v) b' root.from_on (missed_y o v root a y);
        }

    pub reached-put : {b k : ℕ} {out' : List ℕ} → Reached g r first (a, b) n out → Stands g r a b k → Put out n a b k out' → Reached g r first (a, suc b) (n + k) out'
    reached-put {b} {k} h s p =
        record {
          pairs = h.pairs ++ replicate k (a, b);
          held = held-put h.held p;
          seen = λ c w o v. seen-put (h.seen c w o v) k (s.found c w o v);
        }

    pub reached-line : {b : ℕ} → Reached g r first (a, b) n out → g.p ≤ b → Reached g r first (suc a, 0) n out
    reached-line h l =
        record { pairs = h.pairs; held = h.held; seen = λ c w o v. seen-line (h.seen c w o v) (omega (arith, o.ground.modulus)) }

    pub reached-lines : {a' : ℕ} {e : Cubic} → Reached g r first (a, 0) n out → InX g.p r e → RootFound g.p e a a' → Reached g r first (a', 0) n out
    reached-lines {a'} h x root =
        record { pairs = h.pairs; held = h.held; seen = λ c w o v. seen-lines (h.seen c w o v) a' root.from_on (missed_x o v root x) }

    pub reached-all : Reached g r first (a, 0) n out → g.p ≤ a → Listed g r first n out
    reached-all h l =
        record { pairs = h.pairs; held = h.held; points = λ c w o v. seen_all (h.seen c w o v) (omega (arith, o.ground.modulus)) }

    -- the pairs put so far and the next one are three at most
    pub put-most : {b k : ℕ} → Divided g r → Reached g r first (a, b) n out → Stands g r a b k → n + k ≤ 3
    put-most {b} {k} (c, w, o, v) h s =
        omega (
          arith,
          h.held.many,
          length-append h.pairs (replicate {A = Pair} k (a, b)),
          length-replicate {A = Pair} k (a, b),
          seen-three o.accepted v.accepted (seen-put (h.seen c w o v) k (s.found c w o v)),
        )

    pub put_asked : {b k : ℕ} → Divided g r → points_room ≤ length first → Reached g r first (a, b) n out → Stands g r a b k → PutAsked out n k
    put_asked d l h s = held-room h.held l (put-most d h s)

  pub reached_length : {first : List ℕ} {q : Pair} {n : ℕ} {out : List ℕ} → Divided g r → points_room ≤ length first → Reached g r first q n out → length out ≡ length first
  reached_length (c, w, o, v) l h = held_length h.held (omega (arith, h.held.many, seen-three o.accepted v.accepted (h.seen c w o v)))

-- a scan from b + 1 on
from_next : {p b to : ℕ} {e : Cubic} → RootFound p e (b + 1) to → RootFound p e (suc b) to
from_next {p} {b} {to} {e} root = subst (λ (n : ℕ). RootFound p e n to) same root
  where
    same : b + 1 ≡ suc b
    same = omega arith

-- The points with x = a before (a, b) are put behind the n pairs of out₀.
pub record Line (g : Ground) (r : Divisor) (a n : ℕ) (out₀ : List ℕ) (b m : ℕ) (out : List ℕ) : Type 0 where
  pub bound : b ≤ g.p
  pub reached : (first : List ℕ) → Reached g r first (a, 0) n out₀ → Reached g r first (a, b) m out

module _ {g : Ground} {r : Divisor} {a n : ℕ} {out₀ : List ℕ} where
  pub line-start : {b : ℕ} {e : Cubic} → InY g.p r a e → RootFound g.p e 0 b → Line g r a n out₀ b n out₀
  line-start y root = record { bound = root.most; reached = λ first h. reached_skip h y root }

  module _ {b m : ℕ} {out : List ℕ} (h : Line g r a n out₀ b m out) where
    pub line-next : {k b' : ℕ} {e : Cubic} {out' : List ℕ} → InY g.p r a e → Stands g r a b k → Put out m a b k out' → RootFound g.p e (b + 1) b'
        → Line g r a n out₀ b' (m + k) out'
    line-next y s p root = record { bound = root.most; reached = λ first z. reached_skip (reached-put (h.reached first z) s p) y (from_next root) }

    pub line-end : g.p ≤ b → ListedAt g r a n out₀ m out
    line-end l = record { reached = λ first z. reached-line (h.reached first z) l }

-- the next root of the eliminant in x, behind x = a
pub reached-next : {g : Ground} {r : Divisor} {first : List ℕ} {a a' n n' : ℕ} {out out' : List ℕ} {e : Cubic} → Reached g r first (a, 0) n out
    → ListedAt g r a n out n' out' → InX g.p r e → RootFound g.p e (a + 1) a' → Reached g r first (a', 0) n' out'
reached-next {first = first} h l x root = reached-lines (l.reached first h) x (from_next root)

module _ {g : Ground} {r : Divisor} {next : Option ℕ} where
  module _ {a n : ℕ} {out₀ : List ℕ} {m : ℕ} {out : List ℕ} (h : Line g r a n out₀ (unwrap_or next g.p) m out) where
    pub line-here : {b : ℕ} → next ≡ Some b → Line g r a n out₀ b m out
    line-here e = subst (λ (o : Option ℕ). Line g r a n out₀ (unwrap_or o g.p) m out) e h

    pub line-past : next ≡ None → Line g r a n out₀ g.p m out
    line-past e = subst (λ (o : Option ℕ). Line g r a n out₀ (unwrap_or o g.p) m out) e h

  module _ {first : List ℕ} {n : ℕ} {out : List ℕ} (h : Reached g r first (unwrap_or next g.p, 0) n out) where
    pub reached-here : {a : ℕ} → next ≡ Some a → Reached g r first (a, 0) n out
    reached-here e = subst (λ (o : Option ℕ). Reached g r first (unwrap_or o g.p, 0) n out) e h

    pub reached-past : next ≡ None → Reached g r first (g.p, 0) n out
    reached-past e = subst (λ (o : Option ℕ). Reached g r first (unwrap_or o g.p, 0) n out) e h
