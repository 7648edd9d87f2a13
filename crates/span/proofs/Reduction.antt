-- The loop of reduce, and the test whether a span is closed under y.
--   cleared_here, cleared_above    clear takes the number at n away and leaves those above it
--   Reducing               reduce's invariant: v has no number at a lead from n on
--   reduce_start, reduce_asked, reduce_clear, reduce_skip, reduce_end
--   rest-normal            the rest has no number at a lead, past the vector's end neither
--   at-times_asked, at-reduce_asked, at-zero_asked    what closed_at asks of times_y, reduce and is_zero
--   at-yes, at-no, at_test y times a member leaves the rest 0 or not
--   Closing, closed-start, closed-more, closed_stop, closed-end    the loop of closed
use mathlib.Core.Path.{◌≡◌, sym, ◌∙◌, ap, ap₂, subst}
use mathlib.Core.Bool.{Bool, true, false, not}
use mathlib.Core.List.{List}
use Prim.Native.Nat.{ℕ, suc, ◌+◌, ◌*◌, ◌-◌, ◌/◌, ◌%◌, ◌<◌, ◌≤◌}
use native.Mathlib.Omega.{arith}
use native.Mathlib.Decide.{ℕ_discrete, dec_lt}
use lib.ListN.{get_or-eq_default}
use borrow.Author.Tests.{not-true, not-false}
use Rattle.algebra.proofs.Laws as L
use Rattle.field.specs.Residue.{Z, el}
use Rattle.field.proofs.Element.{el-zero, el-one, el_inj, el_pos}
use Rattle.ideal.proofs.Span.{span_nil, span_sum, span_times, inx_mul}
use Rattle.curve.specs.Curve.{Curve, Coordinate, y}
use Rattle.curve.specs.Sequence.{coefficient}
use Rattle.curve.proofs.Term.{coefficient-zero, coefficient-add, coefficient-constant-mul}
use Rattle.vector.specs.Vector.{Vec, Top, at, res, row, element, x_to, scalar, width}
use Rattle.vector.specs.Contract.{ClearAsked, Cleared, ZeroAsked, ZeroTest}
use Rattle.multiplication.specs.Contract.{TimesYAsked, TimesY}
use Rattle.vector.proofs.Monomial.{shift-high}
use Rattle.vector.proofs.Element.{element-coefficient}
use Rattle.triple.specs.Setting.{Setting, ring, poles_of, Ready}
use Rattle.triple.specs.Triple.{Present, Triple, elements, Spanned}
use Rattle.span.specs.Contract.{ReduceAsked, Rest, Open, ClosedAsked, AtAsked, AtTest, ClosedTest}
use Rattle.triple.proofs.Element.{constant_in, x_to_in, element-zero}
use Rattle.triple.proofs.Members.{spanned-row}
use Rattle.triple.proofs.Leads.{present-of}

-- the coefficients can be compared over any curve
some-curve : (p : ℕ) → Curve (Z p)
some-curve p = record { a0 = (Z p).zero; c0 = (Z p).zero; c1 = (Z p).zero; c2 = (Z p).zero; c3 = (Z p).zero; c4 = (Z p).zero; c5 = (Z p).zero; c6 = (Z p).zero; c7 = (Z p).zero; c8 = (Z p).zero }

module _ {p n d : ℕ} {v b v' : List ℕ} (h : ClearAsked p v n b d) (c : Cleared p v n b d v') where
  abbrev C : Curve (Z p)
  C = some-curve p

  at_place : (i : ℕ) → d ≤ i → res p v (3 * ((n - d) / 3) + i) ≡ (Z p).add (res p v' (3 * ((n - d) / 3) + i)) ((Z p).mul (el p (at v n)) (res p b i))
  at_place i l =
      sym (element-coefficient p C h.v_vec m)
      ∙ ap (coefficient C m) (c.value C)
      ∙ coefficient-add C m _ _
      ∙ ap₂ (Z p).add (element-coefficient p C c.vec m)
      (ap (coefficient C m) ((Coordinate C).mul_assoc _ _ _) ∙ coefficient-constant-mul C m (el p (at v n)) _ ∙ ap ((Z p).mul (el p (at v n)))
      (shift-high C ((n - d) / 3) i (element p C b) ∙ element-coefficient p C h.b_vec i))
    where
      m : ℕ
      m = 3 * ((n - d) / 3) + i

  lead-number : 3 * ((n - d) / 3) + d ≡ n
  lead-number = omega (arith, h.class, h.fits)

  pub cleared_here : at v' n ≡ 0
  cleared_here = el_inj p (at v' n) 0 (c.vec.below n) (omega (arith, c.vec.below n)) (gone ∙ sym (el-zero p))
    where
      gone : res p v' n ≡ (Z p).zero
      gone =
          L.cancel_left (Z p) (res p v n) (res p v' n) (Z p).zero
          ((Z p).add_comm _ _
          ∙ ap ((Z p).add (res p v' n)) (sym ((Z p).mul_one _) ∙ ap ((Z p).mul (res p v n)) (sym (ap (el p) h.monic ∙ el-one p)))
          ∙ sym (subst (λ m. res p v m ≡ (Z p).add (res p v' m) ((Z p).mul (el p (at v n)) (res p b d))) lead-number (at_place d (omega arith)))
          ∙ sym ((Z p).add_zero _))

  pub cleared_above : (m : ℕ) → n < m → at v' m ≡ at v m
  cleared_above m l = el_inj p (at v' m) (at v m) (c.vec.below m) (h.v_vec.below m) (sym kept)
    where
      i : ℕ
      i = m - 3 * ((n - d) / 3)

      number : 3 * ((n - d) / 3) + i ≡ m
      number = omega (arith, h.class, h.fits)

      kept : res p v m ≡ res p v' m
      kept =
          subst (λ m. res p v m ≡ (Z p).add (res p v' m) ((Z p).mul (el p (at v n)) (res p b i))) number (at_place i (omega (arith, lead-number)))
          ∙ ap (λ u. (Z p).add (res p v' m) ((Z p).mul (el p (at v n)) u)) (ap (el p) (h.b_top i (omega (arith, lead-number))) ∙ el-zero p)
          ∙ ap ((Z p).add (res p v' m)) (L.mul-zero (Z p) _)
          ∙ (Z p).add_zero _

pub record Reducing (p : ℕ) (t : List (List ℕ)) (d v v' : List ℕ) (n : ℕ) : Type 0 where
  pub triple : Triple p t d
  pub vec : Vec p v'
  pub room : n ≤ width
  pub normal : (m : ℕ) → n ≤ m → m < width → at d (m % 3) ≤ m → at v' m ≡ 0
  pub coset : (S : Setting p) → (s : (ring S).Car) × Spanned S t s × (element p S.curve v ≡ (ring S).add (element p S.curve v') s)

pub reduce_start : {p top : ℕ} {t : List (List ℕ)} {d v : List ℕ} → ReduceAsked p t d v top → Reducing p t d v v top
reduce_start {t = t} h =
    record {
      triple = h.triple;
      vec = h.vec;
      room = h.room;
      normal = λ m l k e. h.v_top m l;
      coset = λ S. ((ring S).zero, span_nil (poles_of S) (elements S t), sym ((ring S).add_zero _));
    }

module _ {p n m : ℕ} {t : List (List ℕ)} {d v v' : List ℕ} (h : Reducing p t d v v' n) (e : n ≡ suc m) where
  pub reduce_asked : at d (m % 3) ≤ m → ClearAsked p v' m (row t (m % 3)) (at d (m % 3))
  reduce_asked l =
      let q : Present (row t (m % 3)) (m % 3) (at d (m % 3)) = present-of h.triple (m % 3) (omega arith) (omega (arith, h.room)) in
      record { v_vec = h.vec; b_vec = (h.triple.member (m % 3) (omega arith)).vec; inside = omega (arith, h.room); fits = l; class = sym q.class; monic = q.monic; b_top = q.top }

  pub reduce_clear : {v'' : List ℕ} → at d (m % 3) ≤ m → Cleared p v' m (row t (m % 3)) (at d (m % 3)) v'' → Reducing p t d v v'' m
  reduce_clear {v''} l c =
      record {
        triple = h.triple;
        vec = c.vec;
        room = omega (arith, h.room);
        normal = λ i k b r. normal i k b r (ℕ_discrete i m);
        coset = λ S. coset S (h.coset S);
      }
    where
      normal : (i : ℕ) → m ≤ i → i < width → at d (i % 3) ≤ i → Dec (i ≡ m) → at v'' i ≡ 0
      normal i k b r (yes q) = ap (at v'') q ∙ cleared_here (reduce_asked l) c
      normal i k b r (no q) = cleared_above (reduce_asked l) c i (omega arith) ∙ h.normal i (omega arith) b r

      coset :
          (S : Setting p) → (s : (ring S).Car) × Spanned S t s × (element p S.curve v ≡ (ring S).add (element p S.curve v') s) →
          (s : (ring S).Car) × Spanned S t s × (element p S.curve v ≡ (ring S).add (element p S.curve v'') s)
      coset S (s, i, q) = (
        (ring S).add u s,
        span_sum (poles_of S) (elements S t) u s
            (span_times (poles_of S) (elements S t) (inx_mul (poles_of S) (constant_in S _) (x_to_in S _)) _ (spanned-row S t (m % 3) (omega (arith, h.triple.len_t))))
            i,
        q ∙ ap (λ g. (ring S).add g s) (c.value S.curve) ∙ (ring S).add_assoc _ _ _,
      )
        where
          u : (ring S).Car
          u = (ring S).mul ((ring S).mul (scalar p S.curve (at v' m)) (x_to p S.curve ((m - at d (m % 3)) / 3))) (element p S.curve (row t (m % 3)))

  pub reduce_skip : m < at d (m % 3) → Reducing p t d v v' m
  reduce_skip l = record { triple = h.triple; vec = h.vec; room = omega (arith, h.room); normal = λ i k b r. normal i k b r (ℕ_discrete i m); coset = h.coset }
    where
      normal : (i : ℕ) → m ≤ i → i < width → at d (i % 3) ≤ i → Dec (i ≡ m) → at v' i ≡ 0
      normal i k b r (yes q) = absurd (let r' : at d (m % 3) ≤ m = subst (λ i. at d (i % 3) ≤ i) q r in omega arith)
      normal i k b r (no q) = h.normal i (omega arith) b r

pub reduce_end : {p n : ℕ} {t : List (List ℕ)} {d v v' : List ℕ} → Reducing p t d v v' n → n ≡ 0 → Rest p t d v v'
reduce_end h e = record { vec = h.vec; normal = λ m l r. h.normal m (omega arith) l r; coset = h.coset }

pub rest-normal : {p : ℕ} {t : List (List ℕ)} {d w v : List ℕ} → Rest p t d w v → (n : ℕ) → at d (n % 3) ≤ n → at v n ≡ 0
rest-normal {v = v} r n b = go (dec_lt n width)
  where
    go : Dec (n < width) → at v n ≡ 0
    go (yes l) = r.normal n l b
    go (no l) = get_or-eq_default v 0 (omega (arith, r.vec.len))

module _ {p j : ℕ} {y3 : List ℕ} {t : List (List ℕ)} {d : List ℕ} (h : AtAsked p y3 t d j) where
  small : at d j ≤ 8
  small = h.closed.small j h.inside

  pub at-times_asked : TimesYAsked p y3 (row t j) (at d j + 1)
  at-times_asked =
      record {
        y3_vec = h.closed.ready.y3_vec;
        y3_top = h.closed.ready.y3_top;
        v_vec = (h.closed.full.triple.member j h.inside).vec;
        v_top = λ i l. (h.closed.full.present j h.inside).top i (omega arith);
        room = omega (arith, small);
      }

  pub at-reduce_asked : {w : List ℕ} → TimesY p y3 (row t j) (at d j + 1) w → ReduceAsked p t d w (at d j + 5)
  at-reduce_asked a = record { triple = h.closed.full.triple; vec = a.vec; v_top = λ i l. a.top_out i (omega arith); room = omega (arith, small) }

  pub at-zero_asked : {w v : List ℕ} → Rest p t d w v → ZeroAsked v 8
  at-zero_asked r =
      record { len = r.vec.len; v_top = λ n l. rest-normal r n (omega (arith, h.closed.small (n % 3) (omega arith))); room = omega arith }

-- y times the j-th member is a vector w, which leaves the rest v
module _ {p top : ℕ} {y3 : List ℕ} (t : List (List ℕ)) (j : ℕ) {d w v : List ℕ} (a : TimesY p y3 (row t j) top w) (r : Rest p t d w v) where
  pub at-yes : Top v 0 → (R : Ready p y3) → Spanned R.setting t ((ring R.setting).mul (y R.setting.curve) (element p R.setting.curve (row t j)))
  at-yes z R = go (r.coset S)
    where
      S : Setting p
      S = R.setting

      go : (s : (ring S).Car) × Spanned S t s × (element p S.curve w ≡ (ring S).add (element p S.curve v) s) → Spanned S t ((ring S).mul (y S.curve) (element p S.curve (row t j)))
      go (s, i, e) = subst (Spanned S t) (sym (sym (a.value S.curve R.cube) ∙ e ∙ ap (λ g. (ring S).add g s) (element-zero S r.vec z) ∙ L.zero-add (ring S) s)) i

  pub at-no : j < 3 → (n : ℕ) → 0 < at v n → (R : Ready p y3) → Open p y3 t d R
  at-no l n k R = go (r.coset S)
    where
      S : Setting p
      S = R.setting

      nonzero : ¬ (element p S.curve v ≡ (ring S).zero)
      nonzero e = el_pos p (at v n) k (r.vec.below n) (sym (element-coefficient p S.curve r.vec n) ∙ ap (coefficient S.curve n) e ∙ coefficient-zero S.curve n)

      go : (s : (ring S).Car) × Spanned S t s × (element p S.curve w ≡ (ring S).add (element p S.curve v) s) → Open p y3 t d R
      go (s, i, e) =
          record {
            j = j;
            j_below = l;
            rest = element p S.curve v;
            s = s;
            spanned = i;
            split = sym (a.value S.curve R.cube) ∙ e;
            nonzero = nonzero;
            normal = λ m b. element-coefficient p S.curve r.vec m ∙ ap (el p) (rest-normal r m b) ∙ el-zero p;
          }

  pub at_test : {q : Bool} → j < 3 → ZeroTest v q → AtTest p y3 t d j q
  at_test l z = record { yes_at = λ e. at-yes (z.zero_vector e); no_at = λ e. let (n, b, k) = z.nonzero e in at-no l n k }

-- y times each of the first j members is in the span
pub record Closing (p : ℕ) (y3 : List ℕ) (t : List (List ℕ)) (d : List ℕ) (j : ℕ) : Type 0 where
  pub asked : ClosedAsked p y3 t d
  pub seen : (i : ℕ) → i < j → (R : Ready p y3) → Spanned R.setting t ((ring R.setting).mul (y R.setting.curve) (element p R.setting.curve (row t i)))

pub closed-start : {p : ℕ} {y3 : List ℕ} {t : List (List ℕ)} {d : List ℕ} → ClosedAsked p y3 t d → Closing p y3 t d 0
closed-start h = record { asked = h; seen = λ i l. absurd (omega arith) }

module _ {p j : ℕ} {y3 : List ℕ} {t : List (List ℕ)} {d : List ℕ} (h : Closing p y3 t d j) where
  pub closed-more : {r : Bool} → AtTest p y3 t d j r → not r ≡ false → Closing p y3 t d (j + 1)
  closed-more {r} a e = record { asked = h.asked; seen = λ i l. go i l (ℕ_discrete i j) }
    where
      go : (i : ℕ) → i < j + 1 → Dec (i ≡ j) → (R : Ready p y3) → Spanned R.setting t ((ring R.setting).mul (y R.setting.curve) (element p R.setting.curve (row t i)))
      go i l (yes q) = rw q (a.yes_at (not-false r e))
      go i l (no q) = h.seen i (omega arith)

  pub closed_stop : {r : Bool} → AtTest p y3 t d j r → not r ≡ true → ClosedTest p y3 t d false
  closed_stop {r} a e = record { yes_closed = λ q. let z : ◌≡◌ {A = ℕ} 0 1 = cc in absurd (omega arith); no_closed = λ q. a.no_at (not-true r e) }

  pub closed-end : 3 ≤ j → ClosedTest p y3 t d true
  closed-end l = record { yes_closed = λ q R i k. h.seen i (omega arith) R; no_closed = λ q. let z : ◌≡◌ {A = ℕ} 0 1 = cc in absurd (omega arith) }
