-- For I inside J: the ideals A = (u : N) for the members u of N = I*, which are equivalent to I.
--   divisor-invertible             the ideal of a divisor is invertible
--   other-asked, other-meet_asked  what the common part and the common multiple of A and J ask
--   other-part                     the reduced ideal of u·I + f·J is A + J, f the least element of I
--   other-inside                   … and if its degree is not smaller than that of J, A lies inside J
--   apart_is                       common multiple and common part of A and J, where the part is smaller
--   third-smaller                  A does not lie inside J for the second u or for the third: else N would lie inside N·J
use mathlib.Core.Path.{◌≡◌, sym, subst}
use mathlib.Core.Logic.{◌⊎◌, inl, inr}
use Prim.Native.Nat.{ℕ, ◌<◌, ◌≤◌}
use native.Mathlib.Omega.{arith}
use native.Mathlib.Decide.{dec_le}
use Rattle.algebra.specs.Ring.{CommRing}
use Rattle.prime_field.specs.Field.{F}
use Rattle.ideal.specs.Ideal.{Product, Colon, SameIdeal}
use Rattle.ideal.specs.Poles.{HasPole}
use Rattle.ideal.specs.Reduced.{Least}
use Rattle.ideal.specs.Parts.{IdealSum}
use Rattle.ideal.specs.Invertible.{InvertibleIdeal}
use Rattle.ideal.proofs.Same.{same_refl, same_sym, same_trans}
use Rattle.ideal.proofs.Degree.{monic-pole, one-pole, pole-nonzero}
use Rattle.ideal.proofs.Leads.{ideal_space, least-same, least_unique}
use Rattle.ideal.proofs.Colon.{colon_ideal, colon_same, colon_colon}
use Rattle.ideal.proofs.Class.{equivalent_same, equivalent_trans}
use Rattle.ideal.proofs.Product.{product-ideal}
use Rattle.ideal.proofs.Generated.{generated_in}
use Rattle.ideal.proofs.Reduced.{equivalent_reduced, reduced_unique, reduced_equivalent, footprint_least}
use Rattle.ideal.proofs.Finite.{BasedIdeal}
use Rattle.ideal.proofs.Parts.{sum_left, sum-right, sum-ideal, sum_same, colon_based_ideal}
use Rattle.ideal.proofs.Invertible.{scaled_ideal, invertible-whole}
use Rattle.ideal.proofs.Swap.{scaled_equivalent, colon_equivalent, colon_combined, colon_inside, meet_based, parts_equivalent, sum_footprint}
use Rattle.nonsingular.specs.Nonsingular.{Nonsingular}
use Rattle.kind.specs.Kinds.{degree_of}
use Rattle.divisor.specs.Kind.{k0, polynomials}
use Rattle.divisor.proofs.Table.{degree, kind_by}
use Rattle.divisor.proofs.Members.{member, members-polynomials}
use Rattle.divisor.proofs.Basis.{lead-basis}
use Rattle.invertible.proofs.Record.{record_invertible}
use Rattle.triple.specs.Setting.{Setting, ring, poles_of}
use Rattle.ground.specs.declared.Ground.{Ground}
use Rattle.basis.specs.declared.Divisor.{Divisor}
use Rattle.basis.specs.Divisor.{residues}
use Rattle.group.specs.Contract.{IsDivisor, ideal, NegativeAsked, NegativeOf}
use Rattle.group.proofs.Divisor.{divisor_footprint, divisor-based}
use Rattle.combination.specs.Contract.{value, MemberOf, CombinationAsked}
use Rattle.combination.specs.declared.Polynomial.{Polynomial}
use Rattle.parts.specs.declared.Places.{Places}
use Rattle.parts.specs.Contract.{PlacesOf, LeastOf, OverlapOf, MeetAsked, MeetOf, InsideAsked, ApartIs}
use Rattle.parts.proofs.Classes.{member-least, member_is, value_in, value-pole}
use Rattle.parts.proofs.Degrees.{inside-same}
use Rattle.parts.proofs.Common.{star-least}

pub divisor-invertible : {p : ℕ} (S : Setting p) {x : Divisor} (D : IsDivisor S x) → Nonsingular S.curve → InvertibleIdeal (ring S) (ideal S x D)
divisor-invertible {p} S {x} D smooth = record_invertible (F p S.prime) S.curve S.nonzero (residues p x) smooth D.kind D.based.basis

abbrev one_of : {g : Ground} {x y : Divisor} → InsideAsked g x y → NegativeAsked g x
one_of A = record { grounded = A.pair.grounded; a_is = A.pair.a_is }

abbrev S_of : {g : Ground} {x y : Divisor} → InsideAsked g x y → Setting g.p
S_of A = A.pair.grounded.ready.setting

module _ {g : Ground} {x y n : Divisor} {f : Polynomial} (neg : NegativeOf g x n) (l : LeastOf x f) where
  module _ {j : ℕ} {u : Polynomial} (m : MemberOf n j u) (b : j < 3) where
    pub other-asked : InsideAsked g x y → CombinationAsked g u x f y
    other-asked A =
        let k = l g.p (S_of A) A.pair.a_is in
        record { pair = A.pair; u_is = (member_is (S_of A) (neg (one_of A)).0 m).monic; v_is = k.monic; v_low = k.low }

    pub other-meet_asked : InsideAsked g x y → MeetAsked g u n y
    other-meet_asked A =
        let N = (neg (one_of A)).0 in
        record {
          pair = record { grounded = A.pair.grounded; a_is = N; b_is = A.pair.b_is };
          u_is = (member_is (S_of A) N m).monic;
          u_in = value_in (S_of A) N m b;
        }

    module _ (A : InsideAsked g x y) where
      abbrev S : Setting g.p
      S = S_of A

      abbrev R : CommRing
      R = ring S

      abbrev I : R.Car → Type 0
      I = ideal S x A.pair.a_is

      abbrev J : R.Car → Type 0
      J = ideal S y A.pair.b_is

      abbrev N : R.Car → Type 0
      N = ideal S n (neg (one_of A)).0

      N-same : SameIdeal R N (Colon R (value S f) I)
      N-same = star-least S A.pair.a_is (neg (one_of A)).0 l (neg (one_of A)).1

      least-f : Least (poles_of S) I (value S f)
      least-f = (l g.p S A.pair.a_is).least

      u_nonzero : ¬ (value S u ≡ R.zero)
      u_nonzero = pole-nonzero (poles_of S) (value-pole S (member_is S (neg (one_of A)).0 m).monic)

      u_in : Colon R (value S f) I (value S u)
      u_in = (N-same (value S u)).0 (value_in S (neg (one_of A)).0 m b)

      u_pole : HasPole (poles_of S) (value S u) u.d
      u_pole = value-pole S (member_is S (neg (one_of A)).0 m).monic

      other-based : BasedIdeal (poles_of S) (Colon R (value S u) N)
      other-based = colon_based_ideal (poles_of S) u_pole (divisor-based S (neg (one_of A)).0) (value_in S (neg (one_of A)).0 m b)

      -- f·(A + J) = u·I + f·J, and A + J has a small footprint
      pub other-part : {c : Divisor} → OverlapOf g u x f y c → (G : IsDivisor S c) × SameIdeal R (ideal S c G) (IdealSum R (Colon R (value S u) N) J)
      unfolding other-asked
      other-part {c} o =
          let q = o (other-asked A) in (
            q.0,
            same_trans R
                (reduced_unique (poles_of S) (sum-ideal R (scaled_ideal R (value S u) (divisor-based S A.pair.a_is).ideal) (scaled_ideal R (value S f) (divisor-based S A.pair.b_is).ideal)) q.1
                (equivalent_reduced (poles_of S) (sum_footprint (poles_of S) inner (divisor_footprint S A.pair.b_is))
                (equivalent_trans (poles_of S) (equivalent_same (poles_of S) (colon_combined (poles_of S) (divisor-based S A.pair.a_is) pf u_nonzero least-f.member u_in))
                (scaled_equivalent (poles_of S) (IdealSum R (Colon R (value S u) (Colon R (value S f) I)) J) (pole-nonzero (poles_of S) pf)))))
                (sum_same R (colon_same R (value S u) (same_sym R N-same)) (same_refl R J)),
          )
        where
          pf : HasPole (poles_of S) (value S f) least-f.pole
          pf = monic-pole (poles_of S) least-f.monic

          inner : BasedIdeal (poles_of S) (Colon R (value S u) (Colon R (value S f) I))
          inner =
              colon_based_ideal (poles_of S) u_pole (colon_based_ideal (poles_of S) pf (divisor-based S A.pair.a_is) least-f.member) u_in

      pub other-inside : {c : Divisor} → OverlapOf g u x f y c → degree_of y.kind ≤ degree_of c.kind → (h : R.Car) → Colon R (value S u) N h → J h
      other-inside {c} o small h mh = go (other-part o)
        where
          go : (G : IsDivisor S c) × SameIdeal R (ideal S c G) (IdealSum R (Colon R (value S u) N) J) → J h
          go (G, e) =
              inside-same S A.pair.b_is G (λ k mk. (e k).1 (sum-right R (colon_ideal R (value S u) N) mk)) small h
              ((e h).1 (sum_left R (divisor-based S A.pair.b_is).ideal mh))

      pub apart_is : {c k : Divisor} → OverlapOf g u x f y c → MeetOf g u n y k → degree_of c.kind < degree_of y.kind → ApartIs g x y A (record { multiple = k; part = c })
      unfolding other-meet_asked
      apart_is {c} {k} o h small =
          let G = other-part o in
          let L = h (other-meet_asked A) in
          let both = meet_based (poles_of S) other-based (divisor-based S A.pair.b_is) in
          record {
            multiple_is = L.0;
            part_is = G.0;
            class =
                parts_equivalent (poles_of S)
                (equivalent_trans (poles_of S) (equivalent_same (poles_of S) (colon_same R (value S u) N-same))
                (colon_equivalent (poles_of S) (divisor-based S A.pair.a_is) (monic-pole (poles_of S) least-f.monic) u_nonzero least-f.member u_in))
                other-based.ideal (divisor-based S A.pair.b_is).ideal (divisor-invertible S G.0 A.smooth) G.1
                (reduced_equivalent (poles_of S) both.ideal both.based L.1);
            smaller = small;
          }

  module _ {q : Places} (h : PlacesOf n.kind q) {u v : Polynomial} (m : MemberOf n q.second u) (m' : MemberOf n q.third v) {c d : Divisor}
      (o : OverlapOf g u x f y c) (o' : OverlapOf g v x f y d) (A : InsideAsked g x y) where
    abbrev T : Setting g.p
    T = S_of A

    abbrev Q : IsDivisor T n
    Q = (neg (one_of A)).0

    abbrev K : (ring T).Car → Type 0
    K = ideal T n Q

    abbrev E : (ring T).Car → Type 0
    E = ideal T y A.pair.b_is

    abbrev at : ℕ → (ring T).Car
    at j = member T.curve Q.kind (residues g.p n) j

    smooth : InvertibleIdeal (ring T) K
    smooth = divisor-invertible T Q A.smooth

    -- the first polynomial of N is f, and (f : N) = (f : (f : I)) = I lies inside J
    first_in : Product (ring T) K E (at q.first)
    first_in =
        subst (Product (ring T) K E) (least_unique (poles_of T) (ideal_space (poles_of T) (divisor-based T Q).ideal) least-n (member-least T Q h))
        (colon_inside (poles_of T) smooth least-n.member (λ k mk. A.inside k ((back k).0 mk)))
      where
        least-i : Least (poles_of T) (ideal T x A.pair.a_is) (value T f)
        least-i = (l g.p T A.pair.a_is).least

        same : SameIdeal (ring T) K (Colon (ring T) (value T f) (ideal T x A.pair.a_is))
        same = star-least T A.pair.a_is Q l (neg (one_of A)).1

        least-n : Least (poles_of T) K (value T f)
        least-n = least-same (poles_of T) (same_sym (ring T) same) (footprint_least (poles_of T) (divisor_footprint T A.pair.a_is) least-i)

        back : SameIdeal (ring T) (Colon (ring T) (value T f) K) (ideal T x A.pair.a_is)
        back =
            let b = divisor-based T A.pair.a_is in
            same_trans (ring T) (colon_same (ring T) (value T f) same)
            (colon_colon (poles_of T) (monic-pole (poles_of T) least-i.monic) b.ideal b.based least-i.member)

    -- u is in N·J if (u : N) lies inside J
    other_in : {j : ℕ} {w : Polynomial} → j < 3 → (k : MemberOf n j w) → ((e : (ring T).Car) → Colon (ring T) (value T w) K e → E e) → Product (ring T) K E (at j)
    other_in l k inside =
        subst (Product (ring T) K E) ((member_is T Q k).value_is T.curve) (colon_inside (poles_of T) smooth (value_in T Q k l) inside)

    not_whole : ((e : (ring T).Car) → E e) → ⊥
    not_whole e =
        A.some (kind_by (λ κ. y.kind ≡ κ → degree κ 0 ≤ 0 → y.kind ≡ k0) (λ q l. q) (λ q l. absurd (omega arith)) (λ q l. absurd (omega arith))
        (λ q l. absurd (omega arith)) (λ q l. absurd (omega arith)) A.pair.b_is.kind A.pair.b_is.based.shaped.kind
        (lead-basis (F g.p T.prime) T.curve T.nonzero A.pair.b_is.kind (residues g.p y) A.pair.b_is.based.basis 0
        ((ring T).one, e (ring T).one, one-pole (poles_of T))))

    pub third-smaller : degree_of y.kind ≤ degree_of c.kind → degree_of d.kind < degree_of y.kind
    third-smaller large = go (dec_le (degree_of y.kind) (degree_of d.kind))
      where
        each : degree_of y.kind ≤ degree_of d.kind → (j : ℕ) → j < 3 → Product (ring T) K E (at j)
        each large' j l = at_one (h.all j l)
          where
            at_one : (j ≡ q.first) ⊎ ((j ≡ q.second) ⊎ (j ≡ q.third)) → Product (ring T) K E (at j)
            at_one (inl e) = subst (λ i. Product (ring T) K E (at i)) (sym e) first_in
            at_one (inr (inl e)) = subst (λ i. Product (ring T) K E (at i)) (sym e) (other_in h.second_below m (other-inside m h.second_below A o large))
            at_one (inr (inr e)) = subst (λ i. Product (ring T) K E (at i)) (sym e) (other_in h.third_below m' (other-inside m' h.third_below A o' large'))

        whole : ((j : ℕ) → j < 3 → Product (ring T) K E (at j)) → (e : (ring T).Car) → E e
        whole all =
            invertible-whole (poles_of T) smooth (divisor-based T A.pair.b_is).ideal
            (generated_in (ring T) (product-ideal (ring T) (divisor-based T Q).ideal) (polynomials T.curve Q.kind (residues g.p n))
            (members-polynomials T.curve (Product (ring T) K E) Q.kind (residues g.p n) (all 0 (omega arith), (all 1 (omega arith), (all 2 (omega arith), tt)))))

        go : Dec (degree_of y.kind ≤ degree_of d.kind) → degree_of d.kind < degree_of y.kind
        go (yes l) = absurd (not_whole (whole (each l)))
        go (no l) = omega arith
