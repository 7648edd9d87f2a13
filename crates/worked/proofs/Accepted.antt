-- Curves and records in bytes, accepted and refused by computation.
--   Smooth             certificate of an accepted curve: s·Fx + t·Fy = 1 on the curve
--   smooth c k         the test; curve_sound: the curve c is accepted
--   Singular           certificate of a singular curve: a basis of a kind but 0 whose ideal holds Fx and Fy
--   singular c k       the test; singular_sound: the curve c is refused with 5
--   Known              certificate of an accepted record: its kind, and how y times each member is made of the members
--   known c w k        the test; known_reads, known_record: the record w is accepted on the curve c
--   Fault              why a record of its kind's form is refused: a number not below p; or no basis, and how 1 is made of its polynomials
--   Spoilt             certificate of a refused record: its kind and its fault
--   spoilt c w n k     the test; spoilt_sound: the record w is refused with n, which is 8 or 9
--   numbers_of         the numbers of a record in bytes
use mathlib.Core.Path.{◌≡◌, refl, sym, subst}
use mathlib.Core.Logic.{inl, inr}
use mathlib.Core.Bool.{Bool}
use mathlib.Core.List.{List, [], ◌∷◌, ◌++◌}
use Prim.Native.Nat.{ℕ, ◌+◌, ◌*◌, ◌≤◌, ◌<◌}
use native.Mathlib.Omega.{arith}
use lib.Dec.{T, leb, ltb, eqb, leb→le, ltb→lt, eqb→eq}
use lib.ListN.{length, get_or}
use Rattle.algebra.specs.Ring.{CommRing}
use Rattle.algebra.proofs.Norm.{E, unit}
use Rattle.algebra.proofs.Solve.{combine}
use Rattle.algebra.proofs.Test.{both, both_left, both_right}
use Rattle.prime.specs.Prime.{Prime}
use Rattle.field.specs.Residue.{el}
use Rattle.ideal.specs.Ideal.{Generated}
use Rattle.ideal.proofs.Generated.{generated_ideal, generated_in}
use Rattle.curve.specs.Curve.{Coordinate}
use Rattle.nonsingular.specs.Nonsingular.{Nonsingular}
use Rattle.nonsingular.specs.Derivative.{derivative_x, derivative_y}
use Rattle.nonsingular.proofs.Nonsingular.{nonsingular}
use Rattle.divisor.specs.Kind.{Kind, code, count, size, polynomials, IdealOf}
use Rattle.layout.specs.Layout.{number2, number4}
use Rattle.record.specs.Cause.{FirstCause, Passes}
use Rattle.record.specs.Curve.{limit, curve_kind, curve_size, modulus, coefficient_number, equation, curve_stages, AcceptedCurve}
use Rattle.record.specs.Divisor.{OfKind, divisor_form, divisor_rest}
use Rattle.record.proofs.Cause.{first_append}
use Rattle.record.proofs.Accepted.{Reads, reads_accepted, same_kind}
use Rattle.calls.specs.Class.{Record}
use Rattle.calls.specs.Call.{divisor_of}
use Rattle.worked.proofs.Tests.{prime, prime_sound, below, below_sound, bytes, bytes_sound}
use Rattle.worked.proofs.Vanish.{at_xy, agree, agree_sound}
use Rattle.worked.proofs.Element.{by_x, by_y, by_x-is, by_y-is}
use Rattle.worked.proofs.Basis.{polynomials_xy, values, generated_combine, ideal_combine, closed, basis_sound, proper, one-basis, whole, whole_sound}

pub record Smooth : Type 0 where
  pub s : E
  pub t : E

pub record Singular : Type 0 where
  pub kind : Kind
  pub numbers : List ℕ
  pub closed : List (List E)
  pub by_x : List E
  pub by_y : List E

pub record Known : Type 0 where
  pub kind : Kind
  pub closed : List (List E)

pub data Fault : Type 0 where
  -- its i-th number is not below p
  too_large : (i : ℕ) → Fault
  -- 1 is the sum of the products of qs and its polynomials
  no_basis : (qs : List E) → Fault

pub record Spoilt : Type 0 where
  pub kind : Kind
  pub fault : Fault

-- the numbers of a divisor record in bytes
abbrev pub numbers_of : List ℕ → ℕ → ℕ
numbers_of w i = number4 w (4 + 4 * i)

-- a curve passes the stages before 5
abbrev form : List ℕ → Bool
form c = both (leb 4 (length c)) (both (eqb (number2 c 0) (length c)) (both (eqb (number2 c 2) curve_kind) (eqb (length c) curve_size)))

abbrev ground : List ℕ → Bool
ground c = both (form c) (both (prime (modulus c)) (both (leb (modulus c) limit) (below (modulus c) (coefficient_number c) 9)))

abbrev pub smooth : List ℕ → Smooth → Bool
smooth c k =
    both (ground c)
    (agree (modulus c) (coefficient_number c) unit (combine (by_x (coefficient_number c) ∷ by_y (coefficient_number c) ∷ []) (k.s ∷ k.t ∷ [])))

-- the numbers of the certificate's basis
abbrev given : Singular → ℕ → ℕ
given k i = get_or k.numbers i 0

abbrev holds-x : List ℕ → Singular → Bool
holds-x c k = agree (modulus c) (coefficient_number c) (by_x (coefficient_number c)) (combine (polynomials_xy k.kind (given k)) k.by_x)

abbrev holds-y : List ℕ → Singular → Bool
holds-y c k = agree (modulus c) (coefficient_number c) (by_y (coefficient_number c)) (combine (polynomials_xy k.kind (given k)) k.by_y)

abbrev pub singular : List ℕ → Singular → Bool
singular c k =
    both (ground c)
    (both (proper k.kind) (both (closed (modulus c) (coefficient_number c) k.kind (given k) k.closed) (both (holds-x c k) (holds-y c k))))

-- a record passes the stages before 8, and the stage 8
abbrev formed : List ℕ → Kind → Bool
formed w κ = both (eqb (number2 w 2) (code κ)) (both (eqb (number2 w 0) (length w)) (eqb (length w) (size κ)))

abbrev low : ℕ → List ℕ → Kind → Bool
low p w κ = below p (numbers_of w) (count κ)

abbrev pub known : List ℕ → List ℕ → Known → Bool
known c w k =
    both (bytes w)
    (both (formed w k.kind)
    (both (low (modulus c) w k.kind) (closed (modulus c) (coefficient_number c) k.kind (numbers_of w) k.closed)))

-- a record that passes the stages before 8 has the fault, and its number is n
abbrev faulty : (c w : List ℕ) → ℕ → Kind → Fault → Bool
faulty c w n κ (too_large i) = both (eqb n 8) (both (ltb i (count κ)) (leb (modulus c) (numbers_of w i)))
faulty c w n κ (no_basis qs) = both (eqb n 9) (both (low (modulus c) w κ) (whole (modulus c) (coefficient_number c) κ (numbers_of w) qs))

abbrev pub spoilt : (c w : List ℕ) → ℕ → Spoilt → Bool
spoilt c w n k = both (formed w k.kind) (faulty c w n k.kind k.fault)

record Ground (c : List ℕ) : Type 0 where
  long : 4 ≤ length c
  own : number2 c 0 ≡ length c
  kind : number2 c 2 ≡ curve_kind
  size : length c ≡ curve_size
  is_prime : Prime (modulus c)
  small : modulus c ≤ limit
  coefficients : (i : ℕ) → i < 9 → coefficient_number c i < modulus c

ground_sound : (c : List ℕ) → T (ground c) → Ground c
ground_sound c t =
    let f = both_left (form c) _ t in
    let f₁ = both_right (leb 4 (length c)) _ f in
    let f₂ = both_right (eqb (number2 c 0) (length c)) _ f₁ in
    let g = both_right (form c) _ t in
    let g₁ = both_right (prime (modulus c)) _ g in
    record {
      long = leb→le 4 (length c) (both_left (leb 4 (length c)) _ f);
      own = eqb→eq (number2 c 0) (length c) (both_left (eqb (number2 c 0) (length c)) _ f₁);
      kind = eqb→eq (number2 c 2) curve_kind (both_left (eqb (number2 c 2) curve_kind) _ f₂);
      size = eqb→eq (length c) curve_size (both_right (eqb (number2 c 2) curve_kind) _ f₂);
      is_prime = prime_sound (modulus c) (both_left (prime (modulus c)) _ g);
      small = leb→le (modulus c) limit (both_left (leb (modulus c) limit) _ g₁);
      coefficients = below_sound (modulus c) (coefficient_number c) 9 (both_right (leb (modulus c) limit) _ g₁);
    }

module _ (c : List ℕ) where
  abbrev p : ℕ
  p = modulus c

  abbrev n : ℕ → ℕ
  n = coefficient_number c

  abbrev R : CommRing
  R = Coordinate (equation c)

  derivatives : values p n (by_x n ∷ by_y n ∷ []) ≡ derivative_x (equation c) ∷ derivative_y (equation c) ∷ []
  derivatives = λ i. by_x-is p n i ∷ by_y-is p n i ∷ []

  pub curve_sound : (k : Smooth) → T (smooth c k) → AcceptedCurve c
  curve_sound k t = go (ground_sound c (both_left (ground c) _ t))
    where
      e : R.one ≡ at_xy p n (combine (by_x n ∷ by_y n ∷ []) (k.s ∷ k.t ∷ []))
      e = agree_sound p n unit (combine (by_x n ∷ by_y n ∷ []) (k.s ∷ k.t ∷ [])) (both_right (ground c) _ t)

      one_in : Generated R (derivative_x (equation c) ∷ derivative_y (equation c) ∷ []) R.one
      one_in =
          subst (λ gs. Generated R gs R.one) derivatives
          (subst (Generated R (values p n (by_x n ∷ by_y n ∷ []))) (sym e) (generated_combine p n (by_x n ∷ by_y n ∷ []) (k.s ∷ k.t ∷ [])))

      go : Ground c → AcceptedCurve c
      go g = ((g.long, g.own), (g.kind, (g.size, ((g.is_prime, g.small), (g.coefficients, ((nonsingular (equation c)).1 one_in, tt))))))

  pub singular_sound : (k : Singular) → T (singular c k) → FirstCause (curve_stages c) 5
  singular_sound k t = go (ground_sound c (both_left (ground c) _ t))
    where
      t₁ : T (both (proper k.kind) (both (closed p n k.kind (given k) k.closed) (both (holds-x c k) (holds-y c k))))
      t₁ = both_right (ground c) _ t

      t₂ : T (both (closed p n k.kind (given k) k.closed) (both (holds-x c k) (holds-y c k)))
      t₂ = both_right (proper k.kind) _ t₁

      t₃ : T (both (holds-x c k) (holds-y c k))
      t₃ = both_right (closed p n k.kind (given k) k.closed) _ t₂

      has-x : IdealOf (equation c) k.kind (λ i. el p (given k i)) (derivative_x (equation c))
      has-x =
          subst (IdealOf (equation c) k.kind (λ i. el p (given k i))) (by_x-is p n)
          (ideal_combine p n k.kind (given k) (by_x n) k.by_x (both_left (holds-x c k) (holds-y c k) t₃))

      has-y : IdealOf (equation c) k.kind (λ i. el p (given k i)) (derivative_y (equation c))
      has-y =
          subst (IdealOf (equation c) k.kind (λ i. el p (given k i))) (by_y-is p n)
          (ideal_combine p n k.kind (given k) (by_y n) k.by_y (both_right (holds-x c k) (holds-y c k) t₃))

      refused : Ground c → ¬ Nonsingular (equation c)
      refused g s =
          one-basis p n g.is_prime k.kind (given k) (both_left (proper k.kind) _ t₁)
          (basis_sound p n g.is_prime k.kind (given k) k.closed (both_left (closed p n k.kind (given k) k.closed) _ t₂))
          (generated_in R (generated_ideal R (polynomials (equation c) k.kind (λ i. el p (given k i))))
          (derivative_x (equation c) ∷ derivative_y (equation c) ∷ []) (has-x, (has-y, tt)) R.one ((nonsingular (equation c)).0 s))

      go : Ground c → FirstCause (curve_stages c) 5
      go g = inr ((g.long, g.own), inr (g.kind, inr (g.size, inr ((g.is_prime, g.small), inr (g.coefficients, inl (refused g, refl))))))

  record Formed (w : List ℕ) (κ : Kind) : Type 0 where
    kind : OfKind w κ
    own : number2 w 0 ≡ length w
    long : length w ≡ size κ

  formed_sound : (w : List ℕ) (κ : Kind) → T (formed w κ) → Formed w κ
  formed_sound w κ t =
      let t₁ = both_right (eqb (number2 w 2) (code κ)) _ t in
      record {
        kind = eqb→eq (number2 w 2) (code κ) (both_left (eqb (number2 w 2) (code κ)) _ t);
        own = eqb→eq (number2 w 0) (length w) (both_left (eqb (number2 w 0) (length w)) _ t₁);
        long = eqb→eq (length w) (size κ) (both_right (eqb (number2 w 0) (length w)) _ t₁);
      }

  low_sound : (w : List ℕ) (κ : Kind) → T (low p w κ) → (i : ℕ) → i < count κ → number4 w (4 + 4 * i) < modulus c
  low_sound w κ t = below_sound p (numbers_of w) (count κ) t

  module _ (h : Prime (modulus c)) (w : List ℕ) where
    pub known_reads : (k : Known) → T (known c w k) → Reads (modulus c) (equation c) k.kind w
    known_reads k t =
        let t₁ = both_right (bytes w) _ t in
        let t₂ = both_right (formed w k.kind) _ t₁ in
        let f = formed_sound w k.kind (both_left (formed w k.kind) _ t₁) in
        record {
          kind = f.kind;
          own = f.own;
          long = f.long;
          below = low_sound w k.kind (both_left (low p w k.kind) _ t₂);
          basis = basis_sound p n h k.kind (numbers_of w) k.closed (both_right (low p w k.kind) _ t₂);
        }

    pub known_record : (k : Known) → T (known c w k) → Record c w
    known_record k t = (bytes_sound w (both_left (bytes w) _ t), reads_accepted p (equation c) k.kind w (known_reads k t))

    -- what holds for the record's kind, holds for every kind of it
    of_its_kind : (κ : Kind) → OfKind w κ → (A : Kind → Type 0) → A κ → (κ' : Kind) → OfKind w κ' → A κ'
    of_its_kind κ e A a κ' e' = subst A (same_kind w κ κ' e e') a

    too_large_sound : (m : ℕ) (κ : Kind) (i : ℕ) → OfKind w κ → T (faulty c w m κ (too_large i))
        → FirstCause (divisor_rest (modulus c) (equation c) w) m
    too_large_sound m κ i e t =
        let t₁ = both_right (eqb m 8) _ t in
        let inside = ltb→lt i (count κ) (both_left (ltb i (count κ)) _ t₁) in
        let large = leb→le p (numbers_of w i) (both_right (ltb i (count κ)) _ t₁) in
        inl (λ f. omega (arith, f κ e i inside, large), eqb→eq m 8 (both_left (eqb m 8) _ t))

    no_basis_sound : (m : ℕ) (κ : Kind) (qs : List E) → OfKind w κ → T (faulty c w m κ (no_basis qs))
        → FirstCause (divisor_rest (modulus c) (equation c) w) m
    no_basis_sound m κ qs e t =
        let t₁ = both_right (eqb m 9) _ t in
        let below_p = low_sound w κ (both_left (low p w κ) _ t₁) in
        inr (
          of_its_kind κ e (λ q. (i : ℕ) → i < count q → numbers_of w i < p) below_p,
          inl (
            λ f. whole_sound p n h κ (numbers_of w) qs (both_right (low p w κ) _ t₁) (f κ e),
            eqb→eq m 9 (both_left (eqb m 9) _ t),
          ),
        )

    fault_sound : (m : ℕ) (κ : Kind) (k : Fault) → OfKind w κ → T (faulty c w m κ k)
        → FirstCause (divisor_rest (modulus c) (equation c) w) m
    fault_sound m κ (too_large i) e t = too_large_sound m κ i e t
    fault_sound m κ (no_basis qs) e t = no_basis_sound m κ qs e t

    pub spoilt_sound : (m : ℕ) (k : Spoilt) → AcceptedCurve c → T (spoilt c w m k) → FirstCause (curve_stages c ++ divisor_of c w) m
    spoilt_sound m k A t = go (formed_sound w k.kind (both_left (formed w k.kind) _ t))
      where
        go : Formed w k.kind → FirstCause (curve_stages c ++ divisor_of c w) m
        go f =
            let form : Passes (divisor_form w) = (
              (omega (arith, f.long), f.own),
              ((k.kind, f.kind), (of_its_kind k.kind f.kind (λ q. length w ≡ size q) f.long, tt)),
            ) in
            let rest = fault_sound m k.kind k.fault f.kind (both_right (formed w k.kind) _ t) in
            (first_append (curve_stages c) (divisor_of c w) m).1
            (inr (A, (first_append (divisor_form w) (divisor_rest p (equation c) w) m).1 (inr (form, rest))))
