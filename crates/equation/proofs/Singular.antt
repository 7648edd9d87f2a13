-- The span of the y-multiples of the two derivatives is the ideal that they generate, so its degrees say whether the curve is nonsingular.
--   powers_all             every element of the ring is p₀ + p₁·y + p₂·y² with the pᵢ in k[x]
--   inserted_in            an ideal that holds g and the span of a triple holds the span after g's y-multiples are put in
--   inserted_times         that span holds all multiples of g
--   inserted_keeps         … and the span before
--   start-asked            what putting in the first derivative's y-multiples asks
--   test                   what nonsingular returns
use mathlib.Core.Path.{◌≡◌, refl, sym, ◌∙◌, ap, subst}
use mathlib.Core.Bool.{Bool}
use mathlib.Core.List.{List, [], ◌∷◌, ◌++◌}
use Prim.Native.Nat.{ℕ, zero, suc, ◌+◌, ◌*◌, ◌-◌, ◌/◌, ◌%◌, ◌<◌}
use native.Mathlib.Omega.{arith}
use lib.ListN.{length}
use Rattle.algebra.specs.Answers.{Answers}
use Rattle.algebra.specs.Ring.{CommRing}
use Rattle.algebra.proofs.Laws as L
use Rattle.ideal.specs.Ideal.{IsIdeal, Generated}
use Rattle.ideal.specs.Poles.{IsPole, Poles, HasPole}
use Rattle.ideal.proofs.Gaps.{pole-apart}
use Rattle.ideal.proofs.Degree.{mono-has, one-pole, pole-at, pole_cong, pole-mul, pole-number}
use Rattle.ideal.proofs.Every.{Every, every_append, every_left, every_right}
use Rattle.ideal.proofs.Generated.{generated_ideal, generated_first, generated_rest}
use Rattle.ideal.proofs.Leads.{IsSpace, Lead, ideal_space, lowering}
use Rattle.ideal.proofs.Span.{Span, four_pole, span_each, span_in, span_nil, span_space, span_sum, span_within, span_x, x-lead}
use Rattle.curve.specs.Curve.{y}
use Rattle.curve.specs.Monomial.{power}
use Rattle.nonsingular.specs.Nonsingular.{Nonsingular}
use Rattle.nonsingular.specs.Derivative.{derivative_x, derivative_y}
use Rattle.nonsingular.proofs.Nonsingular.{nonsingular}
use Rattle.vector.specs.Vector.{element, y_to}
use Rattle.terms.specs.Contract.{RowsOf}
use Rattle.multiplication.specs.Contract.{YMultiples}
use Rattle.triple.specs.Setting as setting
use Rattle.triple.specs.Setting.{Setting, poles_of}
use Rattle.triple.specs.Triple.{elements, Spanned}
use Rattle.triple.specs.Contract.{AllAsked, AllInserted, Whole}
use Rattle.equation.specs.declared.Equation.{Equation}
use Rattle.equation.specs.Equation.{curve_of, DerivativeX, DerivativeY, TestAsked}
use Rattle.triple.proofs.Element.{y_is}
use Rattle.triple.proofs.Members.{each_row, row-each}
use Rattle.triple.proofs.Leads.{whole-all, all_whole}
use Rattle.triple.proofs.Empty.{no_rows, no-degrees, empty_triple, empty_same}

module _ {p : ℕ} (S : Setting p) where
  open setting.ring S use {Car, zero as 𝟘, one as 𝟙, add as ◌⊕◌, mul as ◌⊗◌}

  infixl 60 ◌⊕◌
  infixl 70 ◌⊗◌
  abbrev P : Poles (setting.ring S)
  P = poles_of S

  abbrev el : List ℕ → Car
  el v = element p S.curve v

  abbrev Y : ℕ → Car
  Y j = y_to p S.curve j

  power-pole : (j : ℕ) → HasPole P (Y j) (4 * j)
  unfolding power
  power-pole zero = one-pole P
  power-pole (suc j) = pole-at P (omega arith) (pole-mul P (pole_cong P (y_is S) (mono-has P (four_pole P))) (power-pole j))

  abbrev powers : List Car
  powers = Y 0 ∷ Y 1 ∷ Y 2 ∷ []

  power-lead : (n : ℕ) → IsPole n → (j : ℕ) → n % 3 ≡ j → Lead P (Span P powers) n
  power-lead n k j e = go j e (span_each P powers)
    where
      up : (d : ℕ) → Lead P (Span P powers) d → d + 3 * ((n - d) / 3) ≡ n → Lead P (Span P powers) n
      up d l q = subst (Lead P (Span P powers)) q (x-lead P (span_x P powers) ((n - d) / 3) l)

      go : (j : ℕ) → n % 3 ≡ j → Every (Span P powers) powers → Lead P (Span P powers) n
      go zero e (m0, (m1, (m2, _))) = up 0 (Y 0, m0, power-pole 0) (omega arith)
      go (suc zero) e (m0, (m1, (m2, _))) = up 4 (Y 1, m1, power-pole 1) (omega (arith, pole-apart k))
      go (suc (suc zero)) e (m0, (m1, (m2, _))) = up 8 (Y 2, m2, power-pole 2) (omega (arith, pole-apart k))
      go (suc (suc (suc j))) e m = absurd (omega arith)

  pub powers_all : (r : Car) → Span P powers r
  powers_all r =
      lowering P {I' = λ _. Unit} (span_space P powers) (record { nil = tt; sum = λ m n. tt; scale = λ k m. tt }) (λ g m. tt)
      (λ n (u, m, k). power-lead n (pole-number P k) (n % 3) refl) r tt

  -- the elements u for which u·g is in the span of bs
  module _ (bs : List Car) (g : Car) where
    into_space : IsSpace P (λ u. Span P bs (u ⊗ g))
    into_space =
        record {
          nil = subst (Span P bs) (sym (L.zero-mul (setting.ring S) g)) (span_nil P bs);
          sum = λ {a} {b} m n. subst (Span P bs) (sym (L.add-mul (setting.ring S) a b g)) (span_sum P bs (a ⊗ g) (b ⊗ g) m n);
          scale = λ {c} {a} k m. subst (Span P bs) (sym ((setting.ring S).mul_assoc c a g)) ((span_space P bs).scale k m);
        }

    multiples_in : Span P bs (Y 0 ⊗ g) → Span P bs (Y 1 ⊗ g) → Span P bs (Y 2 ⊗ g) → (r : Car) → Span P bs (r ⊗ g)
    multiples_in m0 m1 m2 r = span_in P into_space (λ u m. subst (Span P bs) (sym ((setting.ring S).mul_assoc (P.mono 3) u g)) (span_x P bs (u ⊗ g) m)) powers (m0, (m1, (m2, tt))) r (powers_all r)

  module _ {t : List (List ℕ)} {d : List ℕ} {ys t' : List (List ℕ)} {d' : List ℕ} {g : Car} (a : AllInserted p t d ys t' d') (len : length ys ≡ 3) (o : RowsOf p S.curve ys g) where
    abbrev all : List Car
    all = elements S ys ++ elements S t

    pub inserted_in : {I : Car → Type 0} → IsIdeal (setting.ring S) I → I g → ((h : Car) → Spanned S t h → I h) → (h : Car) → Spanned S t' h → I h
    inserted_in {I} i m old h n =
        span_in P (ideal_space P i) (λ u. i.times (P.mono 3)) all
        (every_append I (elements S ys) (elements S t) (each_row S I ys (λ j l. subst I (sym (o.is j (omega arith))) (i.times (Y j) m))) (each-old (elements S t) (span_each P (elements S t))))
        h ((a.same S h).0 n)
      where
        each-old : (bs : List Car) → Every (Spanned S t) bs → Every I bs
        each-old [] _ = tt
        each-old (b ∷ bs) (q, qs) = (old b q, each-old bs qs)

    row_in : (j : ℕ) → j < 3 → Spanned S t' (Y j ⊗ g)
    row_in j l = subst (Spanned S t') (o.is j l) ((a.same S _).1 (row-each S (Span P all) ys (every_left (Span P all) (elements S ys) (elements S t) (span_each P all)) j (omega arith)))

    pub inserted_times : (r : Car) → Spanned S t' (r ⊗ g)
    inserted_times = multiples_in (elements S t') g (row_in 0 (omega arith)) (row_in 1 (omega arith)) (row_in 2 (omega arith))

    pub inserted_keeps : (h : Car) → Spanned S t h → Spanned S t' h
    inserted_keeps h m = (a.same S h).1 (span_within P (elements S t) all (every_right (Span P all) (elements S ys) (elements S t) (span_each P all)) h m)

module _ (e : Equation) {y3 : List ℕ} (asked : TestAsked e y3) where
  abbrev S : Setting e.p
  S = record { prime = asked.prime; curve = curve_of e; nonzero = asked.nonzero }

  abbrev R : CommRing
  R = setting.ring S

  abbrev G : R.Car → Type 0
  G = Generated R (derivative_x (curve_of e) ∷ derivative_y (curve_of e) ∷ [])

  ideal : IsIdeal R G
  ideal = generated_ideal R (derivative_x (curve_of e) ∷ derivative_y (curve_of e) ∷ [])

  first : G (derivative_x (curve_of e))
  first = generated_first R (derivative_x (curve_of e)) (derivative_y (curve_of e) ∷ [])

  second : G (derivative_y (curve_of e))
  second = generated_rest R (derivative_x (curve_of e)) (derivative_y (curve_of e) ∷ []) (derivative_y (curve_of e)) (generated_first R (derivative_y (curve_of e)) [])

  positive : 0 < e.p
  positive = omega (arith, asked.prime.two_le)

  pub start-asked : {ys : List (List ℕ)} {v : List ℕ} → YMultiples e.p y3 v 9 ys → AllAsked e.p no_rows no-degrees ys 9
  start-asked y = record { prime = asked.prime; triple = empty_triple positive; rows = y.rows; room = omega arith }

  module _ {v w : List ℕ} {ys zs t : List (List ℕ)} {d : List ℕ} {t' : List (List ℕ)} {d' : List ℕ} (dy : DerivativeY e v)
      (my : YMultiples e.p y3 v 9 ys) (ay : AllInserted e.p no_rows no-degrees ys t d) (dx : DerivativeX e w) (mx : YMultiples e.p y3 w 10 zs)
      (ax : AllInserted e.p t d zs t' d') where
    rows-y : RowsOf e.p (curve_of e) ys (derivative_y (curve_of e))
    rows-y = subst (RowsOf e.p (curve_of e) ys) dy.value (my.value (curve_of e) asked.is_cube.cube)

    rows-x : RowsOf e.p (curve_of e) zs (derivative_x (curve_of e))
    rows-x = subst (RowsOf e.p (curve_of e) zs) dx.value (mx.value (curve_of e) asked.is_cube.cube)

    there : (g : R.Car) → Spanned S t' g → G g
    there = inserted_in S ax mx.rows.len rows-x ideal first (inserted_in S ay my.rows.len rows-y ideal second (λ h m. subst G (sym ((empty_same positive S h).0 m)) ideal.nil))

    back : (g : R.Car) → G g → Spanned S t' g
    back g (r, s, (q, z, ez, es), eg) =
        subst (Spanned S t')
        (sym (eg ∙ ap (R.add (R.mul r (derivative_x (curve_of e)))) (es ∙ ap (R.add (R.mul q (derivative_y (curve_of e)))) ez ∙ R.add_zero _)))
        (span_sum (poles_of S) (elements S t') _ _ (inserted_times S ax mx.rows.len rows-x r) (inserted_keeps S ax mx.rows.len rows-x _ (inserted_times S ay my.rows.len rows-y q)))

    pub test : {r : Bool} → Answers (Whole d') r → Answers (Nonsingular (curve_of e)) r
    test w =
        record {
          holds = λ q. (nonsingular (curve_of e)).1 (there R.one (whole-all S ax.triple (w.holds q) R.one));
          fails = λ q n. w.fails q (all_whole S ax.triple (λ g. back g (subst G (R.mul_one g) (ideal.times g ((nonsingular (curve_of e)).0 n)))));
        }
