-- What star knows of its triple, whose span J is an ideal. j is the class of the least degree d; d1 and d2 are the degrees of the next classes.
--   least_of               the class of the least degree, by three comparisons
--   S                      the setting of the ground's curve
--   degrees-of             the leads of J by the degrees
--   in_span, member-monic, member-pole     each member is in J, monic of its degree
--   least-element          the member of the class j is the least element of J
--   least-small, first_small, second-small     bounds of the three degrees
--   steps_of               the five pairs of d1 − d and d2 − d
--   near_1, near_2         d1 is d + 1 or d + 4; d2 is d + 2 or d + 5 if it is not d + 8
--   least-low              … and then d is at least 3
--   multiples_asked        what star asks of multiples
use mathlib.Core.Path.{◌≡◌, subst}
use mathlib.Core.List.{List}
use mathlib.Core.Logic.{◌⊎◌, inl, inr, ⊎_elim}
use Prim.Native.Nat.{ℕ, zero, suc, ◌+◌, ◌%◌, ◌<◌, ◌≤◌}
use native.Mathlib.Omega.{arith}
use native.Mathlib.Decide.{dec_le}
use Rattle.ideal.specs.Poles.{largest_gap, HasPole, Monic}
use Rattle.ideal.specs.Reduced.{Least}
use Rattle.ideal.proofs.Gaps.{pole-apart}
use Rattle.ideal.proofs.Degree.{monic-pole, pole-number}
use Rattle.ideal.proofs.Leads.{Lead}
use Rattle.vector.specs.Vector.{Vec, at, row, element}
use Rattle.triple.specs.Setting.{Setting, poles_of}
use Rattle.triple.specs.Triple.{Present, Spanned}
use Rattle.triple.proofs.Element.{present-monic}
use Rattle.triple.proofs.Members.{spanned-row}
use Rattle.triple.proofs.Leads.{spanned-lead}
use Rattle.functional.proofs.Degrees.{Degrees, degrees-lowest, Steps, steps_31, steps_21, steps_22, steps_11, steps_0, steps}
use Rattle.ground.specs.declared.Ground.{Ground}
use Rattle.star.specs.Contract.{StarAsked, LeastOf, MultiplesAsked}

pub least_of : {d : List ℕ} {j : ℕ} → j < 3 → at d j ≤ at d 0 → at d j ≤ at d 1 → at d j ≤ at d 2 → LeastOf d j
least_of {d} {j} h a b c = record { inside = h; lowest = go }
  where
    go : (i : ℕ) → i < 3 → at d j ≤ at d i
    go zero l = a
    go (suc zero) l = b
    go (suc (suc zero)) l = c
    go (suc (suc (suc i))) l = absurd (omega arith)

module _ {g : Ground} {t : List (List ℕ)} {d : List ℕ} (A : StarAsked g t d) where
  abbrev p : ℕ
  p = g.p

  abbrev pub S : Setting g.p
  S = A.grounded.ready.setting

  present : (i : ℕ) → i < 3 → Present (row t i) i (at d i)
  present i h = A.full.present i h

  vec : (i : ℕ) → i < 3 → Vec p (row t i)
  vec i h = (A.full.triple.member i h).vec

  pub in_span : (i : ℕ) → i < 3 → Spanned S t (element p S.curve (row t i))
  in_span i h = spanned-row S t i (omega (arith, A.full.triple.len_t))

  pub member-monic : (i : ℕ) → i < 3 → Monic (poles_of S) (element p S.curve (row t i)) (at d i)
  member-monic i h = present-monic S (vec i h) (present i h)

  pub member-pole : (i : ℕ) → i < 3 → HasPole (poles_of S) (element p S.curve (row t i)) (at d i)
  member-pole i h = monic-pole (poles_of S) (member-monic i h)

  member-lead : (i : ℕ) → i < 3 → Lead (poles_of S) (Spanned S t) (at d i)
  member-lead i h = (element p S.curve (row t i), in_span i h, member-pole i h)

  pub multiples_asked : (i : ℕ) → i < 3 → at d i ≤ 17 → MultiplesAsked g t i (at d i)
  multiples_asked i h l =
      let ready = A.grounded.ready in
      record {
        inside = h;
        low = l;
        asked = record { y3_vec = ready.y3_vec; y3_top = ready.y3_top; v_vec = vec i h; v_top = λ n b. (present i h).top n (omega arith); room = omega arith };
      }

  -- a lead of the class of the i-th member
  class-lead : (i n : ℕ) → n % 3 ≡ i → Lead (poles_of S) (Spanned S t) n → at d i ≤ n
  class-lead i n e (g, m, q) = subst (λ a. at d a ≤ n) e (spanned-lead S A.full.triple m q).0

  module _ {j : ℕ} (L : LeastOf d j) where
    -- the three degrees
    abbrev d₀ : ℕ
    d₀ = at d j

    abbrev d₁ : ℕ
    d₁ = at d ((j + 1) % 3)

    abbrev d₂ : ℕ
    d₂ = at d ((j + 2) % 3)

    first : (j + 1) % 3 < 3
    first = omega arith

    second : (j + 2) % 3 < 3
    second = omega arith

    pub degrees-of : Degrees (poles_of S) (Spanned S t) (d₀) (d₁) (d₂)
    degrees-of =
        record {
          least_1 = L.lowest ((j + 1) % 3) first;
          least_2 = L.lowest ((j + 2) % 3) second;
          class_1 = omega (arith, (present j L.inside).class, (present ((j + 1) % 3) first).class);
          class_2 = omega (arith, (present j L.inside).class, (present ((j + 2) % 3) second).class);
          lead_0 = λ n e l. class-lead j n (omega (arith, (present j L.inside).class)) l;
          lead_1 = λ n e l. class-lead ((j + 1) % 3) n (omega (arith, (present j L.inside).class)) l;
          lead_2 = λ n e l. class-lead ((j + 2) % 3) n (omega (arith, (present j L.inside).class)) l;
        }

    pub steps_of : Steps (d₀) (d₁) (d₂)
    steps_of = steps (poles_of S) (Spanned S t) degrees-of A.ideal (member-lead j L.inside) (member-lead ((j + 1) % 3) first)

    pub least-element : Least (poles_of S) (Spanned S t) (element p S.curve (row t j))
    least-element =
        record {
          pole = d₀;
          member = in_span j L.inside;
          monic = member-monic j L.inside;
          lowest = degrees-lowest (poles_of S) (Spanned S t) degrees-of;
        }

    pub least-small : d₀ ≤ 12
    least-small = go A.low
      where
        go : (i : ℕ) × (i < 3) × (at d i ≤ 12) → d₀ ≤ 12
        go (i, h, l) = omega (arith, L.lowest i h)

    pub near_1 : (d₁ ≡ d₀ + 1) ⊎ (d₁ ≡ d₀ + 4)
    near_1 = go steps_of
      where
        go : Steps (d₀) (d₁) (d₂) → (d₁ ≡ d₀ + 1) ⊎ (d₁ ≡ d₀ + 4)
        go (steps_31 a b) = inl a
        go (steps_21 a b) = inr a
        go (steps_22 a b) = inl a
        go (steps_11 a b) = inr a
        go (steps_0 a b) = inr a

    pub first_small : d₁ ≤ 16
    first_small = ⊎_elim (λ e. omega (arith, least-small)) (λ e. omega (arith, least-small)) near_1

    module _ (some : ¬ (d₂ ≡ d₀ + 8)) where
      pub near_2 : (d₂ ≡ d₀ + 2) ⊎ (d₂ ≡ d₀ + largest_gap)
      near_2 = go steps_of
        where
          go : Steps (d₀) (d₁) (d₂) → (d₂ ≡ d₀ + 2) ⊎ (d₂ ≡ d₀ + largest_gap)
          go (steps_31 a b) = inl b
          go (steps_21 a b) = inl b
          go (steps_22 a b) = inr b
          go (steps_11 a b) = inr b
          go (steps_0 a b) = absurd (some b)

      pub second-small : d₂ ≤ 17
      second-small = ⊎_elim (λ e. omega (arith, least-small)) (λ e. omega (arith, least-small)) near_2

      pub least-low : 3 ≤ d₀
      least-low = go near_2 (dec_le 3 (d₀))
        where
          poles : (i : ℕ) (h : i < 3) → (¬ (at d i ≡ 1)) × (¬ (at d i ≡ 2)) × (¬ (at d i ≡ largest_gap))
          poles i h = pole-apart (pole-number (poles_of S) (member-pole i h))

          low : (n : ℕ) → ¬ (n ≡ 1) → ¬ (n ≡ 2) → ¬ (3 ≤ n) → ¬ (n ≡ 0) → ⊥
          low n a b c z = omega arith

          go : (d₂ ≡ d₀ + 2) ⊎ (d₂ ≡ d₀ + largest_gap) → Dec (3 ≤ d₀) → 3 ≤ d₀
          go s (yes h) = h
          go (inl e) (no h) = absurd (low (d₀) (poles j L.inside).0 (poles j L.inside).1 h (λ z. (poles ((j + 2) % 3) second).1 (omega arith)))
          go (inr e) (no h) = absurd (low (d₀) (poles j L.inside).0 (poles j L.inside).1 h (λ z. (poles ((j + 2) % 3) second).2 (omega arith)))
