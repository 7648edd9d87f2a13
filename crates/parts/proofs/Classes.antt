-- The classes of a record's polynomials in its triple, and its least element.
--   places_21, places_22, places-other     the first, second and third class, by the kind
--   member_in, member-least    the members of a divisor's triple are in its ideal, that of the first class is the least element
--   member_is, value_in        … and so are they by value
--   value-pole         a polynomial by value has its degree for its pole number
--   least_is           the member in the first class by value
use mathlib.Core.Path.{◌≡◌, refl, sym, subst}
use mathlib.Core.Logic.{◌⊎◌, inl, inr}
use Prim.Native.Nat.{ℕ, ◌%◌, ◌<◌, ◌≤◌}
use native.Mathlib.Omega.{arith}
use Rattle.prime_field.specs.Field.{F}
use Rattle.ideal.specs.Poles.{HasPole}
use Rattle.ideal.specs.Reduced.{Least}
use Rattle.ideal.proofs.Degree.{monic-pole}
use Rattle.divisor.specs.Kind.{Kind, k21, k22}
use Rattle.divisor.proofs.Table.{degree, kind_by, class_by, degree_bound}
use Rattle.divisor.proofs.Members.{member, member-monic, spanned-each, spanned-ideal_of}
use Rattle.divisor.proofs.Basis.{lead-basis}
use Rattle.triple.specs.Setting.{Setting, poles_of}
use Rattle.triple.proofs.Element.{present-monic}
use Rattle.basis.specs.declared.Divisor.{Divisor}
use Rattle.basis.specs.Divisor.{residues}
use Rattle.group.specs.Contract.{IsDivisor, ideal}
use Rattle.combination.specs.Contract.{MonicValue, value, MemberIs, MemberOf}
use Rattle.combination.specs.declared.Polynomial.{Polynomial}
use Rattle.parts.specs.declared.Places.{Places}
use Rattle.parts.specs.Contract.{PlacesOf, LeastOf}

-- every kind but 21 has its first polynomial in class 0
low-zero : (κ : Kind) → ¬ (κ ≡ k21) → (j : ℕ) → j ≤ 2 → degree κ 0 ≤ degree κ j
low-zero =
    kind_by (λ κ. ¬ (κ ≡ k21) → (j : ℕ) → j ≤ 2 → degree κ 0 ≤ degree κ j)
    (λ n. class_by _ (omega arith) (omega arith) (omega arith))
    (λ n. class_by _ (omega arith) (omega arith) (omega arith))
    (λ n. absurd (n refl))
    (λ n. class_by _ (omega arith) (omega arith) (omega arith))
    (λ n. class_by _ (omega arith) (omega arith) (omega arith))

pub places_21 : PlacesOf k21 (record { first = 1; second = 0; third = 2 })
places_21 = record {
  first_below = omega arith;
  second_below = omega arith;
  third_below = omega arith;
  all = λ j l. class_by (λ j. (j ≡ 1) ⊎ ((j ≡ 0) ⊎ (j ≡ 2))) (inr (inl refl)) (inl refl) (inr (inr refl)) j (omega arith);
  lowest = λ j l. class_by (λ j. degree k21 1 ≤ degree k21 j) (omega arith) (omega arith) (omega arith) j (omega arith);
}

pub places_22 : PlacesOf k22 (record { first = 0; second = 2; third = 1 })
places_22 = record {
  first_below = omega arith;
  second_below = omega arith;
  third_below = omega arith;
  all = λ j l. class_by (λ j. (j ≡ 0) ⊎ ((j ≡ 2) ⊎ (j ≡ 1))) (inl refl) (inr (inr refl)) (inr (inl refl)) j (omega arith);
  lowest = λ j l. low-zero k22 (λ e. absurd (cc)) j (omega arith);
}

pub places-other : {κ : Kind} → ¬ (κ ≡ k21) → PlacesOf κ (record { first = 0; second = 1; third = 2 })
places-other n = record {
  first_below = omega arith;
  second_below = omega arith;
  third_below = omega arith;
  all = λ j l. class_by (λ j. (j ≡ 0) ⊎ ((j ≡ 1) ⊎ (j ≡ 2))) (inl refl) (inr (inl refl)) (inr (inr refl)) j (omega arith);
  lowest = λ j l. low-zero _ n j (omega arith);
}

pub value-pole : {p : ℕ} (S : Setting p) {u : Polynomial} → MonicValue p u → HasPole (poles_of S) (value S u) u.d
value-pole S h = monic-pole (poles_of S) (present-monic S h.vec h.present)

module _ {p : ℕ} (S : Setting p) {x : Divisor} (D : IsDivisor S x) where
  pub member_in : (j : ℕ) → j < 3 → ideal S x D (member S.curve D.kind (residues p x) j)
  member_in j l =
      spanned-ideal_of (F p S.prime) S.curve S.nonzero D.kind (residues p x) _
      (spanned-each (F p S.prime) S.curve S.nonzero D.kind (residues p x) j (omega arith))

  pub member-least : {q : Places} → PlacesOf x.kind q → Least (poles_of S) (ideal S x D) (member S.curve D.kind (residues p x) q.first)
  member-least {q} h = record {
    pole = degree D.kind q.first;
    member = member_in q.first h.first_below;
    monic = member-monic (F p S.prime) S.curve S.nonzero (residues p x) D.kind q.first (omega (arith, h.first_below));
    lowest = λ g n mg pg. low n (lead-basis (F p S.prime) S.curve S.nonzero D.kind (residues p x) D.based.basis n (g, mg, pg));
  }
    where
      low : (n : ℕ) → degree D.kind (n % 3) ≤ n → degree D.kind q.first ≤ n
      low n l = omega (arith, (subst (λ κ. PlacesOf κ q) D.based.shaped.kind h).lowest (n % 3) (omega arith))

  module _ {j : ℕ} {r : Polynomial} (m : MemberOf x j r) where
    pub member_is : MemberIs p D.kind x j r
    member_is = m.of p D.kind S.prime D.based.shaped

    pub value_in : j < 3 → ideal S x D (value S r)
    value_in l = subst (ideal S x D) (sym (member_is.value_is S.curve)) (member_in j l)

pub least_is : {x : Divisor} {q : Places} {r : Polynomial} → PlacesOf x.kind q → MemberOf x q.first r → LeastOf x r
least_is {x} {q} {r} h m p S D = record {
  monic = (member_is S D m).monic;
  low = omega (arith, (member_is S D m).degree_is, (subst (λ κ. PlacesOf κ q) D.based.shaped.kind h).lowest 0 (omega arith), degree_bound D.kind 0 (omega arith));
  least = subst (Least (poles_of S) (ideal S x D)) (sym ((member_is S D m).value_is S.curve)) (member-least S D h);
}
