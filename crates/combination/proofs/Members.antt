-- The rows of a divisor's triple.
--   member_of              each is monic, and stands for the kind's member in its class
use mathlib.Core.Path.{sym, subst}
use mathlib.Core.List.{List}
use Prim.Native.Nat.{ℕ, ◌<◌}
use native.Mathlib.Omega.{arith}
use Rattle.divisor.specs.Kind.{Kind}
use Rattle.vector.specs.Vector.{at, row}
use Rattle.triple.specs.Triple.{Present}
use Rattle.basis.specs.declared.Divisor.{Divisor}
use Rattle.basis.specs.Contract.{Tripled, TripleOf}
use Rattle.basis.proofs.Ideal.{triple-member, triple_degree}
use Rattle.combination.specs.Contract.{MemberIs, MemberOf}

module _ {p : ℕ} {κ : Kind} {x : Divisor} {t : List (List ℕ)} {d : List ℕ} (h : Tripled p κ x t d) {j : ℕ} (l : j < 3) where
  member_is : MemberIs p κ x j (record { v = row t j; d = at d j })
  member_is =
      record {
        monic =
            record {
              vec = (h.full.triple.member j l).vec;
              present = subst (λ i. Present (row t j) i (at d j)) (sym (h.full.present j l).class) (h.full.present j l);
              low = h.small j l;
            };
        degree_is = triple_degree h j (omega arith);
        value_is = λ C. triple-member h C j (omega arith);
      }

pub member_of : {x : Divisor} {t : List (List ℕ)} {d : List ℕ} {j : ℕ} → TripleOf x t d → j < 3 → MemberOf x j (record { v = row t j; d = at d j })
member_of h l = record { of = λ p κ prime shaped. member_is (h.of p κ prime shaped) l }
