-- Which of the five triples is that of a record.
--   chosen             the triple of the record's kind is its triple
use mathlib.Core.Path.{◌≡◌, sym, ◌∙◌, subst₃}
use mathlib.Core.List.{List}
use Prim.Native.Nat.{ℕ}
use Rattle.field.proofs.Invert.{prime-large}
use Rattle.divisor.specs.Kind.{Kind}
use Rattle.basis.specs.declared.Divisor.{Divisor}
use Rattle.basis.specs.Contract.{IsTriple, Tripled, TripleOf}
use Rattle.basis.proofs.Member.{tripled}

pub chosen : {κ' : Kind} {r : Divisor} {t : List (List ℕ)} {d : List ℕ} → IsTriple κ' r t d → r.kind ≡ κ' → TripleOf r t d
chosen {κ'} {r} i e =
    record { of = λ p κ q s. subst₃ (λ (ν : Kind) (u : List (List ℕ)) (e : List ℕ). Tripled p ν r u e) (sym e ∙ s.kind) (sym i.is_t) (sym i.is_d) (tripled (prime-large p q) r s.below κ') }
