-- The basis test.
--   closed_asked       what the test of closure under y requires of a record's triple
--   basis_test         what it says of the record
use mathlib.Core.List.{List}
use mathlib.Core.Bool.{Bool}
use Prim.Native.Nat.{ℕ}
use Rattle.span.specs.Contract.{ClosedAsked, ClosedTest}
use Rattle.basis.specs.declared.Divisor.{Divisor}
use Rattle.basis.specs.Contract.{Tripled, TripleOf, BasisAsked, BasisTest}
use Rattle.basis.proofs.Ideal.{triple-closed, triple_open}

module _ {p : ℕ} {y3 : List ℕ} {r : Divisor} {t : List (List ℕ)} {d : List ℕ} (o : TripleOf r t d) where
  pub closed_asked : BasisAsked p y3 r → ClosedAsked p y3 t d
  closed_asked a = record { ready = a.ready; full = h.full; small = h.small }
    where
      h : Tripled p a.kind r t d
      h = o.of p a.kind a.ready.setting.prime a.shaped

  pub basis_test : {b : Bool} → ClosedTest p y3 t d b → BasisTest p y3 r b
  basis_test c R κ s =
      let h = o.of p κ R.setting.prime s in
      record { holds = λ e. triple-closed h R.setting (c.yes_closed e R); fails = λ e. triple_open h R (c.no_closed e R) }
