-- Accepted records, with their kind in hand.
--   Reads κ s          s is a record of kind κ: of its length, with its numbers below p, and a basis
--   accepted_reads, reads_accepted    an accepted record is a record of one kind, and back
--   reads_whole        its bytes are those of its kind and numbers
--   same_kind          a record has one kind
--   ideal_reads        its ideal is that of its kind and numbers
--   other_length       a record whose length is not that of its kind is refused with 6
use mathlib.Core.Path.{◌≡◌, refl, sym, ap, ◌∙◌, subst}
use mathlib.Core.Logic.{inl, inr}
use mathlib.Core.List.{List}
use Prim.Native.Nat.{ℕ, ◌+◌, ◌*◌, ◌<◌}
use native.Mathlib.Omega.{arith}
use lib.ListN.{length}
use Rattle.algebra.specs.Ring.{CommRing}
use Rattle.field.specs.Residue.{Z}
use Rattle.ideal.specs.Ideal.{SameIdeal}
use Rattle.curve.specs.Curve.{Curve, Coordinate}
use Rattle.divisor.specs.Kind.{Kind, code, count, size, IdealOf, IsBasis}
use Rattle.layout.specs.Layout.{Bytes, number2, number4, numbers, record_bytes}
use Rattle.layout.proofs.Record.{record_whole}
use Rattle.record.specs.Cause.{FirstCause, Sized}
use Rattle.record.specs.Divisor.{OfKind, number_at, divisor_stages, AcceptedDivisor, IdealOfBytes}
use Rattle.divisor.proofs.Codes.{code_injective}

pub same_kind : (s : List ℕ) (κ κ' : Kind) → OfKind s κ → OfKind s κ' → κ ≡ κ'
same_kind s κ κ' e e' = code_injective κ κ' (sym e ∙ e')

module _ (p : ℕ) (C : Curve (Z p)) where
  pub record Reads (κ : Kind) (s : List ℕ) : Type 0 where
    pub kind : OfKind s κ
    pub own : number2 s 0 ≡ length s
    pub long : length s ≡ size κ
    pub below : (i : ℕ) → i < count κ → number4 s (4 + 4 * i) < p
    pub basis : IsBasis C κ (number_at p s)

  pub accepted_reads : (s : List ℕ) → AcceptedDivisor p C s → (κ : Kind) × Reads κ s
  accepted_reads s a =
      let κ = a.1.0.0 in
      let e = a.1.0.1 in (
        κ,
        record { kind = e; own = a.0.1; long = a.1.1.0 κ e; below = a.1.1.1.0 κ e; basis = a.1.1.1.1.0 κ e },
      )

  pub reads_accepted : (κ : Kind) (s : List ℕ) → Reads κ s → AcceptedDivisor p C s
  reads_accepted κ s r = (
    (omega (arith, r.long), r.own),
    (
      (κ, r.kind),
      (
        λ κ' e. subst (λ (q : Kind). length s ≡ size q) (same_kind s κ κ' r.kind e) r.long,
        (
          λ κ' e. subst (λ (q : Kind). (i : ℕ) → i < count q → number4 s (4 + 4 * i) < p) (same_kind s κ κ' r.kind e) r.below,
          (λ κ' e. subst (λ (q : Kind). IsBasis C q (number_at p s)) (same_kind s κ κ' r.kind e) r.basis, tt),
        ),
      ),
    ),
  )

  pub reads_whole : (κ : Kind) (s : List ℕ) → Bytes s → Reads κ s → s ≡ record_bytes (code κ) (numbers s 4 (count κ))
  reads_whole κ s b r = record_whole s (count κ) b r.long r.own ∙ ap (λ (c : ℕ). record_bytes c (numbers s 4 (count κ))) r.kind

  pub ideal_reads : (κ : Kind) (s : List ℕ) → OfKind s κ → SameIdeal (Coordinate C) (IdealOfBytes p C s) (IdealOf C κ (number_at p s))
  ideal_reads κ s e g = (
    λ i. subst (λ (q : Kind). IdealOf C q (number_at p s) g) (same_kind s i.0 κ i.1 e) i.2,
    λ i. (κ, e, i),
  )

  -- "length not that of its kind": 6
  pub other_length : (κ : Kind) (s : List ℕ) → Sized s → OfKind s κ → ¬ (length s ≡ size κ) → FirstCause (divisor_stages p C s) 6
  other_length κ s h e n = inr (h, inr ((κ, e), inl (λ f. n (f κ e), refl)))
