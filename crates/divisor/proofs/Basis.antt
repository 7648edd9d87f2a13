-- A record is a basis exactly if the span of its members is closed under y. Then that span is the ideal of the record, and its leads are
-- the numbers that the kind reaches.
--   Bare κ h               h has no coefficient at a number that the kind reaches
--   made_bare, bare_made   that is, h is made of the remaining monomials alone
--   Closed κ n             y·member is in the span of the members, for each member
--   closed-ideal, closed_same      the span of a closed record is an ideal, the ideal of the record
--   closed-basis           a closed record is a basis
--   open_not_basis         a record is no basis if y·member has a rest that is not zero
--   basis-closed           a basis is closed
--   basis-same             the ideal of a basis is the span of the members
--   basis-lead, lead-basis its leads are the numbers that the kind reaches
--   basis_footprint        it is a based ideal with all leads from 6 on
--   basis-based            … and so a based ideal with a nonzero element
use mathlib.Core.Path.{◌≡◌, sym, ◌∙◌, ap, subst}
use Prim.Native.Nat.{ℕ, ◌≤◌}
use native.Mathlib.Omega.{arith}
use lib.Dec.{T}
use Rattle.algebra.specs.Ring.{CommRing, Field}
use Rattle.algebra.proofs.Laws as L
use Rattle.algebra.proofs.Solve.{solve, ◌⊞◌, ⊟◌}
use Rattle.ideal.specs.Ideal.{IsIdeal, SameIdeal}
use Rattle.ideal.specs.Poles.{IsGap, Poles}
use Rattle.ideal.proofs.Gaps.{gap_dec}
use Rattle.ideal.proofs.Every.{Every}
use Rattle.ideal.proofs.Leads.{Lead, ideal_space, space_neg}
use Rattle.ideal.proofs.Generated.{generated_ideal, generated_in, generated_each}
use Rattle.ideal.proofs.Span.{span_each, span_ideal}
use Rattle.ideal.proofs.Reduced.{SmallFootprint, footprint_same}
use Rattle.ideal.proofs.Finite.{BasedIdeal, footprint_based}
use Rattle.curve.specs.Curve.{Curve, Coordinate, y}
use Rattle.curve.specs.Sequence.{coefficient}
use Rattle.curve.proofs.Term.{coefficient-gap}
use Rattle.poles.specs.Poles.{poles}
use Rattle.curve.proofs.Poles.{below_some}
use Rattle.divisor.specs.Kind.{Kind, polynomials, remaining, IdealOf, MadeOf, IsBasis}
use Rattle.divisor.proofs.Monomials.{mono-y}
use Rattle.divisor.proofs.Terms.{distinct, absent, made-within, within-made}
use Rattle.divisor.proofs.Table.{Reached, kind_by, class_by, remaining-poles, remaining_monos, reached-large, reached_absent, absent_reached}
use Rattle.divisor.proofs.Members.{member, members, ideal-members, members-polynomials, poles-mono, Spanned, spanned_space, spanned-based, reached-lead, lead-reached, spanned-ideal_of}
use Rattle.divisor.proofs.Divide.{Clean, clean-zero, Division, divide}

remaining_distinct : (κ : Kind) → T (distinct (remaining-poles κ))
remaining_distinct = kind_by (λ κ. T (distinct (remaining-poles κ))) tt tt tt tt tt

module _ {k : CommRing} (C : Curve k) (κ : Kind) (h : (Coordinate C).Car) where
  abbrev pub Bare : Type 0
  Bare = (m : ℕ) → Reached κ m → coefficient C m h ≡ k.zero

  pub made_bare : MadeOf C (remaining C κ) h → Bare
  made_bare w m r = made-within C (remaining-poles κ) h (remaining_distinct κ) (subst (λ ms. MadeOf C ms h) (remaining_monos C κ) w) m (reached_absent κ m r)

  pub bare_made : Bare → MadeOf C (remaining C κ) h
  bare_made b = subst (λ ms. MadeOf C ms h) (sym (remaining_monos C κ)) (within-made C (remaining-poles κ) h (remaining_distinct κ) (λ m t. go m t (gap_dec m)))
    where
      go : (m : ℕ) → T (absent m (remaining-poles κ)) → Dec (IsGap m) → coefficient C m h ≡ k.zero
      go m t (yes d) = coefficient-gap C m d h
      go m t (no p) = b m (absent_reached κ m p t)

module _ (K : Field) (C : Curve K.ring) (nonzero : ¬ (C.a0 ≡ K.ring.zero)) (κ : Kind) (n : ℕ → K.ring.Car) where
  open Coordinate C use {Car as El, zero as 𝟎, one as 𝟏, add as ◌⊕◌, mul as ◌⊗◌, neg as ⊖◌}

  infixl 60 ◌⊕◌
  infixl 70 ◌⊗◌
  infix 80 ⊖◌
  abbrev P : Poles (Coordinate C)
  P = poles K C nonzero

  abbrev 𝕊 : El → Type 0
  𝕊 = Spanned K C nonzero κ n

  abbrev pub Closed : Type 0
  Closed = (j : ℕ) → j ≤ 2 → Spanned K C nonzero κ n (y C ⊗ member C κ n j)

  bare_clean : (h : El) → Bare C κ h → Clean K C nonzero 𝕊 h
  bare_clean h b m lead = b m (lead-reached K C nonzero κ n m lead)

  clean_bare : (h : El) → Clean K C nonzero 𝕊 h → Bare C κ h
  clean_bare h c m r = c m (reached-lead K C nonzero κ n m r)

  poles-y : P.mono 4 ≡ y C
  poles-y = poles-mono K C nonzero 4 ∙ mono-y C

  module _ (c : Closed) where
    pub closed-ideal : IsIdeal (Coordinate C) 𝕊
    closed-ideal = span_ideal P (members C κ n) (at 0 (omega arith), (at 1 (omega arith), (at 2 (omega arith), tt)))
      where
        at : (j : ℕ) → j ≤ 2 → 𝕊 (P.mono 4 ⊗ member C κ n j)
        at j l = subst (λ u. 𝕊 (u ⊗ member C κ n j)) (sym poles-y) (c j l)

    pub closed_same : SameIdeal (Coordinate C) 𝕊 (IdealOf C κ n)
    closed_same h = (
      spanned-ideal_of K C nonzero κ n h,
      generated_in (Coordinate C) closed-ideal (polynomials C κ n) (members-polynomials C 𝕊 κ n (span_each P (members C κ n))) h,
    )

    pub closed-basis : IsBasis C κ n
    closed-basis h i w = clean-zero K C nonzero 𝕊 h ((closed_same h).1 i) (bare_clean h (made_bare C κ h w))

  member-ideal : (j : ℕ) → j ≤ 2 → IdealOf C κ n (member C κ n j)
  member-ideal j l = go (ideal-members C (generated_ideal (Coordinate C) (polynomials C κ n)) κ n (generated_each (Coordinate C) (polynomials C κ n)))
    where
      go : Every (IdealOf C κ n) (members C κ n) → IdealOf C κ n (member C κ n j)
      go (a, (b, (c, _))) = class_by (λ j. IdealOf C κ n (member C κ n j)) a b c j l

  lone : (g r s : El) → g ≡ r ⊕ s → g ⊕ ⊖ s ≡ r
  lone g r s e = ap (λ t. t ⊕ ⊖ s) e ∙ again r s
    where
      again : (r s : El) → r ⊕ s ⊕ ⊖ s ≡ r
      again = solve (Coordinate C) 2 (λ r s. r ⊞ s ⊞ ⊟ s) (λ r s. r) tt

  -- the rest of y·member after division by the span is an element of the ideal
  rest-ideal : (j : ℕ) → j ≤ 2 → (r s : El) → y C ⊗ member C κ n j ≡ r ⊕ s → 𝕊 s → IdealOf C κ n r
  rest-ideal j l r s e m = subst (IdealOf C κ n) (lone (y C ⊗ member C κ n j) r s e) (i.sum (i.times (y C) (member-ideal j l)) (space_neg P (ideal_space P i) (spanned-ideal_of K C nonzero κ n s m)))
    where
      i : IsIdeal (Coordinate C) (IdealOf C κ n)
      i = generated_ideal (Coordinate C) (polynomials C κ n)

  pub open_not_basis : (j : ℕ) → j ≤ 2 → (r s : El) → y C ⊗ member C κ n j ≡ r ⊕ s → 𝕊 s → ¬ (r ≡ 𝟎) → Bare C κ r → ¬ IsBasis C κ n
  open_not_basis j l r s e m h b basis = h (basis r (rest-ideal j l r s e m) (bare_made C κ r b))

  module _ (basis : IsBasis C κ n) where
    pub basis-closed : Closed
    basis-closed j l = go (divide K C nonzero 𝕊 (spanned_space K C nonzero κ n) (spanned-based K C nonzero κ n) (below_some K C g).0 g (below_some K C g).1)
      where
        g : El
        g = y C ⊗ member C κ n j

        go : Division K C nonzero 𝕊 (below_some K C g).0 g → 𝕊 g
        go d = subst 𝕊 (sym (d.sum ∙ ap (λ t. t ⊕ d.part) none ∙ L.zero-add (Coordinate C) d.part)) d.within
          where
            none : d.rest ≡ 𝟎
            none = basis d.rest (rest-ideal j l d.rest d.part d.sum d.within) (bare_made C κ d.rest (clean_bare d.rest d.clean))

    pub basis-same : SameIdeal (Coordinate C) 𝕊 (IdealOf C κ n)
    basis-same = closed_same basis-closed

    pub basis-lead : (m : ℕ) → Reached κ m → Lead P (IdealOf C κ n) m
    basis-lead m r = go (reached-lead K C nonzero κ n m r)
      where
        go : Lead P 𝕊 m → Lead P (IdealOf C κ n) m
        go (u, mu, pu) = (u, (basis-same u).0 mu, pu)

    pub lead-basis : (m : ℕ) → Lead P (IdealOf C κ n) m → Reached κ m
    lead-basis m (u, mu, pu) = lead-reached K C nonzero κ n m (u, (basis-same u).1 mu, pu)

    pub basis_footprint : SmallFootprint P (IdealOf C κ n)
    basis_footprint =
        footprint_same P basis-same (record { ideal = closed-ideal basis-closed; based = spanned-based K C nonzero κ n; leads = λ m l. reached-lead K C nonzero κ n m (reached-large κ m l) })

    pub basis-based : BasedIdeal P (IdealOf C κ n)
    basis-based = footprint_based P basis_footprint
