-- Two accepted records with the same ideal are the same bytes, and residues that are a basis have an accepted record.
--   accepted_unique    accepted records with the same ideal are the same
--   upto c f           the list f 0, …, f (c − 1)
--   residue_record κ n the record of kind κ whose numbers are those of the residues n
--   residue-record_bytes, residue_record_length, residue_record_reads, residue_record_ideal    it is bytes, of the kind's length, accepted, with their ideal
use mathlib.Core.Path.{◌≡◌, refl, sym, ap, ◌∙◌, subst}
use mathlib.Core.Logic.Iff
use mathlib.Core.List.{List, [], ◌∷◌}
use Prim.Native.Nat.{ℕ, zero, suc, ◌+◌, ◌*◌, ◌<◌, ◌≤◌}
use native.Mathlib.Omega.{arith}
use lib.ListN.{length, get_or}
use lib.Seq.{ext_get_or}
use Rattle.algebra.specs.Ring.{CommRing}
use Rattle.field.specs.Residue.{Z, el, num}
use Rattle.field.proofs.Element.{el_inj, el-num, num-lt}
use Rattle.prime_field.specs.Field.{F}
use Rattle.ideal.specs.Ideal.{SameIdeal}
use Rattle.curve.specs.Curve.{Curve, Coordinate}
use Rattle.divisor.specs.Kind.{Kind, code, count, size, IdealOf, IsBasis}
use Rattle.divisor.proofs.Unique.{record_unique}
use Rattle.layout.specs.Layout.{Bytes, Words, number4, numbers, record_bytes}
use Rattle.layout.proofs.Bytes.{bytes_record}
use Rattle.layout.proofs.Read.{length_numbers, numbers-at}
use Rattle.triple.specs.Setting.{Setting, ring}
use Rattle.record.specs.Divisor.{number_at, AcceptedDivisor, IdealOfBytes}
use Rattle.divisor.proofs.Codes.{ideal-same, basis-same}
use Rattle.record.proofs.Accepted.{Reads, accepted_reads, reads_whole, ideal_reads}
use Rattle.record.proofs.Written.{written_length, written_reads, written-ideal}

numbers-same : (s s' : List ℕ) (c : ℕ) → ((i : ℕ) → i < c → number4 s (4 + 4 * i) ≡ number4 s' (4 + 4 * i)) → numbers s 4 c ≡ numbers s' 4 c
numbers-same s s' c h =
    ext_get_or
    0
    (numbers s 4 c)
    (numbers s' 4 c)
    (length_numbers s 4 c ∙ sym (length_numbers s' 4 c))
    (λ i l.
    let few : i < c = omega (arith, length_numbers s 4 c) in
    numbers-at s 4 c i few ∙ h i few ∙ sym (numbers-at s' 4 c i few))

module _ {p : ℕ} (S : Setting p) (s s' : List ℕ) (b : Bytes s) (b' : Bytes s') where
  -- of the same kind
  kind_unique : (κ : Kind) → Reads p S.curve κ s → Reads p S.curve κ s' → ((i : ℕ) → i < count κ → number_at p s i ≡ number_at p s' i) → s ≡ s'
  kind_unique κ r r' e =
      reads_whole p S.curve κ s b r
      ∙ ap (record_bytes (code κ)) (numbers-same s s' (count κ) (λ i l. el_inj p (number4 s (4 + 4 * i)) (number4 s' (4 + 4 * i)) (r.below i l) (r'.below i l) (e i l)))
      ∙ sym (reads_whole p S.curve κ s' b' r')

  -- Document 01: "The record of a reduced ideal is the accepted record of kind 0, 11, 21, 22 or 31 whose ideal it is; there is only one."
  pub accepted_unique : AcceptedDivisor p S.curve s → AcceptedDivisor p S.curve s'
      → SameIdeal (ring S) (IdealOfBytes p S.curve s) (IdealOfBytes p S.curve s') → s ≡ s'
  accepted_unique a a' e = go (accepted_reads p S.curve s a) (accepted_reads p S.curve s' a')
    where
      go : (κ : Kind) × Reads p S.curve κ s → (κ : Kind) × Reads p S.curve κ s' → s ≡ s'
      go (κ, r) (κ', r') =
          let u =
          record_unique (F p S.prime) S.curve S.nonzero κ κ' (number_at p s) (number_at p s') r.basis r'.basis
          (λ g. Iff.trans (Iff.symm (ideal_reads p S.curve κ s r.kind g)) (Iff.trans (e g) (ideal_reads p S.curve κ' s' r'.kind g))) in
          kind_unique κ r (subst (λ (q : Kind). Reads p S.curve q s') (sym u.kind) r') u.numbers

abbrev pub upto : ℕ → (ℕ → ℕ) → List ℕ
upto zero f = []
upto (suc c) f = f 0 ∷ upto c (λ i. f (suc i))

length_upto : (c : ℕ) (f : ℕ → ℕ) → length (upto c f) ≡ c
length_upto zero f = refl
length_upto (suc c) f = ap suc (length_upto c (λ i. f (suc i)))

getD_upto : (c : ℕ) (f : ℕ → ℕ) (i : ℕ) → i < c → get_or (upto c f) i 0 ≡ f i
getD_upto zero f i h = absurd (omega arith)
getD_upto (suc c) f zero h = refl
getD_upto (suc c) f (suc i) h = getD_upto c (λ j. f (suc j)) i (omega arith)

upto-below : (b c : ℕ) (f : ℕ → ℕ) → 0 < b → ((i : ℕ) → f i < b) → (i : ℕ) → get_or (upto c f) i 0 < b
upto-below b zero f pos h i = pos
upto-below b (suc c) f pos h zero = h 0
upto-below b (suc c) f pos h (suc i) = upto-below b c (λ j. f (suc j)) pos (λ j. h (suc j)) i

unfoldable pub residue_record : (p : ℕ) → Kind → (ℕ → (Z p).Car) → List ℕ
residue_record p κ n = record_bytes (code κ) (upto (count κ) (λ i. num p (n i)))

module _ (p : ℕ) (C : Curve (Z p)) (pos : 0 < p) (fits : p ≤ 4294967296) (κ : Kind) (n : ℕ → (Z p).Car) where
  list : List ℕ
  list = upto (count κ) (λ i. num p (n i))

  list-words : Words list
  unfolding list
  list-words i = omega (arith, upto-below p (count κ) (λ j. num p (n j)) pos (λ j. num-lt p (n j) pos) i)

  list-residue : (i : ℕ) → i < count κ → n i ≡ el p (get_or list i 0)
  unfolding list
  list-residue i h = sym (el-num p (n i)) ∙ ap (el p) (sym (getD_upto (count κ) (λ j. num p (n j)) i h))

  pub residue-record_bytes : Bytes (residue_record p κ n)
  unfolding residue_record
  residue-record_bytes = bytes_record (code κ) (upto (count κ) (λ i. num p (n i)))

  pub residue_record_length : length (residue_record p κ n) ≡ size κ
  unfolding residue_record
  residue_record_length = written_length κ (upto (count κ) (λ i. num p (n i))) (length_upto (count κ) (λ i. num p (n i)))

  pub residue_record_reads : IsBasis C κ n → Reads p C κ (residue_record p κ n)
  unfolding residue_record list
  residue_record_reads b =
      written_reads κ list (length_upto (count κ) (λ i. num p (n i))) p C list-words (λ i h. upto-below p (count κ) (λ j. num p (n j)) pos (λ j. num-lt p (n j) pos) i)
      (basis-same C n (λ i. el p (get_or list i 0)) κ list-residue b)

  pub residue_record_ideal : SameIdeal (Coordinate C) (IdealOfBytes p C (residue_record p κ n)) (IdealOf C κ n)
  unfolding residue_record list
  residue_record_ideal g =
      Iff.trans
      (written-ideal κ list (length_upto (count κ) (λ i. num p (n i))) p C list-words g)
      (Iff.symm (ideal-same C n (λ i. el p (get_or list i 0)) κ list-residue g))
