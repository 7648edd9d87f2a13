-- From the functions on divisors by value to the bytes of a curve c and of the divisors on it.
--   one-asked, two-asked, two_at   divisors that are read may be negated and added
--   given                  the record of a divisor by value
--   read_ideal             … whose ideal is that of the divisor
--   reduced-made           … and which is the record of a reduced ideal that its ideal is
--   negative-made          group's negative is the negative of the record
--   sum-made               group's sum is the sum of the records
--   times-made             group's multiple is the list sum of copies of the record
--   given_record           the bytes of a divisor by value are a record
use mathlib.Core.Path.{refl, sym, subst}
use mathlib.Core.List.{List}
use Prim.Native.Nat.{ℕ, zero, suc}
use lib.ListN.{replicate}
use Rattle.ideal.specs.Ideal.{ProductOf, SameIdeal}
use Rattle.ideal.specs.Reduced.{IsStar, IsReduced}
use Rattle.ideal.proofs.Same.{same_refl}
use Rattle.ideal.proofs.Class.{equivalent_same, equivalent_trans}
use Rattle.ideal.proofs.Product.{product-same}
use Rattle.ideal.proofs.Star.{star-same, reduced-same}
use Rattle.layout.specs.Layout.{Bytes}
use Rattle.ground.specs.declared.Ground.{Ground}
use Rattle.basis.specs.declared.Divisor.{Divisor}
use Rattle.group.specs.Contract.{IsDivisor, ideal, NegativeAsked, NegativeOf, SumAsked, SumOf}
use Rattle.multiples.specs.Copies.{copies, IsCopies, MultipleOf}
use Rattle.record.specs.Curve.{AcceptedCurve, setting_of}
use Rattle.reader.specs.Reading.{On, GivenOn}
use Rattle.record.specs.Value.{bytes_of}
use Rattle.reader.proofs.Ground.{ground-at, ground-is, grounded-at}
use Rattle.record.proofs.Written.{bytes-bytes_of}
use Rattle.calls.specs.Class.{Ring, Record, Ideal, poles_on, ReducedOf, IsSum, IsNegative, IsListSum}
use Rattle.calls.proofs.Values.{ValueIdeal, value_record, value_ideal}
use Rattle.calls.proofs.Multiples.{class-list}

pub given_record : (c w : List ℕ) {x : Divisor} → GivenOn c w x → Record c w
given_record c w {x} v = (subst Bytes v.bytes (bytes-bytes_of v.kind x), v.accepted)

module _ {c : List ℕ} {g : Ground} (o : On c g) where
  abbrev A : AcceptedCurve c
  A = o.accepted

  abbrev divisor : {s : List ℕ} {x : Divisor} → GivenOn c s x → IsDivisor (setting_of c A) x
  divisor v = record { kind = v.kind; based = v.based }

  abbrev pub given : {r : Divisor} (D : IsDivisor (setting_of c A) r) → GivenOn c (bytes_of D.kind r) r
  given {r} D = record { accepted = (value_record c A D.kind r D.based).1; kind = D.kind; based = D.based; bytes = refl }

  abbrev one_at : {x : Divisor} {a : List ℕ} → GivenOn c a x → NegativeAsked (ground-at c g) x
  one_at v = record { grounded = grounded-at o; a_is = divisor v }

  abbrev pub two_at : {x y : Divisor} {a b : List ℕ} → GivenOn c a x → GivenOn c b y → SumAsked (ground-at c g) x y
  two_at v v' = record { grounded = grounded-at o; a_is = divisor v; b_is = divisor v' }

  -- the ideal of a divisor by value is that of its record
  pub read_ideal : {x : Divisor} {a : List ℕ} (v : GivenOn c a x) → SameIdeal (Ring c) (ValueIdeal c A v.kind x) (Ideal c a)
  read_ideal {x} v =
      subst (λ (s : List ℕ). SameIdeal (Ring c) (ValueIdeal c A v.kind x) (Ideal c s)) v.bytes (value_ideal c A v.kind x v.based.shaped)

  negative-at : {x r : Divisor} {a : List ℕ} → GivenOn c a x → NegativeOf (ground-at c g) x r → (w : List ℕ) × IsNegative c a w × GivenOn c w r
  negative-at {x} {r} {a} v s = go (s (one_at v))
    where
      go : (D : IsDivisor (setting_of c A) r) × IsStar (poles_on c A) (ValueIdeal c A v.kind x) (ideal (setting_of c A) r D)
          → (w : List ℕ) × IsNegative c a w × GivenOn c w r
      go (D, h) = (
        bytes_of D.kind r,
        record {
          curve = A;
          accepted = value_record c A D.kind r D.based;
          star = star-same (poles_on c A) (read_ideal v) (read_ideal (given D)) h;
        },
        given D,
      )

  pub reduced-made : {r : Divisor} {J J' : (Ring c).Car → Type 0} → SameIdeal (Ring c) J J'
      → (D : IsDivisor (setting_of c A) r) × IsReduced (poles_on c A) J (ideal (setting_of c A) r D) → (w : List ℕ) × ReducedOf c J' w × GivenOn c w r
  reduced-made {r} e (D, h) = (
    bytes_of D.kind r,
    record {
      curve = A;
      accepted = value_record c A D.kind r D.based;
      reduced = reduced-same (poles_on c A) e (read_ideal (given D)) h;
    },
    given D,
  )

  sum-at : {x y r : Divisor} {a b : List ℕ} → GivenOn c a x → GivenOn c b y → SumOf (ground-at c g) x y r
      → (w : List ℕ) × IsSum c a b w × GivenOn c w r
  sum-at v v' s = reduced-made (product-same (Ring c) (read_ideal v) (read_ideal v')) (s (two_at v v'))

  -- copies of the ideal of the value are copies of the ideal of the bytes
  copies-same : {x : Divisor} {a : List ℕ} (v : GivenOn c a x) (m : ℕ)
      → SameIdeal (Ring c) (ProductOf (Ring c) (Ideal c) (replicate m (bytes_of v.kind x))) (copies (setting_of c A) x (divisor v) m)
  copies-same v zero = same_refl (Ring c) (λ _. Unit)
  copies-same {x} v (suc m) = product-same (Ring c) (λ h. let s = value_ideal c A v.kind x v.based.shaped h in (s.1, s.0)) (copies-same v m)

  times-at : {x r : Divisor} {a : List ℕ} (m : ℕ) → GivenOn c a x → MultipleOf (ground-at c g) x m r
      → (w : List ℕ) × IsListSum c (replicate m a) w × GivenOn c w r
  times-at {x} {r} {a} m v s = go (s (one_at v))
    where
      go : IsCopies (setting_of c A) x (divisor v) m r → (w : List ℕ) × IsListSum c (replicate m a) w × GivenOn c w r
      go (D, h) = (
        bytes_of D.kind r,
        subst (λ (s : List ℕ). IsListSum c (replicate m s) (bytes_of D.kind r)) v.bytes
            (class-list c A (replicate m (bytes_of v.kind x)) (bytes_of D.kind r)
            (record {
              accepted = value_record c A D.kind r D.based;
              class =
                  equivalent_trans (poles_on c A) (equivalent_same (poles_on c A) (copies-same v m))
                  (equivalent_trans (poles_on c A) h (equivalent_same (poles_on c A) (value_ideal c A D.kind r D.based.shaped)));
            })),
        given D,
      )

  pub negative-made : {x r : Divisor} {a : List ℕ} → GivenOn c a x → NegativeOf g x r → (w : List ℕ) × IsNegative c a w × GivenOn c w r
  negative-made {x} {r} v s = negative-at v (subst (λ (h : Ground). NegativeOf h x r) (ground-is o) s)

  pub sum-made : {x y r : Divisor} {a b : List ℕ} → GivenOn c a x → GivenOn c b y → SumOf g x y r
      → (w : List ℕ) × IsSum c a b w × GivenOn c w r
  sum-made {x} {y} {r} v v' s = sum-at v v' (subst (λ (h : Ground). SumOf h x y r) (ground-is o) s)

  pub times-made : {x r : Divisor} {a : List ℕ} (m : ℕ) → GivenOn c a x → MultipleOf g x m r
      → (w : List ℕ) × IsListSum c (replicate m a) w × GivenOn c w r
  times-made {x} {r} m v s = times-at m v (subst (λ (h : Ground). MultipleOf h x m r) (ground-is o) s)

  pub one-asked : {x : Divisor} {a : List ℕ} → GivenOn c a x → NegativeAsked g x
  one-asked {x} v = subst (λ (h : Ground). NegativeAsked h x) (sym (ground-is o)) (one_at v)

  pub two-asked : {x y : Divisor} {a b : List ℕ} → GivenOn c a x → GivenOn c b y → SumAsked g x y
  two-asked {x} {y} v v' = subst (λ (h : Ground). SumAsked h x y) (sym (ground-is o)) (two_at v v')
