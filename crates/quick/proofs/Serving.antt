-- The quick sum is served exactly where the definition says.
--   denied, granted        what a test of a negation says
--   not_short, not_typical-first, not_typical-second       where a condition of the request fails, it is not
--   served-at, tried-served        where all hold, the formulas decide
use mathlib.Core.Path.{◌≡◌, refl, sym, ◌∙◌, ap, subst}
use mathlib.Core.Bool.{Bool, true, false, not, true≢false, false≢true}
use mathlib.Core.List.{List}
use Prim.Native.Nat.{ℕ}
use native.Mathlib.Omega.{arith}
use Rattle.std.specs.Prelude.{Option, Some, None, is_some}
use Rattle.ideal.specs.Ideal.{SameIdeal, Product}
use Rattle.ideal.specs.Reduced.{IsReduced}
use Rattle.ideal.proofs.Same.{same_sym}
use Rattle.ideal.proofs.Product.{product-same}
use Rattle.ideal.proofs.Star.{reduced-same}
use Rattle.field.specs.Residue.{el}
use Rattle.field.proofs.Element.{el-zero, el_inj}
use Rattle.field.proofs.Invert.{prime-large}
use Rattle.divisor.specs.Kind.{Kind, k31, IdealOf}
use Rattle.ground.specs.declared.Ground.{Ground}
use Rattle.basis.specs.declared.Divisor.{Divisor}
use Rattle.usual.specs.Trial.{TriedAsked, TriedOf, TriedIs, HasPivots, Summed, Untypical, product_on}
use Rattle.record.specs.Curve.{modulus, equation, AcceptedCurve, accepted_prime, accepted_limit}
use Rattle.record.specs.Divisor.{number_at}
use Rattle.record.proofs.Accepted.{ideal_reads, Reads, accepted_reads, same_kind}
use Rattle.reader.specs.Reading.{On, GivenOn}
use Rattle.reader.proofs.Ground.{ground-at, ground-is, grounded-at}
use Rattle.calls.specs.Class.{Ring, Ideal, poles_on, IsSum}
use Rattle.calls.specs.Quick.{Typical, Pivots, Serves}
use Rattle.calls.proofs.Class.{reduced_on, sum_one}
use Rattle.calls.proofs.Exists.{sum_record}
use Rattle.classes.proofs.Values.{reduced-made, read_ideal}
use Rattle.quick.specs.Served.{ShortGround, TypicalValue, ServedOn, ServedOf}
use Rattle.quick.proofs.Records.{Given31, given_31, typical-there, typical-back, same-there, same_back, pivot_sum-is, pivot_double-is, short-there, short_back}

pub denied : (b : Bool) → not b ≡ true → b ≡ false
denied true e = absurd (false≢true e)
denied false e = refl

pub granted : (b : Bool) → not b ≡ false → b ≡ true
granted true e = refl
granted false e = absurd (true≢false e)

module _ {g : Ground} {x y : Divisor} where
  unserved : ((c : List ℕ) → On c g → (a b : List ℕ) → GivenOn c a x → GivenOn c b y → ¬ Serves c a b) → ServedOf g x y None
  unserved n c o a b v u = record { yes = tt; no = n c o a b v u }

  pub not_short : ¬ ShortGround g → ServedOf g x y None
  not_short n = unserved (λ c o a b v u s. n (short_back o s.short))

  pub not_typical-first : ¬ TypicalValue x → ServedOf g x y None
  not_typical-first n = unserved (λ c o a b v u s. n (typical-back c a x (accepted_limit c o.accepted) v s.a_typical))

  pub not_typical-second : ¬ TypicalValue y → ServedOf g x y None
  not_typical-second n = unserved (λ c o a b v u s. n (typical-back c b y (accepted_limit c o.accepted) u s.b_typical))

module _ {c : List ℕ} {g : Ground} (o : On c g) {a b : List ℕ} {x y : Divisor} (v : GivenOn c a x) (u : GivenOn c b y) (h : Given31 c a x) (h' : Given31 c b y) where
  abbrev A : AcceptedCurve c
  A = o.accepted

  abbrev p : ℕ
  p = modulus c

  abbrev asked : TriedAsked (ground-at c g) x y
  asked = record { grounded = grounded-at o; a_is = h.based; b_is = h'.based }

  -- the two records with their kind in hand
  abbrev v31 : GivenOn c a x
  v31 = record { accepted = v.accepted; kind = k31; based = h.based; bytes = h.bytes }

  abbrev u31 : GivenOn c b y
  u31 = record { accepted = u.accepted; kind = k31; based = h'.based; bytes = h'.bytes }

  product_is : SameIdeal (Ring c) (product_on asked) (Product (Ring c) (Ideal c a) (Ideal c b))
  product_is = product-same (Ring c) (read_ideal o v31) (read_ideal o u31)

  pivots-there : HasPivots asked → Pivots c a b
  pivots-there f =
      record {
        different = λ n e. f.different (λ q. n (same-there h h' q)) (sym (pivot_sum-is h h') ∙ e);
        equal = λ q e. f.equal (same_back h h' q) (sym (pivot_double-is h h') ∙ e);
      }

  pivots-back : Pivots c a b → HasPivots asked
  pivots-back f =
      record {
        different = λ n e. f.different (λ q. n (same_back h h' q)) (pivot_sum-is h h' ∙ e);
        equal = λ q e. f.equal (same-there h h' q) (pivot_double-is h h' ∙ e);
      }

  module _ (short : ShortGround g) (n : ¬ (x.n2 ≡ 0)) (n' : ¬ (y.n2 ≡ 0)) where
    summed : {r : Divisor} → Summed asked r → (w : List ℕ) × IsSum c a b w × GivenOn c w r
    summed s = reduced-made o product_is (record { kind = k31; based = s.based }, s.reduced)

    serves : {r : Divisor} → Summed asked r → (w : List ℕ) × IsSum c a b w × GivenOn c w r → Serves c a b
    serves s (w, i, q) =
        record {
          short = short-there o short;
          a_typical = typical-there h n;
          b_typical = typical-there h' n';
          pivots = pivots-there s.pivots;
          sum_typical = λ w' i'. subst Typical (sum_one c A a b w v.accepted u.accepted w' i i') typical;
        }
      where
        typical : Typical w
        typical =
            typical-there (given_31 (accepted_limit c A) q s.based.shaped.kind)
            (λ e. s.typical (ap (el p) e ∙ el-zero p))

    refused : Untypical asked → ¬ Serves c a b
    refused f s = go (sum_record c A a b v.accepted u.accepted)
      where
        go : (w : List ℕ) × IsSum c a b w → ⊥
        go (w, i) = at (accepted_reads p (equation c) w i.accepted.1)
          where
            typical : Typical w
            typical = s.sum_typical w i

            at : (κ : Kind) × Reads p (equation c) κ w → ⊥
            at (κ, r) =
                typical.second
                (el_inj p _ 0 (r31.below 2 (omega arith)) (omega (arith, prime-large p (accepted_prime c A)))
                (f (pivots-back s.pivots) k31 (number_at p w) r31.basis reduced ∙ sym (el-zero p)))
              where
                r31 : Reads p (equation c) k31 w
                r31 = subst (λ κ. Reads p (equation c) κ w) (same_kind w κ k31 r.kind typical.kind) r

                reduced : IsReduced (poles_on c A) (product_on asked) (IdealOf (equation c) k31 (number_at p w))
                reduced =
                    reduced-same (poles_on c A) (same_sym (Ring c) product_is) (ideal_reads p (equation c) k31 w typical.kind) (reduced_on c A w i)

    pub served-at : (t : Option Divisor) → TriedIs asked t → ServedOn c a b t
    served-at None T = record { yes = tt; no = refused T.no }
    served-at (Some r) T = record { yes = let m = summed T.yes in (serves T.yes m, m); no = tt }

pub tried-served : {g : Ground} {x y : Divisor} {t : Option Divisor} → TriedOf g x y t → ShortGround g → TypicalValue x → TypicalValue y → ServedOf g x y t
tried-served {g} {x} {y} {t} T s tx ty c o a b v u =
    served-at o v u h h' s tx.second ty.second t (subst (λ k. TriedOf k x y t) (ground-is o) T (asked o v u h h'))
  where
    h : Given31 c a x
    h = given_31 (accepted_limit c o.accepted) v tx.kind

    h' : Given31 c b y
    h' = given_31 (accepted_limit c o.accepted) u ty.kind
