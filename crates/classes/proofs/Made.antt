-- What is found of what was made: the stages of the curve come before those of the divisors.
--   one-passes, two_passes     they are passed
--   one-found, two-found       a divisor by value that was made of divisors in bytes, or the first cause
--   done-found, done-cause     a divisor by value that was found on the ground of a curve, or the first cause
use mathlib.Core.Path.{◌≡◌, sym, subst}
use mathlib.Core.Logic.{inl, inr}
use mathlib.Core.List.{List, ◌++◌}
use Prim.Native.Nat.{ℕ}
use Rattle.std.specs.Prelude.{Result, Ok, Err}
use Rattle.ground.specs.declared.Ground.{Ground}
use Rattle.basis.specs.declared.Divisor.{Divisor}
use Rattle.refusal.specs.Refusal.{number_of}
use Rattle.refusal.specs.declared.Refusal.{Refusal}
use Rattle.record.specs.Cause.{Stage, FirstCause, Passes}
use Rattle.record.specs.Curve.{curve_stages}
use Rattle.record.proofs.Cause.{first_append, passes_append}
use Rattle.reader.specs.Reading.{On, GivenOn, DoneOn, refused, done}
use Rattle.calls.specs.Call.{divisor_of}
use Rattle.classes.specs.Found.{Found}
use Rattle.classes.specs.Made.{one_stages, two_stages, OneOn, OneMade, TwoOn, TwoMade}

module _ {T : Type 0} {c a : List ℕ} {Post : Ground → Divisor → T → Type 0} where
  pub one-passes : {t : T} → OneOn c a Post t → Passes (one_stages c a)
  one-passes m = (passes_append (curve_stages c) (divisor_of c a)).1 (m.on.accepted, m.given.accepted)

module _ {T : Type 0} {c a b : List ℕ} {Post : Ground → Divisor → Divisor → T → Type 0} where
  pub two_passes : {t : T} → TwoOn c a b Post t → Passes (two_stages c a b)
  two_passes m =
      (passes_append (curve_stages c) (divisor_of c a ++ divisor_of c b)).1
      (m.on.accepted, (passes_append (divisor_of c a) (divisor_of c b)).1 (m.given.accepted, m.given_second.accepted))

-- a divisor by value whose record is good
abbrev pub Made : (c : List ℕ) (Good : List ℕ → Type 0) → Divisor → Type 0
Made c Good r = (w : List ℕ) × Good w × GivenOn c w r

module _ {c a : List ℕ} {Post : Ground → Divisor → Divisor → Type 0} (Good : List ℕ → Type 0)
    (each : (g : Ground) (x r : Divisor) → On c g → GivenOn c a x → Post g x r → Made c Good r) where
  pub one-found : (r : Result Divisor Refusal) → OneMade c a Post r → Found c (one_stages c a) Good r
  one-found (Ok r) m = (one-passes m, each m.ground m.value r m.on m.given m.made)
  one-found (Err e) f = f

module _ {c a b : List ℕ} {Post : Ground → Divisor → Divisor → Divisor → Type 0} (Good : List ℕ → Type 0)
    (each : (g : Ground) (x y r : Divisor) → On c g → GivenOn c a x → GivenOn c b y → Post g x y r → Made c Good r) where
  pub two-found : (r : Result Divisor Refusal) → TwoMade c a b Post r → Found c (two_stages c a b) Good r
  two-found (Ok r) m = (two_passes m, each m.ground m.first m.second r m.on m.given m.given_second m.made)
  two-found (Err e) f = f

module _ (c : List ℕ) (ss : List Stage) (Good : List ℕ → Type 0) where
  found-behind : (r : Result Divisor Refusal) {g : Ground} → On c g → Found c ss Good r → Found c (curve_stages c ++ ss) Good r
  found-behind (Ok r) o f = ((passes_append (curve_stages c) ss).1 (o.accepted, f.0), f.1)
  found-behind (Err e) o f = (first_append (curve_stages c) ss (number_of e)).1 (inr (o.accepted, f))

  pub done-found : {Post : Ground → Result Divisor Refusal → Type 0} (r : Result Divisor Refusal)
      → ((g : Ground) → On c g → Post g r → Found c ss Good r) → DoneOn c Post r → Found c (curve_stages c ++ ss) Good r
  done-found r each (refused e f q) = subst (Found c (curve_stages c ++ ss) Good) (sym q) ((first_append (curve_stages c) ss (number_of e)).1 (inl f))
  done-found r each (done g o p) = found-behind r o (each g o p)

-- the cause for which a list or a divisor is refused on the ground of a curve, or that of the curve
pub done-cause : {T : Type 0} {c : List ℕ} {Post : Ground → Result T Refusal → Type 0} (ss : List Stage) (e : Refusal)
    → ((g : Ground) → On c g → Post g (Err e) → FirstCause ss (number_of e)) → DoneOn c Post (Err e) → FirstCause (curve_stages c ++ ss) (number_of e)
done-cause {T} {c} ss e each (refused k f q) =
    let is : k ≡ e = cc in
    (first_append (curve_stages c) ss (number_of e)).1 (inl (subst (λ (x : Refusal). FirstCause (curve_stages c) (number_of x)) is f))
done-cause {T} {c} ss e each (done g o p) = (first_append (curve_stages c) ss (number_of e)).1 (inr (o.accepted, each g o p))
