-- What the pass over a list finds of the records read, where each step takes one record more.
--   totals_more          one record more
--   with_asked           the next record may be taken
--   found-pass           what is found
use mathlib.Core.List.{List, []}
use Prim.Native.Nat.{ℕ}
use native.Mathlib.Omega.{arith}
use Rattle.std.specs.Prelude.{Result, Ok, Err}
use Rattle.refusal.specs.declared.Refusal.{Refusal}
use Rattle.ground.specs.declared.Ground.{Ground}
use Rattle.basis.specs.declared.Divisor.{Divisor}
use Rattle.group.specs.Contract.{ZeroClass}
use Rattle.record.specs.Curve.{modulus, equation, accepted_limit}
use Rattle.reader.specs.Reading.{On}
use Rattle.calls.specs.Call.{list_of}
use Rattle.classes.specs.Found.{Curved, OnCurves}
use Rattle.lists.specs.Fold.{Folded, StepAsked, FoldFound}
use Rattle.lists.proofs.Walk.{More, folded_keeps}
use Rattle.lists.proofs.Lists.{summed-none, summed-asked, summed-more, few_records}
use Rattle.tallies.specs.Tallied.{TalliesOf}
use Rattle.tallies.proofs.More.{tallies_bounded, record_given}
use Rattle.pass.specs.declared.Pass.{Pass}
use Rattle.pass.specs.Found.{WithAsked, WithNext, Totals, PassFound}

pub totals_more : {g : Ground} {p q : Pass} {x : Divisor} → WithNext g p x q → More g x (Totals p.sum p.tallies) (Totals q.sum q.tallies)
totals_more m c o rs w accepted v z =
    record {
      sum = summed-more m.sum c o rs w accepted v z.sum;
      tallies = m.tallies rs w z.tallies (record_given (modulus c) (equation c) (omega (arith, accepted_limit c o.accepted)) v);
    }

module _ {g : Ground} {Post : Pass → Divisor → Pass → Type 0} (post : (p q : Pass) (x : Divisor) → Post p x q → WithNext g p x q)
    {z : Pass} (sum : ZeroClass z.sum) (tallies : TalliesOf [] z.tallies) where
  totals-folded : (c : List ℕ) → On c g → (rs : List (List ℕ)) (p : Pass) → Folded Post c z rs p → Totals p.sum p.tallies c rs
  totals-folded c o rs p f =
      folded_keeps Post (λ q. Totals q.sum q.tallies) (λ p q x m. totals_more (post p q x m)) c o z (record { sum = summed-none sum c o; tallies = tallies }) rs p f

  pub with_asked : {s : List ℕ} {p : Pass} {x : Divisor} → Curved g → OnCurves g (λ c. StepAsked Post c s z p x) → WithAsked g p x
  with_asked {s} {p} (c, o) h =
      let k = h c o in
      let t = totals-folded c o k.before p k.made in
      record {
        sum = summed-asked k.before o t.sum k.given;
        bounded = tallies_bounded t.tallies;
        few = omega (arith, t.tallies.is_total, few_records k);
      }

  pub found-pass : (s : List ℕ) (r : Result Pass Refusal) → OnCurves g (λ c. FoldFound Post c s z r) → OnCurves g (λ c. PassFound c (list_of c s) s r)
  found-pass s (Ok p) h c o = let k = h c o in (k.0, (k.1.0, k.1.1, totals-folded c o k.1.0 p k.1.2))
  found-pass s (Err e) h c o = h c o
