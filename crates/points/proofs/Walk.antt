-- Numbers that are read pair by pair: what the loop of total keeps.
--   Walked g ns left x     on every curve the pairs before the numbers `left` are points, and x is their list sum
--   walked_start           at the start
--   walked_asked           the sum and the next point may be added
--   walked_more            one point more
--   walked_refused         the next pair is refused
--   walked_end             no pair is left
--   count-right            what sum_on finds where the count of numbers is right
use mathlib.Core.Path.{◌≡◌, refl, sym, ◌∙◌, ap, subst}
use mathlib.Core.Logic.{inl, inr}
use mathlib.Core.List.{List, [], ◌∷◌, ◌++◌, map, append-nil, append_assoc}
use Prim.Native.Nat.{ℕ, ◌-◌, ◌%◌, ◌<◌, ◌≤◌}
use native.Mathlib.Omega.{arith}
use lib.ListN.{length, get_or, take, drop, length-drop}
use lib.Seq.{take-length}
use Rattle.std.specs.Prelude.{Result, Ok, Err}
use Rattle.refusal.specs.Refusal.{number_of}
use Rattle.refusal.specs.declared.Refusal.{Refusal}
use Rattle.ground.specs.declared.Ground.{Ground}
use Rattle.basis.specs.declared.Divisor.{Divisor}
use Rattle.group.specs.Contract.{ZeroClass, SumAsked, SumOf}
use Rattle.record.specs.Cause.{Stage, FirstCause, Passes}
use Rattle.record.specs.Curve.{modulus, equation}
use Rattle.record.specs.Listed.{AllAccepted}
use Rattle.record.proofs.Cause.{first_append, passes_append}
use Rattle.reader.specs.Reading.{On}
use Rattle.calls.specs.Class.{IsListSum}
use Rattle.classes.specs.Found.{Curved, OnCurves, Found}
use Rattle.lists.proofs.Lists.{Summed, summed-none, summed-asked, summed-more}
use Rattle.point.specs.Point.{Pair, point_record}
use Rattle.point.specs.PointCall.{pairs, numbers_stage, pair_stages, pairs_stages}
use Rattle.point.proofs.Records.{point-accepted}
use Rattle.pair.specs.Contract.{PairRead}

pub record Read (c ns left : List ℕ) (x : Divisor) : Type 0 where
  pub before : List Pair
  pub split : pairs ns ≡ before ++ pairs left
  pub passed : Passes (pairs_stages c before)
  pub summed : Summed x c (map (point_record c) before)

abbrev pub Walked : Ground → (ns left : List ℕ) → Divisor → Type 0
Walked g ns left x = (c : List ℕ) → On c g → Read c ns left x

pub walked_start : {g : Ground} {z : Divisor} (ns : List ℕ) → ZeroClass z → Walked g ns ns z
walked_start ns h c o = record { before = []; split = refl; passed = tt; summed = summed-none h c o }

-- each point that was read has an accepted record
read_accepted : (c : List ℕ) {g : Ground} → On c g → (ps : List Pair) → Passes (pairs_stages c ps) → AllAccepted (modulus c) (equation c) (map (point_record c) ps)
read_accepted c o [] p = tt
read_accepted c o (q ∷ ps) (_, (on, p)) = ((point-accepted c o.accepted q on).1, read_accepted c o ps p)

stages_append : (c : List ℕ) (ps qs : List Pair) → pairs_stages c (ps ++ qs) ≡ pairs_stages c ps ++ pairs_stages c qs
stages_append c [] qs = refl
stages_append c (q ∷ ps) qs = ap (λ (ss : List Stage). pair_stages c q ++ ss) (stages_append c ps qs)

map_more : (c : List ℕ) (ps : List Pair) (q : Pair) → map (point_record c) (ps ++ q ∷ []) ≡ map (point_record c) ps ++ point_record c q ∷ []
map_more c [] q = refl
map_more c (r ∷ ps) q = ap (λ (ws : List (List ℕ)). point_record c r ∷ ws) (map_more c ps q)

no-pair : (left : List ℕ) → length left < 2 → pairs left ≡ []
no-pair [] l = refl
no-pair (a ∷ []) l = refl
no-pair (a ∷ b ∷ left) l = absurd (omega arith)

pairs_next : (left : List ℕ) → 2 ≤ length left → pairs left ≡ (get_or left 0 0, get_or left 1 0) ∷ pairs (drop 2 left)
pairs_next [] l = absurd (omega arith)
pairs_next (a ∷ []) l = absurd (omega arith)
pairs_next (a ∷ b ∷ left) l = refl

module _ {g : Ground} (ns : List ℕ) {t : Divisor} where
  pub walked_end : (left : List ℕ) → Walked g ns left t → length left < 2
      → OnCurves g (λ c. Found c (pairs_stages c (pairs ns)) (IsListSum c (map (point_record c) (pairs ns))) (Ok t))
  walked_end left w l c o =
      let z = w c o in
      let all = z.split ∙ ap (λ (ps : List Pair). z.before ++ ps) (no-pair left l) ∙ append-nil z.before in (
        subst (λ (ps : List Pair). Passes (pairs_stages c ps)) (sym all) z.passed,
        (z.summed.0, subst (λ (ps : List Pair). IsListSum c (map (point_record c) ps) z.summed.0) (sym all) z.summed.1, z.summed.2),
      )

  -- the next pair, and the numbers behind it
  module _ (left : List ℕ) (w : Walked g ns left t) (two : 2 ≤ length left) where
    abbrev q : Pair
    q = (get_or left 0 0, get_or left 1 0)

    abbrev rest : List ℕ
    rest = drop 2 left

    module _ {x : Divisor} (given : OnCurves g (λ c. PairRead c q (Ok x))) where
      pub walked_asked : Curved g → SumAsked g t x
      walked_asked (c, o) = let z = w c o in summed-asked (map (point_record c) z.before) o z.summed (given c o).1

      pub walked_more : {r : Divisor} → SumOf g t x r → Walked g ns (take (length left - 2) rest) r
      walked_more {r} m = subst (λ (s : List ℕ). Walked g ns s r) (sym part) more
        where
          part : take (length left - 2) rest ≡ rest
          part = ap (λ (k : ℕ). take k rest) (sym (length-drop 2 left)) ∙ take-length rest

          more : Walked g ns rest r
          more c o =
              let z = w c o in
              record {
                before = z.before ++ q ∷ [];
                split = z.split ∙ ap (λ (ps : List Pair). z.before ++ ps) (pairs_next left two) ∙ sym (append_assoc z.before (q ∷ []) (pairs rest));
                passed =
                    subst Passes (sym (stages_append c z.before (q ∷ [])))
                    ((passes_append (pairs_stages c z.before) (pairs_stages c (q ∷ []))).1 (z.passed, ((given c o).0.0, ((given c o).0.1, tt))));
                summed =
                    subst (Summed r c) (sym (map_more c z.before q))
                    (summed-more m c o (map (point_record c) z.before) (point_record c q) (read_accepted c o z.before z.passed) (given c o).1 z.summed);
              }

    pub walked_refused : (e : Refusal) → OnCurves g (λ c. PairRead c q (Err e)) → OnCurves g (λ c. FirstCause (pairs_stages c (pairs ns)) (number_of e))
    walked_refused e f c o =
        let z = w c o in
        subst (λ (ps : List Pair). FirstCause (pairs_stages c ps) (number_of e)) (sym (z.split ∙ ap (λ (ps : List Pair). z.before ++ ps) (pairs_next left two)))
        (subst (λ (ss : List Stage). FirstCause ss (number_of e)) (sym (stages_append c z.before (q ∷ pairs rest)))
        ((first_append (pairs_stages c z.before) (pairs_stages c (q ∷ pairs rest)) (number_of e)).1
        (inr (z.passed, (first_append (pair_stages c q) (pairs_stages c (pairs rest)) (number_of e)).1 (inl (f c o))))))

abbrev stages : (c ns : List ℕ) → List Stage
stages c ns = numbers_stage ns ∷ pairs_stages c (pairs ns)

module _ {g : Ground} (ns : List ℕ) where
  pub count-right : length ns % 2 ≡ 0 → length ns ≤ 8192 → (Good : List ℕ → List ℕ → Type 0) (r : Result Divisor Refusal)
      → OnCurves g (λ c. Found c (pairs_stages c (pairs ns)) (Good c) r) → OnCurves g (λ c. Found c (stages c ns) (Good c) r)
  count-right e l Good (Ok x) h c o = let k = h c o in (((e, omega arith), k.0), k.1)
  count-right e l Good (Err n) h c o = inr ((e, omega arith), h c o)
