-- A list that is read record by record.
--   More g x X Y           one record more, that of x, turns X into Y
--   folded-accepted        records of which something is made are accepted
--   folded_keeps           what each step keeps holds of what is made
--   Walked Post g s start a rest       what the loop keeps: s is records of which a is made, and then rest
--   walked_start           at the start
--   walked_next            the next record is that of the divisor by value that was read
--   next_bounds            it has four bytes at least, and lies inside the rest
--   walked_asked           the step may be called
--   walked_more            … and one record more is read
--   walked_refused, walked_end     the next one is refused; at the end
use mathlib.Core.Path.{◌≡◌, refl, sym, ◌∙◌, ap, subst}
use mathlib.Core.Logic.{inl, inr}
use mathlib.Core.List.{List, [], ◌∷◌, ◌++◌, append-nil, append_assoc}
use Prim.Native.Nat.{ℕ, ◌-◌, ◌<◌, ◌≤◌}
use native.Mathlib.Omega.{arith}
use lib.ListN.{length, take, drop, length-drop, take-append-drop}
use lib.Seq.{take-length}
use Rattle.std.specs.Prelude.{Ok, Err}
use Rattle.std.proofs.lemmas.Fn.{chained_keeps, FoldsTo-push}
use Rattle.ground.specs.declared.Ground.{Ground}
use Rattle.ground.specs.Ground.{AtGround}
use Rattle.basis.specs.declared.Divisor.{Divisor}
use Rattle.refusal.specs.declared.Refusal.{Refusal}
use Rattle.record.specs.Curve.{modulus, equation}
use Rattle.record.specs.Listed.{joined, AllAccepted, Listed, list_limit}
use Rattle.record.proofs.Lists.{joined_append, accepted_append}
use Rattle.reader.specs.Reading.{On, GivenOn, NextRead}
use Rattle.reader.proofs.Ground.{at-curve}
use Rattle.reader.proofs.ListReader.{next-inside}
use Rattle.classes.specs.Found.{Curved, OnCurves}
use Rattle.lists.specs.Fold.{StepTo, Folded, StepAsked, FoldFound}

-- one record more keeps what is made
abbrev pub More : Ground → Divisor → (X Y : (c : List ℕ) → List (List ℕ) → Type 0) → Type 0
More g x X Y =
    (c : List ℕ) → On c g → (rs : List (List ℕ)) (w : List ℕ) → AllAccepted (modulus c) (equation c) rs → GivenOn c w x → X c rs → Y c (rs ++ w ∷ [])

module _ {A : Type 0} (Post : A → Divisor → A → Type 0) where
  pub folded-accepted : (c : List ℕ) (start : A) (rs : List (List ℕ)) (a : A) → Folded Post c start rs a → AllAccepted (modulus c) (equation c) rs
  folded-accepted c start [] a f = tt
  folded-accepted c start (w ∷ rs) a (b, step, f) = (step.1.accepted, folded-accepted c b rs a f)

  pub folded_keeps : {g : Ground} (X : A → (c : List ℕ) → List (List ℕ) → Type 0) → ((a b : A) (x : Divisor) → Post a x b → More g x (X a) (X b))
      → (c : List ℕ) → On c g → (start : A) → X start c [] → (rs : List (List ℕ)) (a : A) → Folded Post c start rs a → X a c rs
  folded_keeps X keeps c o start z rs a f = (chained_keeps (StepTo Post c) J more rs start a (tt, z) f).1
    where
      J : List (List ℕ) → A → Type 0
      J ws b = AllAccepted (modulus c) (equation c) ws × X b c ws

      more : (ws : List (List ℕ)) (b : A) (w : List ℕ) (d : A) → J ws b → StepTo Post c b w d → J (ws ++ w ∷ []) d
      more ws b w d k (x, v, m) = (accepted_append (modulus c) (equation c) ws (w ∷ []) k.0 (v.accepted, tt), keeps b d x m c o ws w k.0 v k.1)

  pub record Read (c s : List ℕ) (start a : A) (rest : List ℕ) : Type 0 where
    pub before : List (List ℕ)
    pub split : s ≡ joined before ++ rest
    pub made : Folded Post c start before a

  abbrev pub Walked : Ground → List ℕ → A → A → List ℕ → Type 0
  Walked g s start a rest = (c : List ℕ) → On c g → Read c s start a rest

  pub walked_start : (g : Ground) (s : List ℕ) (start : A) → Walked g s start start s
  walked_start g s start c o = record { before = []; split = refl; made = refl }

  module _ {g : Ground} (s : List ℕ) (start a : A) (rest : List ℕ) (w : Walked g s start a rest) (short : length s ≤ list_limit) where
    pub walked_end : length rest ≡ 0 → OnCurves g (λ c. FoldFound Post c s start (Ok a))
    walked_end e c o =
        let z = w c o in
        let whole : s ≡ joined z.before = z.split ∙ ap (λ (t : List ℕ). joined z.before ++ t) (none rest e) ∙ append-nil (joined z.before) in
        let listed : Listed (modulus c) (equation c) s z.before = record { is = whole; accepted = folded-accepted c start z.before a z.made } in
        ((short, ((z.before, listed), tt)), (z.before, listed, z.made))
      where
        none : (t : List ℕ) → length t ≡ 0 → t ≡ []
        none [] l = refl
        none (b ∷ t) l = absurd (omega arith)

    pub walked_refused : 0 < length rest → (e : Refusal) → AtGround g (λ p C. NextRead p C rest (Err e)) → OnCurves g (λ c. FoldFound Post c s start (Err e))
    walked_refused some e h c o =
        let z = w c o in
        inr (
          short,
          inl (record {
            before = z.before;
            left = rest;
            split = z.split;
            accepted = folded-accepted c start z.before a z.made;
            some_left = some;
            cause = at-curve o (λ p C. NextRead p C rest (Err e)) h;
          }),
        )

    module _ (x : Divisor) (n : ℕ) (h : AtGround g (λ p C. NextRead p C rest (Ok (x, n)))) where
      there : (c : List ℕ) → On c g → NextRead (modulus c) (equation c) rest (Ok (x, n))
      there c o = at-curve o (λ p C. NextRead p C rest (Ok (x, n))) h

      pub next_bounds : Curved g → (4 ≤ n) × (n ≤ length rest)
      next_bounds (c, o) = next-inside (modulus c) (equation c) rest x n (there c o)

      pub walked_asked : OnCurves g (λ c. StepAsked Post c s start a x)
      walked_asked c o =
          let z = w c o in
          record {
            before = z.before;
            next = take n rest;
            left = drop n rest;
            short = short;
            split = z.split ∙ ap (λ (t : List ℕ). joined z.before ++ t) (sym (take-append-drop n rest));
            made = z.made;
            given = (there c o).2;
          }

      pub walked_more : (b : A) → Post a x b → Walked g s start b (take (length rest - n) (drop n rest))
      walked_more b m = subst (Walked g s start b) (sym part) more
        where
          part : take (length rest - n) (drop n rest) ≡ drop n rest
          part = ap (λ (k : ℕ). take k (drop n rest)) (sym (length-drop n rest)) ∙ take-length (drop n rest)

          last : (rs : List (List ℕ)) → joined (rs ++ take n rest ∷ []) ≡ joined rs ++ take n rest
          last rs = joined_append rs (take n rest ∷ []) ∙ ap (λ (t : List ℕ). joined rs ++ t) (append-nil (take n rest))

          more : Walked g s start b (drop n rest)
          more c o =
              let z = w c o in
              record {
                before = z.before ++ take n rest ∷ [];
                split =
                    z.split
                    ∙ ap (λ (t : List ℕ). joined z.before ++ t) (sym (take-append-drop n rest))
                    ∙ sym (append_assoc (joined z.before) (take n rest) (drop n rest))
                    ∙ ap (λ (t : List ℕ). t ++ drop n rest) (sym (last z.before));
                made = FoldsTo-push (StepTo Post c) start z.before a (take n rest) b z.made (x, (there c o).2, m);
              }
