-- The loops over the products of a sum: what is left to be added and to be taken.
--   Adding, Taking         after i products
use mathlib.Core.Path.{◌≡◌, sym, ◌∙◌, ap, subst}
use mathlib.Core.List.{List, ◌∷◌}
use Prim.Native.Nat.{ℕ, ◌+◌, ◌*◌, ◌<◌, ◌≤◌}
use native.Mathlib.Omega.{arith}
use lib.ListN.{length, drop, get_or}
use Rattle.std.proofs.lemmas.List.{drop_more, drop_all}
use Rattle.field.specs.Residue.{Z, el}
use Rattle.barrett.specs.Contract.{more₁, less₁, term, Sum}
use Rattle.chains.specs.Contract.{more_all, less_all, AllBelow}

pub record Adding (p x : ℕ) (plus : List (ℕ × ℕ)) (i total : ℕ) : Type 0 where
  pub most : total ≤ x + i * term
  pub rest : more_all p (el p total) (drop i plus) ≡ more_all p (el p x) plus
  pub below : AllBelow p (drop i plus)

pub record Taking (p x : ℕ) (minus : List (ℕ × ℕ)) (i total : ℕ) : Type 0 where
  pub most : total ≤ x + i * term
  pub rest : less_all p (el p total) (drop i minus) ≡ less_all p (el p x) minus
  pub below : AllBelow p (drop i minus)

module _ {p i : ℕ} (pairs : List (ℕ × ℕ)) (l : i < length pairs) (b : AllBelow p (drop i pairs)) where
  next : AllBelow p (get_or pairs i (0, 0) ∷ drop (i + 1) pairs)
  next = subst (AllBelow p) (drop_more pairs i (0, 0) l) b

  pub first_below : (get_or pairs i (0, 0)).0 < p
  first_below = next.0

  pub second_below : (get_or pairs i (0, 0)).1 < p
  second_below = next.1

module _ {p x i total : ℕ} {pairs : List (ℕ × ℕ)} where
  pub added : {r : ℕ} → i < length pairs → Adding p x pairs i total
      → Sum p total r (more₁ (Z p) (el p total) (el p (get_or pairs i (0, 0)).0) (el p (get_or pairs i (0, 0)).1)) → Adding p x pairs (i + 1) r
  added l h s =
      record {
        most = omega (arith, h.most, s.more);
        rest = ap (λ y. more_all p y (drop (i + 1) pairs)) s.is ∙ sym (ap (more_all p (el p total)) (drop_more pairs i (0, 0) l)) ∙ h.rest;
        below = (next pairs l h.below).2;
      }

  pub taken : {r : ℕ} → i < length pairs → Taking p x pairs i total
      → Sum p total r (less₁ (Z p) (el p total) (el p (get_or pairs i (0, 0)).0) (el p (get_or pairs i (0, 0)).1)) → Taking p x pairs (i + 1) r
  taken l h s =
      record {
        most = omega (arith, h.most, s.more);
        rest = ap (λ y. less_all p y (drop (i + 1) pairs)) s.is ∙ sym (ap (less_all p (el p total)) (drop_more pairs i (0, 0) l)) ∙ h.rest;
        below = (next pairs l h.below).2;
      }

  pub all-added : length pairs ≤ i → Adding p x pairs i total → el p total ≡ more_all p (el p x) pairs
  all-added l h = sym (ap (more_all p (el p total)) (drop_all i pairs l)) ∙ h.rest

  pub all_taken : length pairs ≤ i → Taking p x pairs i total → el p total ≡ less_all p (el p x) pairs
  all_taken l h = sym (ap (less_all p (el p total)) (drop_all i pairs l)) ∙ h.rest
