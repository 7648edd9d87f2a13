-- List sums and multiples on an accepted curve: how they are made of sums.
--   Stands c rs w          w is a record, and its ideal is equivalent to the product of the ideals of rs
--   stands_one             there is one such record
--   list-class, class-list w is the list sum of rs exactly if it stands for rs
--   list-one               there is one list sum
--   list_append            the sum of two list sums is the sum of the lists one after the other
--   list-single            the list sum of one record is the record
--   list-more              one record more at the end
--   copies-accepted        n copies of an accepted record
--   multiple-add           m copies and n copies are m + n copies
--   multiple-one           there is one multiple
use mathlib.Core.Path.{◌≡◌, sym, subst}
use mathlib.Core.List.{List, [], ◌∷◌, ◌++◌}
use Prim.Native.Nat.{ℕ, zero, suc, ◌+◌}
use lib.ListN.{replicate, replicate-append-replicate}
use lib.IntN.{ℤ, pos, negsuc}
use Rattle.ideal.specs.Ideal.{Product, ProductOf, Equivalent}
use Rattle.ideal.specs.Poles.{Poles}
use Rattle.ideal.proofs.Class.{equivalent_same, equivalent_sym, equivalent_trans}
use Rattle.ideal.proofs.Product.{productof_append, productof_one}
use Rattle.ideal.proofs.Finite.{productof_based}
use Rattle.record.specs.Curve.{AcceptedCurve}
use Rattle.calls.specs.Class.{Ring, Record, Ideal, poles_on, zero_record, IsSum, IsNegative, IsListSum, IsMultiple}
use Rattle.calls.proofs.Class.{Accepted, AcceptedRow, accepted-ideal, all-based, all-ideals, class-reduced, reduced-class, class_same, zero-accepted, zero-ideal, sum_law, negative-one}

pub record Stands (c : List ℕ) (rs : List (List ℕ)) (w : List ℕ) : Type 0 where
  pub accepted : Record c w
  pub class : Equivalent (Ring c) (ProductOf (Ring c) (Ideal c) rs) (Ideal c w)

pub copies-accepted : (c : List ℕ) (n : ℕ) (a : List ℕ) → Accepted c a → AcceptedRow c (replicate n a)
copies-accepted c zero a h = tt
copies-accepted c (suc n) a h = (h, copies-accepted c n a h)

module _ (c : List ℕ) (A : AcceptedCurve c) where
  abbrev P : Poles (Ring c)
  P = poles_on c A

  pub list-class : (rs : List (List ℕ)) (w : List ℕ) → AcceptedRow c rs → IsListSum c rs w → Stands c rs w
  list-class [] w a e = subst (Stands c []) (sym e) (record { accepted = zero-accepted c; class = equivalent_same P (zero-ideal c) })
  list-class (r ∷ rs) w a h =
      record { accepted = h.accepted; class = reduced-class c A w (productof_based P (Ideal c) (r ∷ rs) (all-based c A (r ∷ rs) a)) h }

  pub class-list : (rs : List (List ℕ)) (w : List ℕ) → Stands c rs w → IsListSum c rs w
  class-list [] w s =
      class_same c A w zero_record s.accepted (zero-accepted c)
      (equivalent_trans P (equivalent_sym P s.class) (equivalent_same P (zero-ideal c)))
  class-list (r ∷ rs) w s = class-reduced c A w s.accepted s.class

  pub stands_one : (rs : List (List ℕ)) (w w' : List ℕ) → Stands c rs w → Stands c rs w' → w ≡ w'
  stands_one rs w w' s s' = class_same c A w w' s.accepted s'.accepted (equivalent_trans P (equivalent_sym P s.class) s'.class)

  pub list-one : (rs : List (List ℕ)) (w w' : List ℕ) → AcceptedRow c rs → IsListSum c rs w → IsListSum c rs w' → w ≡ w'
  list-one rs w w' a h h' = stands_one rs w w' (list-class rs w a h) (list-class rs w' a h')

  pub list_append : (rs ts : List (List ℕ)) (u v w : List ℕ) → AcceptedRow c rs → AcceptedRow c ts
      → IsListSum c rs u → IsListSum c ts v → IsSum c u v w → IsListSum c (rs ++ ts) w
  list_append rs ts u v w a b h k s = go (list-class rs u a h) (list-class ts v b k)
    where
      go : Stands c rs u → Stands c ts v → IsListSum c (rs ++ ts) w
      go hu hv =
          class-list (rs ++ ts) w
          (record { accepted = s.accepted; class = equivalent_trans P joined (sum_law c A u v w hu.accepted.1 hv.accepted.1 s hu.class hv.class) })
        where
          joined : Equivalent (Ring c) (ProductOf (Ring c) (Ideal c) (rs ++ ts)) (Product (Ring c) (ProductOf (Ring c) (Ideal c) rs) (ProductOf (Ring c) (Ideal c) ts))
          joined = equivalent_same P (productof_append (Ring c) (Ideal c) rs ts (all-ideals c A rs a) (all-ideals c A ts b))

  pub list-single : (r : List ℕ) → Record c r → IsListSum c (r ∷ []) r
  list-single r h = class-reduced c A r h (equivalent_same P (productof_one (Ring c) (Ideal c) r (accepted-ideal c A r h.1)))

  pub list-more : (rs : List (List ℕ)) (r u w : List ℕ) → AcceptedRow c rs → Record c r → IsListSum c rs u → IsSum c u r w
      → IsListSum c (rs ++ r ∷ []) w
  list-more rs r u w a h k s = list_append rs (r ∷ []) u r w a (h.1, tt) k (list-single r h) s

  module _ (a : List ℕ) (h : Accepted c a) where
    pub multiple-add : (m n : ℕ) (u v w : List ℕ) → IsListSum c (replicate m a) u → IsListSum c (replicate n a) v → IsSum c u v w
        → IsListSum c (replicate (m + n) a) w
    multiple-add m n u v w k l s =
        subst (λ (rs : List (List ℕ)). IsListSum c rs w) (replicate-append-replicate m n a)
        (list_append (replicate m a) (replicate n a) u v w (copies-accepted c m a h) (copies-accepted c n a h) k l s)

    pub multiple-one : (n : ℤ) (w w' : List ℕ) → IsMultiple c a n w → IsMultiple c a n w' → w ≡ w'
    multiple-one (pos n) w w' k l = list-one (replicate n a) w w' (copies-accepted c n a h) k l
    multiple-one (negsuc n) w w' (m, k, s) (m', k', s') =
        negative-one c A m w w' (list-class (replicate (suc n) a) m (copies-accepted c (suc n) a h) k).accepted.1 s
        (subst (λ (t : List ℕ). IsNegative c t w') same s')
      where
        same : m' ≡ m
        same = list-one (replicate (suc n) a) m' m (copies-accepted c (suc n) a h) k' k
