-- Invertible ideals: I·I' = (e), e not zero. They can be cancelled.
--   Scaled e Y             e·Y: the elements e·y, y in Y
--   scaled_ideal           … are an ideal
--   multiple-ideal         the multiples of e are an ideal
--   multiple-product       (a)·(b) = (a·b)
--   invertible-member      h is in Y if (a·b)·h is in e·Y for all a in I and b in I'
--   product_scaled         I·Y times an element of I' is in e·Y
--   colon_invertible       I is invertible if f is in I·(f : I), f not zero
--   invertible_colon       I·(u : I) = (u) for every u in I
--   invertible-product     the product of two invertible ideals is invertible
--   invertible_equivalent  an ideal that is equivalent to an invertible one is invertible
--   invertible-same        … and so is one with the same elements
--   invertible_cancel      I·X ⊆ I·Y gives X ⊆ Y
--   invertible-whole       I ⊆ I·X gives X = R
--   invertible_parts       (I ∩ J)·(I + J) = I·J if I + J is invertible
use mathlib.Core.Path.{◌≡◌, refl, sym, ◌∙◌, ap, ap₂, subst}
use Rattle.algebra.specs.Ring.{CommRing}
use Rattle.algebra.proofs.Laws as laws
use Rattle.ideal.specs.Ideal.{IsIdeal, Product, Multiple, Colon, SameIdeal, Equivalent}
use Rattle.ideal.specs.Poles.{Poles}
use Rattle.ideal.specs.Parts.{IdealSum, Intersection}
use Rattle.ideal.specs.Invertible.{InvertibleIdeal}
use Rattle.ideal.proofs.Same.{same_refl, same_sym, same_trans, ideal-same}
use Rattle.ideal.proofs.Degree.{cancel, mul-nonzero}
use Rattle.ideal.proofs.Colon.{colon_ideal}
use Rattle.ideal.proofs.Class.{equivalent_ideal, equivalent_same}
use Rattle.ideal.proofs.Product.{product_of, product_in, product-ideal, product-same, product_comm, product_assoc, taken_ideal, whole-ideal}
use Rattle.ideal.proofs.Parts.{intersection_ideal, sum_left, sum-right}
use Rattle.ideal.proofs.Rules.{ring}

module _ (R : CommRing) where
  open R use {Car, zero, one, add as ◌⊕◌, mul as ◌⊗◌}

  infixl 60 ◌⊕◌
  infixl 70 ◌⊗◌
  abbrev pub Scaled : Car → (Car → Type 0) → Car → Type 0
  Scaled e Y h = (y : Car) × Y y × (h ≡ e ⊗ y)

  pub scaled_ideal : (e : Car) {Y : Car → Type 0} → IsIdeal R Y → IsIdeal R (Scaled e Y)
  scaled_ideal e {Y} i = record {
    nil = (zero, i.nil, simp ring);
    sum = λ {a} {b} x y. add a b x y;
    times = λ r {a} x. times r a x;
  }
    where
      add : (a b : Car) → Scaled e Y a → Scaled e Y b → Scaled e Y (a ⊕ b)
      add a b (y, m, q) (y', m', q') = (y ⊕ y', i.sum m m', ap₂ ◌⊕◌ q q' ∙ sym (R.mul_add e y y'))

      times : (r a : Car) → Scaled e Y a → Scaled e Y (r ⊗ a)
      times r a (y, m, q) = (r ⊗ y, i.times r m, ap (λ t. r ⊗ t) q ∙ laws.mul_left_comm R r e y)

  pub multiple-ideal : (e : Car) → IsIdeal R (Multiple R e)
  multiple-ideal e = ideal-same R (λ h. (λ (q, _, p). (q, p), λ (q, p). (q, tt, p))) (scaled_ideal e (whole-ideal R))

  swap_last : (a b c : Car) → a ⊗ b ⊗ c ≡ a ⊗ c ⊗ b
  swap_last a b c = simp ring

  -- If u is in I·(u : I), then I·(u : I) = (u).
  colon_product : {I : Car → Type 0} {u : Car} → IsIdeal R I → Product R I (Colon R u I) u → SameIdeal R (Product R I (Colon R u I)) (Multiple R u)
  colon_product {I} {u} i m h = (
    product_in R (multiple-ideal u) (λ a k ia mk. ((mk a ia).0, laws.times_comm R a k ∙ (mk a ia).1)),
    λ (q, p). subst (Product R I (Colon R u I)) (laws.times_comm R q u ∙ sym p) ((product-ideal R i).times q m),
  )

  -- (e q)·(e' q') = (e e')·(q q')
  pair_up : {a b e e' q q' : Car} → a ≡ e ⊗ q → b ≡ e' ⊗ q' → a ⊗ b ≡ (e ⊗ e') ⊗ (q ⊗ q')
  pair_up {a} {b} {e} {e'} {q} {q'} p p' = ap₂ ◌⊗◌ p p' ∙ simp ring

  pub multiple-product : (e e' : Car) → SameIdeal R (Product R (Multiple R e) (Multiple R e')) (Multiple R (e ⊗ e'))
  multiple-product e e' h = (product_in R (multiple-ideal (e ⊗ e')) (λ a b (q, p) (q', p'). (q ⊗ q', pair_up p p')), back)
    where
      back : Multiple R (e ⊗ e') h → Product R (Multiple R e) (Multiple R e') h
      back (q, p) =
          subst (Product R (Multiple R e) (Multiple R e')) (sym (p ∙ R.mul_assoc e e' q)) (product_of R (one, sym (R.mul_one e)) (q, refl))

  -- (I·J)·(I'·J') = (I·I')·(J·J')
  product_cross : {I J I' J' : Car → Type 0} → IsIdeal R I → IsIdeal R J → IsIdeal R I' → IsIdeal R J'
      → SameIdeal R (Product R (Product R I J) (Product R I' J')) (Product R (Product R I I') (Product R J J'))
  product_cross {I} {J} {I'} {J'} i j i' j' =
      same_trans R (product_assoc R i j (product-ideal R i'))
      (same_trans R (product-same R (same_refl R I) middle) (same_sym R (product_assoc R i i' (product-ideal R j))))
    where
      middle : SameIdeal R (Product R J (Product R I' J')) (Product R I' (Product R J J'))
      middle =
          same_trans R (same_sym R (product_assoc R j i' j'))
          (same_trans R (product-same R (product_comm R {I = J} {J = I'}) (same_refl R J')) (product_assoc R i' j j'))

module _ {R : CommRing} (P : Poles R) where
  open R use {Car, zero, one, add as ◌⊕◌, mul as ◌⊗◌}

  infixl 60 ◌⊕◌
  infixl 70 ◌⊗◌
  module _ {I : Car → Type 0} (v : InvertibleIdeal R I) where
    inverse-multiple : {a b : Car} → I a → v.I' b → Multiple R v.e (a ⊗ b)
    inverse-multiple ia mb = (v.same _).0 (product_of R ia mb)

    -- e is a sum of products a·b, so e·h is in e·Y.
    pub invertible-member : {Y : Car → Type 0} {h : Car} → IsIdeal R Y → ((a b : Car) → I a → v.I' b → Scaled R v.e Y (a ⊗ b ⊗ h)) → Y h
    invertible-member {Y} {h} y f =
        go (product_in R (taken_ideal R h (scaled_ideal R v.e y)) f ((v.same v.e).1 (one, sym (R.mul_one v.e))))
      where
        go : Scaled R v.e Y (v.e ⊗ h) → Y h
        go (z, mz, q) = subst Y (sym (cancel P v.nonzero q)) mz

    -- I·Y times an element of I' is in e·Y.
    pub product_scaled : {Y : Car → Type 0} {b h : Car} → IsIdeal R Y → v.I' b → Product R I Y h → Scaled R v.e Y (h ⊗ b)
    product_scaled {Y} {b} y mb = product_in R (taken_ideal R b (scaled_ideal R v.e y)) (λ a z ia mz. at z mz (inverse-multiple ia mb))
      where
        at : {a : Car} (z : Car) → Y z → Multiple R v.e (a ⊗ b) → Scaled R v.e Y (a ⊗ z ⊗ b)
        at {a} z mz (q, p) = (q ⊗ z, y.times q mz, swap_last R a z b ∙ ap (λ t. t ⊗ z) p ∙ R.mul_assoc v.e q z)

    pub invertible_cancel : {X Y : Car → Type 0} → IsIdeal R Y → ((h : Car) → Product R I X h → Product R I Y h) → (h : Car) → X h → Y h
    invertible_cancel {X} {Y} y f h mh =
        invertible-member y (λ a b ia mb. subst (Scaled R v.e Y) (swap_last R a h b) (product_scaled y mb (f (a ⊗ h) (product_of R ia mh))))

    pub invertible-whole : {X : Car → Type 0} → IsIdeal R X → ((h : Car) → I h → Product R I X h) → (h : Car) → X h
    invertible-whole {X} x f h =
        invertible-member x
        (λ a b ia mb. subst (Scaled R v.e X) (laws.times_comm R h (a ⊗ b)) ((scaled_ideal R v.e x).times h (product_scaled x mb (f a ia))))

    pub invertible_colon : {u : Car} → I u → SameIdeal R (Product R I (Colon R u I)) (Multiple R u)
    invertible_colon {u} mu = colon_product R v.ideal whole
      where
        -- u·b = e·q, and q is in (u : I)
        quotient : {b q : Car} → v.I' b → u ⊗ b ≡ v.e ⊗ q → Colon R u I q
        quotient {b} {q} mb p a ia = at (inverse-multiple ia mb)
          where
            at : Multiple R v.e (a ⊗ b) → Multiple R u (q ⊗ a)
            at (m, p') =
                (m, cancel P v.nonzero (sym (R.mul_assoc v.e q a) ∙ ap (λ t. t ⊗ a) (sym p) ∙ (simp ring) ∙ ap (λ t. u ⊗ t) p' ∙ laws.mul_left_comm R u v.e m))

        whole : Product R I (Colon R u I) u
        whole = invertible-member (product-ideal R v.ideal) (λ a b ia mb. at ia mb (inverse-multiple mu mb))
          where
            at : {a b : Car} → I a → v.I' b → Multiple R v.e (u ⊗ b) → Scaled R v.e (Product R I (Colon R u I)) (a ⊗ b ⊗ u)
            at {a} {b} ia mb (q, p) = (a ⊗ q, product_of R ia (quotient mb p), (simp ring) ∙ ap (λ t. a ⊗ t) p ∙ laws.mul_left_comm R a v.e q)

  pub colon_invertible : {I : Car → Type 0} {f : Car} → IsIdeal R I → ¬ (f ≡ zero) → Product R I (Colon R f I) f → InvertibleIdeal R I
  colon_invertible {I} {f} i h m = record {
    ideal = i;
    I' = Colon R f I;
    ideal' = colon_ideal R f I;
    e = f;
    nonzero = h;
    same = colon_product R i m;
  }

  pub invertible-product : {I J : Car → Type 0} → InvertibleIdeal R I → InvertibleIdeal R J → InvertibleIdeal R (Product R I J)
  invertible-product v w = record {
    ideal = product-ideal R v.ideal;
    I' = Product R v.I' w.I';
    ideal' = product-ideal R v.ideal';
    e = v.e ⊗ w.e;
    nonzero = mul-nonzero P v.nonzero w.nonzero;
    same = same_trans R (product_cross R v.ideal w.ideal v.ideal' w.ideal') (same_trans R (product-same R v.same w.same) (multiple-product R v.e w.e));
  }

  -- a·I = b·J and J·J' = (e) give I·(a·J') = (b·e).
  pub invertible_equivalent : {I J : Car → Type 0} → Equivalent R I J → InvertibleIdeal R J → InvertibleIdeal R I
  invertible_equivalent {I} {J} q v = record {
    ideal = equivalent_ideal P q v.ideal;
    I' = Scaled R q.a v.I';
    ideal' = scaled_ideal R q.a v.ideal';
    e = q.b ⊗ v.e;
    nonzero = mul-nonzero P q.b_nonzero v.nonzero;
    same = λ h. (product_in R (multiple-ideal R (q.b ⊗ v.e)) (λ i k mi (j', mj', p). there i k mi j' mj' p (q.there i mi)), back h);
  }
    where
      moved : {i j j' : Car} → q.a ⊗ i ≡ q.b ⊗ j → i ⊗ (q.a ⊗ j') ≡ q.b ⊗ (j ⊗ j')
      moved {i} {j} {j'} p = (simp ring) ∙ ap (λ t. t ⊗ j') p ∙ R.mul_assoc q.b j j'

      there : (i k : Car) → I i → (j' : Car) → v.I' j' → k ≡ q.a ⊗ j' → (j : Car) × J j × (q.a ⊗ i ≡ q.b ⊗ j) → Multiple R (q.b ⊗ v.e) (i ⊗ k)
      there i k mi j' mj' p (j, mj, p') = at (inverse-multiple v mj mj')
        where
          at : Multiple R v.e (j ⊗ j') → Multiple R (q.b ⊗ v.e) (i ⊗ k)
          at (m, p'') = (m, ap (λ t. i ⊗ t) p ∙ moved p' ∙ ap (λ t. q.b ⊗ t) p'' ∙ sym (R.mul_assoc q.b v.e m))

      target : IsIdeal R (Product R I (Scaled R q.a v.I'))
      target = product-ideal R (equivalent_ideal P q v.ideal)

      single : (j j' : Car) → v.I' j' → (i : Car) × I i × (q.a ⊗ i ≡ q.b ⊗ j) → Product R I (Scaled R q.a v.I') (j ⊗ j' ⊗ q.b)
      single j j' mj' (i, mi, p) =
          subst (Product R I (Scaled R q.a v.I')) (moved p ∙ laws.times_comm R q.b (j ⊗ j')) (product_of R mi (j', mj', refl))

      back : (h : Car) → Multiple R (q.b ⊗ v.e) h → Product R I (Scaled R q.a v.I') h
      back h (m, p) =
          subst (Product R I (Scaled R q.a v.I')) ((simp ring) ∙ sym p)
          (target.times m (product_in R (taken_ideal R q.b target) (λ j j' mj mj'. single j j' mj' (q.back j mj)) ((v.same v.e).1 (one, sym (R.mul_one v.e)))))

  pub invertible-same : {I J : Car → Type 0} → SameIdeal R I J → InvertibleIdeal R J → InvertibleIdeal R I
  invertible-same s = invertible_equivalent (equivalent_same P s)

  -- With G = I + J, G·G' = (e): for i in I, j in J and g' in G' are j·g' = e·a and i·g' = e·b, so i·a = j·b is in both, and g·g'·(i·j) = e·(i·a)·g.
  pub invertible_parts : {I J : Car → Type 0} → IsIdeal R I → IsIdeal R J → InvertibleIdeal R (IdealSum R I J)
      → SameIdeal R (Product R (Intersection R I J) (IdealSum R I J)) (Product R I J)
  invertible_parts {I} {J} i j v h = (product_in R (product-ideal R i) split, product_in R parts joined)
    where
      split : (m s : Car) → Intersection R I J m → IdealSum R I J s → Product R I J (m ⊗ s)
      split m s (mi, mj) (a, b, ma, mb, p) =
          subst (Product R I J) (ap (λ t. t ⊕ m ⊗ b) (laws.times_comm R a m) ∙ sym (R.mul_add m a b) ∙ ap (λ t. m ⊗ t) (sym p))
          ((product-ideal R i).sum (product_of R ma mj) (product_of R mi mb))

      parts : IsIdeal R (Product R (Intersection R I J) (IdealSum R I J))
      parts = product-ideal R (intersection_ideal R i j)

      at : {x y g g' : Car} → I x → J y → IdealSum R I J g → v.I' g' → Multiple R v.e (y ⊗ g') → Multiple R v.e (x ⊗ g')
          → Scaled R v.e (Product R (Intersection R I J) (IdealSum R I J)) (g ⊗ g' ⊗ (x ⊗ y))
      at {x} {y} {g} {g'} mx my mg mg' (a, p) (b, p') = (
        x ⊗ a ⊗ g,
        product_of R (subst I (laws.times_comm R a x) (i.times a mx), subst J (laws.times_comm R b y ∙ sym same) (j.times b my)) mg,
        (simp ring) ∙ ap (λ t. x ⊗ t ⊗ g) p ∙ (simp ring),
      )
        where
          same : x ⊗ a ≡ y ⊗ b
          same =
              cancel P v.nonzero
              (laws.mul_left_comm R v.e x a ∙ ap (λ t. x ⊗ t) (sym p) ∙ laws.mul_left_comm R x y g' ∙ ap (λ t. y ⊗ t) p' ∙ laws.mul_left_comm R y v.e b)

      joined : (x y : Car) → I x → J y → Product R (Intersection R I J) (IdealSum R I J) (x ⊗ y)
      joined x y mx my =
          invertible-member v parts (λ g g' mg mg'. at mx my mg mg' (inverse-multiple v (sum-right R i my) mg') (inverse-multiple v (sum_left R j mx) mg'))
