-- A list of calls on a pool in lent memory.
--   pool_of-more, made_more, call_numbers-more    one call more
--   accepted-after         the records that calls leave are accepted
--   Next n l cs            the first call of a list of valid calls
--   valid-next             there is one, if the list is not empty
--   take_three             three numbers more
--   Going c s₀ n cs l s left at    the calls below place `at` of cs are made on the n records of s₀, and s holds the records left
--   going_none, going_three, going_small, going_asked, going_more, going_all    the loop over the calls
use mathlib.Core.Path.{◌≡◌, refl, sym, ap, ◌∙◌, subst}
use mathlib.Core.List.{List, [], ◌∷◌, ◌++◌, append_assoc}
use Prim.Native.Nat.{ℕ, suc, ◌+◌, ◌<◌, ◌≤◌}
use native.Mathlib.Omega.{arith}
use lib.ListN.{length, get_or, take, drop, length-drop}
use lib.Seq.{take-suc, take_all, get_or-drop, drop-drop}
use Rattle.record.specs.Curve.{AcceptedCurve}
use Rattle.calls.specs.Pool.{PoolCall, pool_after, pool_of, groups_of, alone, IsCall, Made}
use Rattle.calls.proofs.Together.{together-entry}
use Rattle.calls.proofs.Step.{Good}
use Rattle.calls.proofs.Pairs.{parts_bytes, start, run, adding_by_pairs}
use Rattle.layout.specs.Layout.{Bytes}
use Rattle.slots.specs.Held.{Held}
use Rattle.pool.specs.Run.{Accepted, StepAsked, CallMade, StepMade, left_of, Valid, Holding, RunAsked, call_numbers, Ran, RunMade}

module _ (k : PoolCall) where
  pub pool_of-more : (ks : List PoolCall) (p : List (List ℕ)) → pool_of (ks ++ k ∷ []) p ≡ pool_after k (pool_of ks p)
  pool_of-more [] p = refl
  pool_of-more (h ∷ ks) p = pool_of-more ks (pool_after h p)

  pub made_more : (c : List ℕ) (ks : List PoolCall) (p : List (List ℕ)) → Made c p ks → IsCall c (pool_of ks p) k → Made c p (ks ++ k ∷ [])
  made_more c [] p m i = (i, tt)
  made_more c (h ∷ ks) p m i = (m.0, made_more c ks (pool_after h p) m.1 i)

  pub call_numbers-more : (ks : List PoolCall) → call_numbers (ks ++ k ∷ []) ≡ call_numbers ks ++ (k.i ∷ k.j ∷ length k.before ∷ [])
  call_numbers-more [] = refl
  call_numbers-more (h ∷ ks) = ap (λ (t : List ℕ). h.i ∷ h.j ∷ length h.before ∷ t) (call_numbers-more ks)

pub accepted-after : (c : List ℕ) (A : AcceptedCurve c) (s : List ℕ) (n : ℕ) (t : List ℕ) (rs : List (List ℕ)) → Holding c s n t rs
    → (ks : List PoolCall) → Made c rs ks → Accepted c (pool_of ks rs)
accepted-after c A s n t rs g ks made m l =
    (together-entry (Good c rs) (groups_of ks (alone (length rs))) (pool_of ks rs)
    (run c A rs ks (alone (length rs)) rs (start c A rs (parts_bytes rs (subst Bytes g.listed.is g.bytes)) g.listed.accepted) made).kept.together
    m l).accepted

pub record Next (n l : ℕ) (cs : List ℕ) : Type 0 where
  pub three : 3 ≤ length cs
  pub i_below : get_or cs 0 0 < n
  pub j_below : get_or cs 1 0 < n
  pub apart : ¬ (get_or cs 0 0 ≡ get_or cs 1 0)
  pub small : get_or cs 2 0 ≤ l
  pub rest : Valid (left_of n (get_or cs 2 0)) l (drop 3 cs)

pub valid-next : (n l : ℕ) (cs : List ℕ) → Valid n l cs → 0 < length cs → Next n l cs
valid-next n l [] v h = absurd (omega arith)
valid-next n l (i ∷ []) v h = absurd v
valid-next n l (i ∷ j ∷ []) v h = absurd v
valid-next n l (i ∷ j ∷ b ∷ cs) v h = record {
  three = omega arith;
  i_below = v.0;
  j_below = v.1;
  apart = v.2;
  small = v.3;
  rest = v.4;
}

pub take_three : (cs : List ℕ) (at : ℕ) → at + 3 ≤ length cs
    → take (at + 3) cs ≡ take at cs ++ (get_or cs at 0 ∷ get_or cs (at + 1) 0 ∷ get_or cs (at + 2) 0 ∷ [])
take_three cs at h =
    one (at + 2) (at + 3) (omega arith) (omega arith)
    ∙ ap (λ (t : List ℕ). t ++ get_or cs (at + 2) 0 ∷ []) (one (at + 1) (at + 2) (omega arith) (omega arith))
    ∙ ap (λ (t : List ℕ). (t ++ get_or cs (at + 1) 0 ∷ []) ++ get_or cs (at + 2) 0 ∷ []) (one at (at + 1) (omega arith) (omega arith))
    ∙ simp append_assoc
  where
    one : (k m : ℕ) → m ≡ suc k → k < length cs → take m cs ≡ take k cs ++ get_or cs k 0 ∷ []
    one k m e l = ap (λ (n : ℕ). take n cs) e ∙ take-suc cs k 0 l

ran-more : (c : List ℕ) (rs : List (List ℕ)) (cs s : List ℕ) (r : ℕ) (i j : ℕ) (out s' : List ℕ) (r' : ℕ) → (h : Ran c rs cs s r)
    → CallMade c (pool_of h.calls rs) i j out s' r' → Ran c rs (cs ++ (i ∷ j ∷ length out ∷ [])) s' r'
ran-more c rs cs s r i j out s' r' h m = record {
  calls = h.calls ++ m.call ∷ [];
  named = call_numbers-more m.call h.calls ∙ ap (λ (t : List ℕ). t ++ names m.call) h.named ∙ ap (λ (t : List ℕ). cs ++ t) same;
  made = made_more m.call c h.calls rs h.made m.made;
  held = subst (Held s') (sym (pool_of-more m.call h.calls rs)) m.held;
  left = ap length (pool_of-more m.call h.calls rs) ∙ m.left;
}
  where
    names : PoolCall → List ℕ
    names k = k.i ∷ k.j ∷ length k.before ∷ []

    same : m.call.i ∷ m.call.j ∷ length m.call.before ∷ [] ≡ i ∷ j ∷ length out ∷ []
    same =
        ap (λ (x : ℕ). x ∷ m.call.j ∷ length m.call.before ∷ []) m.i_is
        ∙ ap (λ (x : ℕ). i ∷ x ∷ length m.call.before ∷ []) m.j_is
        ∙ ap (λ (x : List ℕ). i ∷ j ∷ length x ∷ []) m.buffer

pub record Going (c s₀ : List ℕ) (n : ℕ) (cs : List ℕ) (l : ℕ) (s : List ℕ) (left at : ℕ) : Type 0 where
  pub within : at ≤ length cs
  pub valid : Valid left l (drop at cs)
  pub ran : (t : List ℕ) (rs : List (List ℕ)) → Holding c s₀ n t rs → Ran c rs (take at cs) s left

module _ (c s₀ : List ℕ) (n : ℕ) (cs : List ℕ) (l : ℕ) (asked : RunAsked c s₀ n cs l) where
  pub going_none : Going c s₀ n cs l s₀ n 0
  going_none = record {
    within = omega arith;
    valid = asked.valid;
    ran = λ t rs g. record { calls = []; named = refl; made = tt; held = g.held; left = g.count };
  }

  pub going_all : (s : List ℕ) (left at : ℕ) → length cs ≤ at → Going c s₀ n cs l s left at → RunMade c s₀ n cs s left
  going_all s left at e h t rs g =
      let r : Ran c rs cs s left = subst (λ (ds : List ℕ). Ran c rs ds s left) (take_all at cs e) (h.ran t rs g) in
      (r, adding_by_pairs c t rs asked.curve g.bytes g.few g.listed r.calls r.made)

  module _ (s : List ℕ) (left at : ℕ) (h : Going c s₀ n cs l s left at) (below : at < length cs) where
    here : Next left l (drop at cs)
    here = valid-next left l (drop at cs) h.valid (omega (arith, length-drop at cs))

    first : get_or (drop at cs) 0 0 ≡ get_or cs at 0
    first = get_or-drop at cs 0 0 ∙ ap (λ (k : ℕ). get_or cs k 0) (omega arith)

    pub going_three : at + 3 ≤ length cs
    going_three = omega (arith, here.three, length-drop at cs)

    pub going_small : get_or cs (at + 2) 0 ≤ l
    going_small = omega (arith, here.small, get_or-drop at cs 2 0)

    pub going_asked : StepAsked c s left (get_or cs at 0) (get_or cs (at + 1) 0)
    going_asked = go (h.ran asked.list asked.records asked.given)
      where
        go : Ran c asked.records (take at cs) s left → StepAsked c s left (get_or cs at 0) (get_or cs (at + 1) 0)
        go r = record {
          curve = asked.curve;
          pool = pool_of r.calls asked.records;
          held = r.held;
          accepted = accepted-after c asked.curve s₀ n asked.list asked.records asked.given r.calls r.made;
          count = r.left;
          i_below = omega (arith, here.i_below, first);
          j_below = omega (arith, here.j_below, get_or-drop at cs 1 0);
          apart = λ e. here.apart (first ∙ e ∙ sym (get_or-drop at cs 1 0));
        }

    pub going_more : (out s' : List ℕ) (r : ℕ) → length out ≡ get_or cs (at + 2) 0 → StepMade c s left (get_or cs at 0) (get_or cs (at + 1) 0) out s' r
        → Going c s₀ n cs l s' r (at + 3)
    going_more out s' r e m = record {
      within = going_three;
      valid =
          subst (λ (k : ℕ). Valid k l (drop (at + 3) cs))
          (sym (m.left ∙ ap (left_of left) (e ∙ sym (get_or-drop at cs 2 0))))
          (subst (Valid (left_of left (get_or (drop at cs) 2 0)) l) (drop-drop 3 at cs) here.rest);
      ran = ran;
    }
      where
        ran : (t : List ℕ) (rs : List (List ℕ)) → Holding c s₀ n t rs → Ran c rs (take (at + 3) cs) s' r
        ran t rs g =
            let b : Ran c rs (take at cs) s left = h.ran t rs g in
            subst (λ (ds : List ℕ). Ran c rs ds s' r)
            (ap (λ (k : ℕ). take at cs ++ (get_or cs at 0 ∷ get_or cs (at + 1) 0 ∷ k ∷ [])) e ∙ sym (take_three cs at going_three))
            (ran-more c rs (take at cs) s left (get_or cs at 0) (get_or cs (at + 1) 0) out s' r b
            (m.made (pool_of b.calls rs) b.left b.held (accepted-after c asked.curve s₀ n t rs g b.calls b.made)))
