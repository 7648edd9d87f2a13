-- One sum call and a list of them on a pool in lent memory.
--   InSlot s m             slot m has a length field, and the bytes that it gives
--   Accepted c p           the records p are accepted on the curve c
--   StepAsked c s n i j    s holds n accepted records, and i and j are two places of them
--   CallMade c p i j out s' r   a sum call of the records i and j of p with the buffer out is made, and s' holds the r records that it leaves
--   StepMade c s n i j out s' r  … for all records p that s holds; r follows from the numbers alone
--   left_of n b            how many of n records are left by a call with a buffer of b bytes
--   Valid n l cs           cs are calls on n records, three numbers each: two different places of the pool as it then is, and the length of a
--                          buffer, at most l
--   Holding c s n t rs       s holds the n records rs of the accepted list t
--   RunAsked c s n cs l    … of some list, and cs are calls on them
--   call_numbers ks        the three numbers of each call
--   Ran c rs cs s' r       the calls cs are made on rs, and s' holds the r records that they leave
--   RunMade c s n cs s' r  … for the records that s holds, with what document 01 claims of the calls
use Rattle.std.specs.Prelude.{◌≡◌, List, [], ◌∷◌, ℕ, ◌+◌, ◌-◌, ◌<◌, ◌≤◌, length, leb}
use Rattle.layout.specs.Layout.{Bytes, number2}
use Rattle.record.specs.Curve.{modulus, equation, AcceptedCurve}
use Rattle.record.specs.Listed.{Listed, list_limit}
use Rattle.calls.specs.Class.{Record}
use Rattle.calls.specs.Call.{room}
use Rattle.curve.specs.Sequence.{pick}
use Rattle.calls.specs.Pool.{PoolCall, entry, pool_after, pool_of, IsCall, Made, PoolEnd}
use Rattle.slots.specs.Held.{slot, Held}

pub record InSlot (s : List ℕ) (m : ℕ) : Type 0 where
  pub head : slot m + 2 ≤ length s
  pub whole : slot m + number2 s (slot m) ≤ length s

abbrev pub Accepted : List ℕ → List (List ℕ) → Type 0
Accepted c p = (m : ℕ) → m < length p → Record c (entry p m)

pub record StepAsked (c s : List ℕ) (n i j : ℕ) : Type 0 where
  pub curve : AcceptedCurve c
  pub pool : List (List ℕ)
  pub held : Held s pool
  pub accepted : Accepted c pool
  pub count : length pool ≡ n
  pub i_below : i < n
  pub j_below : j < n
  pub apart : ¬ (i ≡ j)

pub record CallMade (c : List ℕ) (p : List (List ℕ)) (i j : ℕ) (out s' : List ℕ) (r : ℕ) : Type 0 where
  pub call : PoolCall
  pub i_is : call.i ≡ i
  pub j_is : call.j ≡ j
  pub buffer : call.before ≡ out
  pub made : IsCall c p call
  pub held : Held s' (pool_after call p)
  pub left : length (pool_after call p) ≡ r

abbrev pub left_of : ℕ → ℕ → ℕ
left_of n b = pick (leb room b) (n - 1) n

pub record StepMade (c s : List ℕ) (n i j : ℕ) (out s' : List ℕ) (r : ℕ) : Type 0 where
  pub left : r ≡ left_of n (length out)
  pub made : (p : List (List ℕ)) → length p ≡ n → Held s p → Accepted c p → CallMade c p i j out s' r

abbrev pub Valid : ℕ → ℕ → List ℕ → Type 0
Valid n l [] = Unit
Valid n l (i ∷ []) = ⊥
Valid n l (i ∷ j ∷ []) = ⊥
Valid n l (i ∷ j ∷ b ∷ cs) = (i < n) × (j < n) × (¬ (i ≡ j)) × (b ≤ l) × Valid (left_of n b) l cs

pub record Holding (c s : List ℕ) (n : ℕ) (t : List ℕ) (rs : List (List ℕ)) : Type 0 where
  pub bytes : Bytes t
  pub few : length t ≤ list_limit
  pub listed : Listed (modulus c) (equation c) t rs
  pub count : length rs ≡ n
  pub held : Held s rs

pub record RunAsked (c s : List ℕ) (n : ℕ) (cs : List ℕ) (l : ℕ) : Type 0 where
  pub curve : AcceptedCurve c
  pub list : List ℕ
  pub records : List (List ℕ)
  pub given : Holding c s n list records
  pub valid : Valid n l cs

abbrev pub call_numbers : List PoolCall → List ℕ
call_numbers [] = []
call_numbers (k ∷ ks) = k.i ∷ k.j ∷ length k.before ∷ call_numbers ks

pub record Ran (c : List ℕ) (rs : List (List ℕ)) (cs s' : List ℕ) (r : ℕ) : Type 0 where
  pub calls : List PoolCall
  pub named : call_numbers calls ≡ cs
  pub made : Made c rs calls
  pub held : Held s' (pool_of calls rs)
  pub left : length (pool_of calls rs) ≡ r

-- Left open: after the calls the bytes of a slot behind its record, and the slots from the count r on, may hold anything. The length of the
-- memory stays, as that of every lent slice does.
abbrev pub RunMade : (c s : List ℕ) (n : ℕ) (cs s' : List ℕ) (r : ℕ) → Type 0
RunMade c s n cs s' r = (t : List ℕ) (rs : List (List ℕ)) → Holding c s n t rs → (h : Ran c rs cs s' r) × PoolEnd c rs h.calls
