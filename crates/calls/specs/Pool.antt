-- Document 01, "Adding by pairs": a pool of records in places numbered from 0, each with a group that says what went into it, and a list
-- of sum calls on it.
--   PoolCall             a call: two places, the result buffer before and after, what was returned
--   entry p i            what stands at place i
--   without i j p        p without the places i and j, the rest closed up (without_from: from a place on)
--   amount r             the length that a call returned
--   written_by k         the bytes that the call wrote
--   pool_after k p       the pool that the call leaves; it stays where the buffer is under 40 bytes
--   groups_after k g     the groups; they follow from the places and the buffer's length alone
--   pool_of, groups_of   … after a list of calls
--   IsCall c p k         the call is a sum call on the curve c with the records at two different places of the pool p
--   Made c p ks          the calls ks are made one after the other, each on the pool that the one before it left
--   alone n              the groups at the start: the group of the record at place i is i alone (alone_from: from a place on)
--   served ks            how many calls have a buffer of 40 bytes or more
--   CallAnswer k         what a call returns and leaves, by its buffer's length; CallAnswers ks: each of the calls
--   ListAnswer           what the single list call over the given records writes
--   PoolEnd c rs ks      what document 01 claims of the calls ks on the pool of the given records rs
use Rattle.std.specs.Prelude.{◌≡◌, List, [], ◌∷◌, ◌++◌, Bool, true, false, ℕ, zero, suc, ◌+◌, ◌<◌, ◌≤◌, length, get_or, take, ℤ, pos, negsuc, eqb, leb}
use Rattle.ideal.specs.Ideal.{ProductOf}
use Rattle.curve.specs.Sequence.{pick}
use Rattle.record.specs.Curve.{AcceptedCurve}
use Rattle.record.specs.Listed.{joined}
use Rattle.calls.specs.Answer.{minus, Gives}
use Rattle.calls.specs.Class.{Ring, Ideal, ReducedOf, zero_record}
use Rattle.calls.specs.Call.{Sum, ListSum, one_if, room}

pub record PoolCall : Type 0 where
  pub i : ℕ
  pub j : ℕ
  pub before : List ℕ
  pub returned : ℤ
  pub after : List ℕ

abbrev pub entry : List (List ℕ) → ℕ → List ℕ
entry p i = get_or p i []

-- xs, whose first entry has the place n, without the entries at the places i and j
abbrev pub without_from : {A : Type 0} → ℕ → ℕ → ℕ → List A → List A
without_from n i j [] = []
without_from n i j (x ∷ xs) =
    pick (eqb n i) (without_from (suc n) i j xs)
    (pick (eqb n j) (without_from (suc n) i j xs) (x ∷ without_from (suc n) i j xs))

abbrev pub without : {A : Type 0} → ℕ → ℕ → List A → List A
without i j xs = without_from 0 i j xs

abbrev pub amount : ℤ → ℕ
amount (pos n) = n
amount (negsuc n) = 0

abbrev pub written_by : PoolCall → List ℕ
written_by k = take (amount k.returned) k.after

-- "Buffer under 40 bytes: … Buffer, pool and groups stay. Otherwise: … Its two records leave the pool, the rest close up, and the bytes
-- written come in at the end. The new record's group is the two groups together."
abbrev pub pool_after : PoolCall → List (List ℕ) → List (List ℕ)
pool_after k p = pick (leb room (length k.before)) (without k.i k.j p ++ written_by k ∷ []) p

abbrev pub groups_after : PoolCall → List (List ℕ) → List (List ℕ)
groups_after k g =
    pick (leb room (length k.before)) (without k.i k.j g ++ (entry g k.i ++ entry g k.j) ∷ []) g

abbrev pub pool_of : List PoolCall → List (List ℕ) → List (List ℕ)
pool_of [] p = p
pool_of (k ∷ ks) p = pool_of ks (pool_after k p)

abbrev pub groups_of : List PoolCall → List (List ℕ) → List (List ℕ)
groups_of [] g = g
groups_of (k ∷ ks) g = groups_of ks (groups_after k g)

pub record IsCall (c : List ℕ) (p : List (List ℕ)) (k : PoolCall) : Type 0 where
  pub i_below : k.i < length p
  pub j_below : k.j < length p
  pub apart : ¬ (k.i ≡ k.j)
  pub sum : Sum c (entry p k.i) (entry p k.j) k.before k.returned k.after

abbrev pub Made : List ℕ → List (List ℕ) → List PoolCall → Type 0
Made c p [] = Unit
Made c p (k ∷ ks) = IsCall c p k × Made c (pool_after k p) ks

-- n, n + 1, …, each alone in a list, m of them
abbrev pub alone_from : ℕ → ℕ → List (List ℕ)
alone_from n zero = []
alone_from n (suc m) = (n ∷ []) ∷ alone_from (suc n) m

abbrev pub alone : ℕ → List (List ℕ)
alone m = alone_from 0 m

abbrev pub served : List PoolCall → ℕ
served [] = 0
served (k ∷ ks) = one_if (leb room (length k.before)) + served ks

-- "a call is refused exactly when its buffer is under 40 bytes, and then leaves the pool as it was; else … the one that it wrote comes in"
pub record CallAnswer (k : PoolCall) : Type 0 where
  pub short : length k.before < room → (k.returned ≡ minus 10) × (k.after ≡ k.before)
  pub enough : room ≤ length k.before → Gives (written_by k) k.before k.returned k.after

abbrev pub CallAnswers : List PoolCall → Type 0
CallAnswers [] = Unit
CallAnswers (k ∷ ks) = CallAnswer k × CallAnswers ks

-- "A single list call over the given records, with a buffer of 40 bytes or more, writes the record of the reduced ideal of the product of
-- all their ideals: byte for byte the pool's record where only one is left, the zero record where none was given." p' is the pool.
pub record ListAnswer (c : List ℕ) (rs p' : List (List ℕ)) (out : List ℕ) (r : ℤ) (out' : List ℕ) : Type 0 where
  pub sum : List ℕ
  pub given : Gives sum out r out'
  pub all : ReducedOf c (ProductOf (Ring c) (Ideal c) rs) sum
  pub one_left : (w : List ℕ) → p' ≡ w ∷ [] → sum ≡ w
  pub none_given : rs ≡ [] → sum ≡ zero_record

pub record PoolEnd (c : List ℕ) (rs : List (List ℕ)) (ks : List PoolCall) : Type 0 where
  pub curve : AcceptedCurve c
  pub answers : CallAnswers ks
  -- "each record in the pool is byte for byte the record of the reduced ideal of the product of the ideals of the given records whose
  -- places at the start are in its group"
  pub each : (m : ℕ) → m < length (pool_of ks rs)
      → ReducedOf c (ProductOf (Ring c) (λ i. Ideal c (entry rs i)) (entry (groups_of ks (alone (length rs))) m)) (entry (pool_of ks rs) m)
  pub groups : length (groups_of ks (alone (length rs))) ≡ length (pool_of ks rs)
  -- "The pool then holds as many records as were given, less one for each call that wasn't refused."
  pub left : length (pool_of ks rs) + served ks ≡ length rs
  pub list_call : (out : List ℕ) (r : ℤ) (out' : List ℕ) → room ≤ length out → ListSum c (joined rs) out r out'
      → ListAnswer c rs (pool_of ks rs) out r out'
