-- Lists of records: reading from the front, and that a list is read in one way only.
--   curve_sound, divisor_sound, next_sound, list_sound    what is checked refuses nothing that it passes, and with one number only
--   joined_append, accepted_append    two runs of records one after the other
--   next-accepted      where an accepted record starts, the next stages are passed
--   front_same         bytes start with at most one accepted record
--   listed_once        a list is at most one row of accepted records
--   listed-refused     a list that is accepted is not refused
--   refused_once       a list is refused with at most one number
--   listed-short       four bytes at least for each record
use mathlib.Core.Path.{◌≡◌, refl, sym, ap, ap₂, ◌∙◌, subst}
use mathlib.Core.List.{List, [], ◌∷◌, ◌++◌, append_assoc}
use Prim.Native.Nat.{ℕ, ◌*◌, ◌<◌, ◌≤◌}
use native.Mathlib.Omega.{arith}
use lib.ListN.{length, take, drop, length-append}
use lib.Seq.{take_at, drop_at}
use Rattle.field.specs.Residue.{Z}
use Rattle.curve.specs.Curve.{Curve}
use Rattle.layout.specs.Layout.{number2}
use Rattle.layout.proofs.Read.{number2_append}
use Rattle.record.specs.Cause.{FirstCause, Passes}
use Rattle.record.specs.Curve.{curve_stages}
use Rattle.record.specs.Divisor.{divisor_stages, AcceptedDivisor}
use Rattle.record.specs.Listed.{joined, next_stages, AllAccepted, Listed, ListRefused, list_stage}
use Rattle.record.proofs.Cause.{Sound, AllSound, sound_must, passes_refuses, one-cause}

pub curve_sound : (s : List ℕ) → AllSound (curve_stages s)
curve_sound s = (sound_must _ _, (sound_must _ _, (sound_must _ _, (sound_must _ _, (sound_must _ _, (sound_must _ _, tt))))))

pub joined_append : (rs ts : List (List ℕ)) → joined (rs ++ ts) ≡ joined rs ++ joined ts
joined_append [] ts = refl
joined_append (r ∷ rs) ts = ap (λ (t : List ℕ). r ++ t) (joined_append rs ts) ∙ sym (append_assoc r (joined rs) (joined ts))

module _ (p : ℕ) (C : Curve (Z p)) where
  pub divisor_sound : (s : List ℕ) → AllSound (divisor_stages p C s)
  divisor_sound s = (sound_must _ _, (sound_must _ _, (sound_must _ _, (sound_must _ _, (sound_must _ _, tt)))))

  pub next_sound : (s : List ℕ) → AllSound (next_stages p C s)
  next_sound s = (sound_must _ _, (sound_must _ _, divisor_sound (take (number2 s 0) s)))

  pub accepted_append : (rs ts : List (List ℕ)) → AllAccepted p C rs → AllAccepted p C ts → AllAccepted p C (rs ++ ts)
  accepted_append [] ts a b = b
  accepted_append (r ∷ rs) ts a b = (a.0, accepted_append rs ts a.1 b)

  module _ (r t : List ℕ) (a : AcceptedDivisor p C r) where
    front_length : number2 (r ++ t) 0 ≡ length r
    front_length = number2_append r t 0 (omega (arith, a.0.0)) ∙ a.0.1

    front_record : take (number2 (r ++ t) 0) (r ++ t) ≡ r
    front_record = take_at r t (number2 (r ++ t) 0) (sym front_length)

    front_rest : drop (number2 (r ++ t) 0) (r ++ t) ≡ t
    front_rest = drop_at r t (number2 (r ++ t) 0) (sym front_length)

    pub next-accepted : Passes (next_stages p C (r ++ t))
    next-accepted = (
      omega (arith, length-append r t, a.0.0),
      (
        (omega (arith, front_length, a.0.0), omega (arith, front_length, length-append r t)),
        subst (λ (s : List ℕ). AcceptedDivisor p C s) (sym front_record) a,
      ),
    )

  pub front_same : (r t r' t' : List ℕ) → AcceptedDivisor p C r → AcceptedDivisor p C r' → r ++ t ≡ r' ++ t' → (r ≡ r') × (t ≡ t')
  front_same r t r' t' a a' e = (
    sym (front_record r t a) ∙ ap (λ (s : List ℕ). take (number2 s 0) s) e ∙ front_record r' t' a',
    sym (front_rest r t a) ∙ ap (λ (s : List ℕ). drop (number2 s 0) s) e ∙ front_rest r' t' a',
  )

  -- an accepted record is not empty
  some_bytes : (r t : List ℕ) → AcceptedDivisor p C r → [] ≡ r ++ t → ⊥
  some_bytes r t a e = omega (arith, ap length e, length-append r t, a.0.0)

  rows_same : (rs ts : List (List ℕ)) → AllAccepted p C rs → AllAccepted p C ts → joined rs ≡ joined ts → rs ≡ ts
  rows_same [] [] a b e = refl
  rows_same [] (t ∷ ts) a b e = absurd (some_bytes t (joined ts) b.0 e)
  rows_same (r ∷ rs) [] a b e = absurd (some_bytes r (joined rs) a.0 (sym e))
  rows_same (r ∷ rs) (t ∷ ts) a b e =
      let f = front_same r (joined rs) t (joined ts) a.0 b.0 e in
      ap₂ (λ (x : List ℕ) (xs : List (List ℕ)). x ∷ xs) f.0 (rows_same rs ts a.1 b.1 f.1)

  pub listed_once : (s : List ℕ) (rs ts : List (List ℕ)) → Listed p C s rs → Listed p C s ts → rs ≡ ts
  listed_once s rs ts a b = rows_same rs ts a.accepted b.accepted (sym a.is ∙ b.is)

  -- what is refused where an accepted record starts
  start-passes : (r t left : List ℕ) (n : ℕ) → AcceptedDivisor p C r → left ≡ r ++ t → FirstCause (next_stages p C left) n → ⊥
  start-passes r t left n a e f =
      passes_refuses (next_stages p C (r ++ t)) (next_sound (r ++ t)) (next-accepted r t a) n (subst (λ (s : List ℕ). FirstCause (next_stages p C s) n) e f)

  row-refused : (before : List (List ℕ)) (left : List ℕ) (rs : List (List ℕ)) (n : ℕ) → AllAccepted p C before → AllAccepted p C rs
      → 0 < length left → joined before ++ left ≡ joined rs → FirstCause (next_stages p C left) n → ⊥
  row-refused [] left [] n a b l e f = omega (arith, ap length e)
  row-refused [] left (r ∷ rs) n a b l e f = start-passes r (joined rs) left n b.0 e f
  row-refused (q ∷ qs) left [] n a b l e f = some_bytes q (joined qs ++ left) a.0 (sym (sym (append_assoc q (joined qs) left) ∙ e))
  row-refused (q ∷ qs) left (r ∷ rs) n a b l e f =
      row-refused qs left rs n a.1 b.1 l (front_same q (joined qs ++ left) r (joined rs) a.0 b.0 (sym (append_assoc q (joined qs) left) ∙ e)).1 f

  pub listed-refused : (s : List ℕ) (rs : List (List ℕ)) (n : ℕ) → Listed p C s rs → ListRefused p C s n → ⊥
  listed-refused s rs n a f = row-refused f.before f.left rs n f.accepted a.accepted f.some_left (sym f.split ∙ a.is) f.cause

  rows-cause : (bs : List (List ℕ)) (l : List ℕ) (cs : List (List ℕ)) (k : List ℕ) (m n : ℕ) → AllAccepted p C bs → AllAccepted p C cs
      → joined bs ++ l ≡ joined cs ++ k → FirstCause (next_stages p C l) m → FirstCause (next_stages p C k) n → m ≡ n
  rows-cause [] l [] k m n a b e f g =
      one-cause (next_stages p C k) (next_sound k) m n (subst (λ (s : List ℕ). FirstCause (next_stages p C s) m) e f) g
  rows-cause [] l (c ∷ cs) k m n a b e f g = absurd (start-passes c (joined cs ++ k) l m b.0 (e ∙ append_assoc c (joined cs) k) f)
  rows-cause (q ∷ bs) l [] k m n a b e f g =
      absurd (start-passes q (joined bs ++ l) k n a.0 (sym e ∙ append_assoc q (joined bs) l) g)
  rows-cause (q ∷ bs) l (c ∷ cs) k m n a b e f g =
      rows-cause bs l cs k m n a.1 b.1 (front_same q (joined bs ++ l) c (joined cs ++ k) a.0 b.0 (sym (append_assoc q (joined bs) l) ∙ e ∙ append_assoc c (joined cs) k)).1 f g

  pub refused_once : (s : List ℕ) (m n : ℕ) → ListRefused p C s m → ListRefused p C s n → m ≡ n
  refused_once s m n f g =
      rows-cause f.before f.left g.before g.left m n f.accepted g.accepted (sym f.split ∙ g.split) f.cause g.cause

  pub list_sound : (s : List ℕ) → Sound (list_stage p C s)
  list_sound s = record { exclusive = λ n f a. listed-refused s a.0 n a.1 f; single = refused_once s }

  row-short : (rs : List (List ℕ)) → AllAccepted p C rs → 4 * length rs ≤ length (joined rs)
  row-short [] a = omega arith
  row-short (r ∷ rs) a = omega (arith, length-append r (joined rs), a.0.0.0, row-short rs a.1)

  pub listed-short : (s : List ℕ) (rs : List (List ℕ)) → Listed p C s rs → 4 * length rs ≤ length s
  listed-short s rs a = omega (arith, row-short rs a.accepted, ap length a.is)
