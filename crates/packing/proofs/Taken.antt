-- Numbers of w bits taken up one after the other, and written four bytes at a time.
--   Taken d at ns w out i done held bits    the first i numbers are taken up: `done` bytes of them are written, and `held` has the `bits` bits behind them
--   number_fits     the numbers have 32 bits
--   taken_none      before the first number
--   placed held n bits, placed_is     n placed above the `bits` bits that are held; for the next number these are the bits behind those that are written
--   taken_held      one number more, and nothing is written
--   taken_written   one number more, and four bytes are written; taken_room: there is room for them
--   taken_all       all numbers are taken up, and the bytes that were not yet written are; left_room: there is room for them
use mathlib.Core.Path.{◌≡◌, refl, sym, ap, ◌∙◌, subst}
use mathlib.Core.List.{List, [], ◌∷◌, ◌++◌}
use Prim.Native.Nat.{ℕ, zero, suc, ◌+◌, ◌*◌, ◌/◌, ◌%◌, ◌^◌, ◌<◌, ◌≤◌, suc-le-suc}
use native.Mathlib.Nat.{lt_of_lt_of_le, zero-lt-suc, add_comm, mul-le-mul_left, mul_assoc, add-mul-div_right}
use native.Mathlib.Numerals.{add-one}
use native.Mathlib.Omega.{arith}
use lib.ListN.{length, get_or, take, drop}
use lib.Seq.{length-take-le, take-length}
use lib.Pow.{pow_pos, pow_mono, pow-add, shr_lt, shr-shr, shl_exact}
use lib.Bits.{bit_and, bit_or, or_shifted_r, and_mask}
use Rattle.std.specs.Int.{div_ceil}
use Rattle.layout.specs.Layout.{bytes4}
use Rattle.packing.specs.Packing.{packed, unpacked, filled}
use Rattle.packing.specs.Contract.{laid, PackAsked}
use Rattle.packing.proofs.Laws.{packed-below, packed_take}
use Rattle.packing.proofs.Laid.{laid_none, laid_more, laid-low, bytes4-unpacked}

pub record Taken (d : List ℕ) (at : ℕ) (ns : List ℕ) (w : ℕ) (out : List ℕ) (i done held bits : ℕ) : Type 0 where
  pub upto : i ≤ length ns
  pub bytes : out ≡ laid d at done (packed w (take i ns))
  pub long : length out ≡ length d
  pub rest : held ≡ packed w (take i ns) / 2 ^ (8 * done)
  pub places : 8 * done + bits ≡ w * i
  pub short : bits < 32

abbrev pub placed : (held n bits : ℕ) → ℕ
placed held n bits = bit_or held (n * 2 ^ bits % 2 ^ 64)

below_take : (b : ℕ) → 0 < b → (i : ℕ) (ns : List ℕ) → ((j : ℕ) → j < i → get_or ns j 0 < b) → (j : ℕ) → get_or (take i ns) j 0 < b
below_take b p zero ns h j = p
below_take b p (suc i) [] h j = p
below_take b p (suc i) (n ∷ ns) h zero = h 0 (zero-lt-suc i)
below_take b p (suc i) (n ∷ ns) h (suc j) = below_take b p i ns (λ k l. h (suc k) (suc-le-suc l)) j

module _ (d : List ℕ) (at : ℕ) (ns : List ℕ) (w : ℕ) (A : PackAsked d at ns w) where
  pub number_fits : (i : ℕ) → i < length ns → get_or ns i 0 < 4294967296
  number_fits i h = lt_of_lt_of_le (A.below i h) (pow_mono A.width)

  pub taken_none : Taken d at ns w d 0 0 0 0
  unfolding packed
  taken_none =
      record {
        upto = omega arith;
        bytes = laid_none d at 0;
        long = refl;
        rest = refl;
        places = omega arith;
        short = omega arith;
      }

  module _ (out : List ℕ) (i done held bits : ℕ) (t : Taken d at ns w out i done held bits) where
    held_below : held < 2 ^ bits
    held_below =
        let all : packed w (take i ns) < 2 ^ (w * length (take i ns)) =
        packed-below w (take i ns) (below_take (2 ^ w) (pow_pos w) i ns (λ j l. A.below j (omega (arith, t.upto)))) in
        let long : length (take i ns) ≡ i = length-take-le i ns (omega (arith, t.upto)) in
        let same : w * length (take i ns) ≡ bits + 8 * done = ap (λ (k : ℕ). w * k) long ∙ sym t.places ∙ add_comm (8 * done) bits in
        subst (λ (k : ℕ). k < 2 ^ bits) (sym t.rest) (shr_lt bits (8 * done) (subst (λ (k : ℕ). packed w (take i ns) < 2 ^ k) same all))

    module _ (more : i < length ns) where
      one_more : packed w (take (i + 1) ns) ≡ packed w (take i ns) + get_or ns i 0 * 2 ^ bits * 2 ^ (8 * done)
      one_more =
          let power : 2 ^ (w * i) ≡ 2 ^ bits * 2 ^ (8 * done) =
          ap (λ (k : ℕ). 2 ^ k) (sym t.places ∙ add_comm (8 * done) bits) ∙ pow-add 2 bits (8 * done) in
          ap (λ (k : ℕ). packed w (take k ns)) (add-one i)
          ∙ packed_take w i ns (omega (arith))
          ∙ ap (λ (k : ℕ). packed w (take i ns) + k) (ap (λ (k : ℕ). get_or ns i 0 * k) power ∙ sym (mul_assoc (get_or ns i 0) (2 ^ bits) (2 ^ (8 * done))))

      placed_is : placed held (get_or ns i 0) bits ≡ packed w (take (i + 1) ns) / 2 ^ (8 * done)
      placed_is =
          ap (bit_or held) (shl_exact w bits 64 (A.below i more) (omega (arith, A.width, t.short)))
          ∙ or_shifted_r (get_or ns i 0) bits held held_below
          ∙ add_comm (get_or ns i 0 * 2 ^ bits) held
          ∙ ap (λ (k : ℕ). k + get_or ns i 0 * 2 ^ bits) t.rest
          ∙ sym (add-mul-div_right (packed w (take i ns)) (get_or ns i 0 * 2 ^ bits) (pow_pos (8 * done)))
          ∙ ap (λ (k : ℕ). k / 2 ^ (8 * done)) (sym one_more)

      same_bytes : out ≡ laid d at done (packed w (take (i + 1) ns))
      same_bytes =
          t.bytes
          ∙ sym (laid-low d at done (packed w (take i ns)) (get_or ns i 0 * 2 ^ bits))
          ∙ ap (laid d at done) (sym one_more)

      module _ (n : ℕ) (this : n ≡ get_or ns i 0) where
        pub taken_held : (out' : List ℕ) (done' held' bits' : ℕ) → out' ≡ out → done' ≡ done → held' ≡ placed held n bits → bits' ≡ bits + w → bits + w < 32
            → Taken d at ns w out' (i + 1) done' held' bits'
        taken_held out' done' held' bits' eo ed eh eb h =
            let all : ℕ = packed w (take (i + 1) ns) in
            record {
              upto = omega arith;
              bytes = eo ∙ same_bytes ∙ ap (λ (k : ℕ). laid d at k all) (sym ed);
              long = ap length eo ∙ t.long;
              rest = eh ∙ ap (λ (m : ℕ). placed held m bits) this ∙ placed_is ∙ ap (λ (k : ℕ). all / 2 ^ (8 * k)) (sym ed);
              places = omega (arith, t.places);
              short = omega arith;
            }

        module _ (full : 32 ≤ bits + w) where
          within : 8 * (done + 4) ≤ w * length ns
          within = omega (arith, t.places, mul-le-mul_left {m = i + 1} {n = length ns} w (omega arith))

          pub taken_room : at + done + 4 ≤ length out
          taken_room = omega (arith, within, A.room, t.long)

          pub taken_written : (out' : List ℕ) (done' held' bits' : ℕ) → done' ≡ done + 4 → held' ≡ placed held n bits / 4294967296 → bits' + 32 ≡ bits + w
              → out' ≡ take (at + done) out ++ bytes4 (bit_and (placed held n bits) 4294967295) ++ drop (at + done + 4) out → length out' ≡ length out
              → Taken d at ns w out' (i + 1) done' held' bits'
          taken_written out' done' held' bits' ed eh eb e l =
              let next : ℕ = placed held n bits in
              let all : ℕ = packed w (take (i + 1) ns) in
              let is : next ≡ all / 2 ^ (8 * done) = ap (λ (m : ℕ). placed held m bits) this ∙ placed_is in
              record {
                upto = omega arith;
                bytes =
                    e
                    ∙ ap (λ (r : List ℕ). take (at + done) r ++ bytes4 (bit_and next 4294967295) ++ drop (at + done + 4) r) same_bytes
                    ∙ laid_more d (bytes4 (bit_and next 4294967295)) at done 4 all (omega (arith, taken_room, t.long))
                    (ap bytes4 (and_mask next 32) ∙ bytes4-unpacked next ∙ ap (unpacked 8 4) is)
                    ∙ ap (λ (k : ℕ). laid d at k all) (sym ed);
                long = l ∙ t.long;
                rest =
                    eh
                    ∙ ap (λ (k : ℕ). k / 4294967296) is
                    ∙ shr-shr all (8 * done) 32
                    ∙ ap (λ (k : ℕ). all / 2 ^ k) (omega arith);
                places = omega (arith, t.places);
                short = omega (arith, t.short, A.width);
              }

    left_bytes : i ≡ length ns → done + (bits + 7) / 8 ≡ filled w (length ns)
    left_bytes all = omega (arith, t.places, ap (λ (k : ℕ). w * k) all)

    pub left_room : i ≡ length ns → at + done + (bits + 7) / 8 ≤ length out
    left_room all = omega (arith, left_bytes all, A.room, t.long)

    pub taken_all : (out' : List ℕ) (left : ℕ) → i ≡ length ns → left ≡ div_ceil bits 8 → out' ≡ laid out (at + done) left held
        → out' ≡ laid d at (filled w (length ns)) (packed w ns)
    taken_all out' left all el e =
        let whole : take i ns ≡ ns = ap (λ (k : ℕ). take k ns) all ∙ take-length ns in
        let bs : List ℕ = unpacked 8 left held in
        let b : bs ≡ unpacked 8 left (packed w ns / 2 ^ (8 * done)) =
        ap (unpacked 8 left) (t.rest ∙ ap (λ (ms : List ℕ). packed w ms / 2 ^ (8 * done)) whole) in
        e
        ∙ ap (λ (s : List ℕ). take (at + done) s ++ bs ++ drop (at + done + left) s) (t.bytes ∙ ap (λ (ms : List ℕ). laid d at done (packed w ms)) whole)
        ∙ laid_more d bs at done left (packed w ns) (omega (arith, left_room all, t.long, el)) b
        ∙ ap (λ (k : ℕ). laid d at k (packed w ns)) (omega (arith, left_bytes all, el))
