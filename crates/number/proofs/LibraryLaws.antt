-- What the library's methods say of bytes, in this project's words: their numbers, moves and folds.
use Prim.Native.Nat.{ℕ, zero, suc, ◌+◌, ◌-◌, ◌/◌, ◌%◌, ◌^◌, ◌≤◌}
use mathlib.Core.Path.{◌≡◌, refl, sym, ◌∙◌, ap}
use mathlib.Core.Bool.{Bool, true, false, ◌&&◌}
use mathlib.Core.List.{List, [], ◌∷◌, append_assoc}
use native.Mathlib.Omega.{arith}
use native.Mathlib.Nat.{pow-suc, div-one, div-div-eq-div-mul}
use lib.Dec.{eqb}
use lib.ListN.{length, take, drop}
use lib.Seq.{paste, take_all}
use Rattle.willow.proofs.NumberLaws.{number_by_index}
use Rattle.std.specs.Int.{w64, byte_at, bytes_low_first, from_le_bytes, to_le_bytes}
use Rattle.std.specs.List.{fold}
use borrow.Rule.Slice.PartMut.{put_mid}
use Rattle.willow.specs.Numbers.{le, unle, number_at}
use Rattle.number.specs.Overwriting.{overwrite, zeros, all_zero}
use Rattle.number.proofs.OverwritingLaws.{length_part, length_zeros, put_mid_lem}

-- NUMBERS. Eight bytes read as a number; the bytes of a number from byte i on; all eight.
from_bytes : (bs : List ℕ) → length bs ≡ 8 → from_le_bytes w64 bs ≡ number_at bs 0
from_bytes bs h = omega (arith, number_by_index bs 0 (omega arith))

pub number_read : (s : List ℕ) (at : ℕ) (bs : List ℕ) → at + 8 ≤ length s → bs ≡ take (at + 8 - at) (drop at s) → from_le_bytes w64 bs ≡ number_at s at
unfolding number_at
number_read s at bs h e =
    let m : at + 8 - at ≡ 8 = omega arith in
    let here : bs ≡ take 8 (drop at s) = e ∙ rw m in
    let l : length bs ≡ 8 = ap length here ∙ length_part s at 8 h in
    from_bytes bs l ∙ ap unle (take_all 8 bs (omega arith) ∙ here)

byte_here : (i n : ℕ) → byte_at i n ≡ n / 256 ^ i % 256
byte_here zero n = rw div-one
byte_here (suc i) n = refl

bytes_from : (i k n : ℕ) → bytes_low_first i k n ≡ le k (n / 256 ^ i)
unfolding le
bytes_from i zero n = refl
bytes_from i (suc k) n =
    let next : n / 256 ^ i / 256 ≡ n / 256 ^ suc i = div-div-eq-div-mul n (256 ^ i) 256 ∙ ap (λ p. n / p) (sym (pow-suc 256 i)) in
    rw (byte_here i n, bytes_from (suc i) k n, next)

pub bytes_written : (n : ℕ) → to_le_bytes w64 n ≡ le 8 n
bytes_written n = bytes_from 0 8 n ∙ ap (le 8) (div-one n)

-- PARTS. What a slice holds after the n elements of it from a place on were lent and came back as another slice, or as zeros.
pub part_copied : {A : Type 0} (s : List A) (at : ℕ) (vs ys : List A) → ys ≡ vs → put_mid at (at + length vs - at) s ys ≡ overwrite s at vs
part_copied s at vs ys e =
    let m : at + length vs - at ≡ length vs = omega arith in
    rw (m, e) (put_mid_lem s at (length vs) vs refl)

pub part_cleared : (s : List ℕ) (at n : ℕ) (ys : List ℕ) → at + n ≤ length s → ys ≡ zeros (length (take (at + n - at) (drop at s)))
    → put_mid at (at + n - at) s ys ≡ overwrite s at (zeros n)
part_cleared s at n ys h e =
    let m : at + n - at ≡ n = omega arith in
    let all : ys ≡ zeros n = e ∙ rw (m, length_part s at n h) in
    rw (m, all) (put_mid_lem s at n (zeros n) (length_zeros n))

-- MOVES.
pub moved : {A : Type 0} (s : List A) (from to n : ℕ) → from + n ≤ length s
    → paste s to (drop from s) (from + n - from) ≡ overwrite s to (take n (drop from s))
unfolding overwrite
moved s from to n h =
    let m : from + n - from ≡ n = omega arith in
    rw (m, length_part s from n h) (append_assoc (take to s) (take n (drop from s)) (drop (to + n) s))

-- THE TEST OF EVERY BYTE, with what was known before.
tested_from : (ok : Bool) (s : List ℕ) → fold (λ before b. before && eqb b 0) ok s ≡ (ok && all_zero s)
tested_from true [] = refl
tested_from false [] = refl
tested_from true (b ∷ s) = tested_from (eqb b 0) s
tested_from false (b ∷ s) = tested_from false s

pub tested : (s : List ℕ) → fold (λ before b. before && eqb b 0) true s ≡ all_zero s
tested s = tested_from true s
