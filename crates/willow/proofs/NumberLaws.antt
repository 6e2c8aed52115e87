-- A number and its bytes determine one another, for every width: by recursion on the bytes, the lowest one is the rest of a
-- division by 256. A number at a place is then read where the buffer has a seam.
use Prim.Native.Nat.{ℕ, zero, suc, ◌+◌, ◌*◌, ◌/◌, ◌%◌, ◌^◌, ◌≤◌, ◌<◌}
use mathlib.Core.Path.{◌≡◌, refl, sym, ◌∙◌, ap}
use mathlib.Core.List.{List, [], ◌∷◌, ◌++◌}
use native.Mathlib.Omega.{arith}
use native.Mathlib.Nat.{pow-suc}
use lib.ListN.{length, take, drop, get_or, length-take, length-drop, take-append-drop}
use lib.Seq.{take_at, drop_at, drop-cons, drop-drop, take-append-le, drop-append-le, length-take-le}
use Rattle.willow.specs.Limits.{max_word}
use Rattle.willow.specs.Numbers.{Bytes, le, unle, number_at}
use Rattle.willow.proofs.ListLaws.{all_append, all_take, all_drop}

-- BYTES, in the parts of a list:
pub bytes_append : (s t : List ℕ) → Bytes s → Bytes t → Bytes (s ++ t)
bytes_append = all_append (λ b. b < 256)

pub bytes_take : (n : ℕ) (s : List ℕ) → Bytes s → Bytes (take n s)
bytes_take = all_take (λ b. b < 256)

pub bytes_drop : (n : ℕ) (s : List ℕ) → Bytes s → Bytes (drop n s)
bytes_drop = all_drop (λ b. b < 256)

-- by index, as it is known of a slice
pub bytes_by_index : (s : List ℕ) → ((i : ℕ) → get_or s i 0 < 256) → Bytes s
bytes_by_index [] h = tt
bytes_by_index (b ∷ bs) h = (h 0, bytes_by_index bs (λ i. h (suc i)))

-- NUMBERS OF A WIDTH.
pub le_length : (width n : ℕ) → length (le width n) ≡ width
unfolding le
le_length zero n = refl
le_length (suc width) n = ap suc (le_length width (n / 256))

pub le_bytes : (width n : ℕ) → Bytes (le width n)
unfolding le
le_bytes zero n = tt
le_bytes (suc width) n = (omega arith, le_bytes width (n / 256))

-- the number of the bytes of n is n, where n fits
pub unle_le : (width n : ℕ) → n < 256 ^ width → unle (le width n) ≡ n
unfolding le unle
unle_le zero n h = omega arith
unle_le (suc width) n h =
    let k : n < 256 ^ width * 256 = rw pow-suc at h in
    let ih = unle_le width (n / 256) (omega arith) in
    omega arith

-- the bytes of the number of bytes are these bytes
pub le_unle : (bs : List ℕ) → Bytes bs → le (length bs) (unle bs) ≡ bs
unfolding le unle
le_unle [] h = refl
le_unle (b ∷ bs) h =
    let low : (b + 256 * unle bs) % 256 ≡ b = omega arith in
    let high : (b + 256 * unle bs) / 256 ≡ unle bs = omega arith in
    rw (low, high, le_unle bs h.1)

-- the number of at most so many bytes fits in so many
pub unle_bound : (width : ℕ) (bs : List ℕ) → Bytes bs → length bs ≤ width → unle bs < 256 ^ width
unfolding unle
unle_bound zero [] h l = omega arith
unle_bound zero (b ∷ bs) h l = absurd (omega arith)
unle_bound (suc width) [] h l = let ih = unle_bound width [] tt (omega arith) in rw pow-suc (omega arith)
unle_bound (suc width) (b ∷ bs) h l = let ih = unle_bound width bs h.1 (omega arith) in rw pow-suc (omega arith)

-- numbers that fit are equal if their bytes are
pub le_injective : (width m n : ℕ) → m < 256 ^ width → n < 256 ^ width → le width m ≡ le width n → m ≡ n
le_injective width m n h k e = sym (unle_le width m h) ∙ ap unle e ∙ unle_le width n k

-- THE 8-BYTE NUMBER AT A PLACE. Where its bytes stand there:
pub number_here : (s : List ℕ) (at n : ℕ) (rest : List ℕ) → drop at s ≡ le 8 n ++ rest → n ≤ max_word → number_at s at ≡ n
unfolding number_at
number_here s at n rest e h = rw (e, take_at (le 8 n) rest 8 (le_length 8 n)) (unle_le 8 n (omega arith))

-- behind a front that ends there
pub number_seam : (front rest : List ℕ) (n at : ℕ) → length front ≡ at → n ≤ max_word → number_at (front ++ (le 8 n ++ rest)) at ≡ n
number_seam front rest n at e h = number_here (front ++ (le 8 n ++ rest)) at n rest (drop_at front (le 8 n ++ rest) at e) h

-- its bytes are those that stand there
pub number_bytes : (s : List ℕ) (at : ℕ) → Bytes s → at + 8 ≤ length s → le 8 (number_at s at) ≡ take 8 (drop at s)
unfolding number_at
number_bytes s at h f =
    let l : length (take 8 (drop at s)) ≡ 8 = simp (length-take, length-drop) (omega arith) in
    rw l at (le_unle (take 8 (drop at s)) (bytes_take 8 (drop at s) (bytes_drop at s h)))

-- it is a number of 64 bits
pub number_word : (s : List ℕ) (at : ℕ) → Bytes s → number_at s at ≤ max_word
unfolding number_at
number_word s at h =
    let l : length (take 8 (drop at s)) ≤ 8 = simp length-take (omega arith) in
    let b = unle_bound 8 (take 8 (drop at s)) (bytes_take 8 (drop at s) (bytes_drop at s h)) l in
    omega arith

-- it is the same in what is dropped to, in a rest, in a front and in what is taken
pub number_drop : (n : ℕ) (s : List ℕ) (at : ℕ) → number_at (drop n s) at ≡ number_at s (n + at)
unfolding number_at
number_drop n s at = ap (λ t. unle (take 8 t)) (drop-drop at n s)

pub number_in_rest : (front rest : List ℕ) (n at : ℕ) → length front ≡ n → number_at (front ++ rest) (n + at) ≡ number_at rest at
number_in_rest front rest n at e = sym (number_drop n (front ++ rest) at) ∙ ap (λ s. number_at s at) (drop_at front rest n e)

pub number_in_front : (front rest : List ℕ) (at : ℕ) → at + 8 ≤ length front → number_at (front ++ rest) at ≡ number_at front at
unfolding number_at
number_in_front front rest at h =
    let l : 8 ≤ length (drop at front) = simp length-drop (omega arith) in
    rw (drop-append-le at front rest (omega arith), take-append-le 8 (drop at front) rest l)

pub number_in_take : (n : ℕ) (s : List ℕ) (at : ℕ) → at + 8 ≤ n → n ≤ length s → number_at (take n s) at ≡ number_at s at
number_in_take n s at h k =
    let l : length (take n s) ≡ n = length-take-le n s k in
    sym (number_in_front (take n s) (drop n s) at (omega arith)) ∙ ap (λ t. number_at t at) (take-append-drop n s)

-- the lowest byte, and the number of those behind it
next_byte : (s : List ℕ) (at i k : ℕ) → at + i < length s
    → unle (take (suc k) (drop (at + i) s)) ≡ get_or s (at + i) 0 + 256 * unle (take k (drop (at + suc i) s))
unfolding unle
next_byte s at i k h =
    let z : suc (at + i) ≡ at + suc i = omega arith in
    rw (drop-cons s (at + i) 0 h, z)

-- byte by byte: the sum of byte i times 256 ^ i
pub number_by_index : (s : List ℕ) (at : ℕ) → at + 8 ≤ length s
    → number_at s at
    ≡ get_or s at 0
    + 256 * get_or s (at + 1) 0
    + 256 ^ 2 * get_or s (at + 2) 0
    + 256 ^ 3 * get_or s (at + 3) 0
    + 256 ^ 4 * get_or s (at + 4) 0
    + 256 ^ 5 * get_or s (at + 5) 0
    + 256 ^ 6 * get_or s (at + 6) 0
    + 256 ^ 7 * get_or s (at + 7) 0
unfolding number_at unle
number_by_index s at h =
    let z : at + 0 ≡ at = omega arith in
    let b₀ : number_at s at ≡ get_or s at 0 + 256 * unle (take 7 (drop (at + 1) s)) = rw z at (next_byte s at 0 7 (omega arith)) in
    let b₁ = next_byte s at 1 6 (omega arith) in
    let b₂ = next_byte s at 2 5 (omega arith) in
    let b₃ = next_byte s at 3 4 (omega arith) in
    let b₄ = next_byte s at 4 3 (omega arith) in
    let b₅ = next_byte s at 5 2 (omega arith) in
    let b₆ = next_byte s at 6 1 (omega arith) in
    let b₇ = next_byte s at 7 0 (omega arith) in
    omega arith
