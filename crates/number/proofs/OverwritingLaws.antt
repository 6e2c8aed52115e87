-- What is read of a list after a write over it: the list is cut where the write begins and where it ends, and each law reads
-- the parts before, at or behind it. The write of vs at a place is inside where `at + length vs ≤ length s`.
use Prim.Native.Nat.{ℕ, zero, suc, ◌+◌, ◌-◌, ◌≤◌, ◌<◌}
use mathlib.Core.Path.{◌≡◌, refl, sym, ◌∙◌, ap}
use mathlib.Core.Logic.{◌↔◌}
use mathlib.Core.Bool.{true}
use mathlib.Core.List.{List, [], ◌∷◌, ◌++◌, append_assoc, append-nil}
use native.Mathlib.Omega.{arith}
use native.Mathlib.Nat.{add-zero}
use lib.Dec.{eqb}
use lib.ListN.{length, take, drop, set, length-append, length-take, length-drop, length-replicate, take-append-drop, drop_of_length-le}
use lib.Seq.{take_at, drop_at, take-take, take-append-le, drop-append-le, take-append-add, drop-append-add, drop-drop, length-take-le, sets, sets-eq}
use borrow.Author.Tests.{eqb-true}
use borrow.Rule.Slice.PartMut.{put_mid}
use Rattle.willow.specs.Numbers.{Bytes, le, unle, number_at}
use Rattle.willow.proofs.Bools.{both_true}
use Rattle.willow.proofs.NumberLaws.{number_here}
use Rattle.number.specs.Overwriting.{overwrite, zeros, all_zero}

-- PARTS OF A LIST.
module _ {A : Type 0} where
  pub three_parts : (s : List A) (p m : ℕ) → s ≡ take p s ++ (take m (drop p s) ++ drop (p + m) s)
  three_parts s p m =
      sym (take-append-drop p s)
      ∙ ap (λ l. take p s ++ l) (sym (take-append-drop m (drop p s)) ∙ ap (λ l. take m (drop p s) ++ l) (drop-drop m p s))

  pub length_part : (s : List A) (p m : ℕ) → p + m ≤ length s → length (take m (drop p s)) ≡ m
  length_part s p m h = simp (length-take, length-drop) (omega arith)

  -- a part of a front, and of a part
  pub part_of_take : (s : List A) (n p m : ℕ) → p + m ≤ n → take m (drop p (take n s)) ≡ take m (drop p s)
  part_of_take s n zero m h = take-take m n s (omega arith)
  part_of_take s zero (suc p) m h = absurd (omega arith)
  part_of_take [] (suc n) (suc p) m h = refl
  part_of_take (x ∷ s) (suc n) (suc p) m h = part_of_take s n p m (omega arith)

  pub part_of_part : (s : List A) (q n p m : ℕ) → p + m ≤ n → take m (drop p (take n (drop q s))) ≡ take m (drop (q + p) s)
  part_of_part s q n p m h = part_of_take (drop q s) n p m h ∙ ap (take m) (drop-drop p q s)

  -- WRITES AND SEAMS.
  pub overwrite_is : (s : List A) (at : ℕ) (vs : List A) → overwrite s at vs ≡ take at s ++ (vs ++ drop (at + length vs) s)
  unfolding overwrite
  overwrite_is s at vs = refl

  pub length_overwrite : (s : List A) (at : ℕ) (vs : List A) → at + length vs ≤ length s → length (overwrite s at vs) ≡ length s
  unfolding overwrite
  length_overwrite s at vs h = simp (length-append, length-take, length-drop) (omega arith)

  pub overwrite_seam : (a y z vs : List A) (at : ℕ) → length a ≡ at → length y ≡ length vs → overwrite (a ++ (y ++ z)) at vs ≡ a ++ (vs ++ z)
  unfolding overwrite
  overwrite_seam a y z vs at la ly =
      let rest : drop (at + length vs) (a ++ (y ++ z)) ≡ z =
      rw (← append_assoc a y z) (drop_at (a ++ y) z (at + length vs) (simp length-append (omega arith))) in
      rw (take_at a (y ++ z) at la, rest)

  -- in the front of a list, in its rest, in its middle
  pub overwrite_in_front : (s t : List A) (at : ℕ) (vs : List A) → at + length vs ≤ length s → overwrite (s ++ t) at vs ≡ overwrite s at vs ++ t
  unfolding overwrite
  overwrite_in_front s t at vs h =
      rw (take-append-le at s t (omega arith), drop-append-le (at + length vs) s t h) (simp append_assoc)

  pub overwrite_in_rest : (a s : List A) (b at : ℕ) (vs : List A) → length a ≡ b → overwrite (a ++ s) (b + at) vs ≡ a ++ overwrite s at vs
  unfolding overwrite
  overwrite_in_rest a s b at vs e =
      let z : b + at + length vs ≡ length a + (at + length vs) = omega arith in
      rw (z, ← e, take-append-add a s at, drop-append-add a s (at + length vs)) (simp append_assoc)

  pub overwrite_at_front : (s vs : List A) → overwrite s 0 vs ≡ vs ++ drop (length vs) s
  unfolding overwrite
  overwrite_at_front s vs = let z : 0 + length vs ≡ length vs = omega arith in rw z

  -- what was written to the front is the front
  pub front_written : (s vs : List A) (n : ℕ) → n ≡ length vs → take n (overwrite s 0 vs) ≡ vs
  front_written s vs n e = ap (take n) (overwrite_at_front s vs) ∙ take_at vs (drop (length vs) s) n (sym e)

  -- nothing is written; all is written; what stands there is written
  pub overwrite_nil : (s : List A) (at : ℕ) → overwrite s at [] ≡ s
  unfolding overwrite
  overwrite_nil s at = rw (add-zero at) (take-append-drop at s)

  pub overwrite_all : (s vs : List A) → length vs ≡ length s → overwrite s 0 vs ≡ vs
  overwrite_all s vs e =
      let z : length s ≤ length vs = omega arith in
      overwrite_at_front s vs ∙ rw (drop_of_length-le s z) (append-nil vs)

  pub overwrite_same : (s : List A) (at m : ℕ) → at + m ≤ length s → overwrite s at (take m (drop at s)) ≡ s
  unfolding overwrite
  overwrite_same s at m h = rw (length_part s at m h) (sym (three_parts s at m))

  -- a run of stores is one write, and so is one store
  pub stores_overwrite : (s : List A) (at : ℕ) (vs : List A) → at + length vs ≤ length s → sets s at vs ≡ overwrite s at vs
  unfolding overwrite
  stores_overwrite s at vs h = sets-eq vs s at h ∙ append_assoc (take at s) vs (drop (at + length vs) s)

  pub store_overwrite : (s : List A) (p : ℕ) (v : A) → p < length s → set s p v ≡ overwrite s p (v ∷ [])
  store_overwrite s p v h = stores_overwrite s p (v ∷ []) (omega arith)

  -- what a slice holds after k elements of it from `at` on were lent and came back as ys
  pub put_mid_lem : (s : List A) (at k : ℕ) (ys : List A) → length ys ≡ k → put_mid at k s ys ≡ overwrite s at ys
  unfolding overwrite
  put_mid_lem s at k ys e = rw (drop-drop k at s, ← e)

  module _ (s : List A) (at : ℕ) (vs : List A) (inside : at + length vs ≤ length s) where
    length_front : length (take at s) ≡ at
    length_front = length-take-le at s (omega arith)

    -- AT THE WRITE.
    pub drop_written : drop at (overwrite s at vs) ≡ vs ++ drop (at + length vs) s
    unfolding overwrite
    drop_written = drop_at (take at s) (vs ++ drop (at + length vs) s) at length_front

    pub take_written : take (at + length vs) (overwrite s at vs) ≡ take at s ++ vs
    unfolding overwrite
    take_written =
        let l = length_front in
        rw (← append_assoc (take at s) vs (drop (at + length vs) s))
        (take_at (take at s ++ vs) (drop (at + length vs) s) (at + length vs) (simp length-append (omega arith)))

    -- a part of what was written, and all of it
    pub part_in_written : (p m : ℕ) → p + m ≤ length vs → take m (drop (at + p) (overwrite s at vs)) ≡ take m (drop p vs)
    part_in_written p m h =
        let l : m ≤ length (drop p vs) = simp length-drop (omega arith) in
        rw (← drop-drop p at (overwrite s at vs), drop_written, drop-append-le p vs (drop (at + length vs) s) (omega arith))
        (take-append-le m (drop p vs) (drop (at + length vs) s) l)

    pub part_written : (m : ℕ) → length vs ≡ m → take m (drop at (overwrite s at vs)) ≡ vs
    part_written m e = rw drop_written (take_at vs (drop (at + length vs) s) m e)

    -- BEFORE THE WRITE.
    pub take_before : (n : ℕ) → n ≤ at → take n (overwrite s at vs) ≡ take n s
    unfolding overwrite
    take_before n h =
        let l = length_front in
        take-append-le n (take at s) (vs ++ drop (at + length vs) s) (omega arith) ∙ take-take n at s h

    pub part_before : (p m : ℕ) → p + m ≤ at → take m (drop p (overwrite s at vs)) ≡ take m (drop p s)
    part_before p m h =
        sym (part_of_take (overwrite s at vs) at p m h) ∙ rw (take_before at (omega arith)) (part_of_take s at p m h)

    -- BEHIND THE WRITE.
    pub drop_behind : (p : ℕ) → at + length vs ≤ p → drop p (overwrite s at vs) ≡ drop p s
    drop_behind p h =
        let n : at + (length vs + (p - (at + length vs))) ≡ p = omega arith in
        let m : at + length vs + (p - (at + length vs)) ≡ p = omega arith in
        let k : ℕ = p - (at + length vs) in
        ap (λ i. drop i (overwrite s at vs)) (sym n)
        ∙ sym (drop-drop (length vs + k) at (overwrite s at vs))
        ∙ ap (drop (length vs + k)) drop_written
        ∙ drop-append-add vs (drop (at + length vs) s) k
        ∙ drop-drop k (at + length vs) s
        ∙ ap (λ i. drop i s) m

  -- A WRITE WITHIN A PART IS A WRITE OVER THAT PART.
  pub take_around : (s : List A) (at : ℕ) (vs : List A) (n : ℕ) → at + length vs ≤ n → n ≤ length s
      → take n (overwrite s at vs) ≡ overwrite (take n s) at vs
  take_around s at vs n h k =
      let l : length (take n s) ≡ n = length-take-le n s k in
      ap (λ t. take n (overwrite t at vs)) (sym (take-append-drop n s))
      ∙ ap (take n) (overwrite_in_front (take n s) (drop n s) at vs (omega arith))
      ∙ take_at (overwrite (take n s) at vs) (drop n s) n (length_overwrite (take n s) at vs (omega arith) ∙ l)

  pub drop_around : (s : List A) (p k : ℕ) (vs : List A) → p + k + length vs ≤ length s
      → drop p (overwrite s (p + k) vs) ≡ overwrite (drop p s) k vs
  drop_around s p k vs h =
      let l : length (take p s) ≡ p = length-take-le p s (omega arith) in
      ap (λ t. drop p (overwrite t (p + k) vs)) (sym (take-append-drop p s))
      ∙ ap (drop p) (overwrite_in_rest (take p s) (drop p s) p k vs l)
      ∙ drop_at (take p s) (overwrite (drop p s) k vs) p l

  pub part_around : (s : List A) (p m k : ℕ) (vs : List A) → k + length vs ≤ m → p + m ≤ length s
      → take m (drop p (overwrite s (p + k) vs)) ≡ overwrite (take m (drop p s)) k vs
  part_around s p m k vs h f =
      ap (take m) (drop_around s p k vs (omega arith)) ∙ take_around (drop p s) k vs m h (simp length-drop (omega arith))

  -- TWO WRITES. The second covers the first; it follows it.
  pub overwrite_twice : (s : List A) (at : ℕ) (vs ws : List A) → length vs ≤ length ws → at + length ws ≤ length s
      → overwrite (overwrite s at vs) at ws ≡ overwrite s at ws
  overwrite_twice s at vs ws h f =
      overwrite_is (overwrite s at vs) at ws
      ∙ rw (take_before s at vs (omega arith) at (omega arith), drop_behind s at vs (omega arith) (at + length ws) (omega arith)) (sym (overwrite_is s at ws))

  pub overwrite_append : (s : List A) (at : ℕ) (vs ws : List A) → at + length vs ≤ length s
      → overwrite (overwrite s at vs) (at + length vs) ws ≡ overwrite s at (vs ++ ws)
  overwrite_append s at vs ws h =
      let n : at + (length vs + length ws) ≡ at + length vs + length ws = omega arith in
      overwrite_is (overwrite s at vs) (at + length vs) ws
      ∙ rw (take_written s at vs h, drop_behind s at vs h (at + length vs + length ws) (omega arith))
      (sym (overwrite_is s at (vs ++ ws) ∙ rw (length-append vs ws, n) (simp append_assoc)))

  -- a write behind another, which was one over s: the two are one
  pub written_on : (s vs ws t u : List A) (at p : ℕ) → at + length vs ≡ p → p ≤ length s → t ≡ overwrite s at vs → u ≡ overwrite t p ws
      → u ≡ overwrite s at (vs ++ ws)
  written_on s vs ws t u at p e h x y =
      y ∙ ap (λ l. overwrite l p ws) x ∙ rw e at (overwrite_append s at vs ws (omega arith))

-- NUMBERS: one in what was written.
module _ (s : List ℕ) (at : ℕ) (vs : List ℕ) (inside : at + length vs ≤ length s) where
  pub number_in_written : (p : ℕ) → p + 8 ≤ length vs → number_at (overwrite s at vs) (at + p) ≡ number_at vs p
  unfolding number_at
  number_in_written p h = ap unle (part_in_written s at vs inside p 8 h)

-- ZEROS.
pub bytes_zeros : (n : ℕ) → Bytes (zeros n)
bytes_zeros zero = tt
bytes_zeros (suc n) = (omega arith, bytes_zeros n)

pub length_zeros : (n : ℕ) → length (zeros n) ≡ n
length_zeros n = length-replicate n 0

pub take_zeros : (k n : ℕ) → k ≤ n → take k (zeros n) ≡ zeros k
take_zeros zero n h = refl
take_zeros (suc k) zero h = absurd (omega arith)
take_zeros (suc k) (suc n) h = ap (λ l. 0 ∷ l) (take_zeros k n (omega arith))

pub drop_zeros : (k n : ℕ) → k ≤ n → drop k (zeros n) ≡ zeros (n - k)
drop_zeros zero n h = let z : n - 0 ≡ n = omega arith in rw z
drop_zeros (suc k) zero h = absurd (omega arith)
drop_zeros (suc k) (suc n) h = let z : suc n - suc k ≡ n - k = omega arith in rw z (drop_zeros k n (omega arith))

pub le_zero : (width : ℕ) → le width 0 ≡ zeros width
unfolding le
le_zero zero = refl
le_zero (suc width) = ap (λ l. 0 ∷ l) (le_zero width)

pub number_zeros : (n at : ℕ) → at + 8 ≤ n → number_at (zeros n) at ≡ 0
number_zeros n at h =
    let rest : drop 8 (zeros (n - at)) ≡ zeros (n - at - 8) = drop_zeros 8 (n - at) (omega arith) in
    let here : drop at (zeros n) ≡ le 8 0 ++ zeros (n - at - 8) =
    drop_zeros at n (omega arith) ∙ sym (take-append-drop 8 (zeros (n - at))) ∙ rw (take_zeros 8 (n - at) (omega arith), rest, le_zero 8) in
    number_here (zeros n) at 0 (zeros (n - at - 8)) here (omega arith)

-- the test: exactly the lists of zeros pass it, whatever the elements are
pub all_zero_zeros : (n : ℕ) → all_zero (zeros n) ≡ true
all_zero_zeros zero = refl
all_zero_zeros (suc n) = all_zero_zeros n

zeros_by_test : (s : List ℕ) → all_zero s ≡ true → s ≡ zeros (length s)
zeros_by_test [] h = refl
zeros_by_test (b ∷ bs) h =
    let k = both_true (eqb b 0) (all_zero bs) h in
    let x = eqb-true b 0 k.0 in
    let y = zeros_by_test bs k.1 in
    cc

pub all_zero_exactly : (s : List ℕ) → (all_zero s ≡ true) ↔ (s ≡ zeros (length s))
all_zero_exactly s = (zeros_by_test s, λ e. ap all_zero e ∙ all_zero_zeros (length s))
