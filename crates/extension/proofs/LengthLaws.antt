-- The lengths in a buffer of 8-byte numbers, as the loops go through it: what is left from a place on is a number and the
-- lengths behind it.
use Prim.Native.Nat.{ℕ, zero, suc, ◌+◌, ◌-◌, ◌*◌, ◌/◌, ◌%◌, ◌≤◌, ◌<◌}
use mathlib.Core.Path.{◌≡◌, refl, sym, ◌∙◌, ap}
use mathlib.Core.List.{List, [], ◌∷◌}
use mathlib.Core.Bool.{Bool, true, false, not, ◌&&◌, ◌||◌}
use native.Mathlib.Omega.{arith}
use lib.Dec.{eqb, leb, ltb}
use Rattle.std.proofs.lemmas.Bool.Decides.{nat_tests}
use Rattle.std.specs.List.{list_all, range_with_len}
use lib.ListN.{length, drop}
use borrow.Author.Tests.{eq-eqb, ne_eqb, eqb-true, eqb-false}
use Rattle.willow.specs.Construction.{numbers, lengths_in, total, lengths_fit}
use Rattle.willow.specs.Lists.{any}
use Rattle.willow.specs.Numbers.{le, number_at}
use Rattle.willow.proofs.ConstructionLaws.{numbers_on}
use Rattle.willow.proofs.NumberLaws.{le_length}
use Rattle.number.specs.Overwriting.{overwrite}
use Rattle.number.proofs.OverwritingLaws.{overwrite_nil, overwrite_append}
use Rattle.extension.specs.Extending.{accumulated_by}

-- the lengths from length i on: all of them, the next and those behind it, none
abbrev pub lengths_from : List ℕ → ℕ → List ℕ
lengths_from s i = numbers (length s / 8 - i) (drop (8 * i) s)

pub lengths_first : (s : List ℕ) → lengths_from s 0 ≡ lengths_in s
unfolding lengths_in
lengths_first s = let z : length s / 8 - 0 ≡ length s / 8 = omega arith in rw z

pub lengths_next : (s : List ℕ) (i n : ℕ) → i < length s / 8 → n ≡ number_at s (8 * i) → lengths_from s i ≡ n ∷ lengths_from s (i + 1)
lengths_next s i n h e =
    let left : length s / 8 - i ≡ suc (length s / 8 - (i + 1)) = omega arith in
    let at : 8 * i + 8 ≡ 8 * (i + 1) = omega arith in
    rw (left, e) (rw at at (numbers_on (length s / 8 - (i + 1)) s (8 * i)))

pub lengths_past : (s : List ℕ) (i : ℕ) → length s / 8 ≤ i → lengths_from s i ≡ []
lengths_past s i h = let z : length s / 8 - i ≡ 0 = omega arith in rw z

-- THE SUM. The lengths from length i on add up to what is left of the bytes.
abbrev pub rest_fits : List ℕ → ℕ → ℕ → Bool
rest_fits s i left = eqb (total (lengths_from s i)) left

-- a buffer that holds no whole numbers; else all its lengths are left
pub fit_uneven : (s bytes : List ℕ) → (length s % 8 ≡ 0 → ⊥) → lengths_fit s bytes ≡ false
unfolding lengths_fit
fit_uneven s bytes n = rw (ne_eqb (length s % 8) 0 n)

pub fit_start : (s bytes : List ℕ) → length s % 8 ≡ 0 → rest_fits s 0 (length bytes) ≡ lengths_fit s bytes
unfolding lengths_fit
fit_start s bytes h = rw (lengths_first s, eq-eqb (length s % 8) 0 h)

-- a sum is a number exactly if it is so without a part of both
sum_less : (n m left : ℕ) → n ≤ left → eqb (n + m) left ≡ eqb m (left - n)
sum_less n m left h = go (eqb m (left - n)) refl
  where
    go : (t : Bool) → eqb m (left - n) ≡ t → eqb (n + m) left ≡ t
    go true e = let k = eqb-true m (left - n) e in eq-eqb (n + m) left (omega arith)
    go false e = ne_eqb (n + m) left (λ k. eqb-false m (left - n) e (omega arith))

module _ (s : List ℕ) (i left : ℕ) where
  -- a length over what is left
  pub fit_over : (n : ℕ) → i < length s / 8 → n ≡ number_at s (8 * i) → left < n → rest_fits s i left ≡ false
  fit_over n h e k = rw (lengths_next s i n h e) (ne_eqb _ left (λ z. omega arith))

  -- a length within it
  pub fit_on : (n : ℕ) → i < length s / 8 → n ≡ number_at s (8 * i) → n ≤ left → rest_fits s i left ≡ rest_fits s (i + 1) (left - n)
  fit_on n h e k = rw (lengths_next s i n h e) (sum_less n _ left k)

  -- no length is left
  pub fit_end : length s / 8 ≤ i → rest_fits s i left ≡ eqb left 0
  fit_end h = rw (lengths_past s i h) (go (eqb left 0) refl)
    where
      go : (t : Bool) → eqb left 0 ≡ t → eqb 0 left ≡ t
      go true e = let k = eqb-true left 0 e in eq-eqb 0 left (omega arith)
      go false e = ne_eqb 0 left (λ k. eqb-false left 0 e (omega arith))

-- THE WIDEST. Each length is at most MCL exactly if none is over it.
module _ (mcl : ℕ) (s : List ℕ) where
  abbrev pub is_within : ℕ → Bool
  is_within i = leb (number_at s (8 * i)) mcl

  not_over : (n : ℕ) (all over : Bool) → all ≡ not over → leb n mcl && all ≡ not (ltb mcl n || over)
  not_over n all over e = grind (arith, nat_tests, e)

  within_from : (k i : ℕ) → i + k ≡ length s / 8 → list_all is_within (range_with_len i k) ≡ not (any (λ n. ltb mcl n) (lengths_from s i))
  within_from zero i e = rw (lengths_past s i (omega arith))
  within_from (suc k) i e =
      rw (lengths_next s i _ (omega arith) refl)
      (not_over (number_at s (8 * i)) _ _ (within_from k (i + 1) (omega arith)))

  pub within_all : list_all is_within (range_with_len 0 (length s / 8)) ≡ not (any (λ n. ltb mcl n) (lengths_in s))
  within_all = within_from (length s / 8) 0 (omega arith) ∙ rw (lengths_first s)

-- THE ACCUMULATED LENGTHS, written one behind the other.
pub put_start : (s out : List ℕ) (to from : ℕ)
    → overwrite out (to + 8 * 0) (accumulated_by from (lengths_from s 0)) ≡ overwrite out to (accumulated_by from (lengths_in s))
put_start s out to from = let z : to + 8 * 0 ≡ to = omega arith in rw (z, lengths_first s)

module _ (s : List ℕ) (i : ℕ) where
  pub rest_total : (n : ℕ) → i < length s / 8 → n ≡ number_at s (8 * i) → total (lengths_from s i) ≡ n + total (lengths_from s (i + 1))
  rest_total n h e = ap total (lengths_next s i n h e)

  pub put_on : (out next : List ℕ) (to sum n : ℕ) → i < length s / 8 → n ≡ number_at s (8 * i) → to + 8 * i + 8 ≤ length out
      → next ≡ overwrite out (to + 8 * i) (le 8 (sum + n))
      → overwrite next (to + 8 * (i + 1)) (accumulated_by (sum + n) (lengths_from s (i + 1)))
      ≡ overwrite out (to + 8 * i) (accumulated_by sum (lengths_from s i))
  put_on out next to sum n h e f x =
      let w : List ℕ = accumulated_by (sum + n) (lengths_from s (i + 1)) in
      let l : length (le 8 (sum + n)) ≡ 8 = le_length 8 (sum + n) in
      let z : to + 8 * i + length (le 8 (sum + n)) ≡ to + 8 * (i + 1) = omega arith in
      ap (λ t. overwrite t (to + 8 * (i + 1)) w) x
      ∙ rw z at (overwrite_append out (to + 8 * i) (le 8 (sum + n)) w (omega arith))
      ∙ ap (λ t. overwrite out (to + 8 * i) (accumulated_by sum t)) (sym (lengths_next s i n h e))

  pub put_end : (out : List ℕ) (p sum : ℕ) → length s / 8 ≤ i → overwrite out p (accumulated_by sum (lengths_from s i)) ≡ out
  put_end out p sum h = rw (lengths_past s i h) (overwrite_nil out p)
