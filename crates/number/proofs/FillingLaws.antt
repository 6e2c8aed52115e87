-- Writing and filling, element by element.
-- Filling with one value, and so clearing, element by element: one element, and then those behind it, for values of any kind. `number::zero`
-- and `part_cleared` (LibraryLaws) say the whole for bytes of zero; this says each step, of any value.
use Prim.Native.Nat.{ℕ, suc, ◌+◌, ◌-◌, ◌≤◌, ◌<◌}
use mathlib.Core.Path.{◌≡◌, refl, ◌∙◌, ap}
use mathlib.Core.List.{List, [], ◌∷◌}
use native.Mathlib.Omega.{arith}
use native.Mathlib.Numerals.{add-one}
use lib.ListN.{length, drop, get_or, set, replicate, drop_of_length-le}
use lib.Seq.{drop-cons}
use Rattle.number.specs.Overwriting.{overwrite}
use Rattle.number.proofs.OverwritingLaws.{store_overwrite, overwrite_append, overwrite_nil}

-- A store before what is written then.
store_first : {A : Type 0} (s : List A) (p : ℕ) (v : A) (xs : List A) → p < length s → overwrite (set s p v) (p + 1) xs ≡ overwrite s p (v ∷ xs)
store_first s p v xs h =
    ap (λ t. overwrite t (p + 1) xs) (store_overwrite s p v h) ∙ overwrite_append s p (v ∷ []) xs (omega arith)

pub fill_turn : {A : Type 0} (v : A) (s : List A) (at n j : ℕ) → j < n → at + n ≤ length s
    → overwrite (set s (at + j) v) (at + (j + 1)) (replicate (n - (j + 1)) v) ≡ overwrite s (at + j) (replicate (n - j) v)
fill_turn v s at n j h f =
    let p : at + (j + 1) ≡ at + j + 1 = omega arith in
    let m : n - j ≡ suc (n - (j + 1)) = omega arith in
    rw (p, m) (store_first s (at + j) v (replicate (n - (j + 1)) v) (omega arith))

-- WRITING a list over another: what is left to write, from where it stands.
pub put_begun : (s : List ℕ) (at : ℕ) (src : List ℕ) → overwrite s (at + 0) (drop 0 src) ≡ overwrite s at src
put_begun s at src = let e : at + 0 ≡ at = omega arith in rw e refl

pub put_turn : (s src : List ℕ) (at i : ℕ) → i < length src → at + length src ≤ length s
    → overwrite (set s (at + i) (get_or src i 0)) (at + (i + 1)) (drop (i + 1) src) ≡ overwrite s (at + i) (drop i src)
put_turn s src at i h f =
    let p : at + (i + 1) ≡ at + i + 1 = omega arith in
    rw (p, drop-cons src i 0 h, add-one i) (store_first s (at + i) (get_or src i 0) (drop (suc i) src) (omega arith))

pub put_ended : (s src : List ℕ) (at i : ℕ) → length src ≤ i → overwrite s (at + i) (drop i src) ≡ s
put_ended s src at i h = rw (drop_of_length-le src h) (overwrite_nil s (at + i))
