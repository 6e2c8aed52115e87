-- Rows closed up, a row at a time, and a row put in: laws of lists alone. A row that stays is written at or below its own place, so
-- those behind it are as they were.
use Prim.Native.Nat.{ℕ, suc, ◌+◌, ◌-◌, ◌≤◌, ◌<◌}
use mathlib.Core.Path.{◌≡◌, ◌∙◌}
use mathlib.Core.Bool.{Bool, true, false}
use mathlib.Core.List.{List, [], ◌∷◌, ◌++◌, append_assoc}
use native.Mathlib.Omega.{arith}
use native.Mathlib.Numerals.{add-one}
use lib.ListN.{length, take, drop, get_or, replicate, length-replicate}
use lib.Seq.{drop-cons}
use Rattle.willow.specs.Lists.{All, filter}
use Rattle.willow.proofs.ListLaws.{all_append, all_take, all_drop}
use Rattle.number.specs.Overwriting.{overwrite}
use Rattle.number.proofs.OverwritingLaws.{length_part, overwrite_is, take_before, take_around, take_written, drop_written, drop_behind}
use Rattle.sheet.specs.Rows.{Row}
use Rattle.store_closing.specs.Filing.{closed_up, put_at}

module _ {A : Type 0} where
  -- the first of those to be looked at
  pub rows_next : (n i : ℕ) (rows : List A) (z : A) → i < n → n ≤ length rows
      → take (n - i) (drop i rows) ≡ get_or rows i z ∷ take (n - (i + 1)) (drop (i + 1) rows)
  rows_next n i rows z h k =
      let e : n - i ≡ suc (n - (i + 1)) = omega arith in
      rw (e, drop-cons rows i z (omega arith), add-one i)

  pub one_row : (i : ℕ) (rows : List A) (z : A) → i < length rows → take 1 (drop i rows) ≡ get_or rows i z ∷ []
  one_row i rows z h = rw (drop-cons rows i z h)

  -- what holds of n rows holds of them when some were written over by others of which it holds
  pub all_written : (P : A → Type 0) (n k : ℕ) (rows new : List A) → k + length new ≤ n → n ≤ length rows → All P (take n rows) → All P new
      → All P (take n (overwrite rows k new))
  unfolding overwrite
  all_written P n k rows new h l f g =
      rw (take_around rows k new n h l)
      (all_append P (take k (take n rows)) (new ++ drop (k + length new) (take n rows)) (all_take P k (take n rows) f)
      (all_append P new (drop (k + length new) (take n rows)) g (all_drop P (k + length new) (take n rows) f)))

  -- A ROW PUT IN: those behind its place go up by one, and it is written where the first of them was.
  pub put_in : (rows : List A) (i n : ℕ) (x : A) → i ≤ n → n < length rows
      → overwrite (overwrite rows (i + 1) (take (n - i) (drop i rows))) i (x ∷ []) ≡ put_at i n x rows
  unfolding put_at
  put_in rows i n x h k =
      let moved : List A = take (n - i) (drop i rows) in
      let l : length moved ≡ n - i = length_part rows i (n - i) (omega arith) in
      let e : i + 1 + length moved ≡ n + 1 = omega arith in
      overwrite_is (overwrite rows (i + 1) moved) i (x ∷ [])
      ∙ rw (take_before rows (i + 1) moved (omega arith) i (omega arith), drop_written rows (i + 1) moved (omega arith), e)

module _ (stays : Row → Bool) (z : Row) (k i n : ℕ) (rows : List Row) where
  -- a row that goes,
  pub close_without : i < n → n ≤ length rows → stays (get_or rows i z) ≡ false → closed_up stays z k (i + 1) n rows ≡ closed_up stays z k i n rows
  unfolding closed_up
  close_without h l e = rw (rows_next n i rows z h l, e)

  -- a row that stays,
  pub close_with : k ≤ i → i < n → n ≤ length rows → stays (get_or rows i z) ≡ true
      → closed_up stays z (k + 1) (i + 1) n (overwrite rows k (take 1 (drop i rows))) ≡ closed_up stays z k i n rows
  unfolding closed_up
  close_with a h l e =
      let r : Row = get_or rows i z in
      let rest : List Row = filter stays (take (n - (i + 1)) (drop (i + 1) rows)) in
      let m : n - (k + 1 + length rest) ≡ n - (k + suc (length rest)) = omega arith in
      rw (one_row i rows z (omega arith), drop_behind rows k (r ∷ []) (omega arith) (i + 1) (omega arith), drop_behind rows k (r ∷ []) (omega arith) n (omega arith))
      (rw (take_written rows k (r ∷ []) (omega arith), rows_next n i rows z h l, e, m) (append_assoc (take k rows) (r ∷ []) _))

-- and all of them looked at: the freed ones are to be cleared
pub close_end : (stays : Row → Bool) (z : Row) (k n : ℕ) (rows : List Row) → k ≤ n
    → overwrite rows k (replicate (n - k) z) ≡ closed_up stays z k n n rows
unfolding closed_up overwrite
close_end stays z k n rows h =
    let l : k + length (replicate (n - k) z) ≡ n = omega (arith, length-replicate (n - k) z) in
    let o : n - n ≡ 0 = omega arith in
    let p : n - (k + 0) ≡ n - k = omega arith in
    rw (l, o, p)
