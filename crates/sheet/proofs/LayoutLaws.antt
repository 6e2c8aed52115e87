-- The layout of numbers and of rows in use is a sheet put together: the numbers, these rows and the unused ones. So it is read
-- back by the laws of rows; and a buffer is the layout of what is read from it where its unused heads and cells are zero.
use Prim.Native.Nat.{ℕ, zero, suc, ◌+◌, ◌-◌, ◌*◌, ◌≤◌, ◌<◌}
use mathlib.Core.Path.{◌≡◌, refl, sym, ◌∙◌, ap}
use mathlib.Core.Bool.{true}
use mathlib.Core.List.{List, [], ◌∷◌, ◌++◌, append_assoc}
use native.Mathlib.Omega.{arith}
use lib.ListN.{length, take, drop, get_or, replicate, length-append, length-replicate, take-append-drop}
use lib.Seq.{take_at, drop_at, take_all}
use Rattle.willow.specs.Limits.{max_word}
use Rattle.willow.specs.Lists.{All}
use Rattle.willow.specs.Numbers.{Bytes, le, number_at}
use Rattle.willow.proofs.NumberLaws.{le_length}
use Rattle.number.specs.Overwriting.{overwrite, zeros, all_zero}
use Rattle.number.specs.Records.{laid, Sized}
use Rattle.number.proofs.OverwritingLaws.{overwrite_seam, length_part, all_zero_zeros, all_zero_exactly}
use Rattle.number.proofs.RecordLaws.{mul_part, laid_append, length_laid, laid_put, sized_all, number_laid, numbers_at, numbers_laid}
use Rattle.sheet.specs.Rows.{Shape, cells_from, sheet_length, Room, Row, head, cell, zero_row, Fitting, rows_of, with_rows, sheet_bytes}
use Rattle.sheet.proofs.RowLaws.{fitting_take, fitting_drop, fitting_append, fitting_zeros, fitting_rows, heads_zeros, cells_zeros, rows_by_bytes, assembled, first_assembled, rest_assembled, length_assembled, rows_assembled, heads_assembled, cells_assembled, rows_whole, heads_at, cells_at_lem, over_row}

-- NUMBERS, in 8 bytes each.
sized_numbers : (numbers : List ℕ) → Sized (le 8) 8 numbers
sized_numbers numbers = sized_all (le 8) 8 (le_length 8) numbers

pub length_numbers : (numbers : List ℕ) → length (laid (le 8) numbers) ≡ 8 * length numbers
length_numbers numbers = length_laid (le 8) 8 numbers (sized_numbers numbers)

numbers_count : (s : List ℕ) (at n : ℕ) → length (numbers_at s at n) ≡ n
numbers_count s at zero = refl
numbers_count s at (suc n) = ap suc (numbers_count s (at + 8) n)

-- the first n numbers of a buffer of bytes are those read there
pub numbers_first : (s : List ℕ) (n : ℕ) → Bytes s → 8 * n ≤ length s → take (8 * n) s ≡ laid (le 8) (numbers_at s 0 n)
numbers_first s n b h =
    let read = numbers_laid s 0 n b (omega arith) in
    let l = length_numbers (numbers_at s 0 n) ∙ ap (λ k. 8 * k) (numbers_count s 0 n) in
    ap (take (8 * n)) read ∙ take_at (laid (le 8) (numbers_at s 0 n)) (drop (0 + 8 * n) s) (8 * n) l

module _ (z : Shape) where
  -- ALL ROWS of a sheet in which these are in use.
  abbrev pub filled : List Row → List Row
  filled rows = rows ++ replicate (z.capacity - length rows) (zero_row z)

  pub fitting_filled : (n : ℕ) (rows : List Row) → Fitting z n rows → n ≤ z.capacity → Fitting z z.capacity (filled rows)
  fitting_filled n rows f h =
      let l = f.count in
      let k : ℕ = z.capacity - length rows in
      let all : n + k ≡ z.capacity = omega arith in
      rw all at (fitting_append z n k rows (replicate k (zero_row z)) f (fitting_zeros z k))

  -- one row more in use
  pub filled_more : (rows : List Row) (r : Row) → length rows < z.capacity → overwrite (filled rows) (length rows) (r ∷ []) ≡ filled (rows ++ (r ∷ []))
  filled_more rows r h =
      let k : ℕ = z.capacity - length (rows ++ (r ∷ [])) in
      let l = length-append rows (r ∷ []) in
      let more : z.capacity - length rows ≡ suc k = omega arith in
      ap (λ n. overwrite (rows ++ replicate n (zero_row z)) (length rows) (r ∷ [])) more
      ∙ overwrite_seam rows (zero_row z ∷ []) (replicate k (zero_row z)) (r ∷ []) (length rows) refl refl
      ∙ sym (append_assoc rows (r ∷ []) (replicate k (zero_row z)))

  -- THE LAYOUT, put together.
  pub layout_assembled : (numbers : List ℕ) (rows : List Row) (rest : List ℕ)
      → sheet_bytes z numbers rows ++ rest ≡ assembled z (laid (le 8) numbers) (filled rows) rest
  unfolding sheet_bytes
  layout_assembled numbers rows rest =
      let k : ℕ = z.capacity - length rows in
      let unused : List Row = replicate k (zero_row z) in
      rw (laid_append head rows unused, laid_append cell rows unused, heads_zeros z k, cells_zeros z k) (simp append_assoc)

  module _ (numbers : List ℕ) (n : ℕ) (rows : List Row) (rest : List ℕ)
      (first : 8 * length numbers ≡ z.front) (f : Fitting z n rows) (within : n ≤ z.capacity) where
    abbrev bytes : List ℕ
    bytes = sheet_bytes z numbers rows ++ rest

    numbers_long : length (laid (le 8) numbers) ≡ z.front
    numbers_long = length_numbers numbers ∙ first

    fits : Fitting z z.capacity (filled rows)
    fits = fitting_filled n rows f within

    put_together : bytes ≡ assembled z (laid (le 8) numbers) (filled rows) rest
    put_together = layout_assembled numbers rows rest

    pub layout_length : length bytes ≡ sheet_length z + length rest
    layout_length = ap length put_together ∙ length_assembled z (laid (le 8) numbers) rest (filled rows) numbers_long fits

    pub layout_room : Room z bytes
    layout_room = let l = layout_length in omega arith

    pub layout_rest : drop (sheet_length z) bytes ≡ rest
    layout_rest = ap (drop (sheet_length z)) put_together ∙ rest_assembled z (laid (le 8) numbers) rest (filled rows) numbers_long fits

    -- its rows: all of them, and those in use
    pub layout_rows : rows_of z bytes ≡ filled rows
    layout_rows = ap (rows_of z) put_together ∙ rows_assembled z (laid (le 8) numbers) rest (filled rows) numbers_long fits

    pub layout_used : take n (rows_of z bytes) ≡ rows
    layout_used = ap (take n) layout_rows ∙ take_at rows (replicate (z.capacity - length rows) (zero_row z)) n f.count

    -- its numbers
    pub layout_number : (i : ℕ) → All (λ k. k ≤ max_word) numbers → i < length numbers → number_at bytes (8 * i) ≡ get_or numbers i 0
    layout_number i w h =
        let at : 0 + 8 * i ≡ 8 * i = omega arith in
        ap (λ l. number_at l (8 * i)) put_together
        ∙ (rw at at (number_laid [] (laid head (filled rows) ++ (laid cell (filled rows) ++ rest)) 0 numbers i refl w h))

    -- its unused heads and cells are zero
    unused_rows : take (z.capacity - n) (drop n (filled rows)) ≡ replicate (z.capacity - n) (zero_row z)
    unused_rows =
        let l = f.count in
        let m = length-replicate (z.capacity - n) (zero_row z) in
        rw (drop_at rows (replicate (z.capacity - length rows) (zero_row z)) n l, l) (take_all (z.capacity - n) (replicate (z.capacity - n) (zero_row z)) (omega arith))

    pub layout_heads_zero : all_zero (take (z.head_size * (z.capacity - n)) (drop (z.front + z.head_size * n) bytes)) ≡ true
    layout_heads_zero =
        ap (λ l. all_zero (take (z.head_size * (z.capacity - n)) (drop (z.front + z.head_size * n) l))) put_together
        ∙ ap all_zero (heads_assembled z (laid (le 8) numbers) rest (filled rows) numbers_long fits n (z.capacity - n) (omega arith)
        ∙ ap (laid head) unused_rows ∙ heads_zeros z (z.capacity - n))
        ∙ all_zero_zeros (z.head_size * (z.capacity - n))

    pub layout_cells_zero : all_zero (take (z.cell_size * (z.capacity - n)) (drop (cells_from z + z.cell_size * n) bytes)) ≡ true
    layout_cells_zero =
        ap (λ l. all_zero (take (z.cell_size * (z.capacity - n)) (drop (cells_from z + z.cell_size * n) l))) put_together
        ∙ ap all_zero (cells_assembled z (laid (le 8) numbers) rest (filled rows) numbers_long fits n (z.capacity - n) (omega arith)
        ∙ ap (laid cell) unused_rows ∙ cells_zeros z (z.capacity - n))
        ∙ all_zero_zeros (z.cell_size * (z.capacity - n))

    -- WRITES: other rows, one row more, another number.
    pub layout_with : (new : List Row) → with_rows z bytes (filled new) ≡ sheet_bytes z numbers new ++ rest
    unfolding with_rows
    layout_with new =
        rw (layout_rest, put_together, first_assembled z (laid (le 8) numbers) rest (filled rows) numbers_long fits) (sym (layout_assembled numbers new rest))

    pub layout_row_added : (h c : List ℕ) → length h ≡ z.head_size → length c ≡ z.cell_size → n < z.capacity
        → overwrite (overwrite bytes (z.front + z.head_size * n) h) (cells_from z + z.cell_size * n) c
        ≡ sheet_bytes z numbers (rows ++ ((h, c) ∷ [])) ++ rest
    layout_row_added h c i j k =
        let l = f.count in
        let more : overwrite (rows_of z bytes) n ((h, c) ∷ []) ≡ filled (rows ++ ((h, c) ∷ [])) =
        rw (layout_rows, ← l) (filled_more rows (h, c) (omega arith)) in
        over_row z bytes layout_room n h c i j k ∙ ap (with_rows z bytes) more ∙ layout_with (rows ++ ((h, c) ∷ []))

    pub layout_number_put : (i x : ℕ) → i < length numbers → overwrite bytes (8 * i) (le 8 x) ≡ sheet_bytes z (overwrite numbers i (x ∷ [])) rows ++ rest
    layout_number_put i x h =
        let at : 0 + 8 * i ≡ 8 * i = omega arith in
        ap (λ l. overwrite l (8 * i) (le 8 x)) put_together
        ∙ (rw at at (laid_put (le 8) 8 [] (laid head (filled rows) ++ (laid cell (filled rows) ++ rest)) 0 numbers i x refl (sized_numbers numbers) (le_length 8 x) h))
        ∙ sym (layout_assembled (overwrite numbers i (x ∷ [])) rows rest)

  -- BACK: a buffer with room whose heads and cells behind n rows are zero.
  module _ (s : List ℕ) (room : Room z s) (n : ℕ) (within : n ≤ z.capacity)
      (heads : all_zero (take (z.head_size * (z.capacity - n)) (drop (z.front + z.head_size * n) s)) ≡ true)
      (cells : all_zero (take (z.cell_size * (z.capacity - n)) (drop (cells_from z + z.cell_size * n) s)) ≡ true) where
    behind_used : drop n (rows_of z s) ≡ replicate (z.capacity - n) (zero_row z)
    behind_used =
        let m : ℕ = z.capacity - n in
        let f = fitting_drop z z.capacity n (rows_of z s) (fitting_rows z s room) in
        let l = f.count in
        let all : take m (drop n (rows_of z s)) ≡ drop n (rows_of z s) = take_all m (drop n (rows_of z s)) (omega arith) in
        let i = mul_part z.head_size n m z.capacity (omega arith) in
        let j = mul_part z.cell_size n m z.capacity (omega arith) in
        let hs : laid head (drop n (rows_of z s)) ≡ laid head (replicate m (zero_row z)) =
        ap (laid head) (sym all) ∙ sym (heads_at z s room n m (omega arith)) ∙ (all_zero_exactly _).0 heads
        ∙ ap zeros (length_part s (z.front + z.head_size * n) (z.head_size * m) (omega arith)) ∙ sym (heads_zeros z m) in
        let cs : laid cell (drop n (rows_of z s)) ≡ laid cell (replicate m (zero_row z)) =
        ap (laid cell) (sym all) ∙ sym (cells_at_lem z s room n m (omega arith)) ∙ (all_zero_exactly _).0 cells
        ∙ ap zeros (length_part s (cells_from z + z.cell_size * n) (z.cell_size * m) (omega arith)) ∙ sym (cells_zeros z m) in
        rows_by_bytes z m (drop n (rows_of z s)) (replicate m (zero_row z)) f (fitting_zeros z m) hs cs

    pub length_used : length (take n (rows_of z s)) ≡ n
    length_used = (fitting_take z z.capacity n (rows_of z s) (fitting_rows z s room) within).count

    -- its rows are those in use and unused ones
    pub filled_used : filled (take n (rows_of z s)) ≡ rows_of z s
    filled_used = rw (length_used, ← behind_used) (take-append-drop n (rows_of z s))

    -- it is the layout of its numbers and of its rows in use, and what stands behind the sheet
    pub layout_back : (numbers : List ℕ) → take z.front s ≡ laid (le 8) numbers
        → s ≡ sheet_bytes z numbers (take n (rows_of z s)) ++ drop (sheet_length z) s
    unfolding with_rows
    layout_back numbers e =
        sym (layout_assembled numbers (take n (rows_of z s)) (drop (sheet_length z) s)
        ∙ rw (filled_used, ← e) (rows_whole z s room))
