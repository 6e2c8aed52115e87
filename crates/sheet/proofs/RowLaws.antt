-- A sheet and its rows: reading and writing rows are a lens on the bytes. Every buffer with room is what stands before the
-- heads, then the heads and the cells of its own rows, then the rest; so each law is one of records, in both columns at once.
use Prim.Native.Nat.{ℕ, zero, suc, ◌+◌, ◌-◌, ◌*◌, ◌≤◌, ◌<◌}
use mathlib.Core.Path.{◌≡◌, refl, sym, ◌∙◌, ap}
use mathlib.Core.Bool.{Bool}
use mathlib.Core.List.{List, [], ◌∷◌, ◌++◌, append_assoc, append-nil}
use native.Mathlib.Omega.{arith}
use native.Mathlib.Nat.{mul-zero, mul-suc, add_comm}
use lib.ListN.{length, take, drop, get_or, replicate, length-append, length-drop, length-replicate, take-append-drop}
use lib.Seq.{take_at, drop_at, take-add, drop-drop, length-take-le}
use Rattle.willow.specs.Lists.{All, filter}
use Rattle.willow.specs.Numbers.{Bytes}
use Rattle.willow.proofs.NumberLaws.{bytes_take, bytes_drop}
use Rattle.number.specs.Overwriting.{overwrite, zeros}
use Rattle.number.specs.Records.{laid, Sized, record_at}
use Rattle.number.proofs.OverwritingLaws.{length_overwrite, length_zeros, length_part, overwrite_in_front, take_around, drop_behind}
use Rattle.number.proofs.RecordLaws.{mul_part, laid_zeros, length_laid, laid_part, laid_over, record_laid, sized_append, sized_take, sized_drop, sized_overwrite, sized_replicate, sized_filter}
use Rattle.sheet.specs.Rows.{Shape, cells_from, sheet_length, Room, Row, head, cell, zero_row, Fitting, rows_from, rows_of, with_rows}

module _ (z : Shape) where
  -- ROWS THAT FIT: parts of them, joined, written over, filtered, unused, one.
  pub fitting_take : (n k : ℕ) (rows : List Row) → Fitting z n rows → k ≤ n → Fitting z k (take k rows)
  fitting_take n k rows f h = record {
    heads = sized_take head z.head_size k rows f.heads;
    cells = sized_take cell z.cell_size k rows f.cells;
    count = let l = f.count in length-take-le k rows (omega arith);
  }

  pub fitting_drop : (n k : ℕ) (rows : List Row) → Fitting z n rows → Fitting z (n - k) (drop k rows)
  fitting_drop n k rows f = record {
    heads = sized_drop head z.head_size k rows f.heads;
    cells = sized_drop cell z.cell_size k rows f.cells;
    count = let l = f.count in simp length-drop (omega arith);
  }

  pub fitting_part : (n k m : ℕ) (rows : List Row) → Fitting z n rows → k + m ≤ n → Fitting z m (take m (drop k rows))
  fitting_part n k m rows f h = fitting_take (n - k) m (drop k rows) (fitting_drop n k rows f) (omega arith)

  pub fitting_append : (m n : ℕ) (a b : List Row) → Fitting z m a → Fitting z n b → Fitting z (m + n) (a ++ b)
  fitting_append m n a b f g = record {
    heads = sized_append head z.head_size a b f.heads g.heads;
    cells = sized_append cell z.cell_size a b f.cells g.cells;
    count = let k = f.count in let l = g.count in simp length-append (omega arith);
  }

  pub fitting_overwrite : (n k m : ℕ) (rows new : List Row) → Fitting z n rows → Fitting z m new → k + m ≤ n → Fitting z n (overwrite rows k new)
  fitting_overwrite n k m rows new f g h = record {
    heads = sized_overwrite head z.head_size rows k new f.heads g.heads;
    cells = sized_overwrite cell z.cell_size rows k new f.cells g.cells;
    count = let i = f.count in let j = g.count in length_overwrite rows k new (omega arith) ∙ i;
  }

  pub fitting_filter : (test : Row → Bool) (n : ℕ) (rows : List Row) → Fitting z n rows → Fitting z (length (filter test rows)) (filter test rows)
  fitting_filter test n rows f = record {
    heads = sized_filter head z.head_size test rows f.heads;
    cells = sized_filter cell z.cell_size test rows f.cells;
    count = refl;
  }

  pub fitting_zeros : (n : ℕ) → Fitting z n (replicate n (zero_row z))
  fitting_zeros n = record {
    heads = sized_replicate head z.head_size n (zero_row z) (length_zeros z.head_size);
    cells = sized_replicate cell z.cell_size n (zero_row z) (length_zeros z.cell_size);
    count = length-replicate n (zero_row z);
  }

  pub fitting_one : (h c : List ℕ) → length h ≡ z.head_size → length c ≡ z.cell_size → Fitting z 1 ((h, c) ∷ [])
  fitting_one h c i j = record { heads = (i, tt); cells = (j, tt); count = refl }

  -- their bytes
  pub length_heads : (n : ℕ) (rows : List Row) → Fitting z n rows → length (laid head rows) ≡ z.head_size * n
  length_heads n rows f = length_laid head z.head_size rows f.heads ∙ ap (λ k. z.head_size * k) f.count

  pub length_cells : (n : ℕ) (rows : List Row) → Fitting z n rows → length (laid cell rows) ≡ z.cell_size * n
  length_cells n rows f = length_laid cell z.cell_size rows f.cells ∙ ap (λ k. z.cell_size * k) f.count

  pub heads_zeros : (n : ℕ) → laid head (replicate n (zero_row z)) ≡ zeros (z.head_size * n)
  heads_zeros n = laid_zeros head z.head_size n (zero_row z) refl

  pub cells_zeros : (n : ℕ) → laid cell (replicate n (zero_row z)) ≡ zeros (z.cell_size * n)
  cells_zeros n = laid_zeros cell z.cell_size n (zero_row z) refl

-- ROWS FROM TWO COLUMNS. They are read as they were laid out,
pub rows_from_laid : (w c : ℕ) (rows : List Row) (s t : List ℕ) → Sized head w rows → Sized cell c rows
    → rows_from w c (length rows) (laid head rows ++ s) (laid cell rows ++ t) ≡ rows
rows_from_laid w c [] s t h k = refl
rows_from_laid w c (r ∷ rows) s t h k =
    let a = append_assoc (head r) (laid head rows) s in
    let b = append_assoc (cell r) (laid cell rows) t in
    rw (a, b, take_at (head r) (laid head rows ++ s) w h.0, drop_at (head r) (laid head rows ++ s) w h.0)
    (rw (take_at (cell r) (laid cell rows ++ t) c k.0, drop_at (cell r) (laid cell rows ++ t) c k.0, rows_from_laid w c rows s t h.1 k.1))

-- and laid out as they were read.
heads_from : (w c n : ℕ) (s t : List ℕ) → laid head (rows_from w c n s t) ≡ take (w * n) s
heads_from w c zero s t = rw (mul-zero w)
heads_from w c (suc n) s t =
    let a : w * suc n ≡ w + w * n = mul-suc w n ∙ add_comm (w * n) w in
    rw (a, heads_from w c n (drop w s) (drop c t)) (sym (take-add w (w * n) s))

cells_from_lem : (w c n : ℕ) (s t : List ℕ) → laid cell (rows_from w c n s t) ≡ take (c * n) t
cells_from_lem w c zero s t = rw (mul-zero c)
cells_from_lem w c (suc n) s t =
    let a : c * suc n ≡ c + c * n = mul-suc c n ∙ add_comm (c * n) c in
    rw (a, cells_from_lem w c n (drop w s) (drop c t)) (sym (take-add c (c * n) t))

rows_bytes_from : (w c n : ℕ) (s t : List ℕ) → Bytes s → Bytes t → All (λ r. Bytes (head r) × Bytes (cell r)) (rows_from w c n s t)
rows_bytes_from w c zero s t h k = tt
rows_bytes_from w c (suc n) s t h k = (
  (bytes_take w s h, bytes_take c t k),
  rows_bytes_from w c n (drop w s) (drop c t) (bytes_drop w s h) (bytes_drop c t k),
)

module _ (z : Shape) where
  -- two lists of rows that fit are equal if their heads and their cells are the same bytes
  pub rows_by_bytes : (n : ℕ) (a b : List Row) → Fitting z n a → Fitting z n b → laid head a ≡ laid head b → laid cell a ≡ laid cell b → a ≡ b
  rows_by_bytes n a b f g h c =
      let w : ℕ = z.head_size in
      let k : ℕ = z.cell_size in
      sym (rows_from_laid w k a [] [] f.heads f.cells)
      ∙ ap (λ m. rows_from w k m (laid head a ++ []) (laid cell a ++ [])) (f.count ∙ sym g.count)
      ∙ rw (h, c) (rows_from_laid w k b [] [] g.heads g.cells)

  -- rows read from two columns that are long enough
  fitting_from : (n : ℕ) (s t : List ℕ) → z.head_size * n ≤ length s → z.cell_size * n ≤ length t
      → Fitting z n (rows_from z.head_size z.cell_size n s t)
  fitting_from zero s t h k = record { heads = tt; cells = tt; count = refl }
  fitting_from (suc n) s t h k =
      let w = mul-suc z.head_size n in
      let c = mul-suc z.cell_size n in
      let ih = fitting_from n (drop z.head_size s) (drop z.cell_size t) (simp length-drop (omega arith)) (simp length-drop (omega arith)) in
      record {
        heads = (length-take-le z.head_size s (omega arith), ih.heads);
        cells = (length-take-le z.cell_size t (omega arith), ih.cells);
        count = ap suc ih.count;
      }

  -- A SHEET PUT TOGETHER: what stands first, the heads and the cells of rows, what stands behind.
  abbrev pub assembled : List ℕ → List Row → List ℕ → List ℕ
  assembled first rows rest = first ++ (laid head rows ++ (laid cell rows ++ rest))

  module _ (first rest : List ℕ) (rows : List Row) (lf : length first ≡ z.front) (f : Fitting z z.capacity rows) where
    behind_heads : length (first ++ laid head rows) ≡ cells_from z
    behind_heads = let k = length_heads z z.capacity rows f in simp length-append (omega arith)

    behind_cells : length ((first ++ laid head rows) ++ laid cell rows) ≡ sheet_length z
    behind_cells =
        let k = behind_heads in
        let l = length_cells z z.capacity rows f in
        length-append (first ++ laid head rows) (laid cell rows) ∙ omega arith

    from_cells : assembled first rows rest ≡ (first ++ laid head rows) ++ (laid cell rows ++ rest)
    from_cells = sym (append_assoc first (laid head rows) (laid cell rows ++ rest))

    from_rest : assembled first rows rest ≡ ((first ++ laid head rows) ++ laid cell rows) ++ rest
    from_rest = from_cells ∙ sym (append_assoc (first ++ laid head rows) (laid cell rows) rest)

    -- its parts are those that it was made of
    pub first_assembled : take z.front (assembled first rows rest) ≡ first
    first_assembled = take_at first (laid head rows ++ (laid cell rows ++ rest)) z.front lf

    pub rest_assembled : drop (sheet_length z) (assembled first rows rest) ≡ rest
    rest_assembled = ap (drop (sheet_length z)) from_rest ∙ drop_at ((first ++ laid head rows) ++ laid cell rows) rest (sheet_length z) behind_cells

    pub length_assembled : length (assembled first rows rest) ≡ sheet_length z + length rest
    length_assembled =
        let k = behind_cells in
        ap length from_rest ∙ length-append ((first ++ laid head rows) ++ laid cell rows) rest ∙ omega arith

    pub rows_assembled : rows_of z (assembled first rows rest) ≡ rows
    unfolding rows_of
    rows_assembled =
        let heads : drop z.front (assembled first rows rest) ≡ laid head rows ++ (laid cell rows ++ rest) =
        drop_at first (laid head rows ++ (laid cell rows ++ rest)) z.front lf in
        let cells : drop (cells_from z) (assembled first rows rest) ≡ laid cell rows ++ rest =
        ap (drop (cells_from z)) from_cells ∙ drop_at (first ++ laid head rows) (laid cell rows ++ rest) (cells_from z) behind_heads in
        rw (heads, cells, ← f.count) (rows_from_laid z.head_size z.cell_size rows (laid cell rows ++ rest) rest f.heads f.cells)

    -- m heads and m cells from row k on
    pub heads_assembled : (k m : ℕ) → k + m ≤ z.capacity
        → take (z.head_size * m) (drop (z.front + z.head_size * k) (assembled first rows rest)) ≡ laid head (take m (drop k rows))
    heads_assembled k m h =
        let n = f.count in
        laid_part head z.head_size first (laid cell rows ++ rest) z.front rows k m lf f.heads (omega arith)

    pub cells_assembled : (k m : ℕ) → k + m ≤ z.capacity
        → take (z.cell_size * m) (drop (cells_from z + z.cell_size * k) (assembled first rows rest)) ≡ laid cell (take m (drop k rows))
    cells_assembled k m h =
        let n = f.count in
        ap (λ l. take (z.cell_size * m) (drop (cells_from z + z.cell_size * k) l)) from_cells
        ∙ laid_part cell z.cell_size (first ++ laid head rows) rest (cells_from z) rows k m behind_heads f.cells (omega arith)

    -- the head and the cell of row i
    pub head_assembled : (i : ℕ) (r : Row) → i < z.capacity
        → record_at z.front z.head_size i (assembled first rows rest) ≡ head (get_or rows i r)
    head_assembled i r h =
        let n = f.count in
        record_laid head z.head_size first (laid cell rows ++ rest) z.front rows i r lf f.heads (omega arith)

    pub cell_assembled : (i : ℕ) (r : Row) → i < z.capacity
        → record_at (cells_from z) z.cell_size i (assembled first rows rest) ≡ cell (get_or rows i r)
    cell_assembled i r h =
        let n = f.count in
        ap (record_at (cells_from z) z.cell_size i) from_cells
        ∙ record_laid cell z.cell_size (first ++ laid head rows) rest (cells_from z) rows i r behind_heads f.cells (omega arith)

  -- m rows from row k on written over, heads and cells: the list of rows written over
  pub assembled_over : (first rest : List ℕ) (rows : List Row) → length first ≡ z.front → Fitting z z.capacity rows
      → (k m : ℕ) (new : List Row) → Fitting z m new → k + m ≤ z.capacity
      → overwrite (overwrite (assembled first rows rest) (z.front + z.head_size * k) (laid head new)) (cells_from z + z.cell_size * k) (laid cell new)
      ≡ assembled first (overwrite rows k new) rest
  assembled_over first rest rows lf f k m new g h =
      let i = f.count in
      let j = g.count in
      let over : List Row = overwrite rows k new in
      let front = behind_heads first rest over lf (fitting_overwrite z z.capacity k m rows new f g h) in
      let at : ℕ = cells_from z + z.cell_size * k in
      ap (λ l. overwrite l at (laid cell new))
      (laid_over head z.head_size first (laid cell rows ++ rest) z.front rows k new lf f.heads g.heads (omega arith)
      ∙ sym (append_assoc first (laid head over) (laid cell rows ++ rest)))
      ∙ laid_over cell z.cell_size (first ++ laid head over) rest (cells_from z) rows k new front f.cells g.cells (omega arith)
      ∙ append_assoc first (laid head over) (laid cell over ++ rest)

  -- A BUFFER WITH ROOM.
  module _ (s : List ℕ) (room : Room z s) where
    length_first : length (take z.front s) ≡ z.front
    length_first = length-take-le z.front s (omega arith)

    pub fitting_rows : Fitting z z.capacity (rows_of z s)
    unfolding rows_of
    fitting_rows = fitting_from z.capacity (drop z.front s) (drop (cells_from z) s) (simp length-drop (omega arith)) (simp length-drop (omega arith))

    -- they are bytes where the buffer is
    pub rows_bytes : Bytes s → All (λ r. Bytes (head r) × Bytes (cell r)) (rows_of z s)
    unfolding rows_of
    rows_bytes b = rows_bytes_from z.head_size z.cell_size z.capacity _ _ (bytes_drop z.front s b) (bytes_drop (cells_from z) s b)

    -- reading, then writing; writing, then reading; writing twice
    pub rows_whole : with_rows z s (rows_of z s) ≡ s
    unfolding with_rows rows_of
    rows_whole =
        let heads : List ℕ = drop z.front s in
        let cells : List ℕ = drop (cells_from z) s in
        let behind : take (z.cell_size * z.capacity) cells ++ drop (sheet_length z) s ≡ cells =
        ap (λ l. take (z.cell_size * z.capacity) cells ++ l) (sym (drop-drop (z.cell_size * z.capacity) (cells_from z) s))
        ∙ take-append-drop (z.cell_size * z.capacity) cells in
        let both : take (z.head_size * z.capacity) heads ++ cells ≡ heads =
        ap (λ l. take (z.head_size * z.capacity) heads ++ l) (sym (drop-drop (z.head_size * z.capacity) z.front s))
        ∙ take-append-drop (z.head_size * z.capacity) heads in
        rw (heads_from z.head_size z.cell_size z.capacity heads cells, cells_from_lem z.head_size z.cell_size z.capacity heads cells, behind, both)
        (take-append-drop z.front s)

    is_assembled : s ≡ assembled (take z.front s) (rows_of z s) (drop (sheet_length z) s)
    unfolding with_rows
    is_assembled = sym rows_whole

    module _ (rows : List Row) (f : Fitting z z.capacity rows) where
      pub rows_with : rows_of z (with_rows z s rows) ≡ rows
      unfolding with_rows
      rows_with = rows_assembled (take z.front s) (drop (sheet_length z) s) rows length_first f

      pub with_with : (new : List Row) → with_rows z (with_rows z s rows) new ≡ with_rows z s new
      unfolding with_rows
      with_with new =
          rw (first_assembled (take z.front s) (drop (sheet_length z) s) rows length_first f)
          (rw (rest_assembled (take z.front s) (drop (sheet_length z) s) rows length_first f))

      pub length_with : length (with_rows z s rows) ≡ length s
      unfolding with_rows
      length_with = length_assembled (take z.front s) (drop (sheet_length z) s) rows length_first f ∙ simp length-drop (omega arith)

      pub room_with : Room z (with_rows z s rows)
      room_with = let l = length_with in omega arith

    -- PARTS OF ROWS. m heads and m cells from row k on:
    pub heads_at : (k m : ℕ) → k + m ≤ z.capacity
        → take (z.head_size * m) (drop (z.front + z.head_size * k) s) ≡ laid head (take m (drop k (rows_of z s)))
    heads_at k m h =
        ap (λ l. take (z.head_size * m) (drop (z.front + z.head_size * k) l)) is_assembled
        ∙ heads_assembled (take z.front s) (drop (sheet_length z) s) (rows_of z s) length_first fitting_rows k m h

    pub cells_at_lem : (k m : ℕ) → k + m ≤ z.capacity
        → take (z.cell_size * m) (drop (cells_from z + z.cell_size * k) s) ≡ laid cell (take m (drop k (rows_of z s)))
    cells_at_lem k m h =
        ap (λ l. take (z.cell_size * m) (drop (cells_from z + z.cell_size * k) l)) is_assembled
        ∙ cells_assembled (take z.front s) (drop (sheet_length z) s) (rows_of z s) length_first fitting_rows k m h

    -- the head and the cell of row i, whatever stands for a row past the end
    pub head_at : (i : ℕ) (r : Row) → i < z.capacity → record_at z.front z.head_size i s ≡ head (get_or (rows_of z s) i r)
    head_at i r h =
        ap (record_at z.front z.head_size i) is_assembled
        ∙ head_assembled (take z.front s) (drop (sheet_length z) s) (rows_of z s) length_first fitting_rows i r h

    pub cell_at : (i : ℕ) (r : Row) → i < z.capacity → record_at (cells_from z) z.cell_size i s ≡ cell (get_or (rows_of z s) i r)
    cell_at i r h =
        ap (record_at (cells_from z) z.cell_size i) is_assembled
        ∙ cell_assembled (take z.front s) (drop (sheet_length z) s) (rows_of z s) length_first fitting_rows i r h

    -- WRITES. m rows from row k on, heads and cells, are written over:
    pub over_rows : (k m : ℕ) (new : List Row) → Fitting z m new → k + m ≤ z.capacity
        → overwrite (overwrite s (z.front + z.head_size * k) (laid head new)) (cells_from z + z.cell_size * k) (laid cell new)
        ≡ with_rows z s (overwrite (rows_of z s) k new)
    unfolding with_rows
    over_rows k m new g h =
        ap (λ l. overwrite (overwrite l (z.front + z.head_size * k) (laid head new)) (cells_from z + z.cell_size * k) (laid cell new)) is_assembled
        ∙ assembled_over (take z.front s) (drop (sheet_length z) s) (rows_of z s) length_first fitting_rows k m new g h

    -- one row,
    pub over_row : (i : ℕ) (h c : List ℕ) → length h ≡ z.head_size → length c ≡ z.cell_size → i < z.capacity
        → overwrite (overwrite s (z.front + z.head_size * i) h) (cells_from z + z.cell_size * i) c
        ≡ with_rows z s (overwrite (rows_of z s) i ((h, c) ∷ []))
    over_row i h c lh lc k = simp append-nil at (over_rows i 1 ((h, c) ∷ []) (fitting_one z h c lh lc) (omega arith))

    -- m rows cleared,
    pub rows_cleared : (k m : ℕ) → k + m ≤ z.capacity
        → overwrite (overwrite s (z.front + z.head_size * k) (zeros (z.head_size * m))) (cells_from z + z.cell_size * k) (zeros (z.cell_size * m))
        ≡ with_rows z s (overwrite (rows_of z s) k (replicate m (zero_row z)))
    rows_cleared k m h = rw (← heads_zeros z m, ← cells_zeros z m) (over_rows k m (replicate m (zero_row z)) (fitting_zeros z m) h)

    -- m rows from row i on written again from row k on: the heads first, then the cells.
    pub rows_moved : (i k m : ℕ) → i + m ≤ z.capacity → k + m ≤ z.capacity → (t : List ℕ)
        → t ≡ overwrite s (z.front + z.head_size * k) (take (z.head_size * m) (drop (z.front + z.head_size * i) s))
        → overwrite t (cells_from z + z.cell_size * k) (take (z.cell_size * m) (drop (cells_from z + z.cell_size * i) t))
        ≡ with_rows z s (overwrite (rows_of z s) k (take m (drop i (rows_of z s))))
    rows_moved i k m a b t e =
        let from = mul_part z.head_size i m z.capacity a in
        let to = mul_part z.head_size k m z.capacity b in
        let n = length_part s (z.front + z.head_size * i) (z.head_size * m) (omega arith) in
        let heads : List ℕ = take (z.head_size * m) (drop (z.front + z.head_size * i) s) in
        let cells : take (z.cell_size * m) (drop (cells_from z + z.cell_size * i) t) ≡ laid cell (take m (drop i (rows_of z s))) =
        ap (λ l. take (z.cell_size * m) (drop (cells_from z + z.cell_size * i) l)) e
        ∙ ap (take (z.cell_size * m)) (drop_behind s (z.front + z.head_size * k) heads (omega arith) (cells_from z + z.cell_size * i) (omega arith))
        ∙ cells_at_lem i m a in
        ap (overwrite t (cells_from z + z.cell_size * k)) cells
        ∙ ap (λ l. overwrite l (cells_from z + z.cell_size * k) (laid cell (take m (drop i (rows_of z s))))) (e ∙ ap (overwrite s (z.front + z.head_size * k)) (heads_at i m a))
        ∙ over_rows k m (take m (drop i (rows_of z s))) (fitting_part z z.capacity i m (rows_of z s) fitting_rows a) b

    -- BEFORE THE HEADS. A write there leaves the rows, and goes past a write of rows.
    pub rows_behind_write : (at : ℕ) (v : List ℕ) → at + length v ≤ z.front → rows_of z (overwrite s at v) ≡ rows_of z s
    unfolding rows_of
    rows_behind_write at v h =
        rw (drop_behind s at v (omega arith) z.front h, drop_behind s at v (omega arith) (cells_from z) (omega arith))

    pub with_behind_write : (at : ℕ) (v : List ℕ) → at + length v ≤ z.front → (rows : List Row)
        → with_rows z (overwrite s at v) rows ≡ overwrite (with_rows z s rows) at v
    unfolding with_rows
    with_behind_write at v h rows =
        let l = length_first in
        rw (take_around s at v z.front h (omega arith), drop_behind s at v (omega arith) (sheet_length z) (omega arith))
        (sym (overwrite_in_front (take z.front s) (laid head rows ++ (laid cell rows ++ drop (sheet_length z) s)) at v (omega arith)))
