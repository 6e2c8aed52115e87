-- Rows closed up and a row put in, where those behind the rows in use are unused: the rows in use are then those that stay, with the
-- new one at its place, and the others are unused again.
use Prim.Native.Nat.{ℕ, zero, suc, ◌+◌, ◌-◌, ◌≤◌, ◌<◌}
use mathlib.Core.Path.{◌≡◌, refl, sym, ◌∙◌, ap}
use mathlib.Core.List.{List, [], ◌∷◌, ◌++◌, map, append_assoc}
use mathlib.Core.Bool.{Bool}
use native.Mathlib.Omega.{arith}
use lib.ListN.{length, take, drop, replicate, length-append, length-take, length-drop, replicate-append-replicate}
use lib.Seq.{take-append-le, drop-append-le, take_at, drop_at, drop-drop}
use Rattle.willow.specs.declared.Limits.{Limits}
use Rattle.willow.specs.Entries.{Entry}
use Rattle.willow.specs.Lists.{filter}
use Rattle.willow.proofs.ListLaws.{filter_lengths}
use Rattle.sheet.specs.Rows.{Shape, Row, zero_row, Fitting, Room, rows_of, with_rows}
use Rattle.sheet.proofs.LayoutLaws.{filled}
use Rattle.sheet.proofs.RowLaws.{fitting_take, fitting_drop, fitting_append, fitting_filter, fitting_zeros, fitting_rows, rows_with, with_with}
use Rattle.store_form.specs.Stores.{store_shape, entry_row}
use Rattle.store_rows.specs.EntryRows.{sizes_of}
use Rattle.store_closing.specs.Filing.{stays_by, closed_up, put_at}
use Rattle.store_writing.specs.Filed.{rows_left, filed_rows}

-- A new one at i.
abbrev pub with_at : {A : Type 0} → ℕ → A → List A → List A
with_at i x l = take i l ++ (x ∷ drop i l)

pub length_with_at : {A : Type 0} (i : ℕ) (x : A) (l : List A) → i ≤ length l → length (with_at i x l) ≡ length l + 1
length_with_at i x l h = simp (length-append, length-take, length-drop) (omega arith)

pub map_with_at : {A B : Type 0} (f : A → B) (i : ℕ) (x : A) (l : List A) → with_at i (f x) (map f l) ≡ map f (with_at i x l)
map_with_at {A} f zero x l = refl
map_with_at {A} f (suc i) x [] = refl
map_with_at {A} f (suc i) x (y ∷ l) = ap (λ m. f y ∷ m) (map_with_at f i x l)

module _ (z : Shape) where
  -- whatever the rows are, as many are there after closing up as before
  closed_fits : (stays : Row → Bool) (n : ℕ) (rows : List Row) → Fitting z z.capacity rows → n ≤ z.capacity
      → Fitting z z.capacity (closed_up stays (zero_row z) 0 0 n rows)
  unfolding closed_up
  closed_fits stays n rows f h =
      let kept : List Row = filter stays (take n rows) in
      let o : n - 0 ≡ n = omega arith in
      let t = fitting_take z z.capacity n rows f h in
      let c = t.count in
      let l = filter_lengths stays (take n rows) in
      let m : ℕ = n - (0 + length kept) in
      let sum : length kept + (m + (z.capacity - n)) ≡ z.capacity = omega arith in
      rw o
      (rw sum at (fitting_append z (length kept) (m + (z.capacity - n)) kept (replicate m (zero_row z) ++ drop n rows) (fitting_filter z stays n (take n rows) t)
      (fitting_append z m (z.capacity - n) (replicate m (zero_row z)) (drop n rows) (fitting_zeros z m) (fitting_drop z z.capacity n rows f))))

  pub closed_filled : (stays : Row → Bool) (n : ℕ) (rows used : List Row) → length used ≡ n → n ≤ z.capacity → rows ≡ filled z used
      → closed_up stays (zero_row z) 0 0 n rows ≡ filled z (filter stays used)
  unfolding closed_up
  closed_filled stays n rows used l h e =
      let unused : List Row = replicate (z.capacity - length used) (zero_row z) in
      let kept : List Row = filter stays used in
      let o : n - 0 ≡ n = omega arith in
      let k = filter_lengths stays used in
      let sum : n - (0 + length kept) + (z.capacity - length used) ≡ z.capacity - length kept = omega arith in
      rw (e, o, take_at used unused n l, drop_at used unused n l)
      (ap (λ u. kept ++ u) (replicate-append-replicate (n - (0 + length kept)) (z.capacity - length used) (zero_row z) ∙ ap (λ m. replicate m (zero_row z)) sum))

  pub put_filled : (rows : List Row) (i : ℕ) (x : Row) → i ≤ length rows → length rows < z.capacity
      → put_at i (length rows) x (filled z rows) ≡ filled z (with_at i x rows)
  unfolding put_at
  put_filled rows i x h k =
      let unused : List Row = replicate (z.capacity - length rows) (zero_row z) in
      let m : ℕ = z.capacity - length (with_at i x rows) in
      let l = length_with_at i x rows h in
      let d : length (drop i rows) ≡ length rows - i = length-drop i rows in
      let one : z.capacity - length rows ≡ suc m = omega arith in
      let behind : drop (length rows + 1) (rows ++ unused) ≡ replicate m (zero_row z) =
      sym (drop-drop 1 (length rows) (rows ++ unused)) ∙ ap (drop 1) (drop_at rows unused (length rows) refl ∙ ap (λ j. replicate j (zero_row z)) one) in
      rw (take-append-le i rows unused h, drop-append-le i rows unused h, take_at (drop i rows) unused (length rows - i) d, behind)
      (sym (append_assoc (take i rows) (x ∷ drop i rows) (replicate m (zero_row z))))

-- IN A SHEET: rows closed up, u, and then a row put in, v.
pub rows_filed : (L : Limits) (N n at : ℕ) (o : Entry) (s u v : List ℕ) (left : ℕ) → Room (store_shape (sizes_of L N)) s → n ≤ N
    → left ≡ length (rows_left L N n o s)
    → u ≡ with_rows (store_shape (sizes_of L N)) s (closed_up (stays_by o) (zero_row (store_shape (sizes_of L N))) 0 0 n (rows_of (store_shape (sizes_of L N)) s))
    → v ≡ with_rows (store_shape (sizes_of L N)) u (put_at at left (entry_row L o) (rows_of (store_shape (sizes_of L N)) u))
    → v ≡ with_rows (store_shape (sizes_of L N)) s (filed_rows L N n at o s)
unfolding filed_rows
rows_filed L N n at o s u v left room few el eu ev =
    let z : Shape = store_shape (sizes_of L N) in
    let closed : List Row = closed_up (stays_by o) (zero_row z) 0 0 n (rows_of z s) in
    let k : ℕ = length (rows_left L N n o s) in
    let fits = closed_fits z (stays_by o) n (rows_of z s) (fitting_rows z s room) few in
    let rows : rows_of z u ≡ closed = ap (rows_of z) eu ∙ rows_with z s room closed fits in
    ev
    ∙ ap (λ j. with_rows z u (put_at at j (entry_row L o) (rows_of z u))) el
    ∙ ap (λ l. with_rows z u (put_at at k (entry_row L o) l)) rows
    ∙ ap (λ l. with_rows z l (put_at at k (entry_row L o) closed)) eu
    ∙ with_with z s room closed fits (put_at at k (entry_row L o) closed)
