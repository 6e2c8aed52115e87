-- The pass that takes rows out: rows below i were looked at, and the first k hold those of them that stay. What is left to do gives
-- from here what it gave from the start, and all rows in use still hold paths, since a row is written over by one that holds one.
use Prim.Native.Nat.{ℕ, suc, ◌+◌, ◌-◌, ◌≤◌, ◌<◌}
use mathlib.Core.Path.{◌≡◌, refl, sym, ◌∙◌, ap}
use mathlib.Core.Bool.{Bool, true, false, cond}
use mathlib.Core.List.{List, ◌∷◌}
use native.Mathlib.Omega.{arith}
use lib.ListN.{length, take, drop, replicate}
use Rattle.willow.specs.declared.Limits.{Limits}
use Rattle.willow.specs.Lists.{All, filter}
use Rattle.willow.proofs.ListLaws.{all_take, all_drop, every_means}
use Rattle.number.specs.Overwriting.{overwrite}
use Rattle.number.proofs.OverwritingLaws.{overwrite_same, part_of_take, drop_behind}
use Rattle.sheet.specs.Cells.{cell_fits}
use Rattle.sheet.specs.Rows.{Shape, Room, Row, cell, zero_row, Fitting, rows_of, row_at, with_rows}
use Rattle.sheet.proofs.RowLaws.{fitting_part, fitting_overwrite, fitting_rows, rows_whole, rows_with, with_with, length_with, room_with}
use Rattle.store_form.specs.Stores.{store_shape}
use Rattle.store_rows.specs.EntryRows.{sizes_of, RowsReadable}
use Rattle.store_rows.proofs.RowEntryLaws.{cells_hold}
use Rattle.store_closing.specs.Filing.{closed_up}
use Rattle.store_closing.proofs.ClosingLaws.{rows_next, all_written, close_without, close_with, close_end}

-- a shape that is another by an equation
pub room_in : (z y : Shape) (s : List ℕ) → z ≡ y → Room y s → Room z s
room_in z y s e r = rw e r

pub cleared_in : (z y : Shape) (s t : List ℕ) (k n : ℕ) → z ≡ y → t ≡ with_rows z s (overwrite (rows_of z s) k (replicate (n - k) (zero_row z)))
    → t ≡ with_rows y s (overwrite (rows_of y s) k (replicate (n - k) (zero_row y)))
cleared_in z y s t k n e h = h ∙ ap (λ x. with_rows x s (overwrite (rows_of x s) k (replicate (n - k) (zero_row x)))) e

-- the shape of these limits and this capacity, its rows, and the rows with row i written as row k
abbrev pub shape_at : Limits → ℕ → Shape
shape_at L N = store_shape (sizes_of L N)

abbrev pub rows_at : Limits → ℕ → List ℕ → List Row
rows_at L N s = rows_of (shape_at L N) s

abbrev pub moved : Limits → ℕ → List ℕ → ℕ → ℕ → List Row
moved L N s i k = overwrite (rows_at L N s) k (take 1 (drop i (rows_at L N s)))

-- a row that stands where it is to go stays as it is, and with it the whole sheet
pub stays_put : (L : Limits) (N n : ℕ) (s : List ℕ) (i k : ℕ) → RowsReadable L N n s → i < n → i ≡ k → s ≡ with_rows (shape_at L N) s (moved L N s i k)
stays_put L N n s i k r h e =
    let c = (fitting_rows (shape_at L N) s r.room).count in
    let few = r.count in
    let same : moved L N s i i ≡ rows_at L N s = overwrite_same (rows_at L N s) i 1 (omega arith) in
    sym (ap (λ j. with_rows (shape_at L N) s (moved L N s i j)) (sym e) ∙ ap (with_rows (shape_at L N) s) same ∙ rows_whole (shape_at L N) s r.room)

-- the pass at row i, with k rows kept
pub record Pass (stays : Row → Bool) (L : Limits) (N n : ℕ) (s₀ s : List ℕ) (i k : ℕ) : Type 0 where
  pub within : i ≤ n
  pub low : k ≤ i
  pub long : length s ≡ length s₀
  pub readable : RowsReadable L N n s
  pub same : with_rows (shape_at L N) s (closed_up stays (zero_row (shape_at L N)) k i n (rows_at L N s))
      ≡ with_rows (shape_at L N) s₀ (closed_up stays (zero_row (shape_at L N)) 0 0 n (rows_at L N s₀))
  pub count : k + length (filter stays (take (n - i) (drop i (rows_at L N s)))) ≡ length (filter stays (take n (rows_at L N s₀)))

-- A ROW WRITTEN AT OR BELOW ITS PLACE.
module _ (L : Limits) (N n : ℕ) (s : List ℕ) (i k : ℕ) (r : RowsReadable L N n s) (h : i < n) (low : k ≤ i) where
  fits : Fitting (shape_at L N) N (rows_at L N s)
  fits = fitting_rows (shape_at L N) s r.room

  one_fits : Fitting (shape_at L N) 1 (take 1 (drop i (rows_at L N s)))
  one_fits = let c = r.count in fitting_part (shape_at L N) N i 1 (rows_at L N s) fits (omega arith)

  moved_fits : Fitting (shape_at L N) N (moved L N s i k)
  moved_fits = let c = r.count in fitting_overwrite (shape_at L N) N k 1 (rows_at L N s) (take 1 (drop i (rows_at L N s))) fits one_fits (omega arith)

  moved_rows : rows_at L N (with_rows (shape_at L N) s (moved L N s i k)) ≡ moved L N s i k
  moved_rows = rows_with (shape_at L N) s r.room (moved L N s i k) moved_fits

  -- the rows from the next on are as they were
  moved_behind : drop (i + 1) (moved L N s i k) ≡ drop (i + 1) (rows_at L N s)
  moved_behind =
      let c = r.count in
      let a = fits.count in
      let b = one_fits.count in
      drop_behind (rows_at L N s) k (take 1 (drop i (rows_at L N s))) (omega arith) (i + 1) (omega arith)

  -- and all in use hold paths
  moved_readable : RowsReadable L N n (with_rows (shape_at L N) s (moved L N s i k))
  moved_readable =
      let c = r.count in
      let a = fits.count in
      let l = one_fits.count in
      let P : Row → Type 0 = λ x. cell_fits L (cell x) ≡ true in
      let new : List Row = take 1 (drop i (rows_at L N s)) in
      let held : All P new = rw (part_of_take (rows_at L N s) n i 1 (omega arith)) at (all_take P 1 (drop i (take n (rows_at L N s))) (all_drop P i (take n (rows_at L N s)) (cells_hold L N n s r))) in
      record {
        limits_accepted = r.limits_accepted;
        capacity_accepted = r.capacity_accepted;
        room = room_with (shape_at L N) s r.room (moved L N s i k) moved_fits;
        count = r.count;
        cells = rw moved_rows ((every_means (λ x. cell_fits L (cell x)) (take n (moved L N s i k))).1 (all_written P n k (rows_at L N s) new (omega arith) (omega arith) (cells_hold L N n s r) held));
      }

module _ (stays : Row → Bool) (L : Limits) (N n : ℕ) (s₀ : List ℕ) where
  pub pass_begins : RowsReadable L N n s₀ → Pass stays L N n s₀ s₀ 0 0
  pass_begins r =
      let z : n - 0 ≡ n = omega arith in
      record { within = omega arith; low = omega arith; long = refl; readable = r; same = refl; count = rw z (omega arith) }

  module _ (s : List ℕ) (i k : ℕ) (d : Pass stays L N n s₀ s i k) where
    rows_long : n ≤ length (rows_at L N s)
    rows_long =
        let c = d.readable.count in
        let l = (fitting_rows (shape_at L N) s d.readable.room).count in
        omega arith

    module _ (h : i < n) where
      next : take (n - i) (drop i (rows_at L N s)) ≡ row_at (shape_at L N) s i ∷ take (n - (i + 1)) (drop (i + 1) (rows_at L N s))
      next = rows_next n i (rows_at L N s) (zero_row (shape_at L N)) h rows_long

      goes : stays (row_at (shape_at L N) s i) ≡ false → Pass stays L N n s₀ s (i + 1) k
      goes e =
          let a = d.low in
          record {
            within = omega arith;
            low = omega arith;
            long = d.long;
            readable = d.readable;
            same = ap (with_rows (shape_at L N) s) (close_without stays (zero_row (shape_at L N)) k i n (rows_at L N s) h rows_long e) ∙ d.same;
            count = (rw (next, e) at d.count);
          }

      kept : stays (row_at (shape_at L N) s i) ≡ true
          → Pass stays L N n s₀ (with_rows (shape_at L N) s (moved L N s i k)) (i + 1) (k + 1)
      kept e =
          let a = d.low in
          let r = d.readable in
          let f = moved_fits L N n s i k r h a in
          let g = moved_rows L N n s i k r h a in
          let t = moved_behind L N n s i k r h a in
          let u : k + suc (length (filter stays (take (n - (i + 1)) (drop (i + 1) (rows_at L N s))))) ≡ length (filter stays (take n (rows_at L N s₀))) =
          (rw (next, e) at d.count) in
          record {
            within = omega arith;
            low = omega arith;
            long = length_with (shape_at L N) s r.room (moved L N s i k) f ∙ d.long;
            readable = moved_readable L N n s i k r h a;
            same = rw g (with_with (shape_at L N) s r.room (moved L N s i k) f (closed_up stays (zero_row (shape_at L N)) (k + 1) (i + 1) n (moved L N s i k))
                ∙ ap (with_rows (shape_at L N) s) (close_with stays (zero_row (shape_at L N)) k i n (rows_at L N s) a h rows_long e) ∙ d.same);
            count = rw (g, t) (omega arith);
          }

      -- a turn of the loop, in the terms of what it answers and leaves
      pub pass_on : (s' : List ℕ) (k' : ℕ) → k' ≡ cond (stays (row_at (shape_at L N) s i)) (k + 1) k
          → s' ≡ cond (stays (row_at (shape_at L N) s i)) (with_rows (shape_at L N) s (moved L N s i k)) s → Pass stays L N n s₀ s' (i + 1) k'
      pass_on s' k' ek es = rw (ek, es) (go (stays (row_at (shape_at L N) s i)) refl)
        where
          go : (t : Bool) → stays (row_at (shape_at L N) s i) ≡ t → Pass stays L N n s₀ (cond t (with_rows (shape_at L N) s (moved L N s i k)) s) (i + 1) (cond t (k + 1) k)
          go true e = kept e
          go false e = goes e

    -- after the last row: how many stay, and what clearing the freed ones leaves
    module _ (h : n ≤ i) where
      pub pass_count : k ≡ length (filter stays (take n (rows_at L N s₀)))
      pass_count =
          let z : n - i ≡ 0 = omega arith in
          let u : k + 0 ≡ length (filter stays (take n (rows_at L N s₀))) = (rw z at d.count) in
          omega arith

      pub pass_cleared : with_rows (shape_at L N) s (overwrite (rows_at L N s) k (replicate (n - k) (zero_row (shape_at L N))))
          ≡ with_rows (shape_at L N) s₀ (closed_up stays (zero_row (shape_at L N)) 0 0 n (rows_at L N s₀))
      pass_cleared =
          let a = d.low in
          let b = d.within in
          let e : i ≡ n = omega arith in
          ap (with_rows (shape_at L N) s) (close_end stays (zero_row (shape_at L N)) k n (rows_at L N s) (omega arith)) ∙ (rw e at d.same)
