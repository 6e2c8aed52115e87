-- A row that may be read: that its path may be walked, and that a head and a path which were read from it make its entry.
use Prim.Native.Nat.{ℕ, ◌+◌, ◌*◌, ◌≤◌, ◌<◌}
use mathlib.Core.Path.{◌≡◌, sym, ◌∙◌, ap}
use mathlib.Core.Bool.{true}
use mathlib.Core.List.{List}
use native.Mathlib.Omega.{arith}
use lib.ListN.{length, take, drop}
use lib.Seq.{get_or-take, length-take-le, take_all}
use Rattle.willow.specs.declared.Limits.{Limits}
use Rattle.willow.specs.Answers.{path_in}
use Rattle.willow.specs.Lists.{All}
use Rattle.willow.specs.Numbers.{number_at}
use Rattle.willow.specs.Packed.{unpack, packed_count, Packed}
use Rattle.willow.proofs.AnswerLaws.{accepted_words}
use Rattle.willow.proofs.ListLaws.{every_means}
use Rattle.willow.proofs.PackedLaws.{unpack_count}
use Rattle.number.proofs.RecordLaws.{all_at}
use Rattle.packed.specs.Readable.{Readable}
use Rattle.entry.specs.declared.Head.{Head}
use Rattle.entry.specs.Heads.{entry_at}
use Rattle.sheet.specs.Cells.{used_bytes, used_part, cell_path, cell_fits}
use Rattle.sheet.specs.Rows.{Row, head, cell, zero_row, rows_of, row_at}
use Rattle.sheet.proofs.CellProofs.{CellTested, cell_tested, cell_packed}
use Rattle.sheet.proofs.RowLaws.{fitting_rows}
use Rattle.store_form.specs.Stores.{store_shape, sizes_in, count_in, entry_in}
use Rattle.store_form.specs.StoreTest.{is_store}
use Rattle.store_form.proofs.TestedLaws.{known}
use Rattle.store_rows.specs.EntryRows.{sizes_of, RowsReadable, row_entry}

-- THE ROWS OF A STORE that passed may be read.
pub store_readable : (s : List ℕ) → is_store s ≡ true → RowsReadable (sizes_in s).limits (sizes_in s).capacity (count_in s) s
store_readable s stored =
    let k = known s stored in
    record {
      limits_accepted = k.sizes.limits_accepted;
      capacity_accepted = k.sizes.capacity_accepted;
      room = k.room;
      count = k.sizes.count;
      cells = (every_means (λ r. cell_fits (sizes_in s).limits (cell r)) (take (count_in s) (rows_of (store_shape (sizes_in s)) s))).1 k.rows.cells_fit;
    }

-- the cells of the first n rows, one by one
pub cells_hold : (L : Limits) (N n : ℕ) (s : List ℕ) → RowsReadable L N n s → All (λ r. cell_fits L (cell r) ≡ true) (take n (rows_of (store_shape (sizes_of L N)) s))
cells_hold L N n s r = (every_means (λ x. cell_fits L (cell x)) (take n (rows_of (store_shape (sizes_of L N)) s))).0 r.cells

-- ROW i OF THOSE THAT MAY BE READ.
module _ (L : Limits) (N n : ℕ) (s : List ℕ) (i : ℕ) (r : RowsReadable L N n s) (h : i < n) where
  abbrev row : Row
  row = row_at (store_shape (sizes_of L N)) s i

  -- its head with its path makes its entry
  module _ (v : List ℕ) (e : v ≡ head row) where
    pub head_entry : (x : Head) → (x.subspace ≡ number_at v 0) × (x.timestamp ≡ number_at v 8) × (x.payload_length ≡ number_at v 16) × (x.digest ≡ drop 24 v)
        → entry_at 0 x (row_entry L N s i).path ≡ row_entry L N s i
    unfolding entry_in
    head_entry x f =
        let a = f.0 ∙ ap (λ l. number_at l 0) e in
        let b = f.1 ∙ ap (λ l. number_at l 8) e in
        let c = f.2 ∙ ap (λ l. number_at l 16) e in
        let d = f.3 ∙ ap (drop 24) e in
        λ t. record { namespace = 0; subspace = a t; path = cell_path (cell row); timestamp = b t; payload_length = c t; digest = d t }

  -- its cell holds a path
  pub row_tested : CellTested L (cell row)
  row_tested =
      let rows : List Row = rows_of (store_shape (sizes_of L N)) s in
      let none : Row = zero_row (store_shape (sizes_of L N)) in
      let f = (fitting_rows (store_shape (sizes_of L N)) s r.room).count in
      let k = r.count in
      let l = length-take-le n rows (omega arith) in
      let t = all_at (λ x. cell_fits L (cell x) ≡ true) (take n rows) i none (cells_hold L N n s r) (omega arith) in
      (cell_tested L (cell row)).0 (ap (λ x. cell_fits L (cell x)) (sym (get_or-take n rows i none h)) ∙ t)

  module _ (c : List ℕ) (e : c ≡ cell row) where
    pub cell_ready : (8 + 8 * number_at c 0 ≤ length c) × (used_bytes c ≤ length c)
    cell_ready = rw e (row_tested.table, row_tested.inside)

    pub cell_part : (p : List ℕ) → p ≡ used_part c → p ≡ used_part (cell row)
    cell_part p g = g ∙ ap used_part e

  -- that path, cut out of the cell, with its count: it may be walked, and it is the path of the row's entry
  module _ (p : List ℕ) (e : p ≡ used_part (cell row)) where
    pub path_packed : Packed p
    path_packed = rw e (cell_packed L (cell row) row_tested (accepted_words L r.limits_accepted))

    module _ (k : ℕ) (ek : k ≡ packed_count p) where
      pub path_readable : Readable p k
      path_readable = record { packed = path_packed; within = omega arith }

      pub path_entry : path_in p k ≡ (row_entry L N s i).path
      unfolding path_in cell_path entry_in
      path_entry = let c = unpack_count p in take_all k (unpack p) (omega arith) ∙ ap unpack e
