-- The entries of a store's rows, one by one, and from one of them on.
use Rattle.std.proofs.Common.{◌≡◌, ℕ, ◌+◌, ◌≤◌, ◌<◌, List, [], ◌∷◌, length, get_or, take, drop, ap, ◌∙◌, arith, add-one, length-take-le, get_or-take, drop-cons}
use lib.ListN.{length-map, drop_of_length-le, get_or-map}
use Rattle.sheet.specs.Rows.{Row, Shape, zero_row, rows_of}
use Rattle.sheet.proofs.RowLaws.{fitting_rows}
use Rattle.store_form.specs.Stores.{store_shape, entry_in}
use Rattle.store_rows.specs.declared.rows.StoreRows.{StoreRows}
use Rattle.store_rows.specs.EntryRows.{sizes_of}
use Rattle.store_rows.specs.HeldRows.{held_entries, held_entry}

module _ (r : StoreRows) where
  abbrev shape : Shape
  shape = store_shape (sizes_of r.sizes.limits r.sizes.capacity)

  abbrev used : List Row
  used = take r.count (rows_of shape r.bytes.now)

  pub held_count : length (held_entries r) ≡ r.count
  held_count =
      let f = (fitting_rows shape r.bytes.now r.readable.room).count in
      let k = r.readable.count in
      length-map used (entry_in 0) ∙ length-take-le r.count (rows_of shape r.bytes.now) (omega arith)

  pub held_end : (i : ℕ) → r.count ≤ i → drop i (held_entries r) ≡ []
  held_end i h = let l = held_count in drop_of_length-le (held_entries r) {i = i} (omega arith)

  module _ (i : ℕ) (h : i < r.count) where
    pub held_at : get_or (held_entries r) i (entry_in 0 (zero_row shape)) ≡ held_entry r i
    held_at = get_or-map (entry_in 0) used i (zero_row shape) ∙ ap (entry_in 0) (get_or-take r.count (rows_of shape r.bytes.now) i (zero_row shape) h)

    pub held_next : drop i (held_entries r) ≡ held_entry r i ∷ drop (i + 1) (held_entries r)
    held_next = let l = held_count in drop-cons (held_entries r) i (entry_in 0 (zero_row shape)) (omega arith) ∙ rw (held_at, add-one i)
