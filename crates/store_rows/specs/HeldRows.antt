-- The entries of a store's rows.
use Rattle.std.specs.Prelude.{ℕ, ◌≡◌, List, map, take}
use Rattle.willow.specs.Entries.{Entry}
use Rattle.sheet.specs.Rows.{Row, row_at, rows_of}
use Rattle.store_form.specs.Stores.{count_in, entry_in, sizes_in, store_shape}
use Rattle.store_rows.specs.declared.rows.StoreRows.{StoreRows}
use Rattle.store_rows.specs.declared.sizes.StoreSizes.{StoreSizes}
use Rattle.store_rows.specs.EntryRows.{row_entry, sizes_of}

-- Row i, and its entry.
abbrev pub held_row : StoreRows → ℕ → Row
held_row r i = row_at (store_shape (sizes_of r.sizes.limits r.sizes.capacity)) r.bytes.now i

abbrev pub held_entry : StoreRows → ℕ → Entry
held_entry r i = row_entry r.sizes.limits r.sizes.capacity r.bytes.now i

-- The entries of all rows in use.
abbrev pub held_entries : StoreRows → List Entry
held_entries r = map (entry_in 0) (take r.count (rows_of (store_shape (sizes_of r.sizes.limits r.sizes.capacity)) r.bytes.now))

-- Rows made of bytes, sizes and a count; and the rows of a sheet, by the numbers that stand in it.
abbrev pub MadeOf : StoreRows → List ℕ → StoreSizes → ℕ → Type 0
MadeOf r s z n = (r.bytes.now ≡ s) × ((r.sizes ≡ z) × (r.count ≡ n))

abbrev pub RowsOf : StoreRows → List ℕ → Type 0
RowsOf r s = (r.bytes.now ≡ s) × ((r.sizes.limits ≡ (sizes_in s).limits) × ((r.sizes.capacity ≡ (sizes_in s).capacity) × (r.count ≡ count_in s)))
