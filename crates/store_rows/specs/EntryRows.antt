-- What the functions on rows take for granted.
use Rattle.std.specs.Prelude.{ℕ, ◌≤◌, ◌≡◌, true, List, take}
use Rattle.willow.specs.declared.Limits.{Limits}
use Rattle.willow.specs.Entries.{Entry}
use Rattle.willow.specs.Limits.{Accepted, max_capacity}
use Rattle.willow.specs.Lists.{every}
use Rattle.willow.specs.Store.{Sizes}
use Rattle.sheet.specs.Cells.{cell_fits}
use Rattle.sheet.specs.Rows.{cell, Room, rows_of, row_at}
use Rattle.store_form.specs.Stores.{store_shape, entry_in}

-- The shape of a store with these limits and this capacity: the namespace plays no part in it.
abbrev pub sizes_of : Limits → ℕ → Sizes
sizes_of L N = record { limits = L; capacity = N; namespace = 0 }

-- A sheet of accepted sizes has room for its rows, and the first n of them hold paths.
pub record RowsReadable (L : Limits) (N n : ℕ) (s : List ℕ) : Type 0 where
  pub limits_accepted : Accepted L
  pub capacity_accepted : N ≤ max_capacity
  pub room : Room (store_shape (sizes_of L N)) s
  pub count : n ≤ N
  pub cells : every (λ r. cell_fits L (cell r)) (take n (rows_of (store_shape (sizes_of L N)) s)) ≡ true

-- Entry i, of no namespace.
abbrev pub row_entry : Limits → ℕ → List ℕ → ℕ → Entry
row_entry L N s i = entry_in 0 (row_at (store_shape (sizes_of L N)) s i)
