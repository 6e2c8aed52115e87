-- The rows that the pass over a store carries, by their positions: they stand in an array, the nearest last.
use Rattle.std.specs.Prelude.{ℕ, zero, suc, ◌<◌, ◌≤◌, List, [], ◌∷◌, length, get_or}
use Rattle.willow.specs.Entries.{Entry}
use Rattle.store_rows.specs.declared.rows.StoreRows.{StoreRows}
use Rattle.store_rows.specs.HeldRows.{held_entry}

-- The entries of the first d positions, the latest first.
abbrev pub entries_at : StoreRows → List ℕ → ℕ → List Entry
entries_at r rows zero = []
entries_at r rows (suc d) = held_entry r (get_or rows d 0) ∷ entries_at r rows d

-- The array has d positions, and all of them are below i.
pub record Positions (rows : List ℕ) (d i : ℕ) : Type 0 where
  pub room : d ≤ length rows
  pub below : (k : ℕ) → k < d → get_or rows k 0 < i
