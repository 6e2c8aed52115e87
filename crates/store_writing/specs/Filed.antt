-- What the writing of an offer that is taken leaves. Its entry stands here in namespace 0, since a row has none of its own.
use Rattle.std.specs.Prelude.{ℕ, List, length, take}
use Rattle.willow.specs.declared.Limits.{Limits}
use Rattle.willow.specs.Entries.{Entry}
use Rattle.willow.specs.Lists.{filter}
use Rattle.willow.specs.Numbers.{le}
use Rattle.number.specs.Overwriting.{overwrite}
use Rattle.sheet.specs.Rows.{Row, rows_of, zero_row}
use Rattle.store_form.specs.Stores.{store_shape, entry_row, count_place, held_place, let_go_place}
use Rattle.store_rows.specs.EntryRows.{sizes_of}
use Rattle.store_closing.specs.Filing.{stays_by, closed_up, put_at}

-- Of the first n rows those that an entry does not prune; and all rows once the others are taken out and its own is put in.
abbrev pub rows_left : Limits → ℕ → ℕ → Entry → List ℕ → List Row
rows_left L N n o s = filter (stays_by o) (take n (rows_of (store_shape (sizes_of L N)) s))

unfoldable pub filed_rows : Limits → ℕ → ℕ → ℕ → Entry → List ℕ → List Row
filed_rows L N n at o s =
    put_at at (length (rows_left L N n o s)) (entry_row L o)
    (closed_up (stays_by o) (zero_row (store_shape (sizes_of L N))) 0 0 n (rows_of (store_shape (sizes_of L N)) s))

-- The count and both totals written.
unfoldable pub with_counts : ℕ → ℕ → ℕ → List ℕ → List ℕ
with_counts n held let_go_lem s = overwrite (overwrite (overwrite s count_place (le 8 n)) held_place (le 8 held)) let_go_place (le 8 let_go_lem)
