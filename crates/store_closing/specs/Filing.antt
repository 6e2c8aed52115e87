-- What filing does to a store's rows: those that an offer prunes are taken out, the others close up, the freed ones are cleared, and
-- the offer's row is put in.
use Rattle.std.specs.Prelude.{ℕ, ◌+◌, ◌-◌, Bool, not, List, ◌∷◌, ◌++◌, length, take, drop, replicate}
use Rattle.willow.specs.Entries.{Entry, prunes}
use Rattle.willow.specs.Lists.{filter}
use Rattle.sheet.specs.Rows.{Row}
use Rattle.store_form.specs.Stores.{entry_in}

-- A row that an entry of no namespace does not prune.
abbrev pub stays_by : Entry → Row → Bool
stays_by o r = not (prunes o (entry_in 0 r))

-- The rows where the first k are done with, those from i to n are to be looked at, and what goes is cleared.
unfoldable pub closed_up : (Row → Bool) → Row → ℕ → ℕ → ℕ → List Row → List Row
closed_up stays zero k i n rows =
    take k rows
    ++ (filter stays (take (n - i) (drop i rows))
    ++ (replicate (n - (k + length (filter stays (take (n - i) (drop i rows))))) zero
    ++ drop n rows))

-- A row put in at i, where n are in use and the one behind them is free.
unfoldable pub put_at : {A : Type 0} → ℕ → ℕ → A → List A → List A
put_at i n x rows = take i rows ++ (x ∷ (take (n - i) (drop i rows) ++ drop (n + 1) rows))
