-- The calls on a store: what was tested and read decides which answer it is.
use Prim.Native.Nat.{ℕ}
use mathlib.Core.Path.{◌≡◌}
use mathlib.Core.List.{List}
use mathlib.Core.Bool.{true, false}
use lib.Dec.{ltb}
use lib.ListN.{get_or}
use Rattle.willow.specs.declared.Refusal.TheVariants.{BadSheet}
use Rattle.willow.specs.Numbers.{Bytes}
use Rattle.willow.specs.Refusals.{refused, absent, value}
use Rattle.store_form.specs.Stores.{count_in, state_in}
use Rattle.store_form.specs.StoreTest.{is_store}
use Rattle.store_reading.specs.Held.{no_entry, entry_read}
use Rattle.store_reading.proofs.EntryAtLaws.{entries_many}

-- No store: 2.
module _ (s : List ℕ) (failed : is_store s ≡ false) where
  pub entry_bad : (i : ℕ) → refused BadSheet ≡ entry_read s i
  unfolding entry_read
  entry_bad i = rw failed

-- A store: entry i, or none past the last.
module _ (s : List ℕ) (stored : is_store s ≡ true) where
  module _ (b : Bytes s) (i : ℕ) where
    pub entry_none : ltb i (count_in s) ≡ false → absent ≡ entry_read s i
    unfolding entry_read
    entry_none h = rw (stored, entries_many s stored b, h)

    pub entry_there : ltb i (count_in s) ≡ true → value (get_or (state_in s).entries i no_entry) ≡ entry_read s i
    unfolding entry_read
    entry_there h = rw (stored, entries_many s stored b, h)
