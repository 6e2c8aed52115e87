-- The test of a lent store, as computed, and what it means: refusal 2.
use Rattle.std.specs.Prelude.{ℕ, ◌+◌, ◌*◌, ◌-◌, ◌≡◌, ◌↔◌, List, [], map, Bool, true, ◌&&◌, cond, eqb, leb, length, take, drop}
use Rattle.std.proofs.Math.Option.{Option, none, some}
use Rattle.willow.specs.declared.Limits.{Limits}
use Rattle.willow.specs.declared.Refusal.{Refusal}
use Rattle.willow.specs.declared.Refusal.TheVariants.{BadSheet}
use Rattle.willow.specs.Entries.{Entry}
use Rattle.willow.specs.Limits.{accepted_limits, accepted_capacity, max_word}
use Rattle.willow.specs.Lists.{every}
use Rattle.willow.specs.Numbers.{Bytes}
use Rattle.willow.specs.Store.{Sizes, State, payloads}
use Rattle.number.specs.Overwriting.{all_zero}
use Rattle.sheet.specs.Cells.{cell_fits}
use Rattle.sheet.specs.Rows.{Shape, cell, rows_of, cells_from, sheet_length}
use Rattle.store_form.specs.Apart.{ascends, clear_from}
use Rattle.store_form.specs.Stores.{store_numbers, store_shape, IsStore, sizes_in, count_in, held_in, let_go_in, entry_in, state_in}

-- The rows in use: their cells hold paths, their entries ascend, none prunes another, their payload lengths are the held bytes; and
-- the other rows are zero.
unfoldable pub entries_fit : ℕ → List Entry → Bool
entries_fit held es = ascends es && (clear_from [] es && eqb (payloads es) held)

unfoldable pub rows_fit : Limits → Shape → ℕ → ℕ → List ℕ → Bool
rows_fit L z n held s =
    every (λ r. cell_fits L (cell r)) (take n (rows_of z s))
    && (entries_fit held (map (entry_in 0) (take n (rows_of z s)))
    && (all_zero (take (z.head_size * (z.capacity - n)) (drop (z.front + z.head_size * n) s))
    && all_zero (take (z.cell_size * (z.capacity - n)) (drop (cells_from z + z.cell_size * n) s))))

unfoldable pub sizes_fit : Sizes → ℕ → ℕ → ℕ → Bool
sizes_fit z n held let_go_lem =
    accepted_limits z.limits && (accepted_capacity z.capacity && (leb n z.capacity && leb (held + let_go_lem) max_word))

-- THE TEST, in the order of the code.
unfoldable pub is_store : List ℕ → Bool
is_store s =
    leb (8 * store_numbers) (length s)
    && (sizes_fit (sizes_in s) (count_in s) (held_in s) (let_go_in s)
    && (leb (sheet_length (store_shape (sizes_in s))) (length s)
    && rows_fit (sizes_in s).limits (store_shape (sizes_in s)) (count_in s) (held_in s) s))

-- "2 BadSheet: a lent sheet is too short, breaks its layout below, or holds sizes over those bounds."
abbrev pub store_refusal : List ℕ → Option Refusal
store_refusal s = cond (is_store s) none (some BadSheet)

-- WHAT IT MEANS. Refusal 2 exactly if no proper store's layout begins the buffer; and where one does, reading gives it back. The
-- premise is that a buffer holds bytes, as an empty one does.
pub record StoreReading : Type 0 where
  pub passes : (s : List ℕ) (z : Sizes) (t : State) → IsStore s z t → is_store s ≡ true
  pub read : (s : List ℕ) → Bytes s → is_store s ≡ true → IsStore s (sizes_in s) (state_in s)
  pub sizes_back : (s : List ℕ) (z : Sizes) (t : State) → IsStore s z t → sizes_in s ≡ z
  pub state_back : (s : List ℕ) (z : Sizes) (t : State) → IsStore s z t → state_in s ≡ t
  pub refused_exactly : (s : List ℕ) → Bytes s
      → (store_refusal s ≡ some BadSheet) ↔ ((z : Sizes) (t : State) → IsStore s z t → ⊥)
