-- The test of a lent map, as computed, and what it means: refusal 2.
use Rattle.std.specs.Prelude.{ℕ, ◌+◌, ◌*◌, ◌-◌, ◌≤◌, ◌≡◌, ◌↔◌, List, Bool, true, ◌&&◌, cond, eqb, leb, length, take, drop}
use Rattle.std.proofs.Math.Option.{Option, none, some}
use Rattle.willow.specs.declared.Limits.{Limits}
use Rattle.willow.specs.declared.Refusal.{Refusal}
use Rattle.willow.specs.declared.Refusal.TheVariants.{BadSheet}
use Rattle.willow.specs.Limits.{Accepted, accepted_limits, accepted_capacity, max_capacity}
use Rattle.willow.specs.Lists.{every}
use Rattle.willow.specs.Numbers.{Bytes, number_at}
use Rattle.number.specs.Overwriting.{all_zero}
use Rattle.sheet.specs.Cells.{cell_fits}
use Rattle.sheet.specs.Rows.{Shape, Room, Row, head, cell, rows_of, cells_from, sheet_length}
use Rattle.map_form.specs.Maps.{MapSizes, map_numbers, map_shape, Rule, IsMap, sizes_in, count_in, rules_in}

-- A kind that stands in a sheet: 0 with the number 0 beside it, or 1.
abbrev pub kind_fits : ℕ → ℕ → Bool
kind_fits kind n = cond (eqb kind 0) (eqb n 0) (eqb kind 1)

unfoldable pub head_fits : List ℕ → Bool
head_fits h = kind_fits (number_at h 0) (number_at h 8) && kind_fits (number_at h 24) (number_at h 32)

unfoldable pub row_fits : Limits → Row → Bool
row_fits L r = head_fits (head r) && cell_fits L (cell r)

-- The rows in use fit, and the others are zero.
unfoldable pub rows_fit : Limits → Shape → ℕ → List ℕ → Bool
rows_fit L z n s =
    every (row_fits L) (take n (rows_of z s))
    && (all_zero (take (z.head_size * (z.capacity - n)) (drop (z.front + z.head_size * n) s))
    && all_zero (take (z.cell_size * (z.capacity - n)) (drop (cells_from z + z.cell_size * n) s)))

unfoldable pub sizes_fit : MapSizes → ℕ → Bool
sizes_fit z n = accepted_limits z.limits && (accepted_capacity z.capacity && leb n z.capacity)

-- THE TEST, in the order of the code.
unfoldable pub is_map : List ℕ → Bool
is_map s =
    leb (8 * map_numbers) (length s)
    && (sizes_fit (sizes_in s) (count_in s)
    && (leb (sheet_length (map_shape (sizes_in s))) (length s)
    && rows_fit (sizes_in s).limits (map_shape (sizes_in s)) (count_in s) s))

-- "2 BadSheet: a lent sheet is too short, breaks its layout below, or holds sizes over those bounds."
abbrev pub map_refusal : List ℕ → Option Refusal
map_refusal s = cond (is_map s) none (some BadSheet)

-- What is known of bytes that passed: their sizes are within the bounds, and there is room for a map of these.
pub record SizesPassed (z : MapSizes) (n : ℕ) : Type 0 where
  pub limits_accepted : Accepted z.limits
  pub capacity_accepted : z.capacity ≤ max_capacity
  pub count : n ≤ z.capacity

pub record MapPassed (s : List ℕ) : Type 0 where
  pub tested : is_map s ≡ true
  pub long : 8 * map_numbers ≤ length s
  pub sizes : SizesPassed (sizes_in s) (count_in s)
  pub room : Room (map_shape (sizes_in s)) s

-- WHAT IT MEANS. Refusal 2 exactly if no proper map's layout begins the buffer; and where one does, reading gives it back. The
-- premise is that a buffer holds bytes, as an empty one does.
pub record MapReading : Type 0 where
  pub passes : (s : List ℕ) (z : MapSizes) (rules : List Rule) → IsMap s z rules → is_map s ≡ true
  pub read : (s : List ℕ) → Bytes s → is_map s ≡ true → IsMap s (sizes_in s) (rules_in s)
  pub sizes_back : (s : List ℕ) (z : MapSizes) (rules : List Rule) → IsMap s z rules → sizes_in s ≡ z
  pub rules_back : (s : List ℕ) (z : MapSizes) (rules : List Rule) → IsMap s z rules → rules_in s ≡ rules
  pub refused_exactly : (s : List ℕ) → Bytes s
      → (map_refusal s ≡ some BadSheet) ↔ ((z : MapSizes) (rules : List Rule) → IsMap s z rules → ⊥)
