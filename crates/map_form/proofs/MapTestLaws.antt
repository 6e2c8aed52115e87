-- The test of a map, taken apart and put together again: what each of its tests says, of sizes z and a count n.
use Prim.Native.Nat.{ℕ, ◌+◌, ◌*◌, ◌-◌, ◌≤◌}
use mathlib.Core.Path.{◌≡◌}
use mathlib.Core.Logic.{◌↔◌}
use mathlib.Core.List.{List}
use mathlib.Core.Bool.{true}
use lib.ListN.{length, take, drop}
use borrow.Author.Tests.{leb-true, le-leb}
use Rattle.willow.specs.declared.Limits.{Limits}
use Rattle.willow.specs.Lists.{All}
use Rattle.willow.proofs.Bools.{both_true}
use Rattle.willow.proofs.LimitLaws.{limit_laws}
use Rattle.willow.proofs.ListLaws.{every_means}
use Rattle.number.specs.Overwriting.{all_zero}
use Rattle.sheet.specs.Rows.{Shape, Room, cells_from, sheet_length, rows_of}
use Rattle.map_form.specs.Maps.{MapSizes, map_numbers, map_shape, sizes_in, count_in}
use Rattle.map_form.specs.MapTest.{row_fits, rows_fit, sizes_fit, is_map, SizesPassed, MapPassed}

-- WHAT PASSED: rows, and all of it.
pub record RowsPassed (L : Limits) (z : Shape) (n : ℕ) (s : List ℕ) : Type 0 where
  pub rows : All (λ r. row_fits L r ≡ true) (take n (rows_of z s))
  pub heads_zero : all_zero (take (z.head_size * (z.capacity - n)) (drop (z.front + z.head_size * n) s)) ≡ true
  pub cells_zero : all_zero (take (z.cell_size * (z.capacity - n)) (drop (cells_from z + z.cell_size * n) s)) ≡ true

pub record Passed (s : List ℕ) (z : MapSizes) (n : ℕ) : Type 0 where
  pub long : 8 * map_numbers ≤ length s
  pub sizes : SizesPassed z n
  pub room : Room (map_shape z) s
  pub rows : RowsPassed z.limits (map_shape z) n s

pub sizes_passed : (z : MapSizes) (n : ℕ) → (sizes_fit z n ≡ true) ↔ SizesPassed z n
unfolding sizes_fit
sizes_passed z n = (to, from)
  where
    to : sizes_fit z n ≡ true → SizesPassed z n
    to h =
        let h₁ = both_true _ _ h in
        let h₂ = both_true _ _ h₁.1 in
        record {
          limits_accepted = (limit_laws.limits_means z.limits).0 h₁.0;
          capacity_accepted = (limit_laws.capacity_means z.capacity).0 h₂.0;
          count = leb-true n z.capacity h₂.1;
        }

    from : SizesPassed z n → sizes_fit z n ≡ true
    from p =
        rw ((limit_laws.limits_means z.limits).1 p.limits_accepted, (limit_laws.capacity_means z.capacity).1 p.capacity_accepted)
        (le-leb n z.capacity p.count)

pub rows_passed : (L : Limits) (z : Shape) (n : ℕ) (s : List ℕ) → (rows_fit L z n s ≡ true) ↔ RowsPassed L z n s
unfolding rows_fit
rows_passed L z n s = (to, from)
  where
    to : rows_fit L z n s ≡ true → RowsPassed L z n s
    to h =
        let h₁ = both_true _ _ h in
        let h₂ = both_true _ _ h₁.1 in
        record { rows = (every_means (row_fits L) (take n (rows_of z s))).0 h₁.0; heads_zero = h₂.0; cells_zero = h₂.1 }

    from : RowsPassed L z n s → rows_fit L z n s ≡ true
    from p = rw ((every_means (row_fits L) (take n (rows_of z s))).1 p.rows, p.heads_zero) p.cells_zero

pub map_passed : (s : List ℕ) → (is_map s ≡ true) ↔ Passed s (sizes_in s) (count_in s)
unfolding is_map
map_passed s = (to, from)
  where
    to : is_map s ≡ true → Passed s (sizes_in s) (count_in s)
    to h =
        let h₁ = both_true _ _ h in
        let h₂ = both_true _ _ h₁.1 in
        let h₃ = both_true _ _ h₂.1 in
        record {
          long = leb-true _ _ h₁.0;
          sizes = (sizes_passed (sizes_in s) (count_in s)).0 h₂.0;
          room = leb-true _ _ h₃.0;
          rows = (rows_passed (sizes_in s).limits (map_shape (sizes_in s)) (count_in s) s).0 h₃.1;
        }

    from : Passed s (sizes_in s) (count_in s) → is_map s ≡ true
    from p =
        rw (le-leb (8 * map_numbers) (length s) p.long, (sizes_passed (sizes_in s) (count_in s)).1 p.sizes, le-leb (sheet_length (map_shape (sizes_in s))) (length s) p.room)
        ((rows_passed (sizes_in s).limits (map_shape (sizes_in s)) (count_in s) s).1 p.rows)

-- What a map that was tested knows of itself.
pub map_known : (s : List ℕ) → is_map s ≡ true → MapPassed s
map_known s h =
    let p = (map_passed s).0 h in
    record { tested = h; long = p.long; sizes = p.sizes; room = p.room }
