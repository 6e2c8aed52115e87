-- What passes the test is a map: each row in use is the row of the valid rule read from it, and the buffer is the layout of its
-- header and of these rows.
use Prim.Native.Nat.{ℕ}
use mathlib.Core.Path.{◌≡◌, refl, sym, ◌∙◌, ap}
use mathlib.Core.List.{List, [], ◌∷◌, ◌++◌, map}
use mathlib.Core.Bool.{true}
use lib.ListN.{length, take, drop, length-map}
use Rattle.willow.specs.Lists.{All}
use Rattle.willow.specs.Numbers.{Bytes}
use Rattle.willow.proofs.ListLaws.{all_take}
use Rattle.number.specs.Records.{Sized}
use Rattle.sheet.specs.Cells.{cell_size_of}
use Rattle.sheet.specs.Rows.{Row, head, cell, Fitting, rows_of, sheet_length, sheet_bytes}
use Rattle.sheet.proofs.LayoutLaws.{numbers_first, layout_back}
use Rattle.sheet.proofs.RowLaws.{fitting_rows, fitting_take, rows_bytes}
use Rattle.map_form.specs.Maps.{ValidRule, MapSizes, map_numbers, map_head_size, map_shape, rule_row, header_of, map_layout, IsMap, sizes_in, count_in, rule_in, rules_in}
use Rattle.map_form.specs.MapTest.{row_fits, is_map}
use Rattle.map_form.proofs.MapTestLaws.{Passed, map_passed}
use Rattle.map_form.proofs.RuleLaws.{row_rule_valid, row_back}

-- ROWS that passed: their rules are valid, and these rules' rows are they.
pub record RulesRead (z : MapSizes) (rows : List Row) : Type 0 where
  pub valid : All (ValidRule z.limits) (map rule_in rows)
  pub back : map (rule_row z.limits) (map rule_in rows) ≡ rows

rules_read : (z : MapSizes) (rows : List Row)
    → Sized head map_head_size rows → Sized cell (cell_size_of z.limits) rows → All (λ r. Bytes (head r) × Bytes (cell r)) rows
    → All (λ r. row_fits z.limits r ≡ true) rows → RulesRead z rows
rules_read z [] h c b p = record { valid = tt; back = refl }
rules_read z (r ∷ rows) h c b p =
    let ih = rules_read z rows h.1 c.1 b.1 p.1 in
    record {
      valid = (row_rule_valid z.limits r h.0 c.0 b.0 p.0, ih.valid);
      back = rw (row_back z.limits r h.0 c.0 b.0 p.0, ih.back);
    }

-- A BUFFER THAT PASSED.
module _ (s : List ℕ) (bytes : Bytes s) (p : Passed s (sizes_in s) (count_in s)) where
  abbrev used : List Row
  used = take (count_in s) (rows_of (map_shape (sizes_in s)) s)

  pub used_fitting : Fitting (map_shape (sizes_in s)) (count_in s) used
  used_fitting =
      let z = map_shape (sizes_in s) in
      fitting_take z z.capacity (count_in s) (rows_of z s) (fitting_rows z s p.room) p.sizes.count

  pub used_read : RulesRead (sizes_in s) used
  used_read =
      let z = map_shape (sizes_in s) in
      let b = all_take (λ r. Bytes (head r) × Bytes (cell r)) (count_in s) (rows_of z s) (rows_bytes z s p.room bytes) in
      rules_read (sizes_in s) used used_fitting.heads used_fitting.cells b p.rows.rows

  pub rules_count : length (rules_in s) ≡ count_in s
  unfolding rules_in
  rules_count = length-map used rule_in ∙ used_fitting.count

  -- its layout
  pub read_layout : s ≡ map_layout (sizes_in s) (rules_in s) ++ drop (sheet_length (map_shape (sizes_in s))) s
  unfolding map_layout
  read_layout =
      let z = map_shape (sizes_in s) in
      let header = header_of (sizes_in s) (count_in s) in
      let first = numbers_first s map_numbers bytes p.long in
      layout_back z s p.room (count_in s) p.sizes.count p.rows.heads_zero p.rows.cells_zero header first
      ∙ ap (λ rows. sheet_bytes z header rows ++ drop (sheet_length z) s) (sym rows_are)
      ∙ ap (λ n. sheet_bytes z (header_of (sizes_in s) n) (map (rule_row (sizes_in s).limits) (rules_in s)) ++ drop (sheet_length z) s) (sym rules_count)
    where
      rows_are : map (rule_row (sizes_in s).limits) (rules_in s) ≡ used
      rows_are = unfold rules_in in used_read.back

  passed_map : IsMap s (sizes_in s) (rules_in s)
  passed_map = record {
    proper = record {
      limits_accepted = p.sizes.limits_accepted;
      capacity_accepted = p.sizes.capacity_accepted;
      count = rw rules_count p.sizes.count;
      rules_valid = unfold rules_in in used_read.valid;
    };
    rest = drop (sheet_length (map_shape (sizes_in s))) s;
    laid_out = read_layout;
  }

pub read : (s : List ℕ) → Bytes s → is_map s ≡ true → IsMap s (sizes_in s) (rules_in s)
read s bytes h = passed_map s bytes ((map_passed s).0 h)
