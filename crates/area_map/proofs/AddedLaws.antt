-- A rule behind the others: in a map that is laid out, its row in the first unused place and the number counted up leave the
-- layout of one rule more.
use Prim.Native.Nat.{ℕ, ◌+◌, ◌≤◌, ◌<◌}
use mathlib.Core.Path.{◌≡◌, refl, sym, ◌∙◌, ap}
use mathlib.Core.List.{List, [], ◌∷◌, ◌++◌, map, map-append}
use mathlib.Core.Bool.{true}
use native.Mathlib.Omega.{arith}
use lib.ListN.{length, drop, length-append}
use Rattle.willow.specs.Numbers.{Bytes, le}
use Rattle.willow.specs.Packed.{pack}
use Rattle.number.specs.Overwriting.{overwrite}
use Rattle.sheet.specs.Cells.{cell_size_of}
use Rattle.sheet.specs.Rows.{Fitting, Row, head, cell, rows_of, sheet_bytes, sheet_length, with_rows}
use Rattle.sheet.proofs.CellProofs.{path_cell_length}
use Rattle.sheet.proofs.LayoutLaws.{layout_room, layout_row_added, layout_number_put}
use Rattle.sheet.proofs.RowLaws.{fitting_append, fitting_one, over_row}
use Rattle.map_form.specs.Maps.{MapSizes, map_shape, Rule, rule_row, header_of, map_layout, ProperMap, sizes_in, count_in, rules_in}
use Rattle.map_form.specs.MapTest.{is_map}
use Rattle.map_form.proofs.MapReads.{fitting}
use Rattle.map_form.proofs.MapSound.{rules_count, read_layout, read}
use Rattle.map_form.proofs.MapTestLaws.{map_passed}
use Rattle.map_form.proofs.RuleLaws.{rule_head_length}
use Rattle.map_law.specs.Insertions.{with_rules}
use Rattle.map_putting.specs.PutRows.{with_row}

-- the header with another number of rows
header_counted : (z : MapSizes) (n m : ℕ) → overwrite (header_of z n) 4 (m ∷ []) ≡ header_of z m
unfolding overwrite
header_counted z n m = refl

pub rule_cell_size : (z : MapSizes) (r : Rule) → length (pack r.area.path) ≤ cell_size_of z.limits
    → length (cell (rule_row z.limits r)) ≡ cell_size_of z.limits
unfolding rule_row
rule_cell_size z r fits = path_cell_length (cell_size_of z.limits) r.area.path fits

-- A MAP LAID OUT.
module _ (z : MapSizes) (rules : List Rule) (rest : List ℕ) (p : ProperMap z rules) (r : Rule)
    (free : length rules < z.capacity) (fits : length (pack r.area.path) ≤ cell_size_of z.limits) where
  abbrev row : Row
  row = rule_row z.limits r

  abbrev rows : List Row
  rows = map (rule_row z.limits) rules

  -- its rows with one more
  row_added : with_rows (map_shape z) (sheet_bytes (map_shape z) (header_of z (length rules)) rows ++ rest)
      (overwrite (rows_of (map_shape z) (sheet_bytes (map_shape z) (header_of z (length rules)) rows ++ rest)) (length rules) (row ∷ []))
      ≡ sheet_bytes (map_shape z) (header_of z (length rules)) (rows ++ (row ∷ [])) ++ rest
  row_added =
      let n : ℕ = length rules in
      let numbers : List ℕ = header_of z n in
      let f = fitting z rules rest p in
      let l = rule_head_length z.limits r in
      let m = rule_cell_size z r fits in
      let room = layout_room (map_shape z) numbers n rows rest refl f p.count in
      sym (over_row (map_shape z) (sheet_bytes (map_shape z) numbers rows ++ rest) room n (head row) (cell row) l m free)
      ∙ layout_row_added (map_shape z) numbers n rows rest refl f p.count (head row) (cell row) l m free

  rows_more : Fitting (map_shape z) (length rules + 1) (rows ++ (row ∷ []))
  rows_more =
      fitting_append (map_shape z) (length rules) 1 rows (row ∷ []) (fitting z rules rest p)
      (fitting_one (map_shape z) (head row) (cell row) (rule_head_length z.limits r) (rule_cell_size z r fits))

  pub laid_added : with_row z (map_layout z rules ++ rest) (length rules) r ≡ map_layout z (rules ++ (r ∷ [])) ++ rest
  unfolding with_row map_layout
  laid_added =
      let n : ℕ = length rules in
      let more : length (rules ++ (r ∷ [])) ≡ n + 1 = length-append rules (r ∷ []) in
      let all : map (rule_row z.limits) (rules ++ (r ∷ [])) ≡ rows ++ (row ∷ []) = map-append (rule_row z.limits) rules (r ∷ []) in
      ap (λ b. overwrite b 32 (le 8 (n + 1))) row_added
      ∙ layout_number_put (map_shape z) (header_of z n) (n + 1) (rows ++ (row ∷ [])) rest refl rows_more (omega arith) 4 (n + 1) (omega arith)
      ∙ rw (header_counted z n (n + 1), more, all)

-- A MAP THAT PASSED ITS TEST.
pub rule_added : (s : List ℕ) → Bytes s → is_map s ≡ true → (r : Rule) → count_in s < (sizes_in s).capacity
    → length (pack r.area.path) ≤ cell_size_of (sizes_in s).limits → with_row (sizes_in s) s (count_in s) r ≡ with_rules s (rules_in s ++ (r ∷ []))
rule_added s bytes h r free fits =
    let p = (map_passed s).0 h in
    let m = read s bytes h in
    let n = rules_count s bytes p in
    let z : MapSizes = sizes_in s in
    ap (λ t. with_row z t (count_in s) r) (read_layout s bytes p)
    ∙ ap (λ k. with_row z (map_layout z (rules_in s) ++ drop (sheet_length (map_shape z)) s) k r) (sym n)
    ∙ laid_added z (rules_in s) (drop (sheet_length (map_shape z)) s) m.proper r (omega arith) fits
