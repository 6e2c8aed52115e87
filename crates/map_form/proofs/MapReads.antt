-- A proper map that is laid out is read back, and passes the test: its numbers stand in the header, its rows are those of its
-- rules, and what is unused is zero.
use Prim.Native.Nat.{ℕ, suc, ◌*◌, ◌≤◌, ◌<◌}
use mathlib.Core.Path.{◌≡◌, refl, sym, ◌∙◌, ap, subst}
use mathlib.Core.List.{List, [], ◌∷◌, ◌++◌, map}
use mathlib.Core.Bool.{true}
use native.Mathlib.Omega.{arith}
use lib.ListN.{length, take, get_or}
use Rattle.willow.specs.Limits.{max_word, Words}
use Rattle.willow.specs.Lists.{All}
use Rattle.willow.specs.Numbers.{number_at}
use Rattle.willow.proofs.AnswerLaws.{accepted_words}
use Rattle.sheet.specs.Rows.{Fitting, rows_of}
use Rattle.sheet.proofs.LayoutLaws.{layout_number, layout_room, layout_used, layout_heads_zero, layout_cells_zero}
use Rattle.map_form.specs.Maps.{Rule, ValidRule, MapSizes, map_shape, rule_row, header_of, map_layout, ProperMap, IsMap, sizes_in, count_in, rule_in, rules_in}
use Rattle.map_form.specs.MapTest.{row_fits, is_map}
use Rattle.map_form.proofs.MapTestLaws.{Passed, map_passed}
use Rattle.map_form.proofs.RuleLaws.{rule_head_length, rule_cell_length, rule_back, rule_fits}

-- RULES AND THEIR ROWS.
module _ (z : MapSizes) (w : Words z.limits) where
  pub rows_fitting : (rules : List Rule) → All (ValidRule z.limits) rules → Fitting (map_shape z) (length rules) (map (rule_row z.limits) rules)
  rows_fitting [] v = record { heads = tt; cells = tt; count = refl }
  rows_fitting (r ∷ rules) v =
      let ih = rows_fitting rules v.1 in
      record {
        heads = (rule_head_length z.limits r, ih.heads);
        cells = (rule_cell_length z.limits w r v.0, ih.cells);
        count = ap suc ih.count;
      }

  pub rows_fit_lem : (rules : List Rule) → All (ValidRule z.limits) rules → All (λ r. row_fits z.limits r ≡ true) (map (rule_row z.limits) rules)
  rows_fit_lem [] v = tt
  rows_fit_lem (r ∷ rules) v = (rule_fits z.limits w r v.0, rows_fit_lem rules v.1)

  pub rows_read : (rules : List Rule) → All (ValidRule z.limits) rules → map rule_in (map (rule_row z.limits) rules) ≡ rules
  rows_read [] v = refl
  rows_read (r ∷ rules) v = rw (rule_back z.limits w r v.0, rows_read rules v.1)

-- A MAP LAID OUT.
module _ (z : MapSizes) (rules : List Rule) (rest : List ℕ) (p : ProperMap z rules) where
  abbrev bytes : List ℕ
  bytes = map_layout z rules ++ rest

  words : Words z.limits
  words = accepted_words z.limits p.limits_accepted

  pub fitting : Fitting (map_shape z) (length rules) (map (rule_row z.limits) rules)
  fitting = rows_fitting z words rules p.rules_valid

  header_words : All (λ n. n ≤ max_word) (header_of z (length rules))
  header_words =
      let w = words in
      let c = p.capacity_accepted in
      let n = p.count in
      (w.mcl_word, (w.mcc_word, (w.mpl_word, (omega arith, (omega arith, tt)))))

  -- number i of its header
  pub header_number : (i : ℕ) → i < 5 → number_at bytes (8 * i) ≡ get_or (header_of z (length rules)) i 0
  unfolding map_layout
  header_number i h =
      layout_number (map_shape z) (header_of z (length rules)) (length rules) (map (rule_row z.limits) rules) rest refl fitting p.count i header_words h

  pub laid_sizes : sizes_in bytes ≡ z
  laid_sizes = λ i. record {
    limits = record { mcl = mcl i; mcc = mcc i; mpl = mpl i };
    capacity = capacity i;
  }
    where
      mcl : number_at bytes 0 ≡ z.limits.mcl
      mcl = header_number 0 (omega arith)

      mcc : number_at bytes 8 ≡ z.limits.mcc
      mcc = header_number 1 (omega arith)

      mpl : number_at bytes 16 ≡ z.limits.mpl
      mpl = header_number 2 (omega arith)

      capacity : number_at bytes 24 ≡ z.capacity
      capacity = header_number 3 (omega arith)

  pub laid_count : count_in bytes ≡ length rules
  laid_count = header_number 4 (omega arith)

  -- its rows in use
  pub laid_rows : take (length rules) (rows_of (map_shape z) bytes) ≡ map (rule_row z.limits) rules
  unfolding map_layout
  laid_rows = layout_used (map_shape z) (header_of z (length rules)) (length rules) (map (rule_row z.limits) rules) rest refl fitting p.count

  pub laid_rules : rules_in bytes ≡ rules
  unfolding rules_in
  laid_rules =
      ap (λ y. map rule_in (take (count_in bytes) (rows_of (map_shape y) bytes))) laid_sizes
      ∙ ap (λ n. map rule_in (take n (rows_of (map_shape z) bytes))) laid_count
      ∙ ap (map rule_in) laid_rows
      ∙ rows_read z words rules p.rules_valid

  pub laid_passed : Passed bytes z (length rules)
  unfolding map_layout
  laid_passed =
      let header = header_of z (length rules) in
      let rows = map (rule_row z.limits) rules in
      let room = layout_room (map_shape z) header (length rules) rows rest refl fitting p.count in
      record {
        long = omega arith;
        sizes = record { limits_accepted = p.limits_accepted; capacity_accepted = p.capacity_accepted; count = p.count };
        room = room;
        rows = record {
          rows = rw laid_rows (rows_fit_lem z words rules p.rules_valid);
          heads_zero = layout_heads_zero (map_shape z) header (length rules) rows rest refl fitting p.count;
          cells_zero = layout_cells_zero (map_shape z) header (length rules) rows rest refl fitting p.count;
        };
      }

-- A BUFFER that a map's layout begins.
module _ (s : List ℕ) (z : MapSizes) (rules : List Rule) (m : IsMap s z rules) where
  pub sizes_back : sizes_in s ≡ z
  sizes_back = rw m.laid_out (laid_sizes z rules m.rest m.proper)

  pub count_back : count_in s ≡ length rules
  count_back = rw m.laid_out (laid_count z rules m.rest m.proper)

  pub rules_back : rules_in s ≡ rules
  rules_back = rw m.laid_out (laid_rules z rules m.rest m.proper)

  pub passes : is_map s ≡ true
  passes =
      let p : Passed s z (length rules) = rw m.laid_out (laid_passed z rules m.rest m.proper) in
      (map_passed s).1 (subst (λ y. Passed s y (count_in s)) (sym sizes_back) (subst (Passed s z) (sym count_back) p))
