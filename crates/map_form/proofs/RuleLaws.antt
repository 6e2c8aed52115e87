-- A rule and its row. The head is six numbers, of which two pairs are a kind and the number beside it; the cell is that of the
-- rule's path. A valid rule is read back from its row, and a row that passes the test is the row of the rule read from it.
use Prim.Native.Nat.{ℕ, ◌+◌, ◌*◌, ◌≤◌, ◌<◌}
use mathlib.Core.Path.{◌≡◌, refl, sym, ◌∙◌, ap}
use mathlib.Core.Logic.{◌⊎◌, inl, inr}
use mathlib.Core.List.{[], append-nil}
use mathlib.Core.Bool.{Bool, true, false, cond}
use native.Mathlib.Omega.{arith}
use lib.Dec.{eqb}
use lib.ListN.{length, get_or}
use lib.Seq.{take_all}
use borrow.Author.Tests.{eqb-true}
use Rattle.willow.specs.declared.AreaSubspace.{AreaSubspace}
use Rattle.willow.specs.declared.AreaSubspace.TheVariants.{Any, Id}
use Rattle.willow.specs.declared.Limits.{Limits}
use Rattle.willow.specs.Areas.{subspace_kind, subspace_value, SubspaceWord}
use Rattle.willow.specs.Limits.{max_word, Words}
use Rattle.willow.specs.Lists.{All}
use Rattle.willow.specs.Numbers.{Bytes, le, number_at}
use Rattle.willow.specs.Packed.{pack}
use Rattle.willow.specs.Ranges.{End, closed, endless, end_kind, end_value, EndHas}
use Rattle.willow.proofs.Bools.{both_true, true_both}
use Rattle.willow.proofs.NumberLaws.{number_word}
use Rattle.number.specs.Records.{laid}
use Rattle.number.proofs.RecordLaws.{number_laid, numbers_at}
use Rattle.sheet.specs.Cells.{cell_size_of, path_cell, cell_path, cell_fits}
use Rattle.sheet.specs.Rows.{Row, head, cell}
use Rattle.sheet.proofs.CellProofs.{path_cell_length, cell_room, cell_tested, cell_valid, cell_whole, path_cell_path, path_cell_fits}
use Rattle.sheet.proofs.LayoutLaws.{length_numbers, numbers_first}
use Rattle.map_form.specs.Maps.{Rule, ValidRule, map_head_size, rule_numbers, rule_row, subspace_at, end_at, rule_in}
use Rattle.map_form.specs.MapTest.{kind_fits, head_fits, row_fits}

-- KINDS. A kind that fits is 0 with the number 0, or 1:
kind_cases : (kind n : ℕ) → kind_fits kind n ≡ true → ((kind ≡ 0) × (n ≡ 0)) ⊎ (kind ≡ 1)
kind_cases kind n h = go (eqb kind 0) refl h
  where
    go : (b : Bool) → eqb kind 0 ≡ b → cond b (eqb n 0) (eqb kind 1) ≡ true → ((kind ≡ 0) × (n ≡ 0)) ⊎ (kind ≡ 1)
    go true e k = inl (eqb-true kind 0 e, eqb-true n 0 k)
    go false e k = inr (eqb-true kind 1 k)

-- what it stands for has this kind and this number; both stand for subspaces and for ends
record Stands {A : Type 0} (kind_of value_of : A → ℕ) (Word : A → Type 0) (kind n : ℕ) (x : A) : Type 0 where
  same_kind : kind_of x ≡ kind
  same_value : value_of x ≡ n
  word : n ≤ max_word → Word x

subspace_stands : (kind n : ℕ) → kind_fits kind n ≡ true → Stands subspace_kind subspace_value SubspaceWord kind n (subspace_at kind n)
subspace_stands kind n h = elim (kind_cases kind n h) [
  | inl e ↦ rw (e.0, e.1) (record { same_kind = refl; same_value = refl; word = λ w. tt })
  | inr e ↦ rw e (record { same_kind = refl; same_value = refl; word = λ w. w })
]

end_stands : (kind n : ℕ) → kind_fits kind n ≡ true → Stands end_kind end_value (EndHas (λ m. m ≤ max_word)) kind n (end_at kind n)
end_stands kind n h = elim (kind_cases kind n h) [
  | inl e ↦ rw (e.0, e.1) (record { same_kind = refl; same_value = refl; word = λ w. tt })
  | inr e ↦ rw e (record { same_kind = refl; same_value = refl; word = λ w. w })
]

-- the kind and number of a subspace and of an end fit, and stand for it
record Numbered {A : Type 0} (kind_of value_of : A → ℕ) (at : ℕ → ℕ → A) (x : A) : Type 0 where
  fits : kind_fits (kind_of x) (value_of x) ≡ true
  back : at (kind_of x) (value_of x) ≡ x
  kind_word : kind_of x ≤ max_word

subspace_numbered : (a : AreaSubspace) → Numbered subspace_kind subspace_value subspace_at a
subspace_numbered Any = record { fits = refl; back = refl; kind_word = omega arith }
subspace_numbered (Id i) = record { fits = refl; back = refl; kind_word = omega arith }

end_numbered : (e : End ℕ) → Numbered end_kind end_value end_at e
end_numbered (closed n) = record { fits = refl; back = refl; kind_word = omega arith }
end_numbered endless = record { fits = refl; back = refl; kind_word = omega arith }

subspace_value_word : (a : AreaSubspace) → SubspaceWord a → subspace_value a ≤ max_word
subspace_value_word Any w = omega arith
subspace_value_word (Id i) w = w

end_value_word : (e : End ℕ) → EndHas (λ m. m ≤ max_word) e → end_value e ≤ max_word
end_value_word (closed n) w = w
end_value_word endless w = omega arith

-- THE ROW OF A VALID RULE.
pub rule_head_length : (L : Limits) (r : Rule) → length (head (rule_row L r)) ≡ map_head_size
unfolding rule_row
rule_head_length L r = length_numbers (rule_numbers r)

module _ (L : Limits) (w : Words L) (r : Rule) (v : ValidRule L r) where
  rule_words : All (λ n. n ≤ max_word) (rule_numbers r)
  rule_words =
      let a = v.area_valid in
      let s = (subspace_numbered r.area.subspace).kind_word in
      let e = (end_numbered r.area.times.end).kind_word in
      (s, (subspace_value_word r.area.subspace a.subspace_word, (a.start_word, (e, (end_value_word r.area.times.end a.end_word, (v.value_word, tt))))))

  -- number i of its head
  rule_number : (i : ℕ) → i < 6 → number_at (head (rule_row L r)) (8 * i) ≡ get_or (rule_numbers r) i 0
  unfolding rule_row
  rule_number i h =
      let z : 0 + 8 * i ≡ 8 * i = omega arith in
      rw (z, append-nil (laid (le 8) (rule_numbers r))) at (number_laid [] [] 0 (rule_numbers r) i refl rule_words h)

  -- it is read back
  pub rule_back : rule_in (rule_row L r) ≡ r
  unfolding rule_in
  rule_back = λ i. record {
    area = record { subspace = subspace i; path = path i; times = record { start = start i; end = end i } };
    value = value i;
  }
    where
      subspace : subspace_at (number_at (head (rule_row L r)) 0) (number_at (head (rule_row L r)) 8) ≡ r.area.subspace
      subspace = rw (rule_number 0 (omega arith), rule_number 1 (omega arith)) (subspace_numbered r.area.subspace).back

      path : cell_path (cell (rule_row L r)) ≡ r.area.path
      path = unfold rule_row in path_cell_path L (cell_size_of L) r.area.path w v.area_valid.path_valid

      start : number_at (head (rule_row L r)) 16 ≡ r.area.times.start
      start = rule_number 2 (omega arith)

      end : end_at (number_at (head (rule_row L r)) 24) (number_at (head (rule_row L r)) 32) ≡ r.area.times.end
      end = rw (rule_number 3 (omega arith), rule_number 4 (omega arith)) (end_numbered r.area.times.end).back

      value : number_at (head (rule_row L r)) 40 ≡ r.value
      value = rule_number 5 (omega arith)

  -- its cell has the size, and it passes the test
  rule_path_room : length (pack r.area.path) ≤ cell_size_of L
  rule_path_room = cell_room L r.area.path v.area_valid.path_valid

  pub rule_cell_length : length (cell (rule_row L r)) ≡ cell_size_of L
  unfolding rule_row
  rule_cell_length = path_cell_length (cell_size_of L) r.area.path rule_path_room

  rule_head_fits : head_fits (head (rule_row L r)) ≡ true
  unfolding head_fits
  rule_head_fits =
      rw (rule_number 0 (omega arith), rule_number 1 (omega arith), rule_number 3 (omega arith), rule_number 4 (omega arith))
      (true_both _ _ (subspace_numbered r.area.subspace).fits (end_numbered r.area.times.end).fits)

  rule_cell_fits : cell_fits L (cell (rule_row L r)) ≡ true
  unfolding rule_row
  rule_cell_fits =
      let p = r.area.path in
      (cell_tested L (path_cell (cell_size_of L) p)).1 (path_cell_fits L (cell_size_of L) p w v.area_valid.path_valid rule_path_room)

  pub rule_fits : row_fits L (rule_row L r) ≡ true
  unfolding row_fits
  rule_fits = true_both _ _ rule_head_fits rule_cell_fits

-- THE RULE OF A ROW that passes the test and has the sizes.
module _ (L : Limits) (r : Row) (long : length (head r) ≡ map_head_size) (wide : length (cell r) ≡ cell_size_of L)
    (bytes : Bytes (head r) × Bytes (cell r)) (passed : row_fits L r ≡ true) where
  parts_fit : (head_fits (head r) ≡ true) × (cell_fits L (cell r) ≡ true)
  unfolding row_fits
  parts_fit = both_true (head_fits (head r)) (cell_fits L (cell r)) passed

  kinds_fit : (kind_fits (number_at (head r) 0) (number_at (head r) 8) ≡ true) × (kind_fits (number_at (head r) 24) (number_at (head r) 32) ≡ true)
  unfolding head_fits
  kinds_fit = both_true _ _ parts_fit.0

  subspace_read_lem : Stands subspace_kind subspace_value SubspaceWord (number_at (head r) 0) (number_at (head r) 8) (rule_in r).area.subspace
  unfolding rule_in
  subspace_read_lem = subspace_stands (number_at (head r) 0) (number_at (head r) 8) kinds_fit.0

  end_read_lem : Stands end_kind end_value (EndHas (λ m. m ≤ max_word)) (number_at (head r) 24) (number_at (head r) 32) (rule_in r).area.times.end
  unfolding rule_in
  end_read_lem = end_stands (number_at (head r) 24) (number_at (head r) 32) kinds_fit.1

  pub row_rule_valid : ValidRule L (rule_in r)
  unfolding rule_in
  row_rule_valid =
      let c = (cell_tested L (cell r)).0 parts_fit.1 in
      record {
        area_valid = record {
          subspace_word = subspace_read_lem.word (number_word (head r) 8 bytes.0);
          path_valid = cell_valid L (cell r) c bytes.1;
          start_word = number_word (head r) 16 bytes.0;
          end_word = end_read_lem.word (number_word (head r) 32 bytes.0);
        };
        value_word = number_word (head r) 40 bytes.0;
      }

  -- its numbers are those of the head
  row_numbers : rule_numbers (rule_in r) ≡ numbers_at (head r) 0 6
  unfolding rule_in
  row_numbers = rw (subspace_read_lem.same_kind, subspace_read_lem.same_value, end_read_lem.same_kind, end_read_lem.same_value)

  row_head : laid (le 8) (rule_numbers (rule_in r)) ≡ head r
  row_head = ap (laid (le 8)) row_numbers ∙ sym (numbers_first (head r) 6 bytes.0 (omega arith)) ∙ take_all map_head_size (head r) (omega arith)

  row_cell : path_cell (cell_size_of L) (rule_in r).area.path ≡ cell r
  unfolding rule_in
  row_cell =
      let c = (cell_tested L (cell r)).0 parts_fit.1 in
      ap (λ n. path_cell n (cell_path (cell r))) (sym wide) ∙ sym (cell_whole L (cell r) c bytes.1)

  pub row_back : rule_row L (rule_in r) ≡ r
  unfolding rule_row
  row_back = λ i. (row_head i, row_cell i)
