-- What the test of a map says of the row of a rule: its cell holds a path. So the parts that the code reads are those of the rule.
use Prim.Native.Nat.{ℕ, ◌<◌}
use mathlib.Core.Path.{◌≡◌, refl, sym, ◌∙◌, ap}
use mathlib.Core.List.{List}
use mathlib.Core.Bool.{Bool, true, false, cond}
use native.Mathlib.Omega.{arith}
use lib.Dec.{eqb}
use lib.ListN.{length, take}
use lib.Seq.{get_or-take, length-take-le}
use Rattle.willow.specs.declared.AreaSubspace.{AreaSubspace}
use Rattle.willow.specs.declared.RangeEnd.{RangeEnd}
use Rattle.willow.specs.declared.RangeEnd.TheVariants.{Open, Closed}
use Rattle.willow.specs.Numbers.{number_at}
use Rattle.willow.specs.Packed.{Packed, unpack}
use Rattle.willow.specs.Ranges.{closed, endless, end_of}
use Rattle.willow.proofs.AnswerLaws.{accepted_words}
use Rattle.willow.proofs.Bools.{both_true}
use Rattle.number.proofs.RecordLaws.{all_at}
use Rattle.sheet.specs.Cells.{cell_fits, cell_path, used_part}
use Rattle.sheet.specs.Rows.{Row, head, cell, rows_of, zero_row}
use Rattle.sheet.proofs.CellProofs.{CellTested, cell_tested, cell_packed}
use Rattle.sheet.proofs.RowLaws.{fitting_rows}
use Rattle.map_form.specs.Maps.{map_shape, sizes_in, count_in, subspace_at, end_at, rule_in}
use Rattle.map_form.specs.MapTest.{head_fits, row_fits, is_map}
use Rattle.map_form.proofs.MapTestLaws.{map_passed}
use Rattle.map_rules.specs.RulePlaces.{map_row, rule_meant, rule_parts}

module _ (s : List ℕ) (i : ℕ) (passed : is_map s ≡ true) (h : i < count_in s) where
  row_fits_lem : row_fits (sizes_in s).limits (map_row s i) ≡ true
  row_fits_lem =
      let p = (map_passed s).0 passed in
      let z = map_shape (sizes_in s) in
      let n = p.sizes.count in
      let f = (fitting_rows z s p.room).count in
      let l = length-take-le (count_in s) (rows_of z s) (omega arith) in
      let here = get_or-take (count_in s) (rows_of z s) i (zero_row z) h in
      ap (row_fits (sizes_in s).limits) (sym here)
      ∙ all_at (λ r. row_fits (sizes_in s).limits r ≡ true) (take (count_in s) (rows_of z s)) i (zero_row z) p.rows.rows (omega arith)

  pub cell_passed : CellTested (sizes_in s).limits (cell (map_row s i))
  unfolding row_fits
  cell_passed =
      let r = map_row s i in
      (cell_tested (sizes_in s).limits (cell r)).0 (both_true (head_fits (head r)) (cell_fits (sizes_in s).limits (cell r)) row_fits_lem).1

  -- THE PATH that is cut out of its cell.
  module _ (b : List ℕ) (same : b ≡ used_part (cell (map_row s i))) where
    pub part_packed : Packed b
    part_packed = rw same (cell_packed (sizes_in s).limits (cell (map_row s i)) cell_passed (accepted_words (sizes_in s).limits ((map_passed s).0 passed).sizes.limits_accepted))

    pub part_path : unpack b ≡ (rule_in (map_row s i)).area.path
    unfolding rule_in cell_path
    part_path = ap unpack same

-- AN END by its kind, the code's and the one meant.
pub end_of_kind : (kind n : ℕ) → end_of (cond (eqb kind 0) Open (Closed n)) ≡ end_at kind n
end_of_kind kind n = go (eqb kind 0)
  where
    go : (b : Bool) → end_of (cond b Open (Closed n)) ≡ cond b endless (closed n)
    go true = refl
    go false = refl

-- THE RULE but for its path, from the numbers of a head, part by part.
module _ (r : Row) (h : List ℕ) (same : h ≡ head r) (kind n start end_kind end : ℕ)
    (e₀ : kind ≡ number_at h 0) (e₁ : n ≡ number_at h 8) (e₂ : start ≡ number_at h 16) (e₃ : end_kind ≡ number_at h 24) (e₄ : end ≡ number_at h 32) where
  number_of : (at k : ℕ) → k ≡ number_at h at → k ≡ number_at (head r) at
  number_of at k e = e ∙ ap (λ l. number_at l at) same

  pub rule_read_lem : (s : AreaSubspace) (k : ℕ) (e : RangeEnd ℕ) → s ≡ subspace_at kind n → k ≡ length (rule_in r).area.path → end_of e ≡ end_at end_kind end
      → (v : ℕ) → v ≡ number_at h 40
      → rule_meant (record { area = record { subspace = s; count = k; times = record { start = start; end = e } }; value = v }) ≡ rule_parts (rule_in r)
  unfolding rule_in
  rule_read_lem s k e p c q v x = λ i. (
    record {
      subspace = (p ∙ (λ j. subspace_at (number_of 0 kind e₀ j) (number_of 8 n e₁ j))) i;
      count = c i;
      times = record { start = number_of 16 start e₂ i; end = (q ∙ (λ j. end_at (number_of 24 end_kind e₃ j) (number_of 32 end e₄ j))) i };
    },
    number_of 40 v x i,
  )
