-- Sizes that fit are accepted, and no more rows are in use than there are.
use mathlib.Core.Path.{sym, ◌∙◌}
use native.Mathlib.Omega.{arith}
use borrow.Author.Tests.{tests}
use Rattle.sheet.specs.Rows.{Room}
use Rattle.map_form.specs.Maps.{map_shape}
use Rattle.map_form.specs.MapTest.{SizesPassed}
use Rattle.map_form.proofs.MapTestLaws.{sizes_passed}
use Rattle.map_test.proofs.inner.is_map.Goals as goal
use Rattle.map_test.proofs.inner.is_map.Goals.{then-sizes_fit, else-sizes_fit}
use Rattle.map_test.proofs.inner.is_map.Goals.{Then-sheet_length-s}

pub sheet_length-requires : goal.sheet_length-requires
sheet_length-requires c =
    let p : SizesPassed c.read-sizes.result c.read_u64-n.result = (sizes_passed _ _).0 (sym c.sizes_fit.ensures ∙ c.if-sizes_fit.true) in
    (p.limits_accepted, p.capacity_accepted)

passed : (c : Then-sheet_length-s) → SizesPassed c.read-sizes.result c.read_u64-n.result × Room (map_shape c.read-sizes.result) c.args.s.now
passed c = elim c.if-sizes_fit.branch [
  | then-sizes_fit w ↦ ((sizes_passed _ _).0 (sym c.sizes_fit.ensures ∙ w.if-sizes_fit.true), (let e = w.value-is in let f = c.if-sheet_length-s.true in let g = w.sheet_length.ensures in grind (arith, tests)))
  | else-sizes_fit w ↦ absurd (let e = w.value-is in let f = c.if-sheet_length-s.true in grind arith)
]

pub invariant_of-rows_fit : goal.invariant_of-rows_fit
invariant_of-rows_fit c = record { accepted = (passed c).0.limits_accepted; room = (passed c).1 }

pub rows_fit-requires : goal.rows_fit-requires
rows_fit-requires c = (passed (goal.at.rows_fit-requires c).Then-sheet_length-s).0.count
