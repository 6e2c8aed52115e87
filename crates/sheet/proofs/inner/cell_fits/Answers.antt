-- One law for each way out: too short for a count, for the lengths, for the bytes, or as the packed path and the zeros say.
use mathlib.Core.Path.{sym, ◌∙◌}
use native.Mathlib.Omega.{arith}
use Rattle.sheet.proofs.CellTestLaws.{cell_short, cell_cut, cell_over, cell_malformed, cell_formed}
use Rattle.sheet.proofs.inner.cell_fits.Goals as goal

pub returns-then-cell-lt8 : goal.returns-then-cell-lt8
returns-then-cell-lt8 c = sym (cell_short _ _ c.if-cell-lt8.true)

pub returns-then-cell-k : goal.returns-then-cell-k
returns-then-cell-k c = sym (cell_cut _ _ _ c.if-cell-lt8.false c.read_u64-k.ensures (omega arith))

pub returns-then-room-last : goal.returns-then-room-last
returns-then-room-last c = sym (cell_over _ _ _ c.if-cell-lt8.false c.read_u64-k.ensures _ (omega arith) c.length_before-last.ensures (omega arith))

pub returns-then-well_formed : goal.returns-then-well_formed
returns-then-well_formed c =
    c.is_zero.ensures
    ∙ sym (cell_formed _ _ _ c.if-cell-lt8.false c.read_u64-k.ensures _ (omega arith) c.length_before-last.ensures (omega arith) (sym c.well_formed-2.ensures ∙ c.if-well_formed.true))

pub returns-else-well_formed : goal.returns-else-well_formed
returns-else-well_formed c =
    c.if-well_formed.false
    ∙ sym (cell_malformed _ _ _ c.if-cell-lt8.false c.read_u64-k.ensures _ (omega arith) c.length_before-last.ensures (omega arith) (sym c.well_formed-2.ensures ∙ c.if-well_formed.false))
