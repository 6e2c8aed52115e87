-- The heads and then the cells, each one move of bytes: together the rows are moved.
use mathlib.Core.Path.{◌∙◌}
use native.Mathlib.Omega.{arith}
use Rattle.number.proofs.RecordLaws.{mul_part}
use Rattle.sheet.proofs.RowLaws.{rows_moved}
use Rattle.row_moves.proofs.inner.move_rows.Goals as goal

pub move_within-requires : goal.move_within-requires
move_within-requires c =
    let a = c.args in
    let from = mul_part a.shape.head_size a.i a.m a.shape.capacity (omega arith) in
    let to = mul_part a.shape.head_size a.k a.m a.shape.capacity (omega arith) in
    (omega (arith, c.head_place-hi.ensures), omega (arith, c.head_place-hk.ensures))

pub move_within-requires-2 : goal.move_within-requires-2
move_within-requires-2 c =
    let a = c.args in
    let long = c.move_within.auto in
    let from = mul_part a.shape.cell_size a.i a.m a.shape.capacity (omega arith) in
    let to = mul_part a.shape.cell_size a.k a.m a.shape.capacity (omega arith) in
    (omega (arith, c.cell_place-ci.ensures), omega (arith, c.cell_place-ck.ensures))

pub returns : goal.returns
returns c =
    let a = c.args in
    rw (c.cell_place-ci.ensures, c.cell_place-ck.ensures) at c.move_within-2.ensures
    ∙ rows_moved a.shape a.s.now c.requires.0 a.i a.k a.m (omega arith) (omega arith) _ (rw (c.head_place-hi.ensures, c.head_place-hk.ensures) at c.move_within.ensures)
