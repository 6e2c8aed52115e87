-- Zeros over the heads and then over the cells: together over the rows.
use Prim.Native.Nat.{◌+◌, ◌-◌, ◌*◌}
use mathlib.Core.Path.{◌∙◌, ap}
use native.Mathlib.Omega.{arith}
use Rattle.number.specs.Overwriting.{overwrite, zeros}
use Rattle.number.proofs.RecordLaws.{mul_part}
use Rattle.sheet.specs.Rows.{cells_from}
use Rattle.sheet.proofs.RowLaws.{rows_cleared}
use Rattle.row_moves.proofs.inner.clear_rows.Goals as goal

pub zero-requires : goal.zero-requires
zero-requires c =
    let a = c.args in
    omega (arith, c.head_place.ensures, mul_part a.shape.head_size a.k (a.n - a.k) a.shape.capacity (omega arith))

pub zero-requires-2 : goal.zero-requires-2
zero-requires-2 c =
    let a = c.args in
    let long = c.zero.auto in
    omega (arith, c.cell_place.ensures, mul_part a.shape.cell_size a.k (a.n - a.k) a.shape.capacity (omega arith))

pub returns : goal.returns
returns c =
    let a = c.args in
    let z = a.shape in
    rw c.cell_place.ensures at c.zero-2.ensures
    ∙ ap (λ l. overwrite l (cells_from z + z.cell_size * a.k) (zeros (z.cell_size * (a.n - a.k)))) (rw c.head_place.ensures at c.zero.ensures)
    ∙ rows_cleared z a.s.now c.requires.0 a.k (a.n - a.k) (omega arith)
