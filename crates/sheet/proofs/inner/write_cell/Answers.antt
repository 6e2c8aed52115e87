-- The packed path over the front of the cell and zeros from its end on: together the path's cell.
use Rattle.std.proofs.Common.{arith}
use Rattle.sheet.proofs.CellTestLaws.{cell_written}
use Rattle.sheet.proofs.inner.write_cell.Goals as goal

pub returns : goal.returns
returns c = cell_written _ _ _ _ _ c.packed_length-used.ensures (omega arith) c.put.ensures c.zero.ensures
