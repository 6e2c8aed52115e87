-- The cell of row i in the map's shape.
use Rattle.map_form.proofs.rows.MapRows.cell.Goals as goal

pub cell-requires : goal.cell-requires
cell-requires c = rw c.shape.ensures (c.args.self.room, c.requires)

pub returns : goal.returns
returns c = rw c.shape.ensures at c.cell.ensures
