-- The head of row i in the map's shape.
use Rattle.map_form.proofs.rows.MapRows.head.Goals as goal

pub head-requires : goal.head-requires
head-requires c = rw c.shape.ensures (c.args.self.room, c.requires)

pub returns-clause-size : goal.returns-clause-size
returns-clause-size c = rw c.shape.ensures at c.head.ensures.size

pub returns-clause-part : goal.returns-clause-part
returns-clause-part c = rw c.shape.ensures at c.head.ensures.part
