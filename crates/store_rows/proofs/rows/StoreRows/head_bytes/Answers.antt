-- The head of row i in the store's shape.
use Rattle.std.proofs.Common.{arith}
use Rattle.store_rows.proofs.rows.StoreRows.head_bytes.Goals as goal

pub shape-requires : goal.shape-requires
shape-requires c = c.args.self.readable.limits_accepted

pub head-requires : goal.head-requires
head-requires c = let r = c.args.self.readable in rw c.shape.ensures (r.room, omega (arith, r.count, c.requires))

pub returns-clause-size : goal.returns-clause-size
returns-clause-size c = rw c.shape.ensures at c.head.ensures.size

pub returns-clause-part : goal.returns-clause-part
returns-clause-part c = rw c.shape.ensures at c.head.ensures.part
