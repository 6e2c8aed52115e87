-- The rows behind those in use are zeros in the map's shape.
use Rattle.map_test.proofs.inner.rows_fit.Goals as goal

pub unused_clear-requires : goal.unused_clear-requires
unused_clear-requires c = rw c.shape.ensures (c.args.rows.room, c.requires)
