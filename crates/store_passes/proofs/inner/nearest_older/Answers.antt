-- The nearest is the entry of the last position.
use Rattle.std.proofs.Common.{sym, arith}
use Rattle.store_passes.proofs.CarryLaws.{nearest_below, nearest_last, nearest_none}
use Rattle.store_passes.proofs.inner.nearest_older.Goals as goal

pub is_newer-requires : goal.is_newer-requires
is_newer-requires c = (omega (arith, nearest_below _ _ _ c.requires.1 (sym c.in-Some.ensures.value), c.requires.0), c.requires.0)

pub returns-in-None : goal.returns-in-None
returns-in-None c = nearest_none c.args.rows _ _ c.in-None.ensures.value

pub returns-in-Some : goal.returns-in-Some
returns-in-Some c = nearest_last c.args.rows _ _ _ (sym c.in-Some.ensures.value) _ c.is_newer.ensures
