-- What is carried, and the rows from i on, decide as all rows do. That there is room for one position more rests on the order of the rows
-- and on the bound of a path's components.
use Rattle.store_passes.proofs.CarryLaws.{Carrying}
use Rattle.store_passes.proofs.inner.rows_clear.Given as goal

abbrev pub invariant-loop-i : goal.invariant-loop-i
invariant-loop-i l = Carrying l.rows l.carried.items l.i
