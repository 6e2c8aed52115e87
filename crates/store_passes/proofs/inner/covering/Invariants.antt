-- From the last position down: those that cover row i among the first that are left are those among all.
use Rattle.std.proofs.Common.{◌≡◌, length}
use Rattle.store_form.specs.Apart.{covering}
use Rattle.store_rows.specs.HeldRows.{held_entry}
use Rattle.store_passes.specs.Positions.{entries_at}
use Rattle.store_passes.proofs.inner.covering.Given as goal

abbrev pub invariant-loop-k : goal.invariant-loop-k
invariant-loop-k l = covering (held_entry l.rows l.i) (entries_at l.rows l.carried l.k) ≡ covering (held_entry l.rows l.i) (entries_at l.rows l.carried (length l.carried))
