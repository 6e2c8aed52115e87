-- The payload lengths from row i on are what is left of the held bytes if all are the held bytes.
use Rattle.std.proofs.Common.{◌≡◌, drop, eqb}
use Rattle.willow.specs.Store.{payloads}
use Rattle.store_rows.specs.HeldRows.{held_entries}
use Rattle.store_passes.proofs.inner.sums_to.Given as goal

abbrev pub invariant-loop-i : goal.invariant-loop-i
invariant-loop-i l = eqb (payloads (drop l.i (held_entries l.rows))) l.rest ≡ eqb (payloads (held_entries l.rows)) l.held
