-- Behind each row the pass stands one entry further; behind the last nothing is left, and what was met is what all rows give.
use Rattle.entry.specs.LentEntries.{entry_of}
use Rattle.store_rows.specs.HeldRows.{held_entries}
use Rattle.store_scan.proofs.PassingLaws.{Passing}
use Rattle.store_scan.proofs.inner.scan_rows.Given as goal

abbrev pub invariant-loop-i : goal.invariant-loop-i
invariant-loop-i l = Passing (entry_of l.offered) (held_entries l.rows) l.i l.found
