-- What is left to look at and to clear gives from each row on what it gave from the first; after the last row only clearing is left.
use Rattle.entry.specs.LentEntries.{entry_of}
use Rattle.store_closing.specs.Filing.{stays_by}
use Rattle.store_closing.proofs.PassLaws.{Pass}
use Rattle.store_closing.proofs.inner.close_up.Given as goal

abbrev pub invariant-loop-i : goal.invariant-loop-i
invariant-loop-i l = Pass (stays_by (entry_of l.offered)) l.sizes.limits l.sizes.capacity l.n l.initial.s l.s l.i l.k
