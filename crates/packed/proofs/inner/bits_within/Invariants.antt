-- While the bits are at most MCL as a number, what is left to test decides as the whole does: each turn adds the bits of one more
-- step, which is then at most MCL too.
use Rattle.std.proofs.Common.{◌≤◌}
use Rattle.packed.proofs.StepLaws.{Passed}
use Rattle.packed.proofs.inner.bits_within.Given as goal

abbrev pub invariant-loop-i : goal.invariant-loop-i
invariant-loop-i l = l.bits ≤ l.mcl → Passed l.mcl l.most l.b l.n l.from l.i
