-- What is left to test from length i on decides as the whole does.
use Rattle.std.proofs.Common.{◌≡◌, ◌+◌, ◌-◌, ◌*◌}
use Rattle.packed.specs.Steps.{steps_within}
use Rattle.packed.proofs.inner.steps_within.Given as goal

abbrev pub invariant-loop-i : goal.invariant-loop-i
invariant-loop-i l = steps_within l.mcl l.most l.b (l.n - l.i) (8 + 8 * l.i) l.from ≡ steps_within l.mcl l.most l.b l.n 8 0
