-- What is left to write, written from here, gives the whole.
use Rattle.std.proofs.Common.{◌≡◌, ◌+◌, length, drop}
use Rattle.number.specs.Overwriting.{overwrite}
use Rattle.number.proofs.put.Given as goal

abbrev pub invariant-loop-i : goal.invariant-loop-i
invariant-loop-i l = (overwrite l.s (l.at + l.i) (drop l.i l.src) ≡ overwrite l.initial.s l.at l.src) × (length l.s ≡ length l.initial.s)
