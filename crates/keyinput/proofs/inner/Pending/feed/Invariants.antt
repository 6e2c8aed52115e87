-- The lines taken so far stand before the rest; each turn takes a line, and what it does is one law.
use Rattle.std.proofs.Common.{List, ℕ, length}
use Rattle.keyinput.specs.Held.{held_in}
use Rattle.keyinput.proofs.HeldLaws.{FedSoFar}
use Rattle.keyinput.proofs.inner.Pending.feed.Given as goal

abbrev pub invariant-loop-n : goal.invariant-loop-n
invariant-loop-n l = (done : List ℕ) × FedSoFar (held_in l.initial.self) l.chunk l.initial.out done l.rest (held_in l.self) l.at l.out

abbrev pub decreases-loop-n : goal.decreases-loop-n
decreases-loop-n l = length l.rest
