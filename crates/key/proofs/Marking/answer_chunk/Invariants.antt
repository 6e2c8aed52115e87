-- What is held leaves, with the rest of the chunk, what was held with all of it. `self` stands here in its parts, as its chunk is lent to
-- the rest: what is held is the first of them, and the buffer for the answers the last.
use Rattle.std.proofs.Common.{◌≡◌, length, take}
use Rattle.keyform.specs.Answering.{held_after}
use Rattle.keyinput.specs.Held.{held_in}
use Rattle.key.proofs.Marking.answer_chunk.Given as goal

abbrev pub invariant-loop-rest : goal.invariant-loop-rest
invariant-loop-rest l = held_after (held_in l.self.1.0) l.rest ≡ held_after (held_in l.fn.self.pending) (take l.n l.fn.self.chunk)

abbrev pub decreases-loop-rest : goal.decreases-loop-rest
decreases-loop-rest l = length l.rest
