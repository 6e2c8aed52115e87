-- The components read so far are written, and stand before those of the pieces still to come.
use Rattle.willow.specs.Paths.{Path}
use Rattle.keyread.proofs.PieceLaws.{PathSoFar}
use Rattle.keyread.proofs.inner.read_components.Given as goal

abbrev pub invariant-loop-piece : goal.invariant-loop-piece
invariant-loop-piece l =
    (q : Path) × PathSoFar l.text l.initial.lengths l.initial.bytes l.lengths l.bytes l.piece-iterator.done l.piece-iterator.rest.now l.k l.n q
