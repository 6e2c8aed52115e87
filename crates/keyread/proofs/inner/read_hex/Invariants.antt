-- The bytes read so far are written, and stand before what is still to be read.
use Rattle.std.proofs.Common.{ℕ, List}
use Rattle.keyread.proofs.HexLaws.{HexSoFar}
use Rattle.keyread.proofs.inner.read_hex.Given as goal

abbrev pub invariant-loop-k : goal.invariant-loop-k
invariant-loop-k l = (v : List ℕ) × HexSoFar l.s l.initial.out l.to l.out l.k v
