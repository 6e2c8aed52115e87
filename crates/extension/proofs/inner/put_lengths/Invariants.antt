-- What is left to write, written from where the last sum ended, gives the whole table; no sum passes the total.
use Rattle.std.proofs.Common.{◌≡◌, ◌+◌, ◌*◌, ◌≤◌, length}
use Rattle.willow.specs.Construction.{lengths_in, total}
use Rattle.willow.specs.Limits.{max_word}
use Rattle.number.specs.Overwriting.{overwrite}
use Rattle.extension.specs.Extending.{accumulated_by}
use Rattle.extension.proofs.LengthLaws.{lengths_from}
use Rattle.extension.proofs.inner.put_lengths.Given as goal

abbrev pub invariant-loop-i : goal.invariant-loop-i
invariant-loop-i l =
    (overwrite l.out (l.to + 8 * l.i) (accumulated_by l.sum (lengths_from l.lengths l.i)) ≡ overwrite l.initial.out l.to (accumulated_by l.from (lengths_in l.lengths)))
    × (l.sum + total (lengths_from l.lengths l.i) ≤ max_word)
    × (length l.out ≡ length l.initial.out)
