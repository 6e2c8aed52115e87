-- The components below i are common, and from i on as many more are as is left to find: the walk ends where none is.
use Rattle.std.proofs.Common.{◌≡◌, ◌+◌, drop}
use Rattle.willow.specs.Paths.{common_count}
use Rattle.packed.specs.LentPaths.{path_of}
use Rattle.packed.proofs.lent.LentPath.common.Given as goal

abbrev pub invariant-loop-i : goal.invariant-loop-i
invariant-loop-i l = l.i + common_count (drop l.i (path_of l.self)) (drop l.i (path_of l.other)) ≡ common_count (path_of l.self) (path_of l.other)
