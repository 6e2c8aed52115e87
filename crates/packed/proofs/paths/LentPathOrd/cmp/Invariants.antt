-- From i on the two compare as from the start, so that the first components that differ, or the end of one path, decide.
use Rattle.std.proofs.Common.{◌≡◌, drop}
use Rattle.willow.specs.Paths.{compare_paths}
use Rattle.packed.specs.LentPaths.{path_of}
use Rattle.packed.proofs.paths.LentPathOrd.cmp.Given as goal

abbrev pub invariant-loop-i : goal.invariant-loop-i
invariant-loop-i l = compare_paths (drop l.i (path_of l.self)) (drop l.i (path_of l.other)) ≡ compare_paths (path_of l.self) (path_of l.other)
