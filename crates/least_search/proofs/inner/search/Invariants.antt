-- From the back: what the components that are left give is what the whole path gives, and the bytes passed over are ff.
use Rattle.std.proofs.Common.{◌≡◌, ◌<◌, ◌≤◌, ℕ, get_or, length, take}
use Rattle.std.specs.Prelude.{None}
use Rattle.willow.specs.LeastPaths.{next_greater}
use Rattle.packed.specs.LentPaths.{path_of}
use Rattle.least_search.proofs.inner.search.Given as goal

abbrev pub invariant-loop-j : goal.invariant-loop-j
invariant-loop-j l = (l.found ≡ None) × ((k : ℕ) → l.j ≤ k → k < length l.c → 255 ≤ get_or l.c k 0)

abbrev pub invariant-components : goal.invariant-components
invariant-components l = (l.found ≡ None) × (next_greater l.limits (take l.i (path_of l.path)) ≡ next_greater l.limits (path_of l.path))
