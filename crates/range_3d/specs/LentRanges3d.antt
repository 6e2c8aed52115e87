-- 3d ranges as the code has them: a struct, and the lent buffers of its paths beside it. The questions are defined in `willow`.
use Rattle.std.specs.Prelude.{ℕ, List, [], ◌∷◌, ◌++◌}
use Rattle.willow.specs.declared.Limits.{Limits}
use Rattle.willow.specs.Answers.{path_in}
use Rattle.willow.specs.Paths.{Path}
use Rattle.willow.specs.Ranges3d.{Range3d}
use Rattle.willow.specs.Refusals.{Outcome}
use Rattle.packed.specs.declared.lent.LentPath.{LentPath}
use Rattle.range.specs.NumberRanges.{range_of}
use Rattle.path_bounds.specs.LentPaths.{on_lent}
use Rattle.path_bounds.specs.LentRanges.{path_range_of, range_of_paths, range_paths}
use Rattle.range_3d.specs.declared.Range3d as code

-- The 3d range of a struct and the paths that two buffers hold, as many components as the struct counts.
abbrev pub range3d_of : code.Range3d ℕ → List ℕ → List ℕ → Range3d
range3d_of r s e = record { subspaces = range_of r.subspaces; paths = path_range_of (range_of r.paths) s e; times = range_of r.times }

-- The 3d range of one whose paths were tested.
abbrev pub range3d_of_paths : code.Range3d LentPath → Range3d
range3d_of_paths r = record { subspaces = range_of r.subspaces; paths = range_of_paths r.paths; times = range_of r.times }

-- A question f on a lent 3d range and a path, and on two lent 3d ranges: 1, then 5 for any path, then what f answers.
abbrev pub on_range3d : {A : Type 0} → Limits → code.Range3d ℕ → List ℕ → List ℕ → List ℕ → ℕ → (Range3d → Path → Outcome A) → Outcome A
on_range3d L r s e b k f = on_lent L (range_paths (range_of r.paths) s e ++ ((b, k) ∷ [])) (f (range3d_of r s e) (path_in b k))

abbrev pub on_ranges3d : {A : Type 0} → Limits → code.Range3d ℕ → List ℕ → List ℕ → code.Range3d ℕ → List ℕ → List ℕ
    → (Range3d → Range3d → Outcome A) → Outcome A
on_ranges3d L r s e r2 s2 e2 f =
    on_lent L (range_paths (range_of r.paths) s e ++ range_paths (range_of r2.paths) s2 e2) (f (range3d_of r s e) (range3d_of r2 s2 e2))
