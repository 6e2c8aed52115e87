-- 3d ranges whose kinds come as numbers.
use Rattle.std.specs.Prelude.{ℕ, List}
use Rattle.std.proofs.Math.Option.{Option, none, some}
use Rattle.willow.specs.Ranges.{Range}
use Rattle.willow.specs.Ranges3d.{Range3d}
use Rattle.range.specs.NumberRanges.{range_of}
use Rattle.kinds.specs.Kinds.{both, range_from}
use Rattle.path_bounds.specs.LentRanges.{path_range_of}
use Rattle.range_3d.specs.declared.Range3d as code

-- A 3d range but for its paths, of which it has the counts.
pub record Parts3d : Type 0 where
  pub subspaces : Range ℕ
  pub paths : Range ℕ
  pub times : Range ℕ

-- With the buffers of its paths.
abbrev pub range3d_with : Parts3d → List ℕ → List ℕ → Range3d
range3d_with x s e = record { subspaces = x.subspaces; paths = path_range_of x.paths s e; times = x.times }

-- The parts that kinds and numbers stand for; none where refusal 3 is due.
abbrev pub with_numbers : Range ℕ → Range ℕ × Range ℕ → Parts3d
with_numbers p x = record { subspaces = x.0; paths = p; times = x.1 }

abbrev pub parts3d_of : Option (Range ℕ × (Range ℕ × Range ℕ)) → Option Parts3d
parts3d_of none = none
parts3d_of (some x) = some (with_numbers x.0 x.1)

unfoldable pub parts3d_from : (subspaceStart subspaceEndKind subspaceEnd startCount pathEndKind end_count timeStart timeEndKind timeEnd : ℕ) → Option Parts3d
parts3d_from subspaceStart subspaceEndKind subspaceEnd startCount pathEndKind end_count timeStart timeEndKind timeEnd =
    parts3d_of (both
    (range_from startCount pathEndKind end_count)
    (both (range_from subspaceStart subspaceEndKind subspaceEnd) (range_from timeStart timeEndKind timeEnd)))

-- What the code's structs mean.
abbrev pub parts3d : code.Range3d ℕ → Parts3d
parts3d r = record { subspaces = range_of r.subspaces; paths = range_of r.paths; times = range_of r.times }
