-- Areas whose kinds come as numbers.
use Rattle.std.specs.Prelude.{ℕ}
use Rattle.std.proofs.Math.Option.{Option, none, some}
use Rattle.willow.specs.declared.AreaSubspace.{AreaSubspace}
use Rattle.willow.specs.Areas.{Area, subspace_from}
use Rattle.willow.specs.Paths.{Path}
use Rattle.willow.specs.Ranges.{Range}
use Rattle.range.specs.NumberRanges.{range_of}
use Rattle.kinds.specs.Kinds.{both, range_from}
use Rattle.area.specs.declared.Area as code

-- An area but for its path, of which it has the count.
pub record Parts : Type 0 where
  pub subspace : AreaSubspace
  pub count : ℕ
  pub times : Range ℕ

-- With its path.
abbrev pub area_with : Parts → Path → Area
area_with a p = record { subspace = a.subspace; path = p; times = a.times }

-- The parts that kinds and numbers stand for; none where refusal 3 is due.
abbrev pub parts_of : ℕ → Option (AreaSubspace × Range ℕ) → Option Parts
parts_of k none = none
parts_of k (some x) = some (record { subspace = x.0; count = k; times = x.1 })

unfoldable pub area_from : ℕ → ℕ → ℕ → ℕ → ℕ → ℕ → Option Parts
area_from kind id count start end_kind end = parts_of count (both (subspace_from kind id) (range_from start end_kind end))

-- What the code's structs mean, one and two.
abbrev pub parts : code.Area → Parts
parts a = record { subspace = a.subspace; count = a.count; times = range_of a.times }

abbrev pub two_parts : code.Area × code.Area → Parts × Parts
two_parts ab = (parts ab.0, parts ab.1)
