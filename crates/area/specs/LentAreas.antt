-- Areas as the code has them: a struct, and the lent buffer of its path beside it. The questions are defined in `willow`.
use Rattle.std.specs.Prelude.{ℕ, List}
use Rattle.willow.specs.declared.Limits.{Limits}
use Rattle.willow.specs.Answers.{on_paths, path_in}
use Rattle.willow.specs.Areas.{Area, Triplet}
use Rattle.willow.specs.Paths.{Path}
use Rattle.willow.specs.Refusals.{Outcome}
use Rattle.range.specs.NumberRanges.{range_of}
use Rattle.packed.specs.LentPaths.{path_of}
use Rattle.area.specs.declared.lent.LentArea.{LentArea}
use Rattle.area.specs.declared.Area as code

-- The area of a struct and a path; and with the path that a buffer holds, as many components as the struct counts.
abbrev pub area_at : code.Area → Path → Area
area_at a p = record { subspace = a.subspace; path = p; times = range_of a.times }

abbrev pub area_in : code.Area → List ℕ → Area
area_in a b = area_at a (path_in b a.count)

-- The area of an area whose path was tested.
abbrev pub area_of : LentArea → Area
area_of a = record { subspace = a.subspace; path = path_of a.path; times = range_of a.times }

-- Where an entry stands.
abbrev pub triplet_at : ℕ → Path → ℕ → Triplet
triplet_at s p t = record { subspace = s; path = p; time = t }

-- A question f on two lent areas: 1, then 5 for either path, then what f answers.
abbrev pub on_areas : {A : Type 0} → Limits → code.Area → List ℕ → code.Area → List ℕ → (Area → Area → Outcome A) → Outcome A
on_areas L a base b base2 f = on_paths L base a.count base2 b.count (λ p q. f (area_at a p) (area_at b q))
