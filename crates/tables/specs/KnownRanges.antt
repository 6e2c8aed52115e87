-- Areas and ranges that are known by what they include: the full ones, that of one subspace, and that of one path. (The full ranges of
-- numbers and of paths stand in `RangeParts` of crate range_law.)
use Rattle.std.specs.Prelude.{ℕ, ◌≡◌, ◌⊎◌, ◌↔◌, true}
use Rattle.willow.specs.declared.AreaSubspace.{AreaSubspace}
use Rattle.willow.specs.declared.AreaSubspace.TheVariants.{Id}
use Rattle.willow.specs.declared.Limits.{Limits}
use Rattle.willow.specs.Areas.{Triplet, InSubspace, InArea, full_area, subspace_area, is_any, is_subspace}
use Rattle.willow.specs.AreasOfInterest.{full_of_interest}
use Rattle.willow.specs.LeastPaths.{successor}
use Rattle.willow.specs.Limits.{max_word}
use Rattle.willow.specs.Paths.{Path, Valid, PathBelow}
use Rattle.willow.specs.Ranges.{End, closed, endless, Range, InRange, end_number}
use Rattle.willow.specs.Ranges3d.{InRange3d, full_range3d, end_at}

-- `singleton_range`: from a path to its successor, open where there is none.
abbrev pub singleton_range : Limits → Path → Range Path
singleton_range L p = record { start = p; end = end_at (successor L p) }

-- WHAT THEY INCLUDE. Only the range of one path has premises, valid paths, as the empty one.
pub record KnownRanges : Type 0 where
  pub all_of_area : (t : Triplet) → InArea full_area t
  pub all_of_interest : (t : Triplet) → InArea full_of_interest.area t
  pub all_of_range3d : (t : Triplet) → InRange3d full_range3d t
  pub one_subspace : (i : ℕ) (t : Triplet) → InArea (subspace_area i) t ↔ (t.subspace ≡ i)
  pub one_path : (L : Limits) (p q : Path) → Valid L p → Valid L q → InRange PathBelow (singleton_range L p) q ↔ (q ≡ p)
  -- and of subspaces alone: `is_any`, and `AreaSubspace == id`
  pub any_means : (s : AreaSubspace) → (is_any s ≡ true) ↔ ((i : ℕ) → InSubspace s i)
  pub id_means : (s : AreaSubspace) (i : ℕ) → (is_subspace s i ≡ true) ↔ (s ≡ Id i)
  -- and of an end as a number: itself, or the greatest of 64 bits where it is open
  pub end_as_number : (e : End ℕ) (n : ℕ) → (end_number e ≡ n) ↔ ((e ≡ closed n) ⊎ ((e ≡ endless) × (n ≡ max_word)))
