-- WHAT THE ANSWERS ON A RANGE'S PARTS MEAN: `is_open`, `get_end`, and `full`.
use Rattle.std.specs.Prelude.{ℕ, ◌<◌, ◌≡◌, ◌↔◌, true, Some, None}
use Rattle.willow.specs.Paths.{Path, PathBelow}
use Rattle.willow.specs.Ranges.{End, closed, endless, InRange}
use Rattle.range.specs.NumberRanges.{end_value_of, is_open, full_range}
use Rattle.path_range.specs.PathRanges.{full_paths}

-- Of ends of values of any type: of numbers, and of the counts and the lent paths of a range of paths.
pub record RangeParts : Type 1 where
  pub open_means : {A : Type 0} (e : End A) → (is_open e ≡ true) ↔ (e ≡ endless)
  pub end_got : {A : Type 0} (e : End A) (x : A) → (end_value_of e ≡ Some x) ↔ (e ≡ closed x)
  pub none_got : {A : Type 0} (e : End A) → (end_value_of e ≡ None) ↔ (e ≡ endless)
  pub all_numbers : (n : ℕ) → InRange ◌<◌ full_range n
  pub all_paths : (p : Path) → InRange PathBelow full_paths p
