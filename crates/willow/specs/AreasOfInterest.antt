-- Areas of interest: an area with a count and a size.
use Rattle.std.specs.Prelude.{ℕ, ◌≤◌, ◌<◌, min, ◌≡◌, ◌⊎◌}
use Rattle.std.proofs.Math.Option.{Option, none, some}
use Rattle.std.specs.declared.cmp.Ordering.{Ordering}
use Rattle.willow.specs.Areas.{Area, IsAreaIntersection, AreaBelow, full_area, area_intersection, compare_areas}
use Rattle.willow.specs.Orders.{Total, Decides, compare_numbers, compare_pairs, PairBelow}

pub record AreaOfInterest : Type 0 where
  pub area : Area
  pub max_count : ℕ
  pub max_size : ℕ

-- An area turned into an area of interest carries zeros; the default is the full area's.
unfoldable pub of_interest : Area → AreaOfInterest
of_interest a = record { area = a; max_count = 0; max_size = 0 }

unfoldable pub full_of_interest : AreaOfInterest
full_of_interest = of_interest full_area

-- "For now as the Rust even where Grouping Entries reads zero otherwise": which of two bounds stands.
abbrev pub smaller_bound : ℕ → ℕ → ℕ
smaller_bound m n = min m n

-- The two with the area m of both, if there is one.
abbrev pub interest_in : AreaOfInterest → AreaOfInterest → Option Area → Option AreaOfInterest
interest_in a b none = none
interest_in a b (some m) = some (record {
  area = m;
  max_count = smaller_bound a.max_count b.max_count;
  max_size = smaller_bound a.max_size b.max_size;
})

-- "Areas intersected, the smaller `max_count`, the smaller `max_size`."
unfoldable pub interest_intersection : AreaOfInterest → AreaOfInterest → Option AreaOfInterest
interest_intersection a b = interest_in a b (area_intersection a.area b.area)

abbrev pub compare_interest : AreaOfInterest → AreaOfInterest → Ordering
compare_interest a b =
    compare_pairs compare_areas (compare_pairs compare_numbers compare_numbers)
    (a.area, (a.max_count, a.max_size)) (b.area, (b.max_count, b.max_size))

-- WHAT IS MEANT: none exactly if the areas have no triplet in common; else the intersection of the areas, and of the counts
-- and of the sizes the smaller.
abbrev pub Smaller : ℕ → ℕ → ℕ → Type 0
Smaller m n k = ((k ≡ m) ⊎ (k ≡ n)) × (k ≤ m) × (k ≤ n)

abbrev pub IsInterestIntersection : AreaOfInterest → AreaOfInterest → Option AreaOfInterest → Type 0
IsInterestIntersection a b none = IsAreaIntersection a.area b.area none
IsInterestIntersection a b (some m) =
    IsAreaIntersection a.area b.area (some m.area)
    × Smaller a.max_count b.max_count m.max_count
    × Smaller a.max_size b.max_size m.max_size

-- The derived order: by area, then count, then size.
abbrev pub InterestBelow : AreaOfInterest → AreaOfInterest → Type 0
InterestBelow a b =
    PairBelow AreaBelow (PairBelow ◌<◌ ◌<◌) (a.area, (a.max_count, a.max_size)) (b.area, (b.max_count, b.max_size))

-- THEOREM 7, on areas of interest.
pub record InterestLaws : Type 0 where
  pub intersected : (a b : AreaOfInterest) → IsInterestIntersection a b (interest_intersection a b)
  pub order_total : Total compare_interest
  pub order_means : Decides compare_interest InterestBelow
