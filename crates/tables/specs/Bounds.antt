-- WHAT THE ANSWERS ON THE BOUNDS OF RANGES, AREAS AND 3D RANGES MEAN, also of those that include nothing; and that the 3d range of an area
-- is a valid one, and includes something where the area does.
use Rattle.std.specs.Prelude.{ℕ, ◌≤◌, ◌<◌, ◌≡◌, ◌↔◌, true}
use Rattle.willow.specs.declared.Limits.{Limits}
use Rattle.willow.specs.Areas.{Triplet, Area, ValidArea, InSubspace, NotTwoIds, includes_area, almost_includes_area, area_prunable}
use Rattle.willow.specs.Orders.{AtMost}
use Rattle.willow.specs.Paths.{PathBelow, Prefix, Related}
use Rattle.willow.specs.Ranges.{Range, EndBelow, NonEmpty}
use Rattle.willow.specs.Ranges3d.{Range3d, ValidRange3d, NonEmpty3d, includes_range3d, range3d_from}

-- "`includes_range` compares starts and ends, open being greatest. For ranges with start below end this is set inclusion." The bounds
-- of s are within those of r: it starts no sooner, and ends no later. That is asked of every range, also of one that includes nothing,
-- as [3,1): by this rule [0,1) includes it, and [4,9) does not. (That `includes_range` answers so stands in `RangeLaws` of willow.)
abbrev pub BoundsWithin : {A : Type 0} → (A → A → Type 0) → Range A → Range A → Type 0
BoundsWithin Below r s = AtMost Below r.start s.start × AtMost (EndBelow Below) s.end r.end

-- Of areas. There are no premises.
pub record AreaBounds : Type 0 where
  pub bounds_included : (a b : Area) → (includes_area a b ≡ true)
      ↔ (((i : ℕ) → InSubspace b.subspace i → InSubspace a.subspace i)
      × (Prefix a.path b.path
      × BoundsWithin ◌<◌ a.times b.times))
  pub bounds_almost : (a b : Area) → (almost_includes_area a b ≡ true)
      ↔ (NotTwoIds a.subspace b.subspace
      × (Prefix a.path b.path
      × BoundsWithin ◌<◌ a.times b.times))
  pub prunable_means : (a : Area) (t : Triplet) → (area_prunable a t ≡ true)
      ↔ (InSubspace a.subspace t.subspace × ((a.times.start ≤ t.time) × Related t.path a.path))

-- Of 3d ranges. The premises are valid areas, as the full one.
pub record Range3dBounds (L : Limits) : Type 0 where
  pub bounds_included : (r s : Range3d) → (includes_range3d r s ≡ true)
      ↔ (BoundsWithin ◌<◌ r.subspaces s.subspaces × (BoundsWithin PathBelow r.paths s.paths × BoundsWithin ◌<◌ r.times s.times))
  pub area_valid : (a : Area) → ValidArea L a → ValidRange3d L (range3d_from L a)
  pub area_nonempty : (a : Area) → ValidArea L a → NonEmpty ◌<◌ a.times → NonEmpty3d (range3d_from L a)
