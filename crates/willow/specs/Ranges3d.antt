-- 3d ranges, and areas as 3d ranges.
use Rattle.std.specs.Prelude.{ℕ, suc, ◌<◌, ◌≤◌, ◌≡◌, ◌⊎◌, ◌↔◌, [], Bool, true, ◌&&◌, ◌||◌, not, cond, ltb}
use Rattle.std.proofs.Math.Option.{Option, none, some}
use Rattle.willow.specs.declared.AreaSubspace.{AreaSubspace}
use Rattle.willow.specs.declared.AreaSubspace.TheVariants.{Any, Id}
use Rattle.willow.specs.declared.Limits.{Limits}
use Rattle.std.specs.declared.cmp.Ordering.{Ordering}
use Rattle.willow.specs.Areas.{Triplet, ValidTriplet, Area, ValidArea, InArea, PrunesSome}
use Rattle.willow.specs.LeastPaths.{next_greater}
use Rattle.willow.specs.Limits.{max_word}
use Rattle.willow.specs.Orders.{is_greater, Total, Decides, compare_numbers, compare_pairs, PairBelow}
use Rattle.willow.specs.Paths.{Path, Valid, Prefix, PathBelow, is_prefix_of, compare_paths}
use Rattle.willow.specs.Ranges.{End, closed, endless, Range, EndHas, InRange, NonEmpty, RangeBelow, includes, includes_range, intersection, compare_ranges}

pub record Range3d : Type 0 where
  pub subspaces : Range ℕ
  pub paths : Range Path
  pub times : Range ℕ

-- A 3d range of numbers of 64 bits and valid paths, as every one that a call takes.
pub record ValidRange3d (L : Limits) (r : Range3d) : Type 0 where
  pub subspace_start : r.subspaces.start ≤ max_word
  pub subspace_end : EndHas (λ n. n ≤ max_word) r.subspaces.end
  pub path_start : Valid L r.paths.start
  pub path_end_lem : EndHas (Valid L) r.paths.end
  pub time_start : r.times.start ≤ max_word
  pub time_end : EndHas (λ n. n ≤ max_word) r.times.end

-- WHAT IS MEANT. Grouping Entries: a 3d range includes an entry if its three ranges include the entry's subspace, path and
-- timestamp.
pub record InRange3d (r : Range3d) (t : Triplet) : Type 0 where
  pub subspace : InRange ◌<◌ r.subspaces t.subspace
  pub path : InRange PathBelow r.paths t.path
  pub time : InRange ◌<◌ r.times t.time

pub record NonEmpty3d (r : Range3d) : Type 0 where
  pub subspaces : NonEmpty ◌<◌ r.subspaces
  pub paths : NonEmpty PathBelow r.paths
  pub times : NonEmpty ◌<◌ r.times

abbrev pub Range3dIncluded : Limits → Range3d → Range3d → Type 0
Range3dIncluded L s r = (t : Triplet) → ValidTriplet L t → InRange3d s t → InRange3d r t

abbrev pub IsIntersection3d : Range3d → Range3d → Option Range3d → Type 0
IsIntersection3d r s none = (t : Triplet) → InRange3d r t → InRange3d s t → ⊥
IsIntersection3d r s (some m) =
    ((t : Triplet) → InRange3d m t ↔ (InRange3d r t × InRange3d s t))
    × ((t : Triplet) × InRange3d m t)

-- "On a 3d range: as the Rust, which also says yes to some paths past the end." The Rust's rule: the subspace is included,
-- the timestamp is not below the start, and the path is included or related to the start.
abbrev pub PrunableByRule : Range3d → Triplet → Type 0
PrunableByRule r t =
    InRange ◌<◌ r.subspaces t.subspace
    × (r.times.start ≤ t.time)
    × (InRange PathBelow r.paths t.path ⊎ (Prefix t.path r.paths.start ⊎ Prefix r.paths.start t.path))

-- The derived order: by subspaces, then paths, then times.
abbrev pub Range3dBelow : Range3d → Range3d → Type 0
Range3dBelow r s =
    PairBelow (RangeBelow ◌<◌) (PairBelow (RangeBelow PathBelow) (RangeBelow ◌<◌))
    (r.subspaces, (r.paths, r.times)) (s.subspaces, (s.paths, s.times))

-- WHAT IS COMPUTED.
unfoldable pub full_range3d : Range3d
full_range3d = record {
  subspaces = record { start = 0; end = endless };
  paths = record { start = []; end = endless };
  times = record { start = 0; end = endless };
}

unfoldable pub includes_triplet3d : Range3d → Triplet → Bool
includes_triplet3d r t =
    includes compare_numbers r.subspaces t.subspace
    && (includes compare_paths r.paths t.path
    && includes compare_numbers r.times t.time)

unfoldable pub includes_range3d : Range3d → Range3d → Bool
includes_range3d r s =
    includes_range compare_numbers r.subspaces s.subspaces
    && (includes_range compare_paths r.paths s.paths
    && includes_range compare_numbers r.times s.times)

abbrev pub range3d_of : Option (Range ℕ) → Option (Range Path) → Option (Range ℕ) → Option Range3d
range3d_of none p t = none
range3d_of (some s) none t = none
range3d_of (some s) (some p) none = none
range3d_of (some s) (some p) (some t) = some (record { subspaces = s; paths = p; times = t })

unfoldable pub intersection3d : Range3d → Range3d → Option Range3d
intersection3d r s = range3d_of
    (intersection compare_numbers r.subspaces s.subspaces)
    (intersection compare_paths r.paths s.paths)
    (intersection compare_numbers r.times s.times)

unfoldable pub range3d_prunable : Range3d → Triplet → Bool
range3d_prunable r t =
    includes compare_numbers r.subspaces t.subspace
    && (not (is_greater (compare_numbers r.times.start t.time))
    && (includes compare_paths r.paths t.path
    || (is_prefix_of t.path r.paths.start
    || is_prefix_of r.paths.start t.path)))

-- "An id's successor is id + 1, none at 2^64 − 1."
abbrev pub subspace_range : AreaSubspace → Range ℕ
subspace_range Any = record { start = 0; end = endless }
subspace_range (Id i) = record { start = i; end = cond (ltb i max_word) (closed (suc i)) endless }

-- An end at a path, open if there is none.
abbrev pub end_at : Option Path → End Path
end_at none = endless
end_at (some p) = closed p

-- "Area to 3d range includes the same triplets": it "ends at the next greater path, open if none".
unfoldable pub range3d_from : Limits → Area → Range3d
range3d_from L a = record {
  subspaces = subspace_range a.subspace;
  paths = record { start = a.path; end = end_at (next_greater L a.path) };
  times = a.times;
}

-- The order by fields: subspaces, paths, times.
abbrev pub range3d_key : Range3d → Range ℕ × (Range Path × Range ℕ)
range3d_key r = (r.subspaces, (r.paths, r.times))

abbrev pub compare_ranges3d : Range3d → Range3d → Ordering
compare_ranges3d r s =
    compare_pairs (compare_ranges compare_numbers) (compare_pairs (compare_ranges compare_paths) (compare_ranges compare_numbers))
    (range3d_key r) (range3d_key s)

-- THEOREM 7, on 3d ranges. Premises as for areas.
pub record Range3dLaws (L : Limits) : Type 0 where
  pub triplet_included : (r : Range3d) (t : Triplet) → (includes_triplet3d r t ≡ true) ↔ InRange3d r t
  pub range_included : (r s : Range3d) → ValidRange3d L r → ValidRange3d L s → NonEmpty3d s
      → (includes_range3d r s ≡ true) ↔ Range3dIncluded L s r
  pub intersected : (r s : Range3d) → IsIntersection3d r s (intersection3d r s)
  pub intersection_valid : (r s m : Range3d) → ValidRange3d L r → ValidRange3d L s → intersection3d r s ≡ some m
      → ValidRange3d L m × NonEmpty3d m
  pub prunable_means : (r : Range3d) (t : Triplet) → (range3d_prunable r t ≡ true) ↔ PrunableByRule r t
  pub prunable_if : (r : Range3d) (t : Triplet) → PrunesSome L (InRange3d r) t → range3d_prunable r t ≡ true
  pub area_triplets : (a : Area) → ValidArea L a → (t : Triplet) → ValidTriplet L t
      → InRange3d (range3d_from L a) t ↔ InArea a t
  pub order_total : Total compare_ranges3d
  pub order_means : Decides compare_ranges3d Range3dBelow
