-- Bounds of ranges, areas and 3d ranges: their parts are compared each by itself. And the 3d range of an area: an id has a successor or none,
-- and what is next greater than a valid path is valid and above it.
use Prim.Native.Nat.{ℕ, suc, ◌<◌, ◌≤◌}
use mathlib.Core.Path.{◌≡◌, refl, sym, ◌∙◌}
use mathlib.Core.Logic.{◌↔◌}
use mathlib.Core.Option.{Option, none, some}
use mathlib.Core.Bool.{Bool, true, false, cond, false≢true}
use native.Mathlib.Omega.{arith}
use lib.Dec.{ltb}
use borrow.Author.Tests.{eqb-true, eq-eqb, ltb-true}
use Rattle.willow.specs.declared.AreaSubspace.{AreaSubspace}
use Rattle.willow.specs.declared.AreaSubspace.TheVariants.{Any, Id}
use Rattle.willow.specs.declared.Limits.{Limits}
use Rattle.willow.specs.Areas.{Triplet, Area, SubspaceWord, ValidArea, InSubspace, NotTwoIds, includes_subspace, includes_area_subspace, subspaces_agree, includes_area, almost_includes_area, area_prunable}
use Rattle.willow.specs.LeastPaths.{Least, GreaterNotPrefixed, next_greater}
use Rattle.willow.specs.Limits.{max_word}
use Rattle.willow.specs.Paths.{Path, Valid, PathBelow, Prefix, Related}
use Rattle.willow.specs.Ranges.{closed, endless, EndHas, BeforeEnd, NonEmpty}
use Rattle.willow.specs.Ranges3d.{Range3d, ValidRange3d, NonEmpty3d, includes_range3d, subspace_range, end_at, range3d_from}
use Rattle.willow.proofs.AreaLaws.{start_means}
use Rattle.willow.proofs.Bools.{conjunction_means}
use Rattle.willow.proofs.LeastPathLaws.{least_paths}
use Rattle.willow.proofs.PathLaws.{path_prefix}
use Rattle.willow.proofs.RangeLaws.{number_ranges, path_ranges}
use Rattle.tables.specs.Bounds.{BoundsWithin, AreaBounds, Range3dBounds}

-- SUBSPACES.
subspace_means : (s : AreaSubspace) (i : ℕ) → (includes_subspace s i ≡ true) ↔ InSubspace s i
subspace_means Any i = (λ e. tt, λ h. refl)
subspace_means (Id j) i = (eqb-true i j, eq-eqb i j)

agree_means : (s u : AreaSubspace) → (subspaces_agree s u ≡ true) ↔ NotTwoIds s u
agree_means Any u = (λ e. tt, λ h. refl)
agree_means (Id i) Any = (λ e. tt, λ h. refl)
agree_means (Id i) (Id j) = (eqb-true i j, eq-eqb i j)

every_subspace : (s u : AreaSubspace) → (includes_area_subspace s u ≡ true) ↔ ((i : ℕ) → InSubspace u i → InSubspace s i)
every_subspace Any u = (λ e i h. tt, λ h. refl)
every_subspace (Id i) Any = (λ e. absurd (false≢true e), λ h. absurd (two (h 0 tt) (h 1 tt)))
  where
    two : 0 ≡ i → 1 ≡ i → ⊥
    two a b = omega arith
every_subspace (Id i) (Id j) = (λ e k h. h ∙ sym (eqb-true i j e), λ h. eq-eqb i j (sym (h j refl)))

-- AREAS.
bounds_included : (a b : Area) → (includes_area a b ≡ true)
    ↔ (((i : ℕ) → InSubspace b.subspace i → InSubspace a.subspace i)
    × (Prefix a.path b.path
    × BoundsWithin ◌<◌ a.times b.times))
unfolding includes_area
bounds_included a b = conjunction_means
    (every_subspace a.subspace b.subspace)
    (conjunction_means (path_prefix.prefix_means a.path b.path) (number_ranges.bounds_included a.times b.times))

bounds_almost : (a b : Area) → (almost_includes_area a b ≡ true)
    ↔ (NotTwoIds a.subspace b.subspace
    × (Prefix a.path b.path
    × BoundsWithin ◌<◌ a.times b.times))
unfolding almost_includes_area
bounds_almost a b = conjunction_means
    (agree_means a.subspace b.subspace)
    (conjunction_means (path_prefix.prefix_means a.path b.path) (number_ranges.bounds_included a.times b.times))

prunable_means : (a : Area) (t : Triplet) → (area_prunable a t ≡ true)
    ↔ (InSubspace a.subspace t.subspace × ((a.times.start ≤ t.time) × Related t.path a.path))
unfolding area_prunable
prunable_means a t = conjunction_means
    (subspace_means a.subspace t.subspace)
    (conjunction_means (start_means a.times.start t.time) (path_prefix.related_means t.path a.path))

pub area_bounds : AreaBounds
area_bounds = record { bounds_included = bounds_included; bounds_almost = bounds_almost; prunable_means = prunable_means }

-- 3D RANGES.
bounds_included3d : (L : Limits) (r s : Range3d) → (includes_range3d r s ≡ true)
    ↔ (BoundsWithin ◌<◌ r.subspaces s.subspaces × (BoundsWithin PathBelow r.paths s.paths × BoundsWithin ◌<◌ r.times s.times))
unfolding includes_range3d
bounds_included3d L r s = conjunction_means
    (number_ranges.bounds_included r.subspaces s.subspaces)
    (conjunction_means ((path_ranges L).bounds_included r.paths s.paths) (number_ranges.bounds_included r.times s.times))

-- AN AREA AS A 3D RANGE is one of valid bounds, each start below its end.
module _ (L : Limits) where
  id_start : (s : AreaSubspace) → SubspaceWord s → (subspace_range s).start ≤ max_word
  id_start Any w = omega arith
  id_start (Id i) w = w

  id_end : (s : AreaSubspace) → SubspaceWord s → EndHas (λ n. n ≤ max_word) (subspace_range s).end
  id_end Any w = tt
  id_end (Id i) w = go (ltb i max_word) refl
    where
      go : (b : Bool) → ltb i max_word ≡ b → EndHas (λ n. n ≤ max_word) (cond b (closed (suc i)) endless)
      go true e = ltb-true i max_word e
      go false e = tt

  id_nonempty : (s : AreaSubspace) → NonEmpty ◌<◌ (subspace_range s)
  id_nonempty Any = tt
  id_nonempty (Id i) = go (ltb i max_word)
    where
      go : (b : Bool) → BeforeEnd ◌<◌ i (cond b (closed (suc i)) endless)
      go true = omega arith
      go false = tt

  next_valid : (p : Path) (n : Option Path) → Least (GreaterNotPrefixed L p) n → EndHas (Valid L) (end_at n) × BeforeEnd PathBelow p (end_at n)
  next_valid p none h = (tt, tt)
  next_valid p (some q) h = (h.0.0, h.0.1)

  area_valid : (a : Area) → ValidArea L a → ValidRange3d L (range3d_from L a)
  unfolding range3d_from
  area_valid a v = record {
    subspace_start = id_start a.subspace v.subspace_word;
    subspace_end = id_end a.subspace v.subspace_word;
    path_start = v.path_valid;
    path_end_lem = (next_valid a.path (next_greater L a.path) ((least_paths L).next_greater_lem a.path v.path_valid)).0;
    time_start = v.start_word;
    time_end = v.end_word;
  }

  area_nonempty : (a : Area) → ValidArea L a → NonEmpty ◌<◌ a.times → NonEmpty3d (range3d_from L a)
  unfolding range3d_from
  area_nonempty a v n = record {
    subspaces = id_nonempty a.subspace;
    paths = (next_valid a.path (next_greater L a.path) ((least_paths L).next_greater_lem a.path v.path_valid)).1;
    times = n;
  }

pub range3d_bounds : (L : Limits) → Range3dBounds L
range3d_bounds L = record { bounds_included = bounds_included3d L; area_valid = area_valid L; area_nonempty = area_nonempty L }
