-- WHICH NUMBER AN EXPORT THAT TAKES KINDS IS REFUSED WITH: 1, then 3, then 5, and 15 where a path is written; of ranges of numbers 3
-- alone. What is answered is the outcome that the export's own contract turns into numbers (inside of `given`, `given_range`, `given_sides`,
-- `given_area`, `given_interest`, `given_counts`), with L for `limits_of mcl mcc mpl`. An export that takes no kinds has the right side of its
-- call, whose table stands in specs/Paths.antt, specs/Grouping.antt, specs/Sheets.antt or specs/MakingTables.antt (an entry is said there by its head, and here
-- by the numbers that make it).
--
-- 5 is judged of the paths that are read with what the kinds mean (kind_law/specs/KindMeaning.antt): "a number or path passed beside kind 0
-- is not read".
use Rattle.std.specs.Prelude.{ℕ, ◌≡◌, ◌↔◌, List, [], ◌∷◌, ◌++◌}
use Rattle.std.proofs.Math.Option.{Option, none, some}
use Rattle.willow.specs.declared.Limits.{Limits}
use Rattle.willow.specs.Answers.{path_in, on_path, on_paths, outcome_if_any, written_length, packed_outcome}
use Rattle.willow.specs.Areas.{almost_includes_area, area_prunable, compare_areas, includes_area, includes_triplet}
use Rattle.willow.specs.AreasOfInterest.{compare_interest}
use Rattle.willow.specs.Kinds.{GoodKind}
use Rattle.willow.specs.Lists.{In, All}
use Rattle.willow.specs.Numbers.{Bytes}
use Rattle.willow.specs.Orders.{compare_numbers}
use Rattle.willow.specs.Paths.{Path, compare_paths}
use Rattle.willow.specs.Ranges.{compare_ends, compare_ranges, end_above, end_from, includes, includes_range, intersection}
use Rattle.willow.specs.Ranges3d.{compare_ranges3d, includes_range3d, includes_triplet3d, range3d_from, range3d_prunable}
use Rattle.willow.specs.Refusals.{Outcome, value}
use Rattle.tables.specs.TableRows.{LentPath, bad_limits, bad_kind, bad_path, read_with, out_too_small}
use Rattle.tables.specs.Tables.{Row, AnsweredBy, refusal_of}
use Rattle.range.specs.NumberRanges.{is_open}
use Rattle.kinds.specs.Kinds.{of_kinds, on_kinds, both, range_from}
use Rattle.area.specs.LentAreas.{triplet_at}
use Rattle.area_kinds.specs.AreaKinds.{Parts, area_from, area_with}
use Rattle.area_intersection.specs.Standing.{standing}
use Rattle.area_of_interest.specs.Interests.{standing_interest}
use Rattle.least.specs.Places.{next_greater_of}
use Rattle.path_bounds.specs.LentPaths.{on_lent, HoldsBytes}
use Rattle.path_bounds.specs.LentRanges.{end_paths, path_end_of, path_range_of, range_paths}
use Rattle.path_range_intersection.specs.Sides.{sides_met}
use Rattle.range_3d_intersection.specs.Sides3d.{converted_after, counts_at, sides_met3d}
use Rattle.range_3d_kinds.specs.Range3dKinds.{Parts3d, parts3d_from, range3d_with}
use Rattle.kind_law.specs.KindMeaning.{MeansSubspace, MeansEnd, MeansRange}
use Rattle.host_range.specs.RangeExports.{on_end, on_ends, on_range, on_ranges}
use Rattle.host_area_of_interest.specs.InterestExports.{interest_with}
use Rattle.refusal_law.specs.Paths.{SaidOfOne}

-- WHAT THE KINDS MEAN: an area, a 3d range, and two of any of them (`KindMeaning`, `area_means`, `range3d_means` and `both_mean`).
abbrev pub MeansArea : (kind id count start end_kind end : ℕ) → Parts → Type 0
MeansArea kind id count start end_kind end a = MeansSubspace kind id a.subspace × (a.count ≡ count) × MeansRange start end_kind end a.times

abbrev pub Means3d : (s sk e c pk d t tk u : ℕ) → Parts3d → Type 0
Means3d s sk e c pk d t tk u r = MeansRange s sk e r.subspaces × MeansRange c pk d r.paths × MeansRange t tk u r.times

abbrev pub Both : {A B : Type 0} → (A → Type 0) → (B → Type 0) → A × B → Type 0
Both M N v = M v.0 × N v.1

-- A reading of kinds and numbers: it gives what they mean, and nothing exactly if one of the kinds is neither 0 nor 1.
pub record Reading {A : Type 0} (x : Option A) (Means : A → Type 0) (kinds : List ℕ) : Type 0 where
  pub given : (a : A) → (x ≡ some a) ↔ Means a
  pub missing : (x ≡ none) ↔ ((kind : ℕ) × In kind kinds × (GoodKind kind → ⊥))

-- THE TABLE of a question on the paths that are read with what is meant.
abbrev pub kind_rows : {A : Type 0} → Limits → List ℕ → (A → Type 0) → (A → List LentPath) → List Row
kind_rows L kinds Means paths = bad_limits L ∷ bad_kind kinds ∷ bad_path L (read_with Means paths) ∷ []

-- Of two ranges of paths,
abbrev pub path_ranges_rows : Limits → (start kind end : ℕ) (s e : List ℕ) (start2 kind2 end2 : ℕ) (s2 e2 : List ℕ) → List Row
path_ranges_rows L start kind end s e start2 kind2 end2 s2 e2 =
    kind_rows L
    (kind ∷ kind2 ∷ [])
    (Both (MeansRange start kind end) (MeansRange start2 kind2 end2))
    (λ x. range_paths x.0 s e ++ range_paths x.1 s2 e2)

-- of an area and a path, and of two areas,
abbrev pub area_path_rows : Limits → (kind id count start end_kind end : ℕ) (base path : List ℕ) (pathCount : ℕ) → List Row
area_path_rows L kind id count start end_kind end base path pathCount =
    kind_rows L
    (kind ∷ end_kind ∷ [])
    (MeansArea kind id count start end_kind end)
    (λ a. (base, a.count) ∷ (path, pathCount) ∷ [])

abbrev pub areas_rows : Limits → (kind id count start end_kind end : ℕ) (base : List ℕ) (kind2 id2 count2 start2 endKind2 end2 : ℕ) (base2 : List ℕ)
    → List Row
areas_rows L kind id count start end_kind end base kind2 id2 count2 start2 endKind2 end2 base2 =
    kind_rows L
    (kind ∷ end_kind ∷ kind2 ∷ endKind2 ∷ [])
    (Both (MeansArea kind id count start end_kind end) (MeansArea kind2 id2 count2 start2 endKind2 end2))
    (λ x. (base, x.0.count) ∷ (base2, x.1.count) ∷ [])

-- of a 3d range and a path, and of two 3d ranges: subspaces (i, ik, j), paths (c, pk, d) and times (t, tk, u), each with a start, the kind
-- of the end and the end.
abbrev pub range3d_path_rows : Limits → (i ik j c pk d t tk u : ℕ) (s e path : List ℕ) (count : ℕ) → List Row
range3d_path_rows L i ik j c pk d t tk u s e path count =
    kind_rows L
    (ik ∷ pk ∷ tk ∷ [])
    (Means3d i ik j c pk d t tk u)
    (λ x. range_paths x.paths s e ++ ((path, count) ∷ []))

abbrev pub ranges3d_rows : Limits → (i ik j c pk d t tk u : ℕ) (s e : List ℕ) (i2 ik2 j2 c2 pk2 d2 t2 tk2 u2 : ℕ) (s2 e2 : List ℕ) → List Row
ranges3d_rows L i ik j c pk d t tk u s e i2 ik2 j2 c2 pk2 d2 t2 tk2 u2 s2 e2 =
    kind_rows L
    (ik ∷ pk ∷ tk ∷ ik2 ∷ pk2 ∷ tk2 ∷ [])
    (Both (Means3d i ik j c pk d t tk u) (Means3d i2 ik2 j2 c2 pk2 d2 t2 tk2 u2))
    (λ x. range_paths x.0.paths s e ++ range_paths x.1.paths s2 e2)

-- The bytes that an area's conversion writes: the next greater path of the area's path, packed, where there is one.
abbrev pub SaidOfArea : Limits → (Parts → Type 0) → List ℕ → List ℕ → Type 0
SaidOfArea L Means base v = (a : Parts) × Means a × SaidOfOne L base a.count (λ p. packed_outcome (next_greater_of L p)) v

-- THE LAWS, of any reading and any question that refuses nothing by itself; and THE EXPORTS. The premises are that lent buffers hold
-- bytes: kinds 0, numbers 0 and empty buffers meet them all, and the reading of an end is one (`end_from`, with `MeansEnd`).
pub record ExportTables : Type 1 where
  pub kinds_asked : {A B : Type 0} (x : Option B) (Means : B → Type 0) (kinds : List ℕ) (f : B → Outcome A)
      → Reading x Means kinds → ((b : B) → refusal_of (f b) ≡ none) → AnsweredBy (bad_kind kinds ∷ []) (refusal_of (of_kinds x f))
  pub kinds_paths_asked : {A B : Type 0} (L : Limits) (x : Option B) (Means : B → Type 0) (kinds : List ℕ) (paths : B → List LentPath)
      (o : B → Outcome A)
      → Reading x Means kinds → ((b : B) → refusal_of (o b) ≡ none) → ((b : B) → All HoldsBytes (paths b))
      → AnsweredBy (kind_rows L kinds Means paths) (refusal_of (on_kinds L x (λ b. on_lent L (paths b) (o b))))
  pub kinds_two_asked : {A B : Type 0} (L : Limits) (x : Option B) (Means : B → Type 0) (kinds : List ℕ) (a b : List ℕ) (j k : B → ℕ)
      (f : B → Path → Path → Outcome A)
      → Reading x Means kinds → ((y : B) (p q : Path) → refusal_of (f y p q) ≡ none) → Bytes a → Bytes b
      → AnsweredBy (kind_rows L kinds Means (λ y. (a, j y) ∷ (b, k y) ∷ [])) (refusal_of (on_kinds L x (λ y. on_paths L a (j y) b (k y) (f y))))
  -- host_range
  pub range_end_above : (kind end val : ℕ)
      → AnsweredBy (bad_kind (kind ∷ []) ∷ []) (refusal_of (on_end kind end (λ e. value (end_above compare_numbers e val))))
  pub range_compare_ends : (kind end kind2 end2 : ℕ)
      → AnsweredBy (bad_kind (kind ∷ kind2 ∷ []) ∷ []) (refusal_of (on_ends kind end kind2 end2 (λ d e. value (compare_ends compare_numbers d e))))
  pub range_is_open : (start kind end : ℕ) → AnsweredBy (bad_kind (kind ∷ []) ∷ []) (refusal_of (on_range start kind end (λ s. value (is_open s.end))))
  pub range_includes : (start kind end val : ℕ)
      → AnsweredBy (bad_kind (kind ∷ []) ∷ []) (refusal_of (on_range start kind end (λ s. value (includes compare_numbers s val))))
  pub range_includes_range : (start kind end start2 kind2 end2 : ℕ)
      → AnsweredBy (bad_kind (kind ∷ kind2 ∷ []) ∷ [])
      (refusal_of (on_ranges start kind end start2 kind2 end2 (λ s t. value (includes_range compare_numbers s t))))
  pub range_intersection : (start kind end start2 kind2 end2 : ℕ)
      → AnsweredBy (bad_kind (kind ∷ kind2 ∷ []) ∷ [])
      (refusal_of (on_ranges start kind end start2 kind2 end2 (λ s t. outcome_if_any (intersection compare_numbers s t))))
  pub range_compare : (start kind end start2 kind2 end2 : ℕ)
      → AnsweredBy (bad_kind (kind ∷ kind2 ∷ []) ∷ [])
      (refusal_of (on_ranges start kind end start2 kind2 end2 (λ s t. value (compare_ranges compare_numbers s t))))
  -- host_path_range and host_path_range_intersection
  pub path_range_end_above : (L : Limits) (kind end : ℕ) (e path : List ℕ) (count : ℕ) → Bytes e → Bytes path
      → AnsweredBy (kind_rows L (kind ∷ []) (MeansEnd kind end) (λ x. end_paths x e ++ ((path, count) ∷ [])))
      (refusal_of (on_kinds L (end_from kind end)
      (λ x. on_lent L (end_paths x e ++ ((path, count) ∷ [])) (value (end_above compare_paths (path_end_of x e) (path_in path count))))))
  pub path_range_compare_ends : (L : Limits) (kind end : ℕ) (e : List ℕ) (kind2 end2 : ℕ) (e2 : List ℕ) → Bytes e → Bytes e2
      → AnsweredBy
      (kind_rows L (kind ∷ kind2 ∷ []) (Both (MeansEnd kind end) (MeansEnd kind2 end2)) (λ x. end_paths x.0 e ++ end_paths x.1 e2))
      (refusal_of (on_kinds L (both (end_from kind end) (end_from kind2 end2))
      (λ x. on_lent L (end_paths x.0 e ++ end_paths x.1 e2) (value (compare_ends compare_paths (path_end_of x.0 e) (path_end_of x.1 e2))))))
  pub path_range_includes : (L : Limits) (start : ℕ) (s : List ℕ) (kind end : ℕ) (e path : List ℕ) (count : ℕ) → Bytes s → Bytes e → Bytes path
      → AnsweredBy (kind_rows L (kind ∷ []) (MeansRange start kind end) (λ x. range_paths x s e ++ ((path, count) ∷ [])))
      (refusal_of (on_kinds L (range_from start kind end)
      (λ x. on_lent L (range_paths x s e ++ ((path, count) ∷ [])) (value (includes compare_paths (path_range_of x s e) (path_in path count))))))
  pub path_range_includes_range : (L : Limits) (start kind end : ℕ) (s e : List ℕ) (start2 kind2 end2 : ℕ) (s2 e2 : List ℕ)
      → Bytes s → Bytes e → Bytes s2 → Bytes e2
      → AnsweredBy (path_ranges_rows L start kind end s e start2 kind2 end2 s2 e2)
      (refusal_of (on_kinds L (both (range_from start kind end) (range_from start2 kind2 end2))
      (λ x. on_lent L (range_paths x.0 s e ++ range_paths x.1 s2 e2)
      (value (includes_range compare_paths (path_range_of x.0 s e) (path_range_of x.1 s2 e2))))))
  pub path_range_compare : (L : Limits) (start kind end : ℕ) (s e : List ℕ) (start2 kind2 end2 : ℕ) (s2 e2 : List ℕ)
      → Bytes s → Bytes e → Bytes s2 → Bytes e2
      → AnsweredBy (path_ranges_rows L start kind end s e start2 kind2 end2 s2 e2)
      (refusal_of (on_kinds L (both (range_from start kind end) (range_from start2 kind2 end2))
      (λ x. on_lent L (range_paths x.0 s e ++ range_paths x.1 s2 e2)
      (value (compare_ranges compare_paths (path_range_of x.0 s e) (path_range_of x.1 s2 e2))))))
  pub path_range_intersection : (L : Limits) (start kind end : ℕ) (s e : List ℕ) (start2 kind2 end2 : ℕ) (s2 e2 : List ℕ)
      → Bytes s → Bytes e → Bytes s2 → Bytes e2
      → AnsweredBy (path_ranges_rows L start kind end s e start2 kind2 end2 s2 e2)
      (refusal_of (on_kinds L (both (range_from start kind end) (range_from start2 kind2 end2))
      (λ x. on_lent L (range_paths x.0 s e ++ range_paths x.1 s2 e2)
      (sides_met compare_paths (path_range_of x.0 s e) (path_range_of x.1 s2 e2)))))
  -- host_area and host_area_intersection
  pub area_includes_triplet : (L : Limits) (kind id count start end_kind end : ℕ) (base : List ℕ) (subspace : ℕ) (path : List ℕ) (pathCount timestamp : ℕ)
      → Bytes base → Bytes path
      → AnsweredBy (area_path_rows L kind id count start end_kind end base path pathCount)
      (refusal_of (on_kinds L (area_from kind id count start end_kind end)
      (λ a. on_paths L base a.count path pathCount (λ p q. value (includes_triplet (area_with a p) (triplet_at subspace q timestamp))))))
  pub area_could_be_pruned_by_triplet : (L : Limits) (kind id count start end_kind end : ℕ) (base : List ℕ) (subspace : ℕ) (path : List ℕ)
      (pathCount timestamp : ℕ)
      → Bytes base → Bytes path
      → AnsweredBy (area_path_rows L kind id count start end_kind end base path pathCount)
      (refusal_of (on_kinds L (area_from kind id count start end_kind end)
      (λ a. on_paths L base a.count path pathCount (λ p q. value (area_prunable (area_with a p) (triplet_at subspace q timestamp))))))
  pub area_includes_area : (L : Limits) (kind id count start end_kind end : ℕ) (base : List ℕ)
      (kind2 id2 count2 start2 endKind2 end2 : ℕ) (base2 : List ℕ)
      → Bytes base → Bytes base2
      → AnsweredBy (areas_rows L kind id count start end_kind end base kind2 id2 count2 start2 endKind2 end2 base2)
      (refusal_of (on_kinds L (both (area_from kind id count start end_kind end) (area_from kind2 id2 count2 start2 endKind2 end2))
      (λ x. on_paths L base x.0.count base2 x.1.count (λ p q. value (includes_area (area_with x.0 p) (area_with x.1 q))))))
  pub area_almost_includes_area : (L : Limits) (kind id count start end_kind end : ℕ) (base : List ℕ)
      (kind2 id2 count2 start2 endKind2 end2 : ℕ) (base2 : List ℕ)
      → Bytes base → Bytes base2
      → AnsweredBy (areas_rows L kind id count start end_kind end base kind2 id2 count2 start2 endKind2 end2 base2)
      (refusal_of (on_kinds L (both (area_from kind id count start end_kind end) (area_from kind2 id2 count2 start2 endKind2 end2))
      (λ x. on_paths L base x.0.count base2 x.1.count (λ p q. value (almost_includes_area (area_with x.0 p) (area_with x.1 q))))))
  pub area_compare : (L : Limits) (kind id count start end_kind end : ℕ) (base : List ℕ)
      (kind2 id2 count2 start2 endKind2 end2 : ℕ) (base2 : List ℕ)
      → Bytes base → Bytes base2
      → AnsweredBy (areas_rows L kind id count start end_kind end base kind2 id2 count2 start2 endKind2 end2 base2)
      (refusal_of (on_kinds L (both (area_from kind id count start end_kind end) (area_from kind2 id2 count2 start2 endKind2 end2))
      (λ x. on_paths L base x.0.count base2 x.1.count (λ p q. value (compare_areas (area_with x.0 p) (area_with x.1 q))))))
  pub area_intersection_lem : (L : Limits) (kind id count start end_kind end : ℕ) (base : List ℕ)
      (kind2 id2 count2 start2 endKind2 end2 : ℕ) (base2 : List ℕ)
      → Bytes base → Bytes base2
      → AnsweredBy (areas_rows L kind id count start end_kind end base kind2 id2 count2 start2 endKind2 end2 base2)
      (refusal_of (on_kinds L (both (area_from kind id count start end_kind end) (area_from kind2 id2 count2 start2 endKind2 end2))
      (λ x. on_paths L base x.0.count base2 x.1.count (λ p q. standing (area_with x.0 p) (area_with x.1 q)))))
  -- host_area_of_interest: the counts and sizes m and z play no part
  pub area_of_interest_intersection : (L : Limits) (kind id count start end_kind end m z : ℕ) (base : List ℕ)
      (kind2 id2 count2 start2 endKind2 end2 m2 z2 : ℕ) (base2 : List ℕ)
      → Bytes base → Bytes base2
      → AnsweredBy (areas_rows L kind id count start end_kind end base kind2 id2 count2 start2 endKind2 end2 base2)
      (refusal_of (on_kinds L (both (area_from kind id count start end_kind end) (area_from kind2 id2 count2 start2 endKind2 end2))
      (λ x. on_paths L base x.0.count base2 x.1.count
      (λ p q. standing_interest (interest_with x.0 p m z) (interest_with x.1 q m2 z2)))))
  pub area_of_interest_compare : (L : Limits) (kind id count start end_kind end m z : ℕ) (base : List ℕ)
      (kind2 id2 count2 start2 endKind2 end2 m2 z2 : ℕ) (base2 : List ℕ)
      → Bytes base → Bytes base2
      → AnsweredBy (areas_rows L kind id count start end_kind end base kind2 id2 count2 start2 endKind2 end2 base2)
      (refusal_of (on_kinds L (both (area_from kind id count start end_kind end) (area_from kind2 id2 count2 start2 endKind2 end2))
      (λ x. on_paths L base x.0.count base2 x.1.count
      (λ p q. value (compare_interest (interest_with x.0 p m z) (interest_with x.1 q m2 z2))))))
  -- host_range_3d and host_range_3d_intersection
  pub range_3d_includes_triplet : (L : Limits) (i ik j c pk d t tk u : ℕ) (s e : List ℕ) (subspace : ℕ) (path : List ℕ) (count timestamp : ℕ)
      → Bytes s → Bytes e → Bytes path
      → AnsweredBy (range3d_path_rows L i ik j c pk d t tk u s e path count)
      (refusal_of (on_kinds L (parts3d_from i ik j c pk d t tk u)
      (λ x. on_lent L (range_paths x.paths s e ++ ((path, count) ∷ []))
      (value (includes_triplet3d (range3d_with x s e) (triplet_at subspace (path_in path count) timestamp))))))
  pub range_3d_could_be_pruned_by_triplet : (L : Limits) (i ik j c pk d t tk u : ℕ) (s e : List ℕ) (subspace : ℕ) (path : List ℕ)
      (count timestamp : ℕ)
      → Bytes s → Bytes e → Bytes path
      → AnsweredBy (range3d_path_rows L i ik j c pk d t tk u s e path count)
      (refusal_of (on_kinds L (parts3d_from i ik j c pk d t tk u)
      (λ x. on_lent L (range_paths x.paths s e ++ ((path, count) ∷ []))
      (value (range3d_prunable (range3d_with x s e) (triplet_at subspace (path_in path count) timestamp))))))
  pub range_3d_includes_range : (L : Limits) (i ik j c pk d t tk u : ℕ) (s e : List ℕ) (i2 ik2 j2 c2 pk2 d2 t2 tk2 u2 : ℕ) (s2 e2 : List ℕ)
      → Bytes s → Bytes e → Bytes s2 → Bytes e2
      → AnsweredBy (ranges3d_rows L i ik j c pk d t tk u s e i2 ik2 j2 c2 pk2 d2 t2 tk2 u2 s2 e2)
      (refusal_of (on_kinds L (both (parts3d_from i ik j c pk d t tk u) (parts3d_from i2 ik2 j2 c2 pk2 d2 t2 tk2 u2))
      (λ x. on_lent L (range_paths x.0.paths s e ++ range_paths x.1.paths s2 e2)
      (value (includes_range3d (range3d_with x.0 s e) (range3d_with x.1 s2 e2))))))
  pub range_3d_compare : (L : Limits) (i ik j c pk d t tk u : ℕ) (s e : List ℕ) (i2 ik2 j2 c2 pk2 d2 t2 tk2 u2 : ℕ) (s2 e2 : List ℕ)
      → Bytes s → Bytes e → Bytes s2 → Bytes e2
      → AnsweredBy (ranges3d_rows L i ik j c pk d t tk u s e i2 ik2 j2 c2 pk2 d2 t2 tk2 u2 s2 e2)
      (refusal_of (on_kinds L (both (parts3d_from i ik j c pk d t tk u) (parts3d_from i2 ik2 j2 c2 pk2 d2 t2 tk2 u2))
      (λ x. on_lent L (range_paths x.0.paths s e ++ range_paths x.1.paths s2 e2)
      (value (compare_ranges3d (range3d_with x.0 s e) (range3d_with x.1 s2 e2))))))
  pub range_3d_intersection : (L : Limits) (i ik j c pk d t tk u : ℕ) (s e : List ℕ) (i2 ik2 j2 c2 pk2 d2 t2 tk2 u2 : ℕ) (s2 e2 : List ℕ)
      → Bytes s → Bytes e → Bytes s2 → Bytes e2
      → AnsweredBy (ranges3d_rows L i ik j c pk d t tk u s e i2 ik2 j2 c2 pk2 d2 t2 tk2 u2 s2 e2)
      (refusal_of (on_kinds L (both (parts3d_from i ik j c pk d t tk u) (parts3d_from i2 ik2 j2 c2 pk2 d2 t2 tk2 u2))
      (λ x. on_lent L (range_paths x.0.paths s e ++ range_paths x.1.paths s2 e2)
      (sides_met3d (range3d_with x.0 s e) (range3d_with x.1 s2 e2)))))
  -- host_range_3d_conversion, which writes the next greater path of the area's
  pub range_3d_from_area : (L : Limits) (kind id count start end_kind end : ℕ) (base out : List ℕ) → Bytes base
      → AnsweredBy
      (bad_limits L
      ∷ bad_kind (kind ∷ end_kind ∷ [])
      ∷ bad_path L (read_with (MeansArea kind id count start end_kind end) (λ a. (base, a.count) ∷ []))
      ∷ out_too_small (SaidOfArea L (MeansArea kind id count start end_kind end) base) out
      ∷ [])
      (refusal_of (on_kinds L (area_from kind id count start end_kind end)
      (λ a. converted_after (written_length (packed_outcome (on_path L base a.count (next_greater_of L))) out)
      (counts_at (range3d_from L (area_with a (path_in base a.count)))))))
