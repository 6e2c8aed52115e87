-- WHICH NUMBER A CALL ON RANGES OF PATHS, AREAS, 3D RANGES AND ENTRIES IS REFUSED WITH, as specs/Paths.antt has it for paths: what is
-- answered is the right side of the call's own contract, and its table is 1 and 5 of the paths that are lent with it; a path beside an open
-- end is none of them (`end_paths`). One call writes a path, so it can meet 15 too.
--
-- The exports of `entry_questions`, and `wotskrale_path_range_new_closed`, have the right side of their call inside of `given`, of an entry
-- with the head of the numbers that are passed; those that take kinds stand in specs/Exports.antt. What takes no path refuses nothing.
use Rattle.range.specs.NumberRanges.{range_of}
use Rattle.std.specs.Prelude.{ℕ, ◌≡◌, List, [], ◌∷◌, ◌++◌}
use Rattle.std.proofs.Math.Option.{none}
use Rattle.willow.specs.declared.Limits.{Limits}
use Rattle.willow.specs.Answers.{path_in, on_path, on_paths, written_length, packed_outcome}
use Rattle.willow.specs.Areas.{almost_includes_area, area_prunable, compare_areas, includes_area, includes_triplet}
use Rattle.willow.specs.AreasOfInterest.{compare_interest}
use Rattle.willow.specs.Entries.{compare_entries, compare_places, prunes, same_entry}
use Rattle.willow.specs.Lists.{All, is_some}
use Rattle.willow.specs.Numbers.{Bytes}
use Rattle.willow.specs.Paths.{compare_paths}
use Rattle.willow.specs.Ranges.{compare_ends, compare_ranges, end_above, includes, includes_range, new_closed, End, Range}
use Rattle.willow.specs.Ranges3d.{compare_ranges3d, includes_range3d, includes_triplet3d, range3d_from, range3d_prunable}
use Rattle.willow.specs.Refusals.{Outcome, value}
use Rattle.tables.specs.TableRows.{LentPath, lent_rows, lent_written_rows}
use Rattle.tables.specs.Tables.{AnsweredBy, refusal_of}
use Rattle.range_end.specs.EndValues.{compare_end_value, compare_value_end, is_end_value}
use Rattle.path_bounds.specs.LentPaths.{on_lent, HoldsBytes}
use Rattle.path_bounds.specs.LentRanges.{end_paths, path_end_of, path_range_of, range_paths}
use Rattle.path_range_intersection.specs.Sides.{sides_met}
use Rattle.area.specs.declared.Area.{Area}
use Rattle.area.specs.LentAreas.{area_at, area_in, on_areas, triplet_at}
use Rattle.area_intersection.specs.Standing.{standing}
use Rattle.area_of_interest.specs.declared.AreaOfInterest.{AreaOfInterest}
use Rattle.area_of_interest.specs.Interests.{on_interests, standing_interest}
use Rattle.entry.specs.declared.Head.{Head}
use Rattle.entry.specs.Heads.{entry_at}
use Rattle.least.specs.Places.{next_greater_of}
use Rattle.range_3d.specs.declared.Range3d.{Range3d}
use Rattle.range_3d.specs.LentRanges3d.{on_range3d, on_ranges3d}
use Rattle.range_3d_intersection.specs.Sides3d.{converted_after, counts_at, sides_met3d}
use Rattle.refusal_law.specs.Paths.{SaidOfOne}

-- THE TABLE of what is answered on the paths ps, whatever else the call is given: 1 and 5.
abbrev pub Judged : {A : Type 0} → Limits → List LentPath → Outcome A → Type 0
Judged L ps o = AnsweredBy (lent_rows L ps) (refusal_of o)

-- THE LAW, of what refuses nothing by itself and is answered unless one of the paths is refused; and THE CALLS. The premises are that lent
-- buffers hold bytes: limits of 0 and empty buffers meet them all.
pub record GroupingTables : Type 1 where
  pub lent_asked : {A : Type 0} (L : Limits) (ps : List LentPath) (o : Outcome A) → refusal_of o ≡ none → All HoldsBytes ps → Judged L ps (on_lent L ps o)
  -- path_end
  pub path_end_gt_val : (L : Limits) (end : End ℕ) (e path : List ℕ) (count : ℕ) → Bytes e → Bytes path
      → Judged L (end_paths end e ++ ((path, count) ∷ []))
      (on_lent L (end_paths end e ++ ((path, count) ∷ [])) (value (end_above compare_paths (path_end_of end e) (path_in path count))))
  pub path_end_compare_ends : (L : Limits) (end : End ℕ) (e : List ℕ) (end2 : End ℕ) (e2 : List ℕ) → Bytes e → Bytes e2
      → Judged L (end_paths end e ++ end_paths end2 e2)
      (on_lent L (end_paths end e ++ end_paths end2 e2) (value (compare_ends compare_paths (path_end_of end e) (path_end_of end2 e2))))
  pub path_end_end_equals : (L : Limits) (end : End ℕ) (e path : List ℕ) (count : ℕ) → Bytes e → Bytes path
      → Judged L (end_paths end e ++ ((path, count) ∷ []))
      (on_lent L (end_paths end e ++ ((path, count) ∷ [])) (value (is_end_value compare_paths (path_end_of end e) (path_in path count))))
  pub path_end_compare_end : (L : Limits) (end : End ℕ) (e path : List ℕ) (count : ℕ) → Bytes e → Bytes path
      → Judged L (end_paths end e ++ ((path, count) ∷ []))
      (on_lent L (end_paths end e ++ ((path, count) ∷ [])) (value (compare_end_value compare_paths (path_end_of end e) (path_in path count))))
  pub path_end_compare_value : (L : Limits) (path : List ℕ) (count : ℕ) (end : End ℕ) (e : List ℕ) → Bytes e → Bytes path
      → Judged L (end_paths end e ++ ((path, count) ∷ []))
      (on_lent L (end_paths end e ++ ((path, count) ∷ [])) (value (compare_value_end compare_paths (path_in path count) (path_end_of end e))))
  -- path_range, and its intersection
  pub path_range_new_closed : (L : Limits) (s : List ℕ) (cs : ℕ) (e : List ℕ) (ce : ℕ) → Bytes s → Bytes e
      → Judged L ((s, cs) ∷ (e, ce) ∷ []) (on_paths L s cs e ce (λ p q. value (is_some (new_closed compare_paths p q))))
  pub path_range_includes : (L : Limits) (range : Range ℕ) (s e path : List ℕ) (count : ℕ) → Bytes s → Bytes e → Bytes path
      → Judged L (range_paths range s e ++ ((path, count) ∷ []))
      (on_lent L (range_paths range s e ++ ((path, count) ∷ [])) (value (includes compare_paths (path_range_of range s e) (path_in path count))))
  pub path_range_includes_range : (L : Limits) (range : Range ℕ) (s e : List ℕ) (range2 : Range ℕ) (s2 e2 : List ℕ)
      → Bytes s → Bytes e → Bytes s2 → Bytes e2
      → Judged L (range_paths range s e ++ range_paths range2 s2 e2)
      (on_lent L (range_paths range s e ++ range_paths range2 s2 e2)
      (value (includes_range compare_paths (path_range_of range s e) (path_range_of range2 s2 e2))))
  pub path_range_compare : (L : Limits) (range : Range ℕ) (s e : List ℕ) (range2 : Range ℕ) (s2 e2 : List ℕ)
      → Bytes s → Bytes e → Bytes s2 → Bytes e2
      → Judged L (range_paths range s e ++ range_paths range2 s2 e2)
      (on_lent L (range_paths range s e ++ range_paths range2 s2 e2)
      (value (compare_ranges compare_paths (path_range_of range s e) (path_range_of range2 s2 e2))))
  pub path_range_intersection : (L : Limits) (range : Range ℕ) (s e : List ℕ) (range2 : Range ℕ) (s2 e2 : List ℕ)
      → Bytes s → Bytes e → Bytes s2 → Bytes e2
      → Judged L (range_paths range s e ++ range_paths range2 s2 e2)
      (on_lent L (range_paths range s e ++ range_paths range2 s2 e2)
      (sides_met compare_paths (path_range_of range s e) (path_range_of range2 s2 e2)))
  -- area_questions, and the intersection of areas
  pub area_includes_triplet : (L : Limits) (area : Area) (base : List ℕ) (subspace : ℕ) (path : List ℕ) (count timestamp : ℕ)
      → Bytes base → Bytes path
      → Judged L ((base, area.count) ∷ (path, count) ∷ [])
      (on_paths L base area.count path count (λ p q. value (includes_triplet (area_at area p) (triplet_at subspace q timestamp))))
  pub area_includes_entry : (L : Limits) (area : Area) (base : List ℕ) (head : Head) (path : List ℕ) (count : ℕ) → Bytes base → Bytes path
      → Judged L ((base, area.count) ∷ (path, count) ∷ [])
      (on_paths L base area.count path count (λ p q. value (includes_triplet (area_at area p) (triplet_at head.subspace q head.timestamp))))
  pub area_includes_area : (L : Limits) (area : Area) (base : List ℕ) (other : Area) (base2 : List ℕ) → Bytes base → Bytes base2
      → Judged L ((base, area.count) ∷ (base2, other.count) ∷ []) (on_areas L area base other base2 (λ a b. value (includes_area a b)))
  pub area_almost_includes_area : (L : Limits) (area : Area) (base : List ℕ) (other : Area) (base2 : List ℕ) → Bytes base → Bytes base2
      → Judged L ((base, area.count) ∷ (base2, other.count) ∷ []) (on_areas L area base other base2 (λ a b. value (almost_includes_area a b)))
  pub area_could_be_pruned_by_triplet : (L : Limits) (area : Area) (base : List ℕ) (subspace : ℕ) (path : List ℕ) (count timestamp : ℕ)
      → Bytes base → Bytes path
      → Judged L ((base, area.count) ∷ (path, count) ∷ [])
      (on_paths L base area.count path count (λ p q. value (area_prunable (area_at area p) (triplet_at subspace q timestamp))))
  pub area_could_be_pruned_by : (L : Limits) (area : Area) (base : List ℕ) (head : Head) (path : List ℕ) (count : ℕ) → Bytes base → Bytes path
      → Judged L ((base, area.count) ∷ (path, count) ∷ [])
      (on_paths L base area.count path count (λ p q. value (area_prunable (area_at area p) (triplet_at head.subspace q head.timestamp))))
  pub area_compare : (L : Limits) (area : Area) (base : List ℕ) (other : Area) (base2 : List ℕ) → Bytes base → Bytes base2
      → Judged L ((base, area.count) ∷ (base2, other.count) ∷ []) (on_areas L area base other base2 (λ a b. value (compare_areas a b)))
  pub area_intersection_lem : (L : Limits) (area : Area) (base : List ℕ) (other : Area) (base2 : List ℕ) → Bytes base → Bytes base2
      → Judged L ((base, area.count) ∷ (base2, other.count) ∷ []) (on_areas L area base other base2 standing)
  -- area_of_interest
  pub area_of_interest_intersection : (L : Limits) (interest : AreaOfInterest) (base : List ℕ) (other : AreaOfInterest) (base2 : List ℕ)
      → Bytes base → Bytes base2
      → Judged L ((base, interest.area.count) ∷ (base2, other.area.count) ∷ []) (on_interests L interest base other base2 standing_interest)
  pub area_of_interest_compare : (L : Limits) (interest : AreaOfInterest) (base : List ℕ) (other : AreaOfInterest) (base2 : List ℕ)
      → Bytes base → Bytes base2
      → Judged L ((base, interest.area.count) ∷ (base2, other.area.count) ∷ [])
      (on_interests L interest base other base2 (λ a b. value (compare_interest a b)))
  -- range_3d_questions
  pub range_3d_includes_triplet : (L : Limits) (range : Range3d ℕ) (s e : List ℕ) (subspace : ℕ) (path : List ℕ) (count timestamp : ℕ)
      → Bytes s → Bytes e → Bytes path
      → Judged L (range_paths (range_of range.paths) s e ++ ((path, count) ∷ []))
      (on_range3d L range s e path count (λ t p. value (includes_triplet3d t (triplet_at subspace p timestamp))))
  pub range_3d_includes_entry : (L : Limits) (range : Range3d ℕ) (s e : List ℕ) (head : Head) (path : List ℕ) (count : ℕ)
      → Bytes s → Bytes e → Bytes path
      → Judged L (range_paths (range_of range.paths) s e ++ ((path, count) ∷ []))
      (on_range3d L range s e path count (λ t p. value (includes_triplet3d t (triplet_at head.subspace p head.timestamp))))
  pub range_3d_includes_range : (L : Limits) (range : Range3d ℕ) (s e : List ℕ) (other : Range3d ℕ) (s2 e2 : List ℕ)
      → Bytes s → Bytes e → Bytes s2 → Bytes e2
      → Judged L (range_paths (range_of range.paths) s e ++ range_paths (range_of other.paths) s2 e2)
      (on_ranges3d L range s e other s2 e2 (λ t u. value (includes_range3d t u)))
  pub range_3d_could_be_pruned_by_triplet : (L : Limits) (range : Range3d ℕ) (s e : List ℕ) (subspace : ℕ) (path : List ℕ) (count timestamp : ℕ)
      → Bytes s → Bytes e → Bytes path
      → Judged L (range_paths (range_of range.paths) s e ++ ((path, count) ∷ []))
      (on_range3d L range s e path count (λ t p. value (range3d_prunable t (triplet_at subspace p timestamp))))
  pub range_3d_could_be_pruned_by : (L : Limits) (range : Range3d ℕ) (s e : List ℕ) (head : Head) (path : List ℕ) (count : ℕ)
      → Bytes s → Bytes e → Bytes path
      → Judged L (range_paths (range_of range.paths) s e ++ ((path, count) ∷ []))
      (on_range3d L range s e path count (λ t p. value (range3d_prunable t (triplet_at head.subspace p head.timestamp))))
  pub range_3d_compare : (L : Limits) (range : Range3d ℕ) (s e : List ℕ) (other : Range3d ℕ) (s2 e2 : List ℕ)
      → Bytes s → Bytes e → Bytes s2 → Bytes e2
      → Judged L (range_paths (range_of range.paths) s e ++ range_paths (range_of other.paths) s2 e2)
      (on_ranges3d L range s e other s2 e2 (λ t u. value (compare_ranges3d t u)))
  -- range_3d_intersection
  pub range_3d_intersection : (L : Limits) (range : Range3d ℕ) (s e : List ℕ) (other : Range3d ℕ) (s2 e2 : List ℕ)
      → Bytes s → Bytes e → Bytes s2 → Bytes e2
      → Judged L (range_paths (range_of range.paths) s e ++ range_paths (range_of other.paths) s2 e2) (on_ranges3d L range s e other s2 e2 sides_met3d)
  pub range_3d_from_area : (L : Limits) (area : Area) (base out : List ℕ) → Bytes base
      → AnsweredBy
      (lent_written_rows L ((base, area.count) ∷ []) (SaidOfOne L base area.count (λ p. packed_outcome (next_greater_of L p))) out)
      (refusal_of (converted_after (written_length (packed_outcome (on_path L base area.count (next_greater_of L))) out)
      (counts_at (range3d_from L (area_in area base)))))
  -- entry_questions
  pub entry_is_pruned_by : (L : Limits) (namespace : ℕ) (head : Head) (path : List ℕ) (count namespace2 : ℕ) (head2 : Head) (path2 : List ℕ) (count2 : ℕ)
      → Bytes path → Bytes path2
      → Judged L ((path, count) ∷ (path2, count2) ∷ [])
      (on_paths L path count path2 count2 (λ p q. value (prunes (entry_at namespace2 head2 q) (entry_at namespace head p))))
  pub entry_prunes : (L : Limits) (namespace : ℕ) (head : Head) (path : List ℕ) (count namespace2 : ℕ) (head2 : Head) (path2 : List ℕ) (count2 : ℕ)
      → Bytes path → Bytes path2
      → Judged L ((path, count) ∷ (path2, count2) ∷ [])
      (on_paths L path count path2 count2 (λ p q. value (prunes (entry_at namespace head p) (entry_at namespace2 head2 q))))
  pub entry_equal : (L : Limits) (namespace : ℕ) (head : Head) (path : List ℕ) (count namespace2 : ℕ) (head2 : Head) (path2 : List ℕ) (count2 : ℕ)
      → Bytes path → Bytes path2
      → Judged L ((path, count) ∷ (path2, count2) ∷ [])
      (on_paths L path count path2 count2 (λ p q. value (same_entry (entry_at namespace head p) (entry_at namespace2 head2 q))))
  pub entry_compare_places : (L : Limits) (namespace : ℕ) (head : Head) (path : List ℕ) (count namespace2 : ℕ) (head2 : Head) (path2 : List ℕ) (count2 : ℕ)
      → Bytes path → Bytes path2
      → Judged L ((path, count) ∷ (path2, count2) ∷ [])
      (on_paths L path count path2 count2 (λ p q. value (compare_places (entry_at namespace head p) (entry_at namespace2 head2 q))))
  pub entry_compare : (L : Limits) (namespace : ℕ) (head : Head) (path : List ℕ) (count namespace2 : ℕ) (head2 : Head) (path2 : List ℕ) (count2 : ℕ)
      → Bytes path → Bytes path2
      → Judged L ((path, count) ∷ (path2, count2) ∷ [])
      (on_paths L path count path2 count2 (λ p q. value (compare_entries (entry_at namespace head p) (entry_at namespace2 head2 q))))
