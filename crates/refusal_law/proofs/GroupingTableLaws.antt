-- Every question here is behind the test of all paths that are lent with it, and refuses nothing by itself: so its rows are those of the
-- test (`paths_rows`, path_bounds/proofs/LentPathLaws.antt, and those of two paths). What is left is that the buffers of ends and of
-- ranges hold bytes where the lent ones do.
use Rattle.range.specs.NumberRanges.{range_of}
use Prim.Native.Nat.{ℕ}
use mathlib.Core.Path.{◌≡◌, refl}
use mathlib.Core.List.{List, [], ◌∷◌, ◌++◌}
use mathlib.Core.Option.{Option, none, some}
use Rattle.willow.specs.declared.Limits.{Limits}
use Rattle.std.specs.declared.cmp.Ordering.{Ordering}
use Rattle.willow.specs.Answers.{on_path, on_paths, written_length, packed_outcome}
use Rattle.willow.specs.Areas as areas
use Rattle.willow.specs.Areas.{area_intersection}
use Rattle.willow.specs.AreasOfInterest as interests
use Rattle.willow.specs.AreasOfInterest.{interest_intersection}
use Rattle.willow.specs.LeastPaths.{next_greater}
use Rattle.willow.specs.Lists.{All}
use Rattle.willow.specs.Numbers.{Bytes}
use Rattle.willow.specs.Paths.{Path}
use Rattle.willow.specs.Ranges.{Range, intersection, End, closed, endless}
use Rattle.willow.specs.Ranges3d as ranges
use Rattle.willow.specs.Ranges3d.{intersection3d}
use Rattle.willow.specs.Refusals.{Outcome, refused, absent, value}
use Rattle.tables.specs.TableRows.{LentPath, lent_rows}
use Rattle.tables.specs.Tables.{refusal_of}
use Rattle.tables.proofs.Rows.{First, answered}
use Rattle.path_bounds.specs.LentPaths.{lent_paths_refusal, on_lent, HoldsBytes}
use Rattle.path_bounds.specs.LentRanges.{end_paths, range_paths}
use Rattle.path_range_intersection.specs.Sides.{sides_for, sides_met}
use Rattle.area_intersection.specs.Standing as standings
use Rattle.area_intersection.specs.Standing.{standing}
use Rattle.area_of_interest.specs.Interests as interest
use Rattle.area_of_interest.specs.Interests.{standing_interest}
use Rattle.range_3d_intersection.specs.Sides3d.{Counts3d, converted_after, sides_for3d, sides_met3d}
use Rattle.refusal_law.specs.Grouping.{Judged, GroupingTables}
use Rattle.refusal_law.proofs.PathTableLaws.{asked_two, packed_one, path_or_not}
use Rattle.tables.proofs.LentLaws.{unless_refused}
use Rattle.refusal_law.proofs.LentPathRows.{paths_rows}

-- WHAT REFUSES NOTHING: the four intersections,
pub sides_refuse_nothing : {A : Type 0} (compare : A → A → Ordering) (r s : Range A) → refusal_of (sides_met compare r s) ≡ none
unfolding sides_met
sides_refuse_nothing {A} compare r s = go (intersection compare r s)
  where
    go : (o : Option (Range A)) → refusal_of (sides_for compare r s o) ≡ none
    go none = refl
    go (some m) = refl

pub standing_refuses_nothing : (a b : areas.Area) → refusal_of (standing a b) ≡ none
unfolding standing
standing_refuses_nothing a b = go (area_intersection a b)
  where
    go : (o : Option areas.Area) → refusal_of (standings.standing_for a b o) ≡ none
    go none = refl
    go (some m) = refl

pub interest_refuses_nothing : (a b : interests.AreaOfInterest) → refusal_of (standing_interest a b) ≡ none
unfolding standing_interest
interest_refuses_nothing a b = go (interest_intersection a b)
  where
    go : (o : Option interests.AreaOfInterest) → refusal_of (interest.standing_for a b o) ≡ none
    go none = refl
    go (some m) = refl

pub sides_3d_refuse_nothing : (r s : ranges.Range3d) → refusal_of (sides_met3d r s) ≡ none
unfolding sides_met3d
sides_3d_refuse_nothing r s = go (intersection3d r s)
  where
    go : (o : Option ranges.Range3d) → refusal_of (sides_for3d r s o) ≡ none
    go none = refl
    go (some m) = refl

-- and the counts beside a path that is written.
pub converted_refusal : (o : Outcome ℕ) (c : Counts3d) → refusal_of (converted_after o c) ≡ refusal_of o
converted_refusal (refused r) c = refl
converted_refusal absent c = refl
converted_refusal (value n) c = refl

-- BYTES in the buffers of ends and ranges.
pub end_holds : (end : End ℕ) (e : List ℕ) → Bytes e → All HoldsBytes (end_paths end e)
end_holds (closed k) e h = (h, tt)
end_holds endless e h = tt

pub range_holds : (r : Range ℕ) (s e : List ℕ) → Bytes s → Bytes e → All HoldsBytes (range_paths r s e)
range_holds r s e g h = (g, end_holds r.end e h)

pub both_hold : (ps qs : List LentPath) → All HoldsBytes ps → All HoldsBytes qs → All HoldsBytes (ps ++ qs)
both_hold [] qs g h = h
both_hold (p ∷ ps) qs g h = (g.0, both_hold ps qs g.1 h)

-- THE LAW.
pub asked_lent : {A : Type 0} (L : Limits) (ps : List LentPath) (o : Outcome A) → refusal_of o ≡ none → All HoldsBytes ps
    → First (lent_rows L ps) (refusal_of (on_lent L ps o))
unfolding on_lent
asked_lent L ps o n h = rw (unless_refused (lent_paths_refusal L ps) o n) (paths_rows L ps h)

judged : {A : Type 0} (L : Limits) (ps : List LentPath) (o : Outcome A) → refusal_of o ≡ none → All HoldsBytes ps → Judged L ps (on_lent L ps o)
judged L ps o n h = answered refl (asked_lent L ps o n h)

-- THE FORMS OF CALLS: on an end and a path, two ends, a range and a path, two ranges, and two paths.
module _ {A : Type 0} (L : Limits) (o : Outcome A) (n : refusal_of o ≡ none) where
  of_end_path : (end : End ℕ) (e path : List ℕ) (count : ℕ) → Bytes e → Bytes path
      → Judged L (end_paths end e ++ ((path, count) ∷ [])) (on_lent L (end_paths end e ++ ((path, count) ∷ [])) o)
  of_end_path end e path count g h =
      judged L (end_paths end e ++ ((path, count) ∷ [])) o n (both_hold (end_paths end e) ((path, count) ∷ []) (end_holds end e g) (h, tt))

  of_ends : (end : End ℕ) (e : List ℕ) (end2 : End ℕ) (e2 : List ℕ) → Bytes e → Bytes e2
      → Judged L (end_paths end e ++ end_paths end2 e2) (on_lent L (end_paths end e ++ end_paths end2 e2) o)
  of_ends end e end2 e2 g h =
      judged L (end_paths end e ++ end_paths end2 e2) o n (both_hold (end_paths end e) (end_paths end2 e2) (end_holds end e g) (end_holds end2 e2 h))

  of_range_path : (range : Range ℕ) (s e path : List ℕ) (count : ℕ) → Bytes s → Bytes e → Bytes path
      → Judged L (range_paths range s e ++ ((path, count) ∷ [])) (on_lent L (range_paths range s e ++ ((path, count) ∷ [])) o)
  of_range_path range s e path count f g h =
      judged L (range_paths range s e ++ ((path, count) ∷ [])) o n
      (both_hold (range_paths range s e) ((path, count) ∷ []) (range_holds range s e f g) (h, tt))

  of_ranges : (range : Range ℕ) (s e : List ℕ) (range2 : Range ℕ) (s2 e2 : List ℕ) → Bytes s → Bytes e → Bytes s2 → Bytes e2
      → Judged L (range_paths range s e ++ range_paths range2 s2 e2) (on_lent L (range_paths range s e ++ range_paths range2 s2 e2) o)
  of_ranges range s e range2 s2 e2 f g h i =
      judged L (range_paths range s e ++ range_paths range2 s2 e2) o n
      (both_hold (range_paths range s e) (range_paths range2 s2 e2) (range_holds range s e f g) (range_holds range2 s2 e2 h i))

of_two : {A : Type 0} (f : Path → Path → Outcome A) → ((p q : Path) → refusal_of (f p q) ≡ none)
    → (L : Limits) (a : List ℕ) (j : ℕ) (b : List ℕ) (k : ℕ) → Bytes a → Bytes b → Judged L ((a, j) ∷ (b, k) ∷ []) (on_paths L a j b k f)
of_two f n L a j b k g h = answered refl (asked_two f n L a j b k g h)

pub grouping_tables : GroupingTables
grouping_tables = record {
  lent_asked = judged;
  path_end_gt_val = λ L end e path count g h. of_end_path L _ refl end e path count g h;
  path_end_compare_ends = λ L end e end2 e2 g h. of_ends L _ refl end e end2 e2 g h;
  path_end_end_equals = λ L end e path count g h. of_end_path L _ refl end e path count g h;
  path_end_compare_end = λ L end e path count g h. of_end_path L _ refl end e path count g h;
  path_end_compare_value = λ L path count end e g h. of_end_path L _ refl end e path count g h;
  path_range_new_closed = λ L s cs e ce g h. of_two _ (λ p q. refl) L s cs e ce g h;
  path_range_includes = λ L range s e path count f g h. of_range_path L _ refl range s e path count f g h;
  path_range_includes_range = λ L range s e range2 s2 e2 f g h i. of_ranges L _ refl range s e range2 s2 e2 f g h i;
  path_range_compare = λ L range s e range2 s2 e2 f g h i. of_ranges L _ refl range s e range2 s2 e2 f g h i;
  path_range_intersection = λ L range s e range2 s2 e2 f g h i. of_ranges L _ (sides_refuse_nothing _ _ _) range s e range2 s2 e2 f g h i;
  area_includes_triplet = λ L area base subspace path count timestamp g h. of_two _ (λ p q. refl) L base area.count path count g h;
  area_includes_entry = λ L area base head path count g h. of_two _ (λ p q. refl) L base area.count path count g h;
  area_includes_area = λ L area base other base2 g h. of_two _ (λ p q. refl) L base area.count base2 other.count g h;
  area_almost_includes_area = λ L area base other base2 g h. of_two _ (λ p q. refl) L base area.count base2 other.count g h;
  area_could_be_pruned_by_triplet = λ L area base subspace path count timestamp g h. of_two _ (λ p q. refl) L base area.count path count g h;
  area_could_be_pruned_by = λ L area base head path count g h. of_two _ (λ p q. refl) L base area.count path count g h;
  area_compare = λ L area base other base2 g h. of_two _ (λ p q. refl) L base area.count base2 other.count g h;
  area_intersection_lem = λ L area base other base2 g h. of_two _ (λ p q. standing_refuses_nothing _ _) L base area.count base2 other.count g h;
  area_of_interest_intersection = λ L interest base other base2 g h.
      of_two _ (λ p q. interest_refuses_nothing _ _) L base interest.area.count base2 other.area.count g h;
  area_of_interest_compare = λ L interest base other base2 g h. of_two _ (λ p q. refl) L base interest.area.count base2 other.area.count g h;
  range_3d_includes_triplet = λ L range s e subspace path count timestamp f g h. of_range_path L _ refl (range_of range.paths) s e path count f g h;
  range_3d_includes_entry = λ L range s e head path count f g h. of_range_path L _ refl (range_of range.paths) s e path count f g h;
  range_3d_includes_range = λ L range s e other s2 e2 f g h i. of_ranges L _ refl (range_of range.paths) s e (range_of other.paths) s2 e2 f g h i;
  range_3d_could_be_pruned_by_triplet = λ L range s e subspace path count timestamp f g h. of_range_path L _ refl (range_of range.paths) s e path count f g h;
  range_3d_could_be_pruned_by = λ L range s e head path count f g h. of_range_path L _ refl (range_of range.paths) s e path count f g h;
  range_3d_compare = λ L range s e other s2 e2 f g h i. of_ranges L _ refl (range_of range.paths) s e (range_of other.paths) s2 e2 f g h i;
  range_3d_intersection = λ L range s e other s2 e2 f g h i.
      of_ranges L _ (sides_3d_refuse_nothing _ _) (range_of range.paths) s e (range_of other.paths) s2 e2 f g h i;
  range_3d_from_area = λ L area base out h.
      answered refl (rw (converted_refusal (written_length (packed_outcome (on_path L base area.count _)) out) _)
      (packed_one L out _ (λ p. path_or_not (next_greater L p)) base area.count h));
  entry_is_pruned_by = λ L namespace head path count namespace2 head2 path2 count2 g h. of_two _ (λ p q. refl) L path count path2 count2 g h;
  entry_prunes = λ L namespace head path count namespace2 head2 path2 count2 g h. of_two _ (λ p q. refl) L path count path2 count2 g h;
  entry_equal = λ L namespace head path count namespace2 head2 path2 count2 g h. of_two _ (λ p q. refl) L path count path2 count2 g h;
  entry_compare_places = λ L namespace head path count namespace2 head2 path2 count2 g h. of_two _ (λ p q. refl) L path count path2 count2 g h;
  entry_compare = λ L namespace head path count namespace2 head2 path2 count2 g h. of_two _ (λ p q. refl) L path count path2 count2 g h;
}
