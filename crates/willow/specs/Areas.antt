-- Areas, from Willow's Grouping Entries: entries of one subspace or of any, below a path, in a range of times.
use Rattle.std.specs.Prelude.{ℕ, ◌<◌, ◌≤◌, ◌≡◌, ◌⊎◌, ◌↔◌, [], Bool, true, false, ◌&&◌, not, cond, eqb}
use Rattle.std.proofs.Math.Option.{Option, none, some}
use Rattle.willow.specs.declared.AreaSubspace.{AreaSubspace}
use Rattle.willow.specs.declared.AreaSubspace.TheVariants.{Any, Id}
use Rattle.willow.specs.declared.Limits.{Limits}
use Rattle.std.specs.declared.cmp.Ordering.{Ordering}
use Rattle.std.specs.declared.cmp.Ordering.TheVariants.{Less, Equal, Greater}
use Rattle.willow.specs.Entries.{Entry, Prunes, ValidEntry}
use Rattle.willow.specs.Kinds.{of_kind}
use Rattle.willow.specs.Limits.{max_word}
use Rattle.willow.specs.Orders.{is_greater, Total, Decides, compare_numbers, compare_pairs, PairBelow}
use Rattle.willow.specs.Paths.{Path, Valid, Prefix, PathBelow, is_prefix_of, is_related, compare_paths}
use Rattle.willow.specs.Ranges.{endless, Range, EndHas, InRange, NonEmpty, RangeBelow, includes, includes_range, intersection, compare_ranges}

-- Where an entry stands: its subspace id, its path, its timestamp.
pub record Triplet : Type 0 where
  pub subspace : ℕ
  pub path : Path
  pub time : ℕ

abbrev pub triplet_of : Entry → Triplet
triplet_of e = record { subspace = e.subspace; path = e.path; time = e.timestamp }

pub record ValidTriplet (L : Limits) (t : Triplet) : Type 0 where
  pub subspace_word : t.subspace ≤ max_word
  pub path_valid : Valid L t.path
  pub time_word : t.time ≤ max_word

pub record Area : Type 0 where
  pub subspace : AreaSubspace
  pub path : Path
  pub times : Range ℕ

-- The subspaces of an area: "subspace 0 any, 1 one id"; the number beside kind 0 is 0 in an answer and inside a sheet.
abbrev pub subspace_kind : AreaSubspace → ℕ
subspace_kind Any = 0
subspace_kind (Id i) = 1

abbrev pub subspace_value : AreaSubspace → ℕ
subspace_value Any = 0
subspace_value (Id i) = i

-- The subspaces that a kind with a number stands for; none where refusal 3 is due.
unfoldable pub subspace_from : ℕ → ℕ → Option AreaSubspace
subspace_from kind n = of_kind kind Any (Id n)

-- An area of numbers of 64 bits and a valid path, as every area that a call takes.
abbrev pub SubspaceWord : AreaSubspace → Type 0
SubspaceWord Any = Unit {0}
SubspaceWord (Id i) = i ≤ max_word

pub record ValidArea (L : Limits) (a : Area) : Type 0 where
  pub subspace_word : SubspaceWord a.subspace
  pub path_valid : Valid L a.path
  pub start_word : a.times.start ≤ max_word
  pub end_word : EndHas (λ n. n ≤ max_word) a.times.end

-- WHAT IS MEANT. Grouping Entries: an area includes an entry if its subspace is any or the entry's, its path is a prefix of
-- the entry's, and its times include the entry's timestamp.
abbrev pub InSubspace : AreaSubspace → ℕ → Type 0
InSubspace Any i = Unit {0}
InSubspace (Id j) i = i ≡ j

pub record InArea (a : Area) (t : Triplet) : Type 0 where
  pub subspace : InSubspace a.subspace t.subspace
  pub path : Prefix a.path t.path
  pub time : InRange ◌<◌ a.times t.time

-- Every valid triplet of b is one of a.
abbrev pub AreaIncluded : Limits → Area → Area → Type 0
AreaIncluded L b a = (t : Triplet) → ValidTriplet L t → InArea b t → InArea a t

-- The intersection of two areas, if m is the answer: none if no triplet lies in both; else the area of all that do, "the
-- longer of the two paths", which is one of theirs, and there is such a triplet.
abbrev pub IsAreaIntersection : Area → Area → Option Area → Type 0
IsAreaIntersection a b none = (t : Triplet) → InArea a t → InArea b t → ⊥
IsAreaIntersection a b (some m) =
    ((t : Triplet) → InArea m t ↔ (InArea a t × InArea b t))
    × ((t : Triplet) × InArea m t)
    × ((m.path ≡ a.path) ⊎ (m.path ≡ b.path))

-- An entry at the triplet prunes some entry of the area, for some choice of both digests and payload lengths.
pub record PrunesSome (L : Limits) (In : Triplet → Type 0) (t : Triplet) : Type 0 where
  pub older : Entry
  pub newer : Entry
  pub older_valid : ValidEntry L older
  pub newer_valid : ValidEntry L newer
  pub newer_there : triplet_of newer ≡ t
  pub older_inside : In (triplet_of older)
  pub prunes : Prunes newer older

-- Not two different ids.
abbrev pub NotTwoIds : AreaSubspace → AreaSubspace → Type 0
NotTwoIds Any s = Unit {0}
NotTwoIds (Id i) Any = Unit {0}
NotTwoIds (Id i) (Id j) = i ≡ j

-- The derived orders. Of subspaces: any before every id, and ids by their numbers.
abbrev pub SubspaceBelow : AreaSubspace → AreaSubspace → Type 0
SubspaceBelow Any Any = ⊥
SubspaceBelow Any (Id j) = Unit {0}
SubspaceBelow (Id i) Any = ⊥
SubspaceBelow (Id i) (Id j) = i < j

-- Of areas: by subspace, then path, then times.
abbrev pub AreaBelow : Area → Area → Type 0
AreaBelow a b =
    PairBelow SubspaceBelow (PairBelow PathBelow (RangeBelow ◌<◌))
    (a.subspace, (a.path, a.times)) (b.subspace, (b.path, b.times))

-- WHAT IS COMPUTED. On subspaces (`AreaSubspace` of area.rs):
abbrev pub is_any : AreaSubspace → Bool
is_any Any = true
is_any (Id i) = false

abbrev pub includes_subspace : AreaSubspace → ℕ → Bool
includes_subspace Any i = true
includes_subspace (Id j) i = eqb i j

abbrev pub includes_area_subspace : AreaSubspace → AreaSubspace → Bool
includes_area_subspace Any s = true
includes_area_subspace (Id i) Any = false
includes_area_subspace (Id i) (Id j) = eqb i j

-- `AreaSubspace == id`
abbrev pub is_subspace : AreaSubspace → ℕ → Bool
is_subspace Any i = false
is_subspace (Id j) i = eqb j i

abbrev pub subspace_intersection : AreaSubspace → AreaSubspace → Option AreaSubspace
subspace_intersection Any s = some s
subspace_intersection (Id i) Any = some (Id i)
subspace_intersection (Id i) (Id j) = cond (eqb i j) (some (Id i)) none

-- Any before an id.
abbrev pub compare_subspaces : AreaSubspace → AreaSubspace → Ordering
compare_subspaces Any Any = Equal
compare_subspaces Any (Id j) = Less
compare_subspaces (Id i) Any = Greater
compare_subspaces (Id i) (Id j) = compare_numbers i j

-- On areas:
abbrev pub full_times : Range ℕ
full_times = record { start = 0; end = endless }

unfoldable pub full_area : Area
full_area = record { subspace = Any; path = []; times = full_times }

unfoldable pub subspace_area : ℕ → Area
subspace_area i = record { subspace = Id i; path = []; times = full_times }

unfoldable pub includes_triplet : Area → Triplet → Bool
includes_triplet a t =
    includes_subspace a.subspace t.subspace
    && (is_prefix_of a.path t.path
    && includes compare_numbers a.times t.time)

unfoldable pub includes_area : Area → Area → Bool
includes_area a b =
    includes_area_subspace a.subspace b.subspace
    && (is_prefix_of a.path b.path
    && includes_range compare_numbers a.times b.times)

-- "`almost_includes_area`: as inclusion, but two subspaces only clash if both are ids and differ."
abbrev pub subspaces_agree : AreaSubspace → AreaSubspace → Bool
subspaces_agree Any s = true
subspaces_agree (Id i) Any = true
subspaces_agree (Id i) (Id j) = eqb i j

unfoldable pub almost_includes_area : Area → Area → Bool
almost_includes_area a b =
    subspaces_agree a.subspace b.subspace
    && (is_prefix_of a.path b.path
    && includes_range compare_numbers a.times b.times)

-- "Area intersection takes the longer of the two paths .. if they are related (the second's if they are equal); else none."
abbrev pub longer_path : Path → Path → Option Path
longer_path p q = cond (is_prefix_of p q) (some q) (cond (is_prefix_of q p) (some p) none)

-- The area of three parts, none if one is missing.
abbrev pub area_of : Option AreaSubspace → Option Path → Option (Range ℕ) → Option Area
area_of none p r = none
area_of (some s) none r = none
area_of (some s) (some p) none = none
area_of (some s) (some p) (some r) = some (record { subspace = s; path = p; times = r })

unfoldable pub area_intersection : Area → Area → Option Area
area_intersection a b = area_of
    (subspace_intersection a.subspace b.subspace)
    (longer_path a.path b.path)
    (intersection compare_numbers a.times b.times)

-- "`could_be_pruned_by_triplet` on an area: same or any subspace, timestamp not below the start, related paths."
unfoldable pub area_prunable : Area → Triplet → Bool
area_prunable a t =
    includes_subspace a.subspace t.subspace
    && (not (is_greater (compare_numbers a.times.start t.time))
    && is_related t.path a.path)

-- The order by fields: subspace, path, times.
abbrev pub area_key : Area → AreaSubspace × (Path × Range ℕ)
area_key a = (a.subspace, (a.path, a.times))

abbrev pub compare_areas : Area → Area → Ordering
compare_areas a b = compare_pairs compare_subspaces (compare_pairs compare_paths (compare_ranges compare_numbers)) (area_key a) (area_key b)

abbrev pub with_any_subspace : Area → Area
with_any_subspace a = record { subspace = Any; path = a.path; times = a.times }

-- THEOREM 6. What is computed is what is meant. Its premises are valid areas, as the one of any subspace, the empty path and
-- all times; valid triplets, as subspace 0, the empty path and time 0; and, where areas are compared as sets, that the included one's
-- start is below its end.
pub record AreaLaws (L : Limits) : Type 0 where
  pub triplet_included : (a : Area) (t : Triplet) → (includes_triplet a t ≡ true) ↔ InArea a t
  pub area_included : (a b : Area) → ValidArea L a → ValidArea L b → NonEmpty ◌<◌ b.times
      → (includes_area a b ≡ true) ↔ AreaIncluded L b a
  pub almost_included : (a b : Area) → (almost_includes_area a b ≡ true)
      ↔ (NotTwoIds a.subspace b.subspace × (includes_area (with_any_subspace a) b ≡ true))
  pub almost_included_means : (a b : Area) → ValidArea L a → ValidArea L b → NonEmpty ◌<◌ b.times
      → (almost_includes_area a b ≡ true)
      ↔ (NotTwoIds a.subspace b.subspace × AreaIncluded L b (with_any_subspace a))
  pub intersected : (a b : Area) → IsAreaIntersection a b (area_intersection a b)
  pub intersection_valid : (a b m : Area) → ValidArea L a → ValidArea L b → area_intersection a b ≡ some m
      → ValidArea L m × NonEmpty ◌<◌ m.times
  pub longer_stands : (a b m : Area) → area_intersection a b ≡ some m → Prefix a.path m.path × Prefix b.path m.path
  pub prunable_if : (a : Area) (t : Triplet) → PrunesSome L (InArea a) t → area_prunable a t ≡ true
  pub prunable_only_if : (a : Area) (t : Triplet) → ValidArea L a → ValidTriplet L t → NonEmpty ◌<◌ a.times
      → area_prunable a t ≡ true → PrunesSome L (InArea a) t
  pub order_total : Total compare_areas
  pub order_means : Decides compare_areas AreaBelow
  pub subspaces_total : Total compare_subspaces
  pub subspaces_means : Decides compare_subspaces SubspaceBelow
