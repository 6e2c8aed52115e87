-- 3d ranges: as areas, by their three ranges; the paths that a path prefixes are a range. Where an entry prunes one at a path
-- of a range, its own path is in the range too, or it is below the start, and then it prefixes the start.
use Prim.Native.Nat.{ℕ, suc, ◌<◌, ◌≤◌}
use mathlib.Core.Path.{◌≡◌, refl, sym, subst}
use mathlib.Core.Logic.{◌⊎◌, inl, inr, ◌↔◌}
use mathlib.Core.Option.{Option, none, some}
use mathlib.Core.Bool.{Bool, true, false, ◌||◌, cond}
use native.Mathlib.Omega.{arith}
use lib.Dec.{ltb}
use borrow.Author.Tests.{ltb-false}
use Rattle.willow.specs.declared.AreaSubspace.{AreaSubspace}
use Rattle.willow.specs.declared.AreaSubspace.TheVariants.{Any, Id}
use Rattle.willow.specs.declared.Limits.{Limits}
use Rattle.std.specs.declared.cmp.Ordering.{Ordering}
use Rattle.willow.specs.Areas.{Triplet, ValidTriplet, Area, SubspaceWord, ValidArea, InSubspace, InArea, PrunesSome}
use Rattle.willow.specs.LeastPaths.{next_greater}
use Rattle.willow.specs.Limits.{max_word}
use Rattle.willow.specs.Orders.{Total, Decides, AtMost, compare_numbers, compare_pairs, PairBelow}
use Rattle.willow.specs.Paths.{Path, Valid, Prefix, PathBelow, is_prefix_of, compare_paths}
use Rattle.willow.specs.Ranges.{closed, endless, Range, BeforeEnd, InRange, RangeBelow, IsIntersection, includes, includes_range, intersection, compare_ranges}
use Rattle.willow.specs.Ranges3d.{Range3d, ValidRange3d, InRange3d, NonEmpty3d, Range3dIncluded, IsIntersection3d, PrunableByRule, Range3dBelow, includes_triplet3d, includes_range3d, range3d_of, intersection3d, range3d_prunable, subspace_range, end_at, range3d_from, range3d_key, compare_ranges3d, Range3dLaws}
use Rattle.willow.proofs.Bools.{decided, conjunction_means, disjunction_means}
use Rattle.willow.proofs.OrderLaws.{numbers_total, numbers_decided, below_cases, below_irreflexive, at_most_below, at_most_number, pairs_total, pairs_decided, keyed_total, keyed_decided}
use Rattle.willow.proofs.PathLaws.{path_order, path_prefix, prefix_at_most, prefix_block}
use Rattle.willow.proofs.LeastPathLaws.{least_paths}
use Rattle.willow.proofs.RangeLaws.{before_lower, value_included, ranges_intersected, intersection_has, ranges_total, ranges_decided, number_ranges, path_ranges}
use Rattle.willow.proofs.AreaLaws.{PrunedPlace, pruned_place, start_means}

-- RANGES OF PATHS.
path_included : (r : Range Path) (p : Path) → (includes compare_paths r p ≡ true) ↔ InRange PathBelow r p
path_included = value_included compare_paths PathBelow path_order.total path_order.means

paths_intersected : (r s : Range Path) → IsIntersection PathBelow r s (intersection compare_paths r s)
paths_intersected = ranges_intersected compare_paths PathBelow path_order.total path_order.means

-- INCLUSION.
triplet_included : (r : Range3d) (t : Triplet) → (includes_triplet3d r t ≡ true) ↔ InRange3d r t
unfolding includes_triplet3d
triplet_included r t = (
  λ e. let h = parts.0 e in record { subspace = h.0; path = h.1.0; time = h.1.1 },
  λ h. parts.1 (h.subspace, (h.path, h.time)),
)
  where
    parts : (includes_triplet3d r t ≡ true)
        ↔ (InRange ◌<◌ r.subspaces t.subspace × (InRange PathBelow r.paths t.path × InRange ◌<◌ r.times t.time))
    parts = conjunction_means
        (number_ranges.value_included r.subspaces t.subspace)
        (conjunction_means (path_included r.paths t.path) (number_ranges.value_included r.times t.time))

module _ (L : Limits) where
  range_included : (r s : Range3d) → ValidRange3d L r → ValidRange3d L s → NonEmpty3d s
      → (includes_range3d r s ≡ true) ↔ Range3dIncluded L s r
  unfolding includes_range3d
  range_included r s v w n = (λ e. included (parts.0 e), λ h. parts.1 (tried h))
    where
      Subspaces : Type 0
      Subspaces = (i : ℕ) → i ≤ max_word → InRange ◌<◌ s.subspaces i → InRange ◌<◌ r.subspaces i

      Paths : Type 0
      Paths = (p : Path) → Valid L p → InRange PathBelow s.paths p → InRange PathBelow r.paths p

      Times : Type 0
      Times = (n : ℕ) → n ≤ max_word → InRange ◌<◌ s.times n → InRange ◌<◌ r.times n

      subspaces_included : (includes_range compare_numbers r.subspaces s.subspaces ≡ true) ↔ Subspaces
      subspaces_included = number_ranges.range_included r.subspaces s.subspaces v.subspace_end w.subspace_start n.subspaces

      paths_included : (includes_range compare_paths r.paths s.paths ≡ true) ↔ Paths
      paths_included = (path_ranges L).range_included r.paths s.paths v.path_end_lem w.path_start n.paths

      times_included : (includes_range compare_numbers r.times s.times ≡ true) ↔ Times
      times_included = number_ranges.range_included r.times s.times v.time_end w.time_start n.times

      parts : (includes_range3d r s ≡ true) ↔ (Subspaces × (Paths × Times))
      parts = conjunction_means subspaces_included (conjunction_means paths_included times_included)

      included : Subspaces × (Paths × Times) → Range3dIncluded L s r
      included h t u k = record {
        subspace = h.0 t.subspace u.subspace_word k.subspace;
        path = h.1.0 t.path u.path_valid k.path;
        time = h.1.1 t.time u.time_word k.time;
      }

      -- each value is tried with the other two starts
      tried : Range3dIncluded L s r → Subspaces × (Paths × Times)
      tried h = (
        λ i u k. (h
            (record { subspace = i; path = s.paths.start; time = s.times.start })
            (record { subspace_word = u; path_valid = w.path_start; time_word = w.time_start })
            (record { subspace = k; path = (inl refl, n.paths); time = (inl refl, n.times) })
            ).subspace,
        (
          λ p u k. (h
              (record { subspace = s.subspaces.start; path = p; time = s.times.start })
              (record { subspace_word = w.subspace_start; path_valid = u; time_word = w.time_start })
              (record { subspace = (inl refl, n.subspaces); path = k; time = (inl refl, n.times) })
              ).path,
          λ m u k. (h
              (record { subspace = s.subspaces.start; path = s.paths.start; time = m })
              (record { subspace_word = w.subspace_start; path_valid = w.path_start; time_word = u })
              (record { subspace = (inl refl, n.subspaces); path = (inl refl, n.paths); time = k })
              ).time,
        ),
      )

-- INTERSECTION.
intersected : (r s : Range3d) → IsIntersection3d r s (intersection3d r s)
unfolding intersection3d
intersected r s = go
    (intersection compare_numbers r.subspaces s.subspaces)
    (intersection compare_paths r.paths s.paths)
    (intersection compare_numbers r.times s.times)
    (number_ranges.intersected r.subspaces s.subspaces)
    (paths_intersected r.paths s.paths)
    (number_ranges.intersected r.times s.times)
  where
    go : (i : Option (Range ℕ)) (p : Option (Range Path)) (n : Option (Range ℕ))
        → IsIntersection ◌<◌ r.subspaces s.subspaces i → IsIntersection PathBelow r.paths s.paths p
        → IsIntersection ◌<◌ r.times s.times n → IsIntersection3d r s (range3d_of i p n)
    go none p n u v w = λ t h k. u t.subspace h.subspace k.subspace
    go (some i) none n u v w = λ t h k. v t.path h.path k.path
    go (some i) (some p) none u v w = λ t h k. w t.time h.time k.time
    go (some i) (some p) (some n) u v w = (λ t. (apart t, together t), (first, record { subspace = u.1; path = v.1; time = w.1 }))
      where
        m : Range3d
        m = record { subspaces = i; paths = p; times = n }

        apart : (t : Triplet) → InRange3d m t → InRange3d r t × InRange3d s t
        apart t h =
            let x = (u.0 t.subspace).0 h.subspace in
            let y = (v.0 t.path).0 h.path in
            let z = (w.0 t.time).0 h.time in
            (record { subspace = x.0; path = y.0; time = z.0 }, record { subspace = x.1; path = y.1; time = z.1 })

        together : (t : Triplet) → InRange3d r t × InRange3d s t → InRange3d m t
        together t h = record {
          subspace = (u.0 t.subspace).1 (h.0.subspace, h.1.subspace);
          path = (v.0 t.path).1 (h.0.path, h.1.path);
          time = (w.0 t.time).1 (h.0.time, h.1.time);
        }

        first : Triplet
        first = record { subspace = i.start; path = p.start; time = n.start }

-- of valid 3d ranges it is valid, and its starts are below its ends
intersection_valid : (L : Limits) (r s m : Range3d) → ValidRange3d L r → ValidRange3d L s → intersection3d r s ≡ some m → ValidRange3d L m × NonEmpty3d m
unfolding intersection3d
intersection_valid L r s m v w e = go
    (intersection compare_numbers r.subspaces s.subspaces)
    (intersection compare_paths r.paths s.paths)
    (intersection compare_numbers r.times s.times)
    (number_ranges.intersected r.subspaces s.subspaces)
    (paths_intersected r.paths s.paths)
    (number_ranges.intersected r.times s.times)
    e
  where
    go : (i : Option (Range ℕ)) (p : Option (Range Path)) (n : Option (Range ℕ))
        → IsIntersection ◌<◌ r.subspaces s.subspaces i → IsIntersection PathBelow r.paths s.paths p
        → IsIntersection ◌<◌ r.times s.times n → range3d_of i p n ≡ some m → ValidRange3d L m × NonEmpty3d m
    go none p n x y z f = let o : ◌≡◌ {A = ℕ} 0 1 = cc in absurd (omega arith)
    go (some i) none n x y z f = let o : ◌≡◌ {A = ℕ} 0 1 = cc in absurd (omega arith)
    go (some i) (some p) none x y z f = let o : ◌≡◌ {A = ℕ} 0 1 = cc in absurd (omega arith)
    go (some i) (some p) (some n) x y z f =
        let g : record { subspaces = i; paths = p; times = n } ≡ m = cc in
        let a = intersection_has ◌<◌ (λ k. k ≤ max_word) r.subspaces s.subspaces i v.subspace_start v.subspace_end w.subspace_start w.subspace_end x in
        let b = intersection_has PathBelow (Valid L) r.paths s.paths p v.path_start v.path_end_lem w.path_start w.path_end_lem y in
        let c = intersection_has ◌<◌ (λ k. k ≤ max_word) r.times s.times n v.time_start v.time_end w.time_start w.time_end z in
        subst (λ t. ValidRange3d L t × NonEmpty3d t) g (
          record { subspace_start = a.0; subspace_end = a.1; path_start = b.0; path_end_lem = b.1; time_start = c.0; time_end = c.1 },
          record { subspaces = a.2; paths = b.2; times = c.2 },
        )

-- PRUNING.
prunable_means : (r : Range3d) (t : Triplet) → (range3d_prunable r t ≡ true) ↔ PrunableByRule r t
unfolding range3d_prunable
prunable_means r t = (
  λ e. let h = parts.0 e in (h.0, h.1.0, h.1.1),
  λ h. parts.1 (h.0, (h.1, h.2)),
)
  where
    Rule : Type 0
    Rule = InRange PathBelow r.paths t.path ⊎ (Prefix t.path r.paths.start ⊎ Prefix r.paths.start t.path)

    rule_means : (includes compare_paths r.paths t.path
        || (is_prefix_of t.path r.paths.start || is_prefix_of r.paths.start t.path) ≡ true) ↔ Rule
    rule_means = disjunction_means
        (path_included r.paths t.path)
        (disjunction_means (path_prefix.prefix_means t.path r.paths.start) (path_prefix.prefix_means r.paths.start t.path))

    parts : (range3d_prunable r t ≡ true) ↔ (InRange ◌<◌ r.subspaces t.subspace × ((r.times.start ≤ t.time) × Rule))
    parts = conjunction_means
        (number_ranges.value_included r.subspaces t.subspace)
        (conjunction_means (start_means r.times.start t.time) rule_means)

-- a prefix of a path of the range is in the range, or a prefix of its start
prefix_in_range : (r : Range Path) (p q : Path) → Prefix p q → InRange PathBelow r q → InRange PathBelow r p ⊎ Prefix p r.start
prefix_in_range r p q f h = go (below_cases compare_paths PathBelow path_order.means r.start p)
  where
    inside : AtMost PathBelow r.start p → InRange PathBelow r p
    inside a = (a, before_lower compare_paths PathBelow path_order.total path_order.means p q r.end (prefix_at_most p q f) h.1)

    below : PathBelow p r.start → Prefix p r.start ⊎ (Prefix p r.start → ⊥) → Prefix p r.start
    below b (inl k) = k
    below b (inr k) = absurd (below_irreflexive compare_paths PathBelow path_order.means r.start
        (at_most_below compare_paths PathBelow path_order.means path_order.total r.start q r.start h.0 (prefix_block p q r.start f k b)))

    go : PathBelow r.start p ⊎ ((r.start ≡ p) ⊎ PathBelow p r.start) → InRange PathBelow r p ⊎ Prefix p r.start
    go (inl a) = inl (inside (inr a))
    go (inr (inl a)) = inl (inside (inl a))
    go (inr (inr a)) = inr (below a (decided (is_prefix_of p r.start) (path_prefix.prefix_means p r.start)))

prunable_if : (L : Limits) (r : Range3d) (t : Triplet) → PrunesSome L (InRange3d r) t → range3d_prunable r t ≡ true
prunable_if L r t h = (prunable_means r t).1 (
  subst (InRange ◌<◌ r.subspaces) p.subspaces p.inside.subspace,
  no_earlier,
  by_rule (prefix_in_range r.paths t.path p.place.path p.prefix p.inside.path),
)
  where
    p : PrunedPlace (InRange3d r) t
    p = pruned_place L (InRange3d r) t h

    no_earlier : r.times.start ≤ t.time
    no_earlier = omega (arith, (at_most_number r.times.start p.place.time).0 p.inside.time.0, p.no_later)

    by_rule : InRange PathBelow r.paths t.path ⊎ Prefix t.path r.paths.start
        → InRange PathBelow r.paths t.path ⊎ (Prefix t.path r.paths.start ⊎ Prefix r.paths.start t.path)
    by_rule (inl k) = inl k
    by_rule (inr k) = inr (inl k)

-- AN AREA as a 3d range.
subspace_range_means : (s : AreaSubspace) (i : ℕ) → SubspaceWord s → i ≤ max_word → InRange ◌<◌ (subspace_range s) i ↔ InSubspace s i
subspace_range_means Any i w v = (λ h. tt, λ h. ((at_most_number 0 i).1 (omega arith), tt))
subspace_range_means (Id j) i w v = go (ltb j max_word) refl
  where
    -- j alone is at least j and below its successor, or at least j where j is the greatest
    go : (b : Bool) → ltb j max_word ≡ b → InRange ◌<◌ (record { start = j; end = cond b (closed (suc j)) endless }) i ↔ (i ≡ j)
    go true e = (λ h. let k = (at_most_number j i).0 h.0 in let l = h.1 in omega arith, λ h. (inl (sym h), omega arith))
    go false e = (λ h. let k = (at_most_number j i).0 h.0 in let l = ltb-false j max_word e in omega arith, λ h. (inl (sym h), tt))

before_end_at : (q : Path) (m : Option Path) → BeforeEnd PathBelow q (end_at m) ↔ ((g : Path) → m ≡ some g → PathBelow q g)
before_end_at q none = (λ h g e. absurd (none_some g e), λ h. tt)
  where
    none_some : (g : Path) → none ≡ some g → ⊥
    none_some g e = let z : ◌≡◌ {A = ℕ} 0 1 = cc in omega arith
before_end_at q (some p) = (λ h g e. let k : p ≡ g = cc in rw (← k) h, λ h. h p refl)

path_range_means : (L : Limits) (p q : Path) → Valid L p → Valid L q
    → InRange PathBelow (record { start = p; end = end_at (next_greater L p) }) q ↔ Prefix p q
path_range_means L p q v w =
    let h = (least_paths L).prefix_range p q v w in
    let k = before_end_at q (next_greater L p) in (
      λ i. h.1 (i.0, k.0 i.1),
      λ f. let i = h.0 f in (i.0, k.1 i.1),
    )

area_triplets : (L : Limits) (a : Area) → ValidArea L a → (t : Triplet) → ValidTriplet L t
    → InRange3d (range3d_from L a) t ↔ InArea a t
unfolding range3d_from
area_triplets L a v t w =
    let s = subspace_range_means a.subspace t.subspace v.subspace_word w.subspace_word in
    let p = path_range_means L a.path t.path v.path_valid w.path_valid in (
      λ h. record { subspace = s.0 h.subspace; path = p.0 h.path; time = h.time },
      λ h. record { subspace = s.1 h.subspace; path = p.1 h.path; time = h.time },
    )

-- THE ORDER: by a key of three ranges.
range3d_by_key : (r s : Range3d) → range3d_key r ≡ range3d_key s → r ≡ s
range3d_by_key r s h = λ i. record { subspaces = (h i).0; paths = (h i).1.0; times = (h i).1.1 }

abbrev compare_rest : Range Path × Range ℕ → Range Path × Range ℕ → Ordering
compare_rest = compare_pairs (compare_ranges compare_paths) (compare_ranges compare_numbers)

numbers_ordered : Total (compare_ranges compare_numbers)
numbers_ordered = ranges_total compare_numbers numbers_total

paths_ordered : Total (compare_ranges compare_paths)
paths_ordered = ranges_total compare_paths path_order.total

rest_total : Total compare_rest
rest_total = pairs_total (compare_ranges compare_paths) (compare_ranges compare_numbers) paths_ordered numbers_ordered

rest_decided : Decides compare_rest (PairBelow (RangeBelow PathBelow) (RangeBelow ◌<◌))
rest_decided =
    pairs_decided (compare_ranges compare_paths) (compare_ranges compare_numbers) paths_ordered numbers_ordered (RangeBelow PathBelow) (RangeBelow ◌<◌)
    (ranges_decided compare_paths PathBelow path_order.total path_order.means)
    (ranges_decided compare_numbers ◌<◌ numbers_total numbers_decided)

keys_total : Total (compare_pairs (compare_ranges compare_numbers) compare_rest)
keys_total = pairs_total (compare_ranges compare_numbers) compare_rest numbers_ordered rest_total

order_total : Total compare_ranges3d
order_total = keyed_total range3d_key range3d_by_key (compare_pairs (compare_ranges compare_numbers) compare_rest) keys_total

order_means : Decides compare_ranges3d Range3dBelow
order_means =
    keyed_decided range3d_key range3d_by_key (compare_pairs (compare_ranges compare_numbers) compare_rest) keys_total
    (PairBelow (RangeBelow ◌<◌) (PairBelow (RangeBelow PathBelow) (RangeBelow ◌<◌)))
    (pairs_decided (compare_ranges compare_numbers) compare_rest numbers_ordered rest_total (RangeBelow ◌<◌) (PairBelow (RangeBelow PathBelow) (RangeBelow ◌<◌))
    (ranges_decided compare_numbers ◌<◌ numbers_total numbers_decided)
    rest_decided)

-- THEOREM 7, on 3d ranges.
pub range3d_laws : (L : Limits) → Range3dLaws L
range3d_laws L = record {
  triplet_included = triplet_included;
  range_included = range_included L;
  intersected = intersected;
  intersection_valid = intersection_valid L;
  prunable_means = prunable_means;
  prunable_if = prunable_if L;
  area_triplets = area_triplets L;
  order_total = order_total;
  order_means = order_means;
}
