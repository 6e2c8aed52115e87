-- Areas: their three parts are tested, included and intersected each by itself, and inclusion as sets is tried at the included
-- area's path and start. An entry at a triplet can prune at every place below its path that is no later: digests of zeros and
-- of ff make it the newer one.
use Prim.Native.Nat.{ℕ, zero, suc, ◌<◌, ◌≤◌}
use mathlib.Core.Path.{◌≡◌, refl, sym, ◌∙◌, ap, subst}
use mathlib.Core.Logic.Iff
use mathlib.Core.Logic.{◌⊎◌, inl, inr, ◌↔◌}
use mathlib.Core.List.{[]}
use mathlib.Core.Option.{Option, none, some}
use mathlib.Core.Bool.{Bool, true, false, not, cond, false≢true}
use native.Mathlib.Omega.{arith}
use lib.Dec.{eqb}
use lib.ListN.{replicate, length-replicate}
use borrow.Author.Tests.{eqb-true, eqb-false, eq-eqb}
use Rattle.willow.specs.declared.AreaSubspace.{AreaSubspace}
use Rattle.willow.specs.declared.AreaSubspace.TheVariants.{Any, Id}
use Rattle.willow.specs.declared.Limits.{Limits}
use Rattle.std.specs.declared.cmp.Ordering.{Ordering}
use Rattle.std.specs.declared.cmp.Ordering.TheVariants.{Less, Equal}
use Rattle.willow.specs.Areas.{Triplet, triplet_of, ValidTriplet, Area, SubspaceWord, ValidArea, InSubspace, InArea, AreaIncluded, IsAreaIntersection, PrunesSome, NotTwoIds, SubspaceBelow, AreaBelow, includes_subspace, includes_area_subspace, subspace_intersection, compare_subspaces, includes_triplet, includes_area, subspaces_agree, almost_includes_area, longer_path, area_of, area_intersection, area_prunable, area_key, compare_areas, with_any_subspace, AreaLaws}
use Rattle.willow.specs.Entries.{Entry, digest_length, ValidEntry, Older}
use Rattle.willow.specs.Limits.{max_word}
use Rattle.willow.specs.Numbers.{Bytes}
use Rattle.willow.specs.Orders.{is_greater, reverse, Total, Decides, AtMost, compare_numbers, compare_pairs, PairBelow, ListBelow}
use Rattle.willow.specs.Paths.{Path, Valid, Prefix, Related, PathBelow, is_prefix_of, compare_paths}
use Rattle.willow.specs.Ranges.{Range, InRange, NonEmpty, RangeBelow, IsIntersection, includes_range, intersection, compare_ranges}
use Rattle.willow.proofs.Bools.{decided_false, conjunction_means}
use Rattle.willow.proofs.OrderLaws.{less≢equal, less≢greater, equal≢greater, decides, numbers_total, numbers_decided, at_most_number, pairs_total, pairs_decided, keyed_total, keyed_decided}
use Rattle.willow.proofs.PathLaws.{path_order, path_prefix, prefix_self, prefix_transitive, prefixes_related}
use Rattle.willow.proofs.RangeLaws.{not_greater_means, ranges_total, ranges_decided, number_ranges, intersection_has}

-- SUBSPACES.
subspace_means : (s : AreaSubspace) (i : ℕ) → (includes_subspace s i ≡ true) ↔ InSubspace s i
subspace_means Any i = (λ e. tt, λ h. refl)
subspace_means (Id j) i = (eqb-true i j, eq-eqb i j)

-- no subspace but any includes two ids
subspaces_included : (s u : AreaSubspace) → SubspaceWord u
    → (includes_area_subspace s u ≡ true) ↔ ((i : ℕ) → i ≤ max_word → InSubspace u i → InSubspace s i)
subspaces_included Any u w = (λ e i v h. tt, λ h. refl)
subspaces_included (Id i) Any w = (λ e. absurd (false≢true e), λ h. absurd (two (h 0 (omega arith) tt) (h 1 (omega arith) tt)))
  where
    two : 0 ≡ i → 1 ≡ i → ⊥
    two a b = omega arith
subspaces_included (Id i) (Id j) w = (λ e k v h. h ∙ sym (eqb-true i j e), λ h. eq-eqb i j (sym (h j w refl)))

agree_means : (s u : AreaSubspace) → (subspaces_agree s u ≡ true) ↔ NotTwoIds s u
agree_means Any u = (λ e. tt, λ h. refl)
agree_means (Id i) Any = (λ e. tt, λ h. refl)
agree_means (Id i) (Id j) = (eqb-true i j, eq-eqb i j)

-- every subspace includes an id
some_id : (s : AreaSubspace) → SubspaceWord s → (i : ℕ) × (i ≤ max_word) × InSubspace s i
some_id Any w = (0, omega arith, tt)
some_id (Id i) w = (i, w, refl)

abbrev IsSubspaceIntersection : AreaSubspace → AreaSubspace → Option AreaSubspace → Type 0
IsSubspaceIntersection s u none = (i : ℕ) → InSubspace s i → InSubspace u i → ⊥
IsSubspaceIntersection s u (some m) = ((i : ℕ) → InSubspace m i ↔ (InSubspace s i × InSubspace u i)) × ((i : ℕ) × InSubspace m i)

subspaces_intersected : (s u : AreaSubspace) → IsSubspaceIntersection s u (subspace_intersection s u)
subspaces_intersected Any Any = (λ i. (λ h. (tt, tt), λ h. tt), (0, tt))
subspaces_intersected Any (Id j) = (λ i. (λ h. (tt, h), λ h. h.1), (j, refl))
subspaces_intersected (Id i) Any = (λ k. (λ h. (h, tt), λ h. h.0), (i, refl))
subspaces_intersected (Id i) (Id j) = go (eqb i j) refl
  where
    go : (b : Bool) → eqb i j ≡ b → IsSubspaceIntersection (Id i) (Id j) (cond b (some (Id i)) none)
    go true e = (λ k. (λ h. (h, h ∙ eqb-true i j e), λ h. h.0), (i, refl))
    go false e = λ k h g. eqb-false i j e (sym h ∙ g)

-- THE ORDER OF SUBSPACES: any before every id.
subspace_less : (s u : AreaSubspace) → (compare_subspaces s u ≡ Less) ↔ SubspaceBelow s u
subspace_less Any Any = (λ h. less≢equal (sym h), λ h. absurd h)
subspace_less Any (Id j) = (λ h. tt, λ h. refl)
subspace_less (Id i) Any = (λ h. less≢greater (sym h), λ h. absurd h)
subspace_less (Id i) (Id j) = numbers_decided.less i j

subspace_same : (s u : AreaSubspace) → compare_subspaces s u ≡ Equal → s ≡ u
subspace_same Any Any e = refl
subspace_same Any (Id j) e = absurd (less≢equal e)
subspace_same (Id i) Any e = absurd (equal≢greater (sym e))
subspace_same (Id i) (Id j) e = ap Id (numbers_total.same i j e)

subspace_self : (s : AreaSubspace) → compare_subspaces s s ≡ Equal
subspace_self Any = refl
subspace_self (Id i) = numbers_total.self i

subspace_flip : (s u : AreaSubspace) → compare_subspaces u s ≡ reverse (compare_subspaces s u)
subspace_flip Any Any = refl
subspace_flip Any (Id j) = refl
subspace_flip (Id i) Any = refl
subspace_flip (Id i) (Id j) = numbers_total.flip i j

subspace_trans : (s u v : AreaSubspace) → compare_subspaces s u ≡ Less → compare_subspaces u v ≡ Less → compare_subspaces s v ≡ Less
subspace_trans Any Any v p q = absurd (less≢equal (sym p))
subspace_trans Any (Id j) Any p q = absurd (less≢greater (sym q))
subspace_trans Any (Id j) (Id k) p q = refl
subspace_trans (Id i) Any v p q = absurd (less≢greater (sym p))
subspace_trans (Id i) (Id j) Any p q = q
subspace_trans (Id i) (Id j) (Id k) p q = numbers_total.trans i j k p q

pub subspaces_total : Total compare_subspaces
subspaces_total = record { same = subspace_same; self = subspace_self; flip = subspace_flip; trans = subspace_trans }

subspaces_decided : Decides compare_subspaces SubspaceBelow
subspaces_decided = decides compare_subspaces SubspaceBelow subspaces_total subspace_less

-- PATHS. What the longer of two related paths prefixes is what both prefix.
abbrev IsLonger : Path → Path → Option Path → Type 0
IsLonger p q none = (r : Path) → Prefix p r → Prefix q r → ⊥
IsLonger p q (some m) = ((r : Path) → Prefix m r ↔ (Prefix p r × Prefix q r)) × ((m ≡ p) ⊎ (m ≡ q))

longer_means : (p q : Path) → IsLonger p q (longer_path p q)
longer_means p q = go (is_prefix_of p q) (is_prefix_of q p) (path_prefix.prefix_means p q) (path_prefix.prefix_means q p)
  where
    apart : (Prefix p q → ⊥) → (Prefix q p → ⊥) → Related p q → ⊥
    apart f g (inl h) = f h
    apart f g (inr h) = g h

    go : (a b : Bool) → (a ≡ true) ↔ Prefix p q → (b ≡ true) ↔ Prefix q p → IsLonger p q (cond a (some q) (cond b (some p) none))
    go true b f g = (λ r. (λ h. (prefix_transitive p q r (f.0 refl) h, h), λ h. h.1), inr refl)
    go false true f g = (λ r. (λ h. (h, prefix_transitive q p r (g.0 refl) h), λ h. h.0), inl refl)
    go false false f g = λ r h k. apart ((decided_false false f).0 refl) ((decided_false false g).0 refl) (prefixes_related p q r h k)

-- AREAS.
triplet_included : (a : Area) (t : Triplet) → (includes_triplet a t ≡ true) ↔ InArea a t
unfolding includes_triplet
triplet_included a t = (
  λ e. let h = parts.0 e in record { subspace = h.0; path = h.1.0; time = h.1.1 },
  λ h. parts.1 (h.subspace, (h.path, h.time)),
)
  where
    parts : (includes_triplet a t ≡ true) ↔ (InSubspace a.subspace t.subspace × (Prefix a.path t.path × InRange ◌<◌ a.times t.time))
    parts = conjunction_means
        (subspace_means a.subspace t.subspace)
        (conjunction_means (path_prefix.prefix_means a.path t.path) (number_ranges.value_included a.times t.time))

module _ (L : Limits) where
  area_included : (a b : Area) → ValidArea L a → ValidArea L b → NonEmpty ◌<◌ b.times
      → (includes_area a b ≡ true) ↔ AreaIncluded L b a
  unfolding includes_area
  area_included a b v w n = (λ e. included (parts.0 e), λ h. parts.1 (tried h))
    where
      Subspaces : Type 0
      Subspaces = (i : ℕ) → i ≤ max_word → InSubspace b.subspace i → InSubspace a.subspace i

      Times : Type 0
      Times = (n : ℕ) → n ≤ max_word → InRange ◌<◌ b.times n → InRange ◌<◌ a.times n

      times_included : (includes_range compare_numbers a.times b.times ≡ true) ↔ Times
      times_included = number_ranges.range_included a.times b.times v.end_word w.start_word n

      parts : (includes_area a b ≡ true) ↔ (Subspaces × (Prefix a.path b.path × Times))
      parts = conjunction_means
          (subspaces_included a.subspace b.subspace w.subspace_word)
          (conjunction_means (path_prefix.prefix_means a.path b.path) times_included)

      included : Subspaces × (Prefix a.path b.path × Times) → AreaIncluded L b a
      included h t u k = record {
        subspace = h.0 t.subspace u.subspace_word k.subspace;
        path = prefix_transitive a.path b.path t.path h.1.0 k.path;
        time = h.1.1 t.time u.time_word k.time;
      }

      -- the triplet of an id and a time at b's path
      tried : AreaIncluded L b a → Subspaces × (Prefix a.path b.path × Times)
      tried h = (λ i u k. (first i u k).subspace, ((first id.0 id.1 id.2).path, λ n u k. (at id.0 n id.1 u id.2 k).time))
        where
          id : (i : ℕ) × (i ≤ max_word) × InSubspace b.subspace i
          id = some_id b.subspace w.subspace_word

          at : (i n : ℕ) → i ≤ max_word → n ≤ max_word → InSubspace b.subspace i → InRange ◌<◌ b.times n
              → InArea a (record { subspace = i; path = b.path; time = n })
          at i n u x k l = h
              (record { subspace = i; path = b.path; time = n })
              (record { subspace_word = u; path_valid = w.path_valid; time_word = x })
              (record { subspace = k; path = prefix_self b.path; time = l })

          first : (i : ℕ) → i ≤ max_word → InSubspace b.subspace i → InArea a (record { subspace = i; path = b.path; time = b.times.start })
          first i u k = at i b.times.start u w.start_word k (inl refl, n)

almost_included : (a b : Area) → (almost_includes_area a b ≡ true)
    ↔ (NotTwoIds a.subspace b.subspace × (includes_area (with_any_subspace a) b ≡ true))
unfolding almost_includes_area includes_area
almost_included a b = conjunction_means (agree_means a.subspace b.subspace) Iff.rfl

almost_included_means : (L : Limits) (a b : Area) → ValidArea L a → ValidArea L b → NonEmpty ◌<◌ b.times
    → (almost_includes_area a b ≡ true)
    ↔ (NotTwoIds a.subspace b.subspace × AreaIncluded L b (with_any_subspace a))
almost_included_means L a b v w n = (
  λ e. let h = (almost_included a b).0 e in (h.0, sets.0 h.1),
  λ h. (almost_included a b).1 (h.0, sets.1 h.1),
)
  where
    any_valid : ValidArea L (with_any_subspace a)
    any_valid = record { subspace_word = tt; path_valid = v.path_valid; start_word = v.start_word; end_word = v.end_word }

    sets : (includes_area (with_any_subspace a) b ≡ true) ↔ AreaIncluded L b (with_any_subspace a)
    sets = area_included L (with_any_subspace a) b any_valid w n

pub areas_intersected : (a b : Area) → IsAreaIntersection a b (area_intersection a b)
unfolding area_intersection
areas_intersected a b = go
    (subspace_intersection a.subspace b.subspace)
    (longer_path a.path b.path)
    (intersection compare_numbers a.times b.times)
    (subspaces_intersected a.subspace b.subspace)
    (longer_means a.path b.path)
    (number_ranges.intersected a.times b.times)
  where
    go : (s : Option AreaSubspace) (p : Option Path) (r : Option (Range ℕ))
        → IsSubspaceIntersection a.subspace b.subspace s → IsLonger a.path b.path p → IsIntersection ◌<◌ a.times b.times r
        → IsAreaIntersection a b (area_of s p r)
    go none p r u v w = λ t h k. u t.subspace h.subspace k.subspace
    go (some s) none r u v w = λ t h k. v t.path h.path k.path
    go (some s) (some p) none u v w = λ t h k. w t.time h.time k.time
    go (some s) (some p) (some r) u v w = (λ t. (apart t, together t), (inside, has), v.1)
      where
        m : Area
        m = record { subspace = s; path = p; times = r }

        apart : (t : Triplet) → InArea m t → InArea a t × InArea b t
        apart t h =
            let x = (u.0 t.subspace).0 h.subspace in
            let y = (v.0 t.path).0 h.path in
            let z = (w.0 t.time).0 h.time in
            (record { subspace = x.0; path = y.0; time = z.0 }, record { subspace = x.1; path = y.1; time = z.1 })

        together : (t : Triplet) → InArea a t × InArea b t → InArea m t
        together t h = record {
          subspace = (u.0 t.subspace).1 (h.0.subspace, h.1.subspace);
          path = (v.0 t.path).1 (h.0.path, h.1.path);
          time = (w.0 t.time).1 (h.0.time, h.1.time);
        }

        inside : Triplet
        inside = record { subspace = u.1.0; path = p; time = r.start }

        has : InArea m inside
        has = record { subspace = u.1.1; path = prefix_self p; time = w.1 }

-- of valid areas it is valid, and its start is below its end
subspace_word : (s u r : AreaSubspace) → SubspaceWord s → SubspaceWord u → subspace_intersection s u ≡ some r → SubspaceWord r
subspace_word Any u r a b e = let f : u ≡ r = cc in subst SubspaceWord f b
subspace_word (Id i) Any r a b e = let f : Id i ≡ r = cc in subst SubspaceWord f a
subspace_word (Id i) (Id j) r a b e = go (eqb i j) e
  where
    go : (t : Bool) → cond t (some (Id i)) none ≡ some r → SubspaceWord r
    go true f = let g : Id i ≡ r = cc in subst SubspaceWord g a
    go false f = let z : ◌≡◌ {A = ℕ} 0 1 = cc in absurd (omega arith)

intersection_valid : (L : Limits) (a b m : Area) → ValidArea L a → ValidArea L b → area_intersection a b ≡ some m
    → ValidArea L m × NonEmpty ◌<◌ m.times
unfolding area_intersection
intersection_valid L a b m v w e = go
    (subspace_intersection a.subspace b.subspace)
    (longer_path a.path b.path)
    (intersection compare_numbers a.times b.times)
    refl
    (longer_means a.path b.path)
    (number_ranges.intersected a.times b.times)
    e
  where
    go : (s : Option AreaSubspace) (p : Option Path) (r : Option (Range ℕ)) → subspace_intersection a.subspace b.subspace ≡ s
        → IsLonger a.path b.path p → IsIntersection ◌<◌ a.times b.times r → area_of s p r ≡ some m
        → ValidArea L m × NonEmpty ◌<◌ m.times
    go none p r x y i f = let z : ◌≡◌ {A = ℕ} 0 1 = cc in absurd (omega arith)
    go (some s) none r x y i f = let z : ◌≡◌ {A = ℕ} 0 1 = cc in absurd (omega arith)
    go (some s) (some p) none x y i f = let z : ◌≡◌ {A = ℕ} 0 1 = cc in absurd (omega arith)
    go (some s) (some p) (some r) x y i f =
        let g : record { subspace = s; path = p; times = r } ≡ m = cc in
        let h = intersection_has ◌<◌ (λ n. n ≤ max_word) a.times b.times r v.start_word v.end_word w.start_word w.end_word i in
        subst (λ t. ValidArea L t × NonEmpty ◌<◌ t.times) g (
          record {
            subspace_word = subspace_word a.subspace b.subspace s v.subspace_word w.subspace_word x;
            path_valid = path y.1;
            start_word = h.0;
            end_word = h.1;
          },
          h.2,
        )
      where
        path : (p ≡ a.path) ⊎ (p ≡ b.path) → Valid L p
        path (inl k) = rw k v.path_valid
        path (inr k) = rw k w.path_valid

-- what stands in the intersection stands there at the intersection's own path too
longer_stands : (a b m : Area) → area_intersection a b ≡ some m → Prefix a.path m.path × Prefix b.path m.path
longer_stands a b m e =
    let h : IsAreaIntersection a b (some m) = subst (IsAreaIntersection a b) e (areas_intersected a b) in
    let t : Triplet = record { subspace = h.1.0.subspace; path = m.path; time = h.1.0.time } in
    let there : InArea m t = record { subspace = h.1.1.subspace; path = prefix_self m.path; time = h.1.1.time } in
    let k = (h.0 t).0 there in
    (k.0.path, k.1.path)

-- PRUNING. A place in a set of triplets at which an entry at t prunes: of t's subspace, at a path that t's prefixes, no later
-- than t.
pub record PrunedPlace (In : Triplet → Type 0) (t : Triplet) : Type 0 where
  pub place : Triplet
  pub inside : In place
  pub subspaces : place.subspace ≡ t.subspace
  pub prefix : Prefix t.path place.path
  pub no_later : place.time ≤ t.time

older_no_later : (e o : Entry) → Older e o → e.timestamp ≤ o.timestamp
older_no_later e o (inl h) = omega arith
older_no_later e o (inr h) = let k = h.0 in omega arith

pub pruned_place : (L : Limits) (In : Triplet → Type 0) (t : Triplet) → PrunesSome L In t → PrunedPlace In t
pruned_place L In t p = subst (PrunedPlace In) p.newer_there (record {
  place = triplet_of p.older;
  inside = p.older_inside;
  subspaces = sym p.prunes.subspaces;
  prefix = p.prunes.prefix;
  no_later = older_no_later p.older p.newer p.prunes.newer;
})

-- the entry at a triplet with a digest of one byte throughout
abbrev filled_entry : ℕ → Triplet → Entry
filled_entry byte t = record {
  namespace = 0;
  subspace = t.subspace;
  path = t.path;
  timestamp = t.time;
  payload_length = 0;
  digest = replicate digest_length byte;
}

replicate_bytes : (n b : ℕ) → b < 256 → Bytes (replicate n b)
replicate_bytes zero b h = tt
replicate_bytes (suc n) b h = (h, replicate_bytes n b h)

filled_valid : (L : Limits) (b : ℕ) (t : Triplet) → b < 256 → ValidTriplet L t → ValidEntry L (filled_entry b t)
filled_valid L b t h v = record {
  namespace_word = omega arith;
  subspace_word = v.subspace_word;
  path_valid = v.path_valid;
  timestamp_word = v.time_word;
  payload_word = omega arith;
  digest_size = length-replicate digest_length b;
  digest_bytes = replicate_bytes digest_length b h;
}

-- of zeros and of ff, the second is newer unless it is earlier
filled_newer : (s t : Triplet) → s.time ≤ t.time → Older (filled_entry 0 s) (filled_entry 255 t)
filled_newer s t h = go ((at_most_number s.time t.time).1 h)
  where
    digests : ListBelow ◌<◌ (replicate digest_length 0) (replicate digest_length 255)
    digests = inr (record {
      shared = [];
      low = 0;
      high = 255;
      low_rest = replicate 31 0;
      high_rest = replicate 31 255;
      below = omega arith;
      lower = refl;
      higher = refl;
    })

    go : AtMost ◌<◌ s.time t.time → Older (filled_entry 0 s) (filled_entry 255 t)
    go (inl e) = inr (e, inl digests)
    go (inr e) = inl e

-- so there are entries at t and at such a place of which the one prunes the other
pub prunes_place : (L : Limits) (In : Triplet → Type 0) (t : Triplet) (p : PrunedPlace In t)
    → ValidTriplet L t → ValidTriplet L p.place → PrunesSome L In t
prunes_place L In t p v w = record {
  older = filled_entry 0 p.place;
  newer = filled_entry 255 t;
  older_valid = filled_valid L 0 p.place (omega arith) w;
  newer_valid = filled_valid L 255 t (omega arith) v;
  newer_there = refl;
  older_inside = p.inside;
  prunes = record {
    namespaces = refl;
    subspaces = sym p.subspaces;
    prefix = p.prefix;
    newer = filled_newer p.place t p.no_later;
  };
}

-- a start that is not above a time
pub start_means : (m n : ℕ) → (not (is_greater (compare_numbers m n)) ≡ true) ↔ (m ≤ n)
start_means m n = Iff.trans (not_greater_means compare_numbers ◌<◌ numbers_decided m n) (at_most_number m n)

prunable_means : (a : Area) (t : Triplet) → (area_prunable a t ≡ true)
    ↔ (InSubspace a.subspace t.subspace × ((a.times.start ≤ t.time) × Related t.path a.path))
unfolding area_prunable
prunable_means a t = conjunction_means
    (subspace_means a.subspace t.subspace)
    (conjunction_means (start_means a.times.start t.time) (path_prefix.related_means t.path a.path))

prunable_if : (L : Limits) (a : Area) (t : Triplet) → PrunesSome L (InArea a) t → area_prunable a t ≡ true
prunable_if L a t h =
    let p = pruned_place L (InArea a) t h in
    let s : InSubspace a.subspace t.subspace = subst (InSubspace a.subspace) p.subspaces p.inside.subspace in
    let k = (at_most_number a.times.start p.place.time).0 p.inside.time.0 in
    let l = p.no_later in
    let n : a.times.start ≤ t.time = omega arith in
    (prunable_means a t).1 (s, (n, prefixes_related t.path a.path p.place.path p.prefix p.inside.path))

-- the place is at the longer of the two paths and at the area's start
prunable_only_if : (L : Limits) (a : Area) (t : Triplet) → ValidArea L a → ValidTriplet L t → NonEmpty ◌<◌ a.times
    → area_prunable a t ≡ true → PrunesSome L (InArea a) t
prunable_only_if L a t v w n e = go h.1.1
  where
    h : InSubspace a.subspace t.subspace × ((a.times.start ≤ t.time) × Related t.path a.path)
    h = (prunable_means a t).0 e

    at : (q : Path) → Valid L q → Prefix t.path q → Prefix a.path q → PrunesSome L (InArea a) t
    at q u f g = prunes_place L (InArea a) t
        (record {
          place = record { subspace = t.subspace; path = q; time = a.times.start };
          inside = record { subspace = h.0; path = g; time = (inl refl, n) };
          subspaces = refl;
          prefix = f;
          no_later = h.1.0;
        })
        w
        (record { subspace_word = w.subspace_word; path_valid = u; time_word = v.start_word })

    go : Related t.path a.path → PrunesSome L (InArea a) t
    go (inl f) = at a.path v.path_valid f (prefix_self a.path)
    go (inr g) = at t.path w.path_valid (prefix_self t.path) g

-- THE ORDER: by a key of three parts, each of which has its order.
area_by_key : (a b : Area) → area_key a ≡ area_key b → a ≡ b
area_by_key a b h = λ i. record { subspace = (h i).0; path = (h i).1.0; times = (h i).1.1 }

abbrev compare_rest : Path × Range ℕ → Path × Range ℕ → Ordering
compare_rest = compare_pairs compare_paths (compare_ranges compare_numbers)

times_total : Total (compare_ranges compare_numbers)
times_total = ranges_total compare_numbers numbers_total

rest_total : Total compare_rest
rest_total = pairs_total compare_paths (compare_ranges compare_numbers) path_order.total times_total

rest_decided : Decides compare_rest (PairBelow PathBelow (RangeBelow ◌<◌))
rest_decided =
    pairs_decided compare_paths (compare_ranges compare_numbers) path_order.total times_total PathBelow (RangeBelow ◌<◌) path_order.means
    (ranges_decided compare_numbers ◌<◌ numbers_total numbers_decided)

keys_total : Total (compare_pairs compare_subspaces compare_rest)
keys_total = pairs_total compare_subspaces compare_rest subspaces_total rest_total

pub areas_total : Total compare_areas
areas_total = keyed_total area_key area_by_key (compare_pairs compare_subspaces compare_rest) keys_total

pub areas_decided : Decides compare_areas AreaBelow
areas_decided =
    keyed_decided area_key area_by_key (compare_pairs compare_subspaces compare_rest) keys_total
    (PairBelow SubspaceBelow (PairBelow PathBelow (RangeBelow ◌<◌)))
    (pairs_decided compare_subspaces compare_rest subspaces_total rest_total SubspaceBelow (PairBelow PathBelow (RangeBelow ◌<◌)) subspaces_decided rest_decided)

-- THEOREM 6.
pub area_laws : (L : Limits) → AreaLaws L
area_laws L = record {
  triplet_included = triplet_included;
  area_included = area_included L;
  almost_included = almost_included;
  almost_included_means = almost_included_means L;
  intersected = areas_intersected;
  intersection_valid = intersection_valid L;
  longer_stands = longer_stands;
  prunable_if = prunable_if L;
  prunable_only_if = prunable_only_if L;
  order_total = areas_total;
  order_means = areas_decided;
  subspaces_total = subspaces_total;
  subspaces_means = subspaces_decided;
}
