-- Ranges: each test is turned into what it means, and inclusion and intersection are then matters of the bounds. Where a range
-- is included as a set, its start is; and were its end past the other's, it alone would include the other's end.
use Prim.Native.Nat.{ℕ, ◌<◌, ◌≤◌}
use mathlib.Core.Path.{◌≡◌, refl, sym, ◌∙◌, ap, subst}
use mathlib.Core.Logic.Iff
use mathlib.Core.Logic.{◌⊎◌, inl, inr, ◌↔◌}
use mathlib.Core.Option.{none, some}
use mathlib.Core.Bool.{Bool, true, false, not, cond, true≢false, false≢true}
use native.Mathlib.Omega.{arith}
use Rattle.willow.specs.declared.Limits.{Limits}
use Rattle.std.specs.declared.cmp.Ordering.{Ordering}
use Rattle.std.specs.declared.cmp.Ordering.TheVariants.{Less, Equal, Greater}
use Rattle.willow.specs.Limits.{max_word}
use Rattle.willow.specs.Orders.{is_less, is_greater, reverse, Total, Decides, AtMost, compare_numbers, compare_pairs, PairBelow}
use Rattle.willow.specs.Paths.{Valid, PathBelow, compare_paths}
use Rattle.willow.specs.Ranges.{End, closed, endless, Range, BeforeEnd, InRange, NonEmpty, EndBelow, bounds, RangeBelow, IsIntersection, compare_ends, end_above, includes, includes_range, new_closed, later_start, sooner_end, intersection, compare_ranges, EndHas, RangeLaws, Ranges}
use Rattle.willow.proofs.Bools.{decided_false, conjunction_means}
use Rattle.willow.proofs.OrderLaws.{less≢equal, less≢greater, equal≢greater, is_less_true, is_greater_true, decides, at_most_means, below_irreflexive, below_cases, at_most_below, at_most_transitive, below_transitive, numbers_total, numbers_decided, pairs_total, pairs_decided, keyed_total, keyed_decided}
use Rattle.willow.proofs.PathLaws.{path_order}

one_of : {B : Type 0} (b : Bool) (x y : B) → (cond b x y ≡ x) ⊎ (cond b x y ≡ y)
one_of true x y = inl refl
one_of false x y = inr refl

some≢none : {B : Type 0} (x : B) → some x ≡ none → ⊥
some≢none x e = let z : ◌≡◌ {A = ℕ} 0 1 = cc in omega arith

some_if : {B : Type 0} (b : Bool) (x : B) → (cond b (some x) none ≡ some x) ↔ (b ≡ true)
some_if true x = (λ h. refl, λ h. refl)
some_if false x = (λ h. absurd (some≢none x (sym h)), λ h. absurd (false≢true h))

none_if : {B : Type 0} (b : Bool) (x : B) → (cond b (some x) none ≡ none) ↔ (b ≡ false)
none_if true x = (λ h. absurd (some≢none x h), λ h. absurd (true≢false h))
none_if false x = (λ h. refl, λ h. refl)

module _ {A : Type 0} (compare : A → A → Ordering) (Below : A → A → Type 0) (d : Decides compare Below) where
  -- not greater: at most
  pub not_greater_means : (x y : A) → (not (is_greater (compare x y)) ≡ true) ↔ AtMost Below x y
  not_greater_means x y = go (compare x y) refl
    where
      go : (o : Ordering) → compare x y ≡ o → (not (is_greater o) ≡ true) ↔ AtMost Below x y
      go Less e = (λ h. inr ((d.less x y).0 e), λ h. refl)
      go Equal e = (λ h. inl ((d.equal x y).0 e), λ h. refl)
      go Greater e = (λ h. absurd (false≢true h), λ h. absurd ((at_most_means compare Below d x y).0 h e))

  -- not less: at least
  not_less_means : (x y : A) → (not (is_less (compare x y)) ≡ true) ↔ AtMost Below y x
  not_less_means x y = go (compare x y) refl
    where
      not_below : compare x y ≡ Less → AtMost Below y x → ⊥
      not_below e (inl h) = less≢equal (sym e ∙ (d.equal x y).1 (sym h))
      not_below e (inr h) = less≢greater (sym e ∙ (d.greater x y).1 h)

      go : (o : Ordering) → compare x y ≡ o → (not (is_less o) ≡ true) ↔ AtMost Below y x
      go Less e = (λ h. absurd (false≢true h), λ h. absurd (not_below e h))
      go Equal e = (λ h. inl (sym ((d.equal x y).0 e)), λ h. refl)
      go Greater e = (λ h. inr ((d.greater x y).0 e), λ h. refl)

  less_means : (x y : A) → (is_less (compare x y) ≡ true) ↔ Below x y
  less_means x y = (λ h. (d.less x y).0 (is_less_true (compare x y) h), λ b. ap is_less ((d.less x y).1 b))

  greater_means : (x y : A) → (is_greater (compare x y) ≡ true) ↔ Below y x
  greater_means x y = (λ h. (d.greater x y).0 (is_greater_true (compare x y) h), λ b. ap is_greater ((d.greater x y).1 b))

-- ENDS.
module _ {A : Type 0} (compare : A → A → Ordering) (t : Total compare) where
  end_same : (e f : End A) → compare_ends compare e f ≡ Equal → e ≡ f
  end_same (closed a) (closed b) h = ap closed (t.same a b h)
  end_same (closed a) endless h = absurd (less≢equal h)
  end_same endless (closed b) h = absurd (equal≢greater (sym h))
  end_same endless endless h = refl

  end_self : (e : End A) → compare_ends compare e e ≡ Equal
  end_self (closed a) = t.self a
  end_self endless = refl

  end_flip : (e f : End A) → compare_ends compare f e ≡ reverse (compare_ends compare e f)
  end_flip (closed a) (closed b) = t.flip a b
  end_flip (closed a) endless = refl
  end_flip endless (closed b) = refl
  end_flip endless endless = refl

  end_trans : (e f g : End A) → compare_ends compare e f ≡ Less → compare_ends compare f g ≡ Less → compare_ends compare e g ≡ Less
  end_trans (closed a) (closed b) (closed c) p q = t.trans a b c p q
  end_trans (closed a) (closed b) endless p q = refl
  end_trans (closed a) endless (closed c) p q = absurd (less≢greater (sym q))
  end_trans (closed a) endless endless p q = refl
  end_trans endless (closed b) g p q = absurd (less≢greater (sym p))
  end_trans endless endless g p q = absurd (less≢equal (sym p))

  pub ends_total : Total (compare_ends compare)
  ends_total = record { same = end_same; self = end_self; flip = end_flip; trans = end_trans }

  -- A RANGE is known by its bounds.
  pub range_by_bounds : (r s : Range A) → bounds r ≡ bounds s → r ≡ s
  range_by_bounds r s h = λ i. record { start = (h i).0; end = (h i).1 }

  pub bounds_total : Total (compare_pairs compare (compare_ends compare))
  bounds_total = pairs_total compare (compare_ends compare) t ends_total

  pub ranges_total : Total (compare_ranges compare)
  ranges_total = keyed_total bounds range_by_bounds (compare_pairs compare (compare_ends compare)) bounds_total

module _ {A : Type 0} (compare : A → A → Ordering) (Below : A → A → Type 0) (t : Total compare) (d : Decides compare Below) where
  pub ends_decided : Decides (compare_ends compare) (EndBelow Below)
  ends_decided = decides (compare_ends compare) (EndBelow Below) (ends_total compare t) less
    where
      less : (e f : End A) → (compare_ends compare e f ≡ Less) ↔ EndBelow Below e f
      less (closed a) (closed b) = d.less a b
      less (closed a) endless = (λ h. tt, λ h. refl)
      less endless (closed b) = (λ h. less≢greater (sym h), λ h. absurd h)
      less endless endless = (λ h. less≢equal (sym h), λ h. absurd h)

  pub ranges_decided : Decides (compare_ranges compare) (RangeBelow Below)
  ranges_decided =
      keyed_decided bounds (range_by_bounds compare t) (compare_pairs compare (compare_ends compare)) (bounds_total compare t) (PairBelow Below (EndBelow Below))
      (pairs_decided compare (compare_ends compare) t (ends_total compare t) Below (EndBelow Below) d ends_decided)

  -- the test of an end
  above_means : (e : End A) (x : A) → (end_above compare e x ≡ true) ↔ BeforeEnd Below x e
  above_means (closed e) x = greater_means compare Below d e x
  above_means endless x = (λ h. tt, λ h. refl)

  -- what is before an end is before a later one ..
  before_later : (x : A) (e f : End A) → BeforeEnd Below x e → AtMost (EndBelow Below) e f → BeforeEnd Below x f
  before_later x e f h (inl k) = rw (← k) h
  before_later x (closed a) (closed b) h (inr k) = below_transitive compare Below d t x a b h k
  before_later x (closed a) endless h (inr k) = tt
  before_later x endless f h (inr k) = absurd k

  -- .. and all that is at most it is before that end
  pub before_lower : (a x : A) (e : End A) → AtMost Below a x → BeforeEnd Below x e → BeforeEnd Below a e
  before_lower a x (closed e) h k = at_most_below compare Below d t a x e h k
  before_lower a x endless h k = tt

  -- INCLUSION.
  pub value_included : (r : Range A) (x : A) → (includes compare r x ≡ true) ↔ InRange Below r x
  unfolding includes
  value_included r x = conjunction_means (not_greater_means compare Below d r.start x) (above_means r.end x)

  bounds_included : (r s : Range A) → (includes_range compare r s ≡ true)
      ↔ (AtMost Below r.start s.start × AtMost (EndBelow Below) s.end r.end)
  unfolding includes_range
  bounds_included r s = conjunction_means
      (not_greater_means compare Below d r.start s.start)
      (not_less_means (compare_ends compare) (EndBelow Below) ends_decided r.end s.end)

  -- the bounds say that the sets are included
  included_by_bounds : (r s : Range A) → AtMost Below r.start s.start → AtMost (EndBelow Below) s.end r.end
      → (x : A) → InRange Below s x → InRange Below r x
  included_by_bounds r s a e x h = (
    at_most_transitive compare Below d t r.start s.start x a h.0,
    before_later x s.end r.end h.1 e,
  )

  module _ (U : A → Type 0) where
    -- an end f that is past e has e before it, and e is not before itself
    end_by_values : (a : A) (e f : End A) → EndHas U e → BeforeEnd Below a e
        → ((x : A) → U x → AtMost Below a x → BeforeEnd Below x f → BeforeEnd Below x e) → AtMost (EndBelow Below) f e
    end_by_values a (closed e) (closed f) u b h = go (below_cases compare Below d f e)
      where
        go : Below f e ⊎ ((f ≡ e) ⊎ Below e f) → AtMost (EndBelow Below) (closed f) (closed e)
        go (inl k) = inr k
        go (inr (inl k)) = inl (ap closed k)
        go (inr (inr k)) = absurd (below_irreflexive compare Below d e (h e u (inr b) k))
    end_by_values a (closed e) endless u b h = absurd (below_irreflexive compare Below d e (h e u (inr b) tt))
    end_by_values a endless (closed f) u b h = inr tt
    end_by_values a endless endless u b h = inl refl

    range_included : (r s : Range A) → EndHas U r.end → U s.start → NonEmpty Below s
        → (includes_range compare r s ≡ true) ↔ ((x : A) → U x → InRange Below s x → InRange Below r x)
    range_included r s u v n = (
      λ e. let b = (bounds_included r s).0 e in λ x w h. included_by_bounds r s b.0 b.1 x h,
      λ h.
          let first = h s.start v (inl refl, n) in
          let ends = end_by_values s.start r.end s.end u first.1 (λ x w a b. (h x w (a, b)).1) in
          (bounds_included r s).1 (first.0, ends),
    )

  -- INTERSECTION. The later start is at most what both starts are at most, and before the sooner end is before both.
  later_means : (a b x : A) → AtMost Below (later_start compare a b) x ↔ (AtMost Below a x × AtMost Below b x)
  later_means a b x = go (compare a b) refl
    where
      go : (o : Ordering) → compare a b ≡ o → AtMost Below (cond (is_greater o) a b) x ↔ (AtMost Below a x × AtMost Below b x)
      go Less e = (λ h. (at_most_transitive compare Below d t a b x (inr ((d.less a b).0 e)) h, h), λ h. h.1)
      go Equal e = (λ h. (rw ((d.equal a b).0 e) h, h), λ h. h.1)
      go Greater e = (λ h. (h, at_most_transitive compare Below d t b a x (inr ((d.greater a b).0 e)) h), λ h. h.0)

  sooner_means : (e f : End A) (x : A) → BeforeEnd Below x (sooner_end compare e f) ↔ (BeforeEnd Below x e × BeforeEnd Below x f)
  sooner_means e f x = go (compare_ends compare e f) refl
    where
      go : (o : Ordering) → compare_ends compare e f ≡ o → BeforeEnd Below x (cond (is_less o) e f) ↔ (BeforeEnd Below x e × BeforeEnd Below x f)
      go Less k = (λ h. (h, before_later x e f h (inr ((ends_decided.less e f).0 k))), λ h. h.0)
      go Equal k = (λ h. (before_later x f e h (inl (sym ((ends_decided.equal e f).0 k))), h), λ h. h.1)
      go Greater k = (λ h. (before_later x f e h (inr ((ends_decided.greater e f).0 k)), h), λ h. h.1)

  pub ranges_intersected : (r s : Range A) → IsIntersection Below r s (intersection compare r s)
  unfolding intersection
  ranges_intersected r s = go (end_above compare m.end m.start) (above_means m.end m.start)
    where
      m : Range A
      m = record { start = later_start compare r.start s.start; end = sooner_end compare r.end s.end }

      both : (x : A) → InRange Below m x ↔ (InRange Below r x × InRange Below s x)
      both x =
          let a = later_means r.start s.start x in
          let e = sooner_means r.end s.end x in (
            λ h. let b = a.0 h.0 in let f = e.0 h.1 in ((b.0, f.0), (b.1, f.1)),
            λ h. (a.1 (h.0.0, h.1.0), e.1 (h.0.1, h.1.1)),
          )

      go : (b : Bool) → (b ≡ true) ↔ BeforeEnd Below m.start m.end → IsIntersection Below r s (cond b (some m) none)
      go true k = (
        both,
        (inl refl, k.0 refl),
        one_of (is_greater (compare r.start s.start)) r.start s.start,
        one_of (is_less (compare_ends compare r.end s.end)) r.end s.end,
      )
      go false k = λ x h i. let b = (both x).1 (h, i) in false≢true (k.1 (before_lower m.start x m.end b.0 b.1))

  -- A CLOSED RANGE is made of a start below its end.
  closed_means : (a e : A) → (new_closed compare a e ≡ some (record { start = a; end = closed e })) ↔ Below a e
  unfolding new_closed
  closed_means a e = Iff.trans (some_if (is_less (compare a e)) (record { start = a; end = closed e })) (less_means compare Below d a e)

  closed_none : (a e : A) → (new_closed compare a e ≡ none) ↔ (Below a e → ⊥)
  unfolding new_closed
  closed_none a e = Iff.trans
      (none_if (is_less (compare a e)) (record { start = a; end = closed e }))
      (decided_false (is_less (compare a e)) (less_means compare Below d a e))

  pub range_laws : (U : A → Type 0) → RangeLaws compare Below U
  range_laws U = record {
    value_included = value_included;
    range_included = range_included U;
    bounds_included = bounds_included;
    intersected = ranges_intersected;
    order_total = ranges_total compare t;
    order_means = ranges_decided;
    ends_means = ends_decided;
    closed_means = closed_means;
    closed_none = closed_none;
  }

-- An intersection's start and end are of the ranges intersected, so they have what these have; and its start is below its end.
pub intersection_has : {A : Type 0} (Below : A → A → Type 0) (U : A → Type 0) (r s m : Range A) → U r.start → EndHas U r.end → U s.start → EndHas U s.end
    → IsIntersection Below r s (some m) → U m.start × EndHas U m.end × NonEmpty Below m
intersection_has {A} Below U r s m a b c d h = (first h.2, last h.3, h.1.1)
  where
    first : (m.start ≡ r.start) ⊎ (m.start ≡ s.start) → U m.start
    first (inl e) = rw e a
    first (inr e) = rw e c

    last : (m.end ≡ r.end) ⊎ (m.end ≡ s.end) → EndHas U m.end
    last (inl e) = subst (EndHas U) (sym e) b
    last (inr e) = subst (EndHas U) (sym e) d

-- THEOREM 5.
pub number_ranges : RangeLaws compare_numbers ◌<◌ (λ n. n ≤ max_word)
number_ranges = range_laws compare_numbers ◌<◌ numbers_total numbers_decided (λ n. n ≤ max_word)

pub path_ranges : (L : Limits) → RangeLaws compare_paths PathBelow (Valid L)
path_ranges L = range_laws compare_paths PathBelow path_order.total path_order.means (Valid L)

pub ranges : (L : Limits) → Ranges L
ranges L = record { of_numbers = number_ranges; of_paths = path_ranges L }
