-- A question on ranges of values that stand for others is the question on the ranges of those.
use Rattle.std.proofs.Common.{◌≡◌, ◌∙◌, refl, ap}
use Rattle.std.specs.Prelude.{Bool, true, false, not, ◌&&◌, cond}
use Rattle.std.specs.Ordering.{on}
use Rattle.std.specs.declared.cmp.Ordering.{Ordering}
use Rattle.willow.specs.Orders.{is_less, is_greater, then}
use Rattle.willow.specs.Ranges.{End, closed, endless, Range, compare_ends, compare_ranges, end_above, includes, includes_range, later_start, sooner_end}
use Rattle.range_end.specs.EndValues.{compare_end_value, compare_value_end, is_end_value}
use Rattle.range.specs.StandingFor.{end_by, range_by}

module _ {A B : Type 0} (f : A → B) (compare : B → B → Ordering) where
  -- ENDS
  pub end_above_by : (e : End A) (x : A) → end_above (on f compare) e x ≡ end_above compare (end_by f e) (f x)
  end_above_by (closed v) x = refl
  end_above_by endless x = refl

  pub compare_ends_by : (d e : End A) → compare_ends (on f compare) d e ≡ compare_ends compare (end_by f d) (end_by f e)
  compare_ends_by (closed v) (closed w) = refl
  compare_ends_by (closed v) endless = refl
  compare_ends_by endless (closed w) = refl
  compare_ends_by endless endless = refl

  pub is_end_value_by : (e : End A) (x : A) → is_end_value (on f compare) e x ≡ is_end_value compare (end_by f e) (f x)
  is_end_value_by (closed v) x = refl
  is_end_value_by endless x = refl

  pub compare_end_value_by : (e : End A) (x : A) → compare_end_value (on f compare) e x ≡ compare_end_value compare (end_by f e) (f x)
  compare_end_value_by (closed v) x = refl
  compare_end_value_by endless x = refl

  pub compare_value_end_by : (x : A) (e : End A) → compare_value_end (on f compare) x e ≡ compare_value_end compare (f x) (end_by f e)
  compare_value_end_by x (closed v) = refl
  compare_value_end_by x endless = refl

  -- RANGES
  pub includes_by : (r : Range A) (x : A) → includes (on f compare) r x ≡ includes compare (range_by f r) (f x)
  unfolding includes
  includes_by r x = ap (λ b. not (is_greater (compare (f r.start) (f x))) && b) (end_above_by r.end x)

  pub includes_range_by : (r s : Range A) → includes_range (on f compare) r s ≡ includes_range compare (range_by f r) (range_by f s)
  unfolding includes_range
  includes_range_by r s = ap (λ o. not (is_greater (compare (f r.start) (f s.start))) && not (is_less o)) (compare_ends_by r.end s.end)

  pub compare_ranges_by : (r s : Range A) → compare_ranges (on f compare) r s ≡ compare_ranges compare (range_by f r) (range_by f s)
  compare_ranges_by r s = ap (λ o. then (compare (f r.start) (f s.start)) o) (compare_ends_by r.end s.end)

  pub later_start_by : (a b : A) → f (later_start (on f compare) a b) ≡ later_start compare (f a) (f b)
  later_start_by a b = go (is_greater (compare (f a) (f b)))
    where
      go : (t : Bool) → f (cond t a b) ≡ cond t (f a) (f b)
      go true = refl
      go false = refl

  pub sooner_end_by : (d e : End A) → end_by f (sooner_end (on f compare) d e) ≡ sooner_end compare (end_by f d) (end_by f e)
  sooner_end_by d e = rw (compare_ends_by d e) (go (is_less (compare_ends compare (end_by f d) (end_by f e))))
    where
      go : (t : Bool) → end_by f (cond t d e) ≡ cond t (end_by f d) (end_by f e)
      go true = refl
      go false = refl

  -- whether two ranges meet
  pub meet_by : (r s : Range A)
      → end_above (on f compare) (sooner_end (on f compare) r.end s.end) (later_start (on f compare) r.start s.start)
      ≡ end_above compare (sooner_end compare (end_by f r.end) (end_by f s.end)) (later_start compare (f r.start) (f s.start))
  meet_by r s =
      end_above_by (sooner_end (on f compare) r.end s.end) (later_start (on f compare) r.start s.start)
      ∙ ap (λ x. end_above compare x (f (later_start (on f compare) r.start s.start))) (sooner_end_by r.end s.end)
      ∙ ap (end_above compare (sooner_end compare (end_by f r.end) (end_by f s.end))) (later_start_by r.start s.start)
