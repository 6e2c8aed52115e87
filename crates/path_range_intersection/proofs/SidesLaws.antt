-- The sides of an intersection stand for its start and its end; and those of ranges of values that stand for others are those of the
-- ranges of these.
use mathlib.Core.Path.{◌≡◌, refl, sym, ◌∙◌, ap}
use mathlib.Core.Option.{none, some, none-ne-some, some-injective}
use mathlib.Core.Bool.{Bool, true, false, cond, true≢false}
use Rattle.std.specs.declared.cmp.Ordering.{Ordering}
use Rattle.std.specs.declared.cmp.Ordering.TheVariants.{Equal}
use Rattle.willow.specs.Orders.{is_less, is_greater, Total}
use Rattle.willow.specs.Paths.{compare_paths}
use Rattle.willow.specs.Ranges.{End, closed, endless, Range, compare_ends, end_above, later_start, sooner_end, intersection}
use Rattle.willow.specs.Refusals.{value}
use Rattle.willow.proofs.PathLaws.{paths_total}
use Rattle.path_range_intersection.specs.declared.Side.TheVariants.{First, Second}
use Rattle.range.proofs.StandingForLaws.{compare_ends_by, meet_by}
use Rattle.range.specs.StandingFor.{end_by, range_by}
use Rattle.std.specs.Ordering.{on}
use Rattle.path_range_intersection.specs.Sides.{start_at, end_at, later_side, second_end, end_side, sides_for, sides_met, SidesTheorem}

module _ {A : Type 0} (compare : A → A → Ordering) where
  -- WHAT THE SIDES STAND FOR: the later start and the sooner end.
  start_at_lem : (a b : A) → start_at (later_side compare a b) a b ≡ later_start compare a b
  start_at_lem a b = go (is_greater (compare a b))
    where
      go : (t : Bool) → start_at (cond t First Second) a b ≡ cond t a b
      go true = refl
      go false = refl

  end_at_lem : (d e : End A) → end_at (end_side compare d e) d e ≡ sooner_end compare d e
  end_at_lem d e = go (is_less (compare_ends compare d e)) e
    where
      go : (t : Bool) (e : End A) → end_at (cond t (closed First) (second_end e)) d e ≡ cond t d e
      go true e = refl
      go false (closed v) = refl
      go false endless = refl

  -- OF EQUAL VALUES the second's is named, since they compare as equal.
  module _ (total : Total compare) where
    second_start : (a b : A) → a ≡ b → later_side compare a b ≡ Second
    second_start a b h = rw (h, total.self b)

    second_end_lem : (d e : End A) → d ≡ e → end_side compare d e ≡ second_end e
    second_end_lem d e h = ap (λ x. end_side compare x e) h ∙ ap (λ o. cond (is_less o) (closed First) (second_end e)) (same e)
      where
        same : (e : End A) → compare_ends compare e e ≡ Equal
        same (closed v) = total.self v
        same endless = refl

  -- The intersection, where there is one.
  met_is : (r s m : Range A) → intersection compare r s ≡ some m
      → record { start = later_start compare r.start s.start; end = sooner_end compare r.end s.end } ≡ m
  unfolding intersection
  met_is r s m e = go (end_above compare (sooner_end compare r.end s.end) (later_start compare r.start s.start)) _ e
    where
      go : (t : Bool) (n : Range A) → cond t (some n) none ≡ some m → n ≡ m
      go true n e = some-injective n m e
      go false n e = absurd (none-ne-some m e)

  pub sides_theorem : Total compare → SidesTheorem compare
  unfolding sides_met
  sides_theorem total = record {
    none_met = λ r s e. ap (sides_for compare r s) e;
    sides_met_lem = λ r s m e.
        let h = met_is r s m e in (
          later_side compare r.start s.start,
          end_side compare r.end s.end,
          ap (sides_for compare r s) e,
          start_at_lem r.start s.start ∙ ap (λ (n : Range A). n.start) h,
          end_at_lem r.end s.end ∙ ap (λ (n : Range A). n.end) h,
          second_start total r.start s.start,
          second_end_lem total r.end s.end,
        );
  }

-- OF VALUES THAT STAND FOR OTHERS.
pub sides_met_by : {A B : Type 0} (f : A → B) (compare : B → B → Ordering) (r s : Range A)
    → sides_met (on f compare) r s ≡ sides_met compare (range_by f r) (range_by f s)
unfolding sides_met intersection
sides_met_by {A} {B} f compare r s = go _ _ (meet_by f compare r s)
  where
    m : Range A
    m = record { start = later_start (on f compare) r.start s.start; end = sooner_end (on f compare) r.end s.end }

    n : Range B
    n = record { start = later_start compare (f r.start) (f s.start); end = sooner_end compare (end_by f r.end) (end_by f s.end) }

    second : (e : End A) → second_end e ≡ second_end (end_by f e)
    second (closed x) = refl
    second endless = refl

    side : (d e : End A) → end_side (on f compare) d e ≡ end_side compare (end_by f d) (end_by f e)
    side d e = rw (compare_ends_by f compare d e, second e)

    go : (t u : Bool) → t ≡ u → sides_for (on f compare) r s (cond t (some m) none) ≡ sides_for compare (range_by f r) (range_by f s) (cond u (some n) none)
    go true true e = ap (λ x. value (record { start = later_side compare (f r.start) (f s.start); end = x })) (side r.end s.end)
    go false false e = refl
    go true false e = absurd (true≢false e)
    go false true e = absurd (true≢false (sym e))

-- Of paths.
pub sides_of_paths : SidesTheorem compare_paths
sides_of_paths = sides_theorem compare_paths paths_total
