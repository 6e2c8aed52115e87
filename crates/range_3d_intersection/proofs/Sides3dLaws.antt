-- The intersection of two 3d ranges by those of their ranges, in the order in which the code asks for them: the first that there
-- is none of decides. The sides stand for the start and the end as they do in a range of paths.
use Prim.Native.Nat.{ℕ}
use mathlib.Core.Path.{◌≡◌, refl, sym, ◌∙◌, ap}
use mathlib.Core.Option.{Option, none, some, none-ne-some, some-injective}
use Rattle.willow.specs.Orders.{compare_numbers}
use Rattle.willow.specs.Paths.{Path, compare_paths}
use Rattle.willow.specs.Ranges.{Range, intersection}
use Rattle.willow.specs.Ranges3d.{Range3d, intersection3d, range3d_of}
use Rattle.willow.specs.Refusals.{Outcome, refused, absent, value}
use Rattle.willow.specs.Answers.{outcome_if_any}
use Rattle.path_range_intersection.specs.declared.Side.{Side}
use Rattle.path_range_intersection.specs.Sides.{sides_for, sides_met}
use Rattle.path_range_intersection.proofs.SidesLaws.{sides_of_paths}
use Rattle.range_3d_intersection.specs.Sides3d.{Standing3d, sides_for3d, sides_met3d, Sides3dTheorem}

-- What was found of the paths, of the times and of the subspaces, one behind the other.
abbrev standing : Outcome (Range Side) → Outcome (Range ℕ) → Outcome (Range ℕ) → Outcome Standing3d
standing (refused r) t u = refused r
standing absent t u = absent
standing (value x) (refused r) u = refused r
standing (value x) absent u = absent
standing (value x) (value t) (refused r) = refused r
standing (value x) (value t) absent = absent
standing (value x) (value t) (value u) = value (record { subspaces = u; paths = x; times = t })

standing_is : (r s : Range3d)
    → standing (sides_met compare_paths r.paths s.paths) (outcome_if_any (intersection compare_numbers r.times s.times)) (outcome_if_any (intersection compare_numbers r.subspaces s.subspaces)) ≡ sides_met3d r s
unfolding sides_met3d intersection3d sides_met
standing_is r s = go
    (intersection compare_paths r.paths s.paths)
    (intersection compare_numbers r.times s.times)
    (intersection compare_numbers r.subspaces s.subspaces)
  where
    go : (p : Option (Range Path)) (t u : Option (Range ℕ))
        → standing (sides_for compare_paths r.paths s.paths p) (outcome_if_any t) (outcome_if_any u) ≡ sides_for3d r s (range3d_of u p t)
    go none t none = refl
    go none t (some u) = refl
    go (some p) none none = refl
    go (some p) none (some u) = refl
    go (some p) (some t) none = refl
    go (some p) (some t) (some u) = refl

stands : (r s : Range3d) (o : Outcome (Range Side)) (t u : Outcome (Range ℕ))
    → o ≡ sides_met compare_paths r.paths s.paths
    → t ≡ outcome_if_any (intersection compare_numbers r.times s.times)
    → u ≡ outcome_if_any (intersection compare_numbers r.subspaces s.subspaces)
    → standing o t u ≡ sides_met3d r s
stands r s o t u e f g = rw (e, f, g) (standing_is r s)

-- WHAT IT MEANS. Where there is an intersection, there are those of the three ranges.
record Parts (r s m : Range3d) : Type 0 where
  subspaces : intersection compare_numbers r.subspaces s.subspaces ≡ some m.subspaces
  paths : intersection compare_paths r.paths s.paths ≡ some m.paths
  times : intersection compare_numbers r.times s.times ≡ some m.times

parts : (r s m : Range3d) → intersection3d r s ≡ some m → Parts r s m
unfolding intersection3d
parts r s m e = go _ _ _ refl refl refl e
  where
    go : (u : Option (Range ℕ)) (p : Option (Range Path)) (t : Option (Range ℕ))
        → intersection compare_numbers r.subspaces s.subspaces ≡ u
        → intersection compare_paths r.paths s.paths ≡ p
        → intersection compare_numbers r.times s.times ≡ t
        → range3d_of u p t ≡ some m → Parts r s m
    go none p t f g h e = absurd (none-ne-some m e)
    go (some u) none t f g h e = absurd (none-ne-some m e)
    go (some u) (some p) none f g h e = absurd (none-ne-some m e)
    go (some u) (some p) (some t) f g h e =
        let k = some-injective (record { subspaces = u; paths = p; times = t }) m e in
        record {
          subspaces = f ∙ ap (λ (x : Range3d). some x.subspaces) k;
          paths = g ∙ ap (λ (x : Range3d). some x.paths) k;
          times = h ∙ ap (λ (x : Range3d). some x.times) k;
        }

pub sides3d_theorem : Sides3dTheorem
unfolding sides_met3d
sides3d_theorem = record {
  none_met = λ r s e. ap (sides_for3d r s) e;
  sides_met_lem = λ r s m e.
      let h = parts r s m e in
      let (a, d, is, start, end, second_start, second_end_lem) = sides_of_paths.sides_met_lem r.paths s.paths m.paths h.paths in (
        record { subspaces = m.subspaces; paths = record { start = a; end = d }; times = m.times },
        sym (stands r s (value (record { start = a; end = d })) (value m.times) (value m.subspaces) (sym is) (sym (ap outcome_if_any h.times)) (sym (ap outcome_if_any h.subspaces))),
        refl,
        refl,
        start,
        end,
        second_start,
        second_end_lem,
      );
}
