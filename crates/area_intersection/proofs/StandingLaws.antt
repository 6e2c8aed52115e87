-- What an intersection's answer means: the path that stands is the longer one, and the second's where both are equal, since a
-- prefix of a path that is no prefix of it is shorter.
use Prim.Native.Nat.{ℕ, ◌<◌}
use mathlib.Core.Path.{◌≡◌, refl, ◌∙◌, ap}
use mathlib.Core.Logic.{◌⊎◌, inl, inr}
use mathlib.Core.Option.{Option, none, some}
use mathlib.Core.Bool.{Bool, true, false, cond}
use native.Mathlib.Omega.{arith}
use lib.ListN.{length}
use Rattle.willow.specs.declared.AreaSubspace.{AreaSubspace}
use Rattle.std.specs.declared.cmp.Ordering.TheVariants.{Less}
use Rattle.willow.specs.Areas.{Area, area_intersection, area_of, longer_path, subspace_intersection}
use Rattle.willow.specs.Orders.{compare_numbers}
use Rattle.willow.specs.Paths.{Path, compare_components, compare_paths, is_prefix_of}
use Rattle.willow.specs.Ranges.{Range, intersection}
use Rattle.willow.specs.Refusals.{absent, value}
use Rattle.willow.proofs.Bools.{false_not_true}
use Rattle.willow.proofs.PathLaws.{components_total, prefix_cases, prefix_means, prefix_self, prefix_shorter}
use Rattle.area_intersection.specs.Standing.{first, second, IsStanding, Standing, standing, StandingPath, StandingTheorem, whose_of}

-- A prefix q of p that p is no prefix of is shorter: else both were equal.
strictly_shorter : (p q : Path) → is_prefix_of q p ≡ true → is_prefix_of p q ≡ false → length q < length p
strictly_shorter p q h k = go (prefix_cases compare_components components_total q p h)
  where
    go : (q ≡ p) ⊎ ((compare_paths q p ≡ Less) × (length q < length p)) → length q < length p
    go (inl e) = absurd (false_not_true (is_prefix_of p q) k (ap (is_prefix_of p) e ∙ (prefix_means p p).1 (prefix_self p)))
    go (inr e) = e.1

-- The path of an area of three parts is the second part.
path_of : (s : Option AreaSubspace) (p : Option Path) (r : Option (Range ℕ)) (m : Area) → area_of s p r ≡ some m → p ≡ some m.path
path_of none p r m e = let z : ◌≡◌ {A = ℕ} 0 1 = cc in absurd (omega arith)
path_of (some s) none r m e = let z : ◌≡◌ {A = ℕ} 0 1 = cc in absurd (omega arith)
path_of (some s) (some p) none m e = let z : ◌≡◌ {A = ℕ} 0 1 = cc in absurd (omega arith)
path_of (some s) (some p) (some r) m e = let f : record { subspace = s; path = p; times = r } ≡ m = cc in ap (λ a. some a.path) f

-- The path that stands is the intersection's.
path_stands : (a b : Area) (p : Path) → longer_path a.path b.path ≡ some p → StandingPath a b (whose_of a.path b.path) p
path_stands a b p e = go (is_prefix_of a.path b.path) (is_prefix_of b.path a.path) refl refl e
  where
    go : (x y : Bool) → is_prefix_of a.path b.path ≡ x → is_prefix_of b.path a.path ≡ y
        → cond x (some b.path) (cond y (some a.path) none) ≡ some p → StandingPath a b (cond x second first) p
    go true y f g h = let k : p ≡ b.path = cc in (k, prefix_shorter a.path b.path ((prefix_means a.path b.path).0 f))
    go false true f g h = let k : p ≡ a.path = cc in (k, strictly_shorter a.path b.path g f)
    go false false f g h = let z : ◌≡◌ {A = ℕ} 0 1 = cc in absurd (omega arith)

none_stands : (a b : Area) → area_intersection a b ≡ none → standing a b ≡ absent
unfolding standing
none_stands a b e = rw e

-- what is answered for an intersection m
abbrev pub standing_of : Area → Area → Area → Standing
standing_of a b m = record { whose = whose_of a.path b.path; count = length m.path; subspace = m.subspace; times = m.times }

one_answered : (a b m : Area) → area_intersection a b ≡ some m → standing a b ≡ value (standing_of a b m)
unfolding standing
one_answered a b m e = rw e

longer_part : (a b m : Area) → area_intersection a b ≡ some m → longer_path a.path b.path ≡ some m.path
unfolding area_intersection
longer_part a b m e =
    path_of (subspace_intersection a.subspace b.subspace) (longer_path a.path b.path) (intersection compare_numbers a.times b.times) m e

pub is_standing : (a b m : Area) → area_intersection a b ≡ some m → IsStanding a b m (standing_of a b m)
is_standing a b m e = record {
  subspace = refl;
  times = refl;
  path = path_stands a b m.path (longer_part a b m e);
  count = refl;
}

pub standing_theorem : StandingTheorem
standing_theorem = record {
  none_stands = none_stands;
  one_stands = λ a b m e. (standing_of a b m, one_answered a b m e, is_standing a b m e);
}
