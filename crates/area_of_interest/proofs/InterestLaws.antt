-- What an intersection's answer means, from what it means for the areas: the two numbers are the intersection's own.
use Prim.Native.Nat.{ℕ}
use mathlib.Core.Path.{◌≡◌, refl, ap}
use mathlib.Core.Option.{Option, none, some}
use native.Mathlib.Omega.{arith}
use Rattle.willow.specs.Areas.{Area, area_intersection}
use Rattle.willow.specs.AreasOfInterest.{AreaOfInterest, interest_in, interest_intersection}
use Rattle.willow.specs.Refusals.{absent, value}
use Rattle.area_intersection.proofs.StandingLaws.{is_standing, standing_of}
use Rattle.area_of_interest.specs.Interests.{StandingInterest, StandingInterestTheorem, standing_interest}

-- The area of an intersection is the intersection of the areas.
area_of_lem : (a b m : AreaOfInterest) → interest_intersection a b ≡ some m → area_intersection a.area b.area ≡ some m.area
unfolding interest_intersection
area_of_lem a b m e = go (area_intersection a.area b.area) e
  where
    go : (o : Option Area) → interest_in a b o ≡ some m → o ≡ some m.area
    go none f = let z : ◌≡◌ {A = ℕ} 0 1 = cc in absurd (omega arith)
    go (some x) f = ap (λ i. some i.area) (out f)
      where
        out : {k : AreaOfInterest} → some k ≡ some m → k ≡ m
        out g = cc

none_stands : (a b : AreaOfInterest) → interest_intersection a b ≡ none → standing_interest a b ≡ absent
unfolding standing_interest
none_stands a b e = rw e

-- what is answered for an intersection m
abbrev standing_with : AreaOfInterest → AreaOfInterest → AreaOfInterest → StandingInterest
standing_with a b m = record { area = standing_of a.area b.area m.area; max_count = m.max_count; max_size = m.max_size }

one_answered : (a b m : AreaOfInterest) → interest_intersection a b ≡ some m → standing_interest a b ≡ value (standing_with a b m)
unfolding standing_interest
one_answered a b m e = rw e

pub standing_interest_theorem : StandingInterestTheorem
standing_interest_theorem = record {
  none_stands = none_stands;
  one_stands = λ a b m e. (
    standing_with a b m,
    one_answered a b m e,
    record { area = is_standing a.area b.area m.area (area_of_lem a b m e); max_count = refl; max_size = refl },
  );
}
