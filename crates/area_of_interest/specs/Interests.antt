-- Areas of interest as the code has them: a struct, and the lent buffer of its path beside it. The questions are defined in
-- `willow`.
use Rattle.std.specs.Prelude.{ℕ, ◌≡◌, List, length}
use Rattle.std.proofs.Math.Option.{Option, none, some}
use Rattle.willow.specs.declared.Limits.{Limits}
use Rattle.willow.specs.Answers.{on_paths, path_in}
use Rattle.willow.specs.AreasOfInterest.{AreaOfInterest, interest_intersection}
use Rattle.willow.specs.Paths.{Path}
use Rattle.willow.specs.Refusals.{Outcome, absent, value}
use Rattle.range.specs.NumberRanges.{range_of}
use Rattle.area.specs.LentAreas.{area_at, area_of}
use Rattle.area_of_interest.specs.declared.AreaOfInterest as declared
use Rattle.area_of_interest.specs.declared.lent.LentInterest.{LentInterest}
use Rattle.area_intersection.specs.declared.Met.{Met}
use Rattle.area_intersection.specs.declared.Met.TheVariants.{First, Second}
use Rattle.area_intersection.specs.Standing.{Standing, IsStanding, first, second, whose_of}

-- The area of interest of a struct and a path; and with the path that a buffer holds.
abbrev pub interest_at : declared.AreaOfInterest → Path → AreaOfInterest
interest_at a p = record { area = area_at a.area p; max_count = a.max_count; max_size = a.max_size }

-- The area of interest of one whose path was tested.
abbrev pub interest_of : LentInterest → AreaOfInterest
interest_of a = record { area = area_of a.area; max_count = a.max_count; max_size = a.max_size }

abbrev pub interest_in : declared.AreaOfInterest → List ℕ → AreaOfInterest
interest_in a b = interest_at a (path_in b a.area.count)

-- A question f on two lent areas of interest: 1, then 5 for either path, then what f answers.
abbrev pub on_interests : {A : Type 0} → Limits → declared.AreaOfInterest → List ℕ → declared.AreaOfInterest → List ℕ
    → (AreaOfInterest → AreaOfInterest → Outcome A) → Outcome A
on_interests L a base b base2 f = on_paths L base a.area.count base2 b.area.count (λ p q. f (interest_at a p) (interest_at b q))

-- THE ANSWER of an intersection: what stands of the areas, and the two numbers.
pub record StandingInterest : Type 0 where
  pub area : Standing
  pub max_count : ℕ
  pub max_size : ℕ

abbrev pub standing_for : AreaOfInterest → AreaOfInterest → Option AreaOfInterest → Outcome StandingInterest
standing_for a b none = absent
standing_for a b (some m) = value (record {
  area = record {
    whose = whose_of a.area.path b.area.path;
    count = length m.area.path;
    subspace = m.area.subspace;
    times = m.area.times;
  };
  max_count = m.max_count;
  max_size = m.max_size;
})

unfoldable pub standing_interest : AreaOfInterest → AreaOfInterest → Outcome StandingInterest
standing_interest a b = standing_for a b (interest_intersection a b)

-- What the code's answers mean.
abbrev pub standing_of : Met declared.AreaOfInterest → StandingInterest
standing_of (First m) = record {
  area = record { whose = first; count = m.area.count; subspace = m.area.subspace; times = range_of m.area.times };
  max_count = m.max_count;
  max_size = m.max_size;
}
standing_of (Second m) = record {
  area = record { whose = second; count = m.area.count; subspace = m.area.subspace; times = range_of m.area.times };
  max_count = m.max_count;
  max_size = m.max_size;
}

-- WHAT THE ANSWER MEANS, of the intersection that `willow` defines.
pub record IsStandingInterest (a b m : AreaOfInterest) (s : StandingInterest) : Type 0 where
  pub area : IsStanding a.area b.area m.area s.area
  pub max_count : s.max_count ≡ m.max_count
  pub max_size : s.max_size ≡ m.max_size

pub record StandingInterestTheorem : Type 0 where
  pub none_stands : (a b : AreaOfInterest) → interest_intersection a b ≡ none → standing_interest a b ≡ absent
  pub one_stands : (a b m : AreaOfInterest) → interest_intersection a b ≡ some m
      → (s : StandingInterest) × (standing_interest a b ≡ value s) × IsStandingInterest a b m s
