-- What the intersection of two lent areas answers: its subspaces and times, and whose path stands, as a count beside one of the two
-- buffers.
use Rattle.std.specs.Prelude.{ℕ, ◌<◌, ◌≤◌, ◌≡◌, List, [], cond, length}
use Rattle.std.proofs.Math.Option.{Option, none, some}
use Rattle.willow.specs.declared.AreaSubspace.{AreaSubspace}
use Rattle.willow.specs.Areas.{Area, area_intersection}
use Rattle.willow.specs.Paths.{Path, is_prefix_of}
use Rattle.willow.specs.Ranges.{Range}
use Rattle.willow.specs.declared.Refusal.{Refusal}
use Rattle.willow.specs.Refusals.{Outcome, absent, value}
use Rattle.range.specs.NumberRanges.{range_of}
use Rattle.std.specs.Prelude as code
use Rattle.area.specs.declared.Area as declared
use Rattle.area_intersection.specs.declared.Met.{Met}
use Rattle.area_intersection.specs.declared.Met.TheVariants.{First, Second}

-- Whose path stands.
pub data Whose : Type 0 where
  first : Whose
  second : Whose

-- As a number in an answer towards a host: 0 for the path of the first input, 1 for that of the second.
abbrev pub whose_number : Whose → ℕ
whose_number first = 0
whose_number second = 1

pub record Standing : Type 0 where
  pub whose : Whose
  pub count : ℕ
  pub subspace : AreaSubspace
  pub times : Range ℕ

-- THE ANSWER: none where the areas have no intersection m; else whose path stands, how many components it has, and what m has
-- beside its path.
abbrev pub whose_of : Path → Path → Whose
whose_of p q = cond (is_prefix_of p q) second first

abbrev pub standing_for : Area → Area → Option Area → Outcome Standing
standing_for a b none = absent
standing_for a b (some m) = value (record {
  whose = whose_of a.path b.path;
  count = length m.path;
  subspace = m.subspace;
  times = m.times;
})

unfoldable pub standing : Area → Area → Outcome Standing
standing a b = standing_for a b (area_intersection a b)

-- What the code's answers mean.
abbrev pub standing_of : Met declared.Area → Standing
standing_of (First m) = record { whose = first; count = m.count; subspace = m.subspace; times = range_of m.times }
standing_of (Second m) = record { whose = second; count = m.count; subspace = m.subspace; times = range_of m.times }

-- The buffer beside which an answer stands: "a part of one of the two lent inputs"; an empty part where there is no answer.
abbrev pub standing_part : {A : Type 0} → code.Result (code.Option (Met A)) Refusal → List ℕ → List ℕ → List ℕ
standing_part (code.Err r) a b = []
standing_part (code.Ok code.None) a b = []
standing_part (code.Ok (code.Some (First m))) a b = a
standing_part (code.Ok (code.Some (Second m))) a b = b

-- WHAT THE ANSWER MEANS, of the intersection that `willow` defines: there is none exactly if there is no intersection; else
-- subspace and times are its own, its path is the one that stands, the first's only where that is longer, and the count is that
-- path's.
abbrev pub StandingPath : Area → Area → Whose → Path → Type 0
StandingPath a b first p = (p ≡ a.path) × (length b.path < length a.path)
StandingPath a b second p = (p ≡ b.path) × (length a.path ≤ length b.path)

pub record IsStanding (a b m : Area) (s : Standing) : Type 0 where
  pub subspace : s.subspace ≡ m.subspace
  pub times : s.times ≡ m.times
  pub path : StandingPath a b s.whose m.path
  pub count : s.count ≡ length m.path

pub record StandingTheorem : Type 0 where
  pub none_stands : (a b : Area) → area_intersection a b ≡ none → standing a b ≡ absent
  pub one_stands : (a b m : Area) → area_intersection a b ≡ some m → (s : Standing) × (standing a b ≡ value s) × IsStanding a b m s
