-- WHAT KINDS AND NUMBERS MEAN. Ends, subspaces, ranges, areas and 3d ranges come to the exports as numbers, and the contracts speak
-- of what is computed from these (`end_from`, `area_from` and the like, with `on_kinds`). Here stands what that is, by meaning.
use Rattle.std.specs.Prelude.{ℕ, ◌≡◌, ◌↔◌}
use Rattle.std.proofs.Math.Option.{Option, none, some}
use Rattle.willow.specs.declared.AreaSubspace.{AreaSubspace}
use Rattle.willow.specs.declared.AreaSubspace.TheVariants.{Any, Id}
use Rattle.willow.specs.declared.Limits.{Limits}
use Rattle.willow.specs.declared.Refusal.TheVariants.{BadLimits, BadKind}
use Rattle.willow.specs.Areas.{subspace_from}
use Rattle.willow.specs.Kinds.{Says, GoodKind}
use Rattle.willow.specs.Limits.{Accepted}
use Rattle.willow.specs.Ranges.{End, closed, endless, Range, end_from}
use Rattle.willow.specs.Refusals.{Outcome, refused}
use Rattle.kinds.specs.Kinds.{on_kinds, both, range_from}
use Rattle.area_kinds.specs.AreaKinds.{Parts, area_from}
use Rattle.range_3d_kinds.specs.Range3dKinds.{Parts3d, parts3d_from}

-- WHAT IS MEANT. "Kinds: end 0 open, 1 closed; subspace 0 any, 1 one id. A number or path passed beside kind 0 is not read."
abbrev pub MeansEnd : ℕ → ℕ → End ℕ → Type 0
MeansEnd kind n e = Says kind endless (closed n) e

abbrev pub MeansSubspace : ℕ → ℕ → AreaSubspace → Type 0
MeansSubspace kind n s = Says kind Any (Id n) s

-- "A range has a start and a closed (excluded) or open end." Those of a range of paths are passed as counts beside their buffers.
abbrev pub MeansRange : ℕ → ℕ → ℕ → Range ℕ → Type 0
MeansRange start kind n r = (r.start ≡ start) × MeansEnd kind n r.end

-- WHAT IS COMPUTED IS WHAT IS MEANT, and refusal 3 is due exactly if one of the kinds is neither 0 nor 1. There are no premises.
pub record KindMeaning : Type 1 where
  pub end_means : (kind n : ℕ) (e : End ℕ) → (end_from kind n ≡ some e) ↔ MeansEnd kind n e
  pub end_bad : (kind n : ℕ) → (end_from kind n ≡ none) ↔ (GoodKind kind → ⊥)
  pub subspace_means : (kind n : ℕ) (s : AreaSubspace) → (subspace_from kind n ≡ some s) ↔ MeansSubspace kind n s
  pub subspace_bad : (kind n : ℕ) → (subspace_from kind n ≡ none) ↔ (GoodKind kind → ⊥)
  pub range_means : (start kind n : ℕ) (r : Range ℕ) → (range_from start kind n ≡ some r) ↔ MeansRange start kind n r
  pub range_bad : (start kind n : ℕ) → (range_from start kind n ≡ none) ↔ (GoodKind kind → ⊥)
  -- an area: its subspace, the count of its path, and its times
  pub area_means : (kind id count start end_kind end : ℕ) (a : Parts) → (area_from kind id count start end_kind end ≡ some a)
      ↔ (MeansSubspace kind id a.subspace × (a.count ≡ count) × MeansRange start end_kind end a.times)
  pub area_bad : (kind id count start end_kind end : ℕ) → (area_from kind id count start end_kind end ≡ none)
      ↔ (GoodKind kind × GoodKind end_kind → ⊥)
  -- a 3d range: its subspaces, its paths and its times, in the order in which they are passed
  pub range3d_means : (s sk e c pk d t tk u : ℕ) (r : Parts3d) → (parts3d_from s sk e c pk d t tk u ≡ some r)
      ↔ (MeansRange s sk e r.subspaces × MeansRange c pk d r.paths × MeansRange t tk u r.times)
  pub range3d_bad : (s sk e c pk d t tk u : ℕ) → (parts3d_from s sk e c pk d t tk u ≡ none)
      ↔ (GoodKind sk × GoodKind pk × GoodKind tk → ⊥)
  -- two of them: both mean something, or 3
  pub both_mean : {A B : Type 0} (x : Option A) (y : Option B) (v : A × B) → (both x y ≡ some v) ↔ ((x ≡ some v.0) × (y ≡ some v.1))
  pub both_bad : {A B : Type 0} (x : Option A) (y : Option B) → (both x y ≡ none) ↔ ((v : A × B) → (x ≡ some v.0) × (y ≡ some v.1) → ⊥)
  -- THE ORDER OF THE TESTS: 1, then 3, and only then what is asked, of what the kinds mean
  pub limits_first : {A B : Type 0} (L : Limits) (b : Option B) (f : B → Outcome A) → (Accepted L → ⊥) → on_kinds L b f ≡ refused BadLimits
  pub then_kinds : {A B : Type 0} (L : Limits) (f : B → Outcome A) → Accepted L → on_kinds L none f ≡ refused BadKind
  pub then_asked : {A B : Type 0} (L : Limits) (b : B) (f : B → Outcome A) → Accepted L → on_kinds L (some b) f ≡ f b
