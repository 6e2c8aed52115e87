-- Questions with any number of lent paths: which of them are tested, and what is refused.
use Rattle.std.specs.Prelude.{ℕ, ◌≡◌, List, [], ◌∷◌}
use Rattle.std.proofs.Math.Option.{Option, none}
use Rattle.willow.specs.declared.Limits.{Limits}
use Rattle.willow.specs.declared.Refusal.{Refusal}
use Rattle.willow.specs.declared.Refusal.TheVariants.{BadLimits, BadPath}
use Rattle.willow.specs.Answers.{or_else, unless, limits_refusal, lent_refusal, path_in}
use Rattle.willow.specs.Limits.{Accepted}
use Rattle.willow.specs.Lists.{All}
use Rattle.willow.specs.Numbers.{Bytes}
use Rattle.willow.specs.Packed.{Lent}
use Rattle.willow.specs.Paths.{Path}
use Rattle.willow.specs.Refusals.{Outcome, refused}

-- "A path is read as a lent buffer with a count beside it."
abbrev pub LentPath : Type 0
LentPath = List ℕ × ℕ

-- 5, for the first of them that is not well formed or is counted beyond its end.
abbrev pub any_bad_path : Limits → List LentPath → Option Refusal
any_bad_path L [] = none
any_bad_path L (p ∷ ps) = or_else (lent_refusal L p.0 p.1) (any_bad_path L ps)

-- 1, then 5.
unfoldable pub lent_paths_refusal : Limits → List LentPath → Option Refusal
lent_paths_refusal L ps = or_else (limits_refusal L) (any_bad_path L ps)

-- What is answered, unless one of the paths that are lent with the call is refused.
unfoldable pub on_lent : {A : Type 0} → Limits → List LentPath → Outcome A → Outcome A
on_lent L ps o = unless (lent_paths_refusal L ps) o

-- WHAT IT MEANS. The paths hold bytes, as an empty list of them does.
abbrev pub HoldsBytes : LentPath → Type 0
HoldsBytes p = Bytes p.0

-- Some path is lent by the buffer and the count.
abbrev pub IsLent : Limits → LentPath → Type 0
IsLent L p = (q : Path) × Lent L p.0 p.1 q

-- 1 exactly if the limits are not accepted; then 5 exactly if one of the paths is not lent; else the answer. The answers are computed
-- of `path_in`, and what it reads of a lent path is that path: the premises of this are met by limits of 0 and the packed empty path.
pub record LentQuestions : Type 1 where
  pub limits : {A : Type 0} (L : Limits) (ps : List LentPath) (o : Outcome A) → (Accepted L → ⊥) → on_lent L ps o ≡ refused BadLimits
  pub path : {A : Type 0} (L : Limits) (ps : List LentPath) (o : Outcome A) → All HoldsBytes ps → Accepted L
      → (All (IsLent L) ps → ⊥) → on_lent L ps o ≡ refused BadPath
  pub asked : {A : Type 0} (L : Limits) (ps : List LentPath) (o : Outcome A) → All HoldsBytes ps → Accepted L
      → All (IsLent L) ps → on_lent L ps o ≡ o
  pub read : (L : Limits) (b : List ℕ) (k : ℕ) (q : Path) → Accepted L → Lent L b k q → path_in b k ≡ q
