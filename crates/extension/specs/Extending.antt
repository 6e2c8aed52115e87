-- A path with slices behind it: its accumulated lengths, and what makes it one.
use Rattle.std.specs.Prelude.{ℕ, ◌+◌, ◌/◌, ◌≤◌, List, [], ◌∷◌, ◌++◌, ◌≡◌, true, length}
use Rattle.std.proofs.Math.Option.{Option, none, some}
use Rattle.willow.specs.declared.Limits.{Limits}
use Rattle.willow.specs.declared.Refusal.{Refusal}
use Rattle.willow.specs.Construction.{append_slice, cut, lengths_fit, lengths_in}
use Rattle.willow.specs.Limits.{max_mcc, max_mpl}
use Rattle.willow.specs.Numbers.{le}
use Rattle.willow.specs.Paths.{Path, path_length}
use Rattle.willow.specs.Refusals.{Outcome, refused, absent, value}

-- Why an outcome is refused, if it is.
abbrev pub outcome_refusal : {A : Type 0} → Outcome A → Option Refusal
outcome_refusal (refused r) = some r
outcome_refusal absent = none
outcome_refusal (value x) = none

-- The accumulated lengths of components of these lengths, in 8-byte numbers, where `from` bytes stand before them.
abbrev pub accumulated_by : ℕ → List ℕ → List ℕ
accumulated_by from [] = []
accumulated_by from (n ∷ ns) = le 8 (from + n) ++ accumulated_by (from + n) ns

-- What is admitted under limits: the outcome is the path with the slices behind it, the lengths fit the bytes, and the whole is within
-- the limits.
pub record Admitted (L : Limits) (p : Path) (lengths bytes : List ℕ) : Type 0 where
  pub made : append_slice L p lengths bytes ≡ value (p ++ cut (lengths_in lengths) bytes)
  pub fit : lengths_fit lengths bytes ≡ true
  pub few : length p + length lengths / 8 ≤ L.mcc
  pub short : path_length p + length bytes ≤ L.mpl

-- What was admitted under accepted limits: the lengths fit the bytes, and the whole is within the bounds.
pub record Extendable (p : Path) (lengths bytes : List ℕ) : Type 0 where
  pub fit : lengths_fit lengths bytes ≡ true
  pub few : length p + length lengths / 8 ≤ max_mcc
  pub short : path_length p + length bytes ≤ max_mpl
