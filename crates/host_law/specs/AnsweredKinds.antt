-- KINDS IN AN ANSWER. "A number or path passed beside kind 0 is not read; in an answer and inside a sheet the number there is 0." What a
-- kind with its number says in an answer, and inside a sheet, is what it would say if it were passed.
use Rattle.std.specs.Prelude.{ℕ, ◌≡◌}
use Rattle.willow.specs.declared.AreaSubspace.{AreaSubspace}
use Rattle.willow.specs.Areas.{subspace_kind, subspace_value}
use Rattle.willow.specs.Ranges.{End, end_kind, end_value}
use Rattle.kind_law.specs.KindMeaning.{MeansEnd, MeansSubspace}

pub record AnsweredKinds : Type 0 where
  pub end_answered : (e : End ℕ) → MeansEnd (end_kind e) (end_value e) e
  pub end_zero : (e : End ℕ) → end_kind e ≡ 0 → end_value e ≡ 0
  pub subspace_answered : (s : AreaSubspace) → MeansSubspace (subspace_kind s) (subspace_value s) s
  pub subspace_zero : (s : AreaSubspace) → subspace_kind s ≡ 0 → subspace_value s ≡ 0
