-- Kinds in an answer: each kind by itself.
use Prim.Native.Nat.{ℕ}
use mathlib.Core.Path.{◌≡◌, refl}
use mathlib.Core.Logic.{inl, inr}
use native.Mathlib.Omega.{arith}
use Rattle.willow.specs.declared.AreaSubspace.{AreaSubspace}
use Rattle.willow.specs.declared.AreaSubspace.TheVariants.{Any, Id}
use Rattle.willow.specs.Areas.{subspace_kind, subspace_value}
use Rattle.willow.specs.Ranges.{End, closed, endless, end_kind, end_value}
use Rattle.host_law.specs.AnsweredKinds.{AnsweredKinds}
use Rattle.kind_law.specs.KindMeaning.{MeansEnd, MeansSubspace}

pub end_answered : (e : End ℕ) → MeansEnd (end_kind e) (end_value e) e
end_answered (closed n) = inr (refl, refl)
end_answered endless = inl (refl, refl)

end_zero : (e : End ℕ) → end_kind e ≡ 0 → end_value e ≡ 0
end_zero (closed n) h = absurd (omega arith)
end_zero endless h = refl

pub subspace_answered : (s : AreaSubspace) → MeansSubspace (subspace_kind s) (subspace_value s) s
subspace_answered Any = inl (refl, refl)
subspace_answered (Id i) = inr (refl, refl)

subspace_zero : (s : AreaSubspace) → subspace_kind s ≡ 0 → subspace_value s ≡ 0
subspace_zero Any h = refl
subspace_zero (Id i) h = absurd (omega arith)

pub answered_kinds : AnsweredKinds
answered_kinds = record {
  end_answered = end_answered;
  end_zero = end_zero;
  subspace_answered = subspace_answered;
  subspace_zero = subspace_zero;
}
