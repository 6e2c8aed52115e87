-- What the constructing calls make, each by the rules of `from_slices` (willow/specs/Construction.antt).
use Rattle.std.specs.Prelude.{ℕ, List, [], ◌∷◌, cond, eqb, length}
use Rattle.willow.specs.declared.Limits.{Limits}
use Rattle.willow.specs.declared.Refusal.TheVariants.{BadLengths}
use Rattle.willow.specs.Answers.{unless, limits_refusal}
use Rattle.willow.specs.Construction.{admitted, from_slices, append, append_slice}
use Rattle.willow.specs.Paths.{Component, Path}
use Rattle.willow.specs.Refusals.{Outcome, refused, value}

-- 1 first, of limits that are passed as numbers.
unfoldable pub under_limits : {A : Type 0} → Limits → Outcome A → Outcome A
under_limits L o = unless (limits_refusal L) o

-- `from_slices`, which is `new_from_slice` too.
abbrev pub slices_outcome : Limits → List ℕ → List ℕ → Outcome Path
slices_outcome L lengths bytes = under_limits L (from_slices L lengths bytes)

-- `new_from_iter`: the total beside the lengths, 6 where it is not their sum.
abbrev pub iter_outcome : Limits → ℕ → List ℕ → List ℕ → Outcome Path
iter_outcome L total lengths bytes =
    under_limits L (cond (eqb total (length bytes)) (from_slices L lengths bytes) (refused BadLengths))

abbrev pub empty_outcome : Limits → Outcome Path
empty_outcome L = under_limits L (value [])

abbrev pub singleton_outcome : Limits → Component → Outcome Path
singleton_outcome L c = under_limits L (admitted L (c ∷ []))

-- Behind a lent path.
abbrev pub appended_of : Limits → Component → Path → Outcome Path
appended_of L c p = append L p c

abbrev pub slices_appended_of : Limits → List ℕ → List ℕ → Path → Outcome Path
slices_appended_of L lengths bytes p = append_slice L p lengths bytes
