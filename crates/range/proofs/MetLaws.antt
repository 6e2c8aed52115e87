-- What there may not be, answered where nothing was refused.
use Rattle.std.proofs.Common.{◌≡◌, refl}
use Rattle.std.specs.Prelude as code
use Rattle.willow.specs.Answers.{if_any, optional_outcome_by, outcome_if_any}

pub answered_if_any : {A B : Type 0} (f : A → B) (x : code.Option A) → optional_outcome_by f (code.Ok x) ≡ outcome_if_any (if_any f x)
answered_if_any f code.None = refl
answered_if_any f (code.Some x) = refl
