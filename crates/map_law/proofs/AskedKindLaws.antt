-- Questions on the kinds that come with an area: where the limits were accepted they are asked, and every one is a question on the reading.
use mathlib.Core.Path.{◌≡◌, refl}
use mathlib.Core.Option.{Option, none, some}
use mathlib.Core.Bool.{true}
use Rattle.willow.specs.declared.Limits.{Limits}
use Rattle.willow.specs.declared.Refusal.{Refusal}
use Rattle.willow.specs.Answers.{unless, limits_refusal}
use Rattle.willow.specs.Limits.{accepted_limits}
use Rattle.willow.specs.Refusals.{Outcome, refused, absent, value}
use Rattle.kinds.specs.Kinds.{of_kinds, on_kinds}

-- A question on an answer.
abbrev pub answered : {A B : Type 0} → Outcome B → (B → Outcome A) → Outcome A
answered (refused r) f = refused r
answered absent f = absent
answered (value b) f = f b

module _ {A B : Type 0} (L : Limits) (o : Option B) (f : B → Outcome A) where
  pub kinds_fine : accepted_limits L ≡ true → on_kinds L o f ≡ of_kinds o f
  unfolding on_kinds limits_refusal
  kinds_fine h = rw h

  pub kinds_answered : on_kinds L o f ≡ answered (on_kinds L o value) f
  unfolding on_kinds
  kinds_answered = go (limits_refusal L) o
    where
      go : (t : Option Refusal) (p : Option B) → unless t (of_kinds p f) ≡ answered (unless t (of_kinds p value)) f
      go none none = refl
      go none (some b) = refl
      go (some r) p = refl
