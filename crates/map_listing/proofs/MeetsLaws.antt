-- Whether two areas meet, from whether the code finds their intersection.
use mathlib.Core.Path.{◌≡◌, refl, sym, ap, ◌∙◌}
use mathlib.Core.Bool.{Bool, true, false}
use mathlib.Core.Option.{Option, none, some}
use Rattle.std.specs.Prelude as code
use Rattle.willow.specs.Answers.{if_any, outcome_if_any}
use Rattle.willow.specs.Areas.{Area, area_intersection}
use Rattle.willow.specs.Lists.{is_some}
use Rattle.willow.specs.Refusals.{Outcome, refused, absent, value}
use Rattle.range.specs.NumberRanges.{range_of}
use Rattle.packed.specs.LentPaths.{path_of}
use Rattle.area.specs.declared.lent.LentArea.{LentArea}
use Rattle.area.specs.LentAreas.{area_of}
use Rattle.area.specs.declared.Area as declared
use Rattle.area_intersection.specs.declared.Met.{Met}
use Rattle.area_intersection.specs.Standing.{standing, standing_for, standing_of}

-- there is an answer
abbrev is_answered : {A : Type 0} → Outcome A → Bool
is_answered (refused r) = false
is_answered absent = false
is_answered (value x) = true

found : (m : code.Option (Met declared.Area)) → is_answered (outcome_if_any (if_any standing_of m)) ≡ code.is_some m
found code.None = refl
found (code.Some m) = refl

there : (a b : Area) (o : Option Area) → is_answered (standing_for a b o) ≡ is_some o
there a b none = refl
there a b (some m) = refl

pub met : (a b : Area) (m : code.Option (Met declared.Area)) → outcome_if_any (if_any standing_of m) ≡ standing a b → code.is_some m ≡ is_some (area_intersection a b)
unfolding standing
met a b m e = sym (found m) ∙ ap is_answered e ∙ there a b (area_intersection a b)

-- An area whose path was tested, from its parts.
pub lent_area : (x : LentArea) (a : Area) → x.subspace ≡ a.subspace → path_of x.path ≡ a.path → range_of x.times ≡ a.times → area_of x ≡ a
lent_area x a s p t = λ i. record { subspace = s i; path = p i; times = t i }
