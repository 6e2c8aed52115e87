-- What the function under an insertion answers and leaves.
use Rattle.std.specs.Prelude.{ℕ, List, [], ◌∷◌, ◌++◌}
use Rattle.std.proofs.Math.Option.{Option, none, some}
use Rattle.willow.specs.declared.Refusal.{Refusal}
use Rattle.willow.specs.Answers.{or_else, unless, lent_refusal, path_in}
use Rattle.willow.specs.Refusals.{Outcome, value}
use Rattle.area_kinds.specs.AreaKinds.{Parts, area_with}
use Rattle.map_form.specs.Maps.{sizes_in, count_in, rules_in}
use Rattle.map_law.specs.Insertions.{room_refusal, with_rules}

-- Behind 2 and 3: of an area's parts and the buffer of its path, 5 and then 14.
unfoldable pub parts_refusal : List ℕ → Parts → List ℕ → Option Refusal
parts_refusal s a b = or_else (lent_refusal (sizes_in s).limits b a.count) (room_refusal (count_in s) (sizes_in s).capacity)

unfoldable pub area_answer : List ℕ → Parts → List ℕ → Outcome ℕ
area_answer s a b = unless (parts_refusal s a b) (value (count_in s))

abbrev pub leaves_unless : List ℕ → Option Refusal → List ℕ → List ℕ
leaves_unless s (some r) t = s
leaves_unless s none t = t

unfoldable pub area_leaves : List ℕ → Parts → List ℕ → ℕ → List ℕ
area_leaves s a b v =
    leaves_unless s (parts_refusal s a b)
    (with_rules s (rules_in s ++ (record { area = area_with a (path_in b a.count); value = v } ∷ [])))
