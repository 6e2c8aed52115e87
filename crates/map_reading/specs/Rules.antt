-- Reading a rule of a map: what the calls answer.
use Rattle.std.specs.Prelude.{ℕ, List, cond, ltb}
use Rattle.std.specs.Prelude as std
use Rattle.willow.specs.declared.Refusal.{Refusal}
use Rattle.willow.specs.Answers.{unless}
use Rattle.willow.specs.Packed.{pack}
use Rattle.willow.specs.Refusals.{Outcome, refused, absent, value}
use Rattle.area_kinds.specs.AreaKinds.{Parts}
use Rattle.map_form.specs.Maps.{count_in}
use Rattle.map_form.specs.MapTest.{map_refusal}
use Rattle.map_rules.specs.declared.Rule as code
use Rattle.map_rules.specs.RulePlaces.{rule_at, rule_meant, rule_parts}

-- What the code's answer means: an area but for its path, and the value.
abbrev pub rule_outcome : std.Result (std.Option code.Rule) Refusal → Outcome (Parts × ℕ)
rule_outcome (std.Err r) = refused r
rule_outcome (std.Ok std.None) = absent
rule_outcome (std.Ok (std.Some r)) = value (rule_meant r)

-- How many rules there are; rule i, none past the last; its path, packed. All refuse 2.
unfoldable pub count_outcome : List ℕ → Outcome ℕ
count_outcome s = unless (map_refusal s) (value (count_in s))

unfoldable pub rule_read : List ℕ → ℕ → Outcome (Parts × ℕ)
rule_read s i = unless (map_refusal s) (cond (ltb i (count_in s)) (value (rule_parts (rule_at s i))) absent)

unfoldable pub rule_path : List ℕ → ℕ → Outcome (List ℕ)
rule_path s i = unless (map_refusal s) (cond (ltb i (count_in s)) (value (pack (rule_at s i).area.path)) absent)
