-- Where the rules of a map stand: row i, by the sizes in the map itself; and what is read of a rule.
use Rattle.std.specs.Prelude.{ℕ, List, length, get_or}
use Rattle.willow.specs.Areas.{Area, full_area}
use Rattle.sheet.specs.Rows.{Row, row_at}
use Rattle.area_kinds.specs.AreaKinds.{Parts, parts}
use Rattle.map_form.specs.Maps.{Rule, map_shape, rules_in, sizes_in}
use Rattle.map_rules.specs.declared.Rule as code

abbrev pub map_row : List ℕ → ℕ → Row
map_row s i = row_at (map_shape (sizes_in s)) s i

-- An area but for its path, of which it has the count; and so a rule.
abbrev pub area_parts : Area → Parts
area_parts a = record { subspace = a.subspace; count = length a.path; times = a.times }

abbrev pub rule_parts : Rule → Parts × ℕ
rule_parts r = (area_parts r.area, r.value)

-- What the code's struct means.
abbrev pub rule_meant : code.Rule → Parts × ℕ
rule_meant r = (parts r.area, r.value)

-- Rule i of a map; past the last one this stands in, and is not read.
abbrev pub no_rule : Rule
no_rule = record { area = full_area; value = 0 }

abbrev pub rule_at : List ℕ → ℕ → Rule
rule_at s i = get_or (rules_in s) i no_rule
