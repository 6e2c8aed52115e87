-- What the writing of a rule leaves.
use Rattle.std.specs.Prelude.{ℕ, ◌+◌, List, [], ◌∷◌}
use Rattle.willow.specs.Numbers.{le}
use Rattle.number.specs.Overwriting.{overwrite}
use Rattle.sheet.specs.Rows.{rows_of, with_rows}
use Rattle.map_form.specs.Maps.{MapSizes, map_shape, Rule, rule_row, count_place}

-- The bytes of a sheet with a rule in row n, whatever stood there, and n + 1 rows in use.
unfoldable pub with_row : MapSizes → List ℕ → ℕ → Rule → List ℕ
with_row z s n r = overwrite (with_rows (map_shape z) s (overwrite (rows_of (map_shape z) s) n (rule_row z.limits r ∷ []))) count_place (le 8 (n + 1))
