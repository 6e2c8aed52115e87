-- The area map's sheet: the layout of rules, what rules and sizes make a proper one, and reading by offsets. Document 01, "Sheets":
-- "Area map: MCL, MCC, MPL, N, n; N heads of 48 bytes (subspace kind, subspace or 0, start, end kind, end or 0, value); N cells.
-- Unused bytes are zero. Insertion order, equal areas allowed."
use Rattle.std.specs.Prelude.{ℕ, ◌*◌, ◌≤◌, ◌≡◌, List, [], ◌∷◌, ◌++◌, map, cond, eqb, length, take}
use Rattle.willow.specs.declared.AreaSubspace.{AreaSubspace}
use Rattle.willow.specs.declared.AreaSubspace.TheVariants.{Any, Id}
use Rattle.willow.specs.declared.Limits.{Limits}
use Rattle.willow.specs.Areas.{Area, ValidArea, subspace_kind, subspace_value}
use Rattle.willow.specs.Limits.{Accepted, max_capacity, max_word}
use Rattle.willow.specs.Lists.{All}
use Rattle.willow.specs.Numbers.{le, number_at}
use Rattle.willow.specs.Ranges.{End, closed, endless, end_kind, end_value}
use Rattle.number.specs.Records.{laid}
use Rattle.sheet.specs.Cells.{cell_size_of, path_cell, cell_path}
use Rattle.sheet.specs.Rows.{Shape, Row, head, cell, rows_of, sheet_bytes}
use Rattle.map_form.specs.declared.sizes.MapSizes as code

-- A rule: an area with a value.
pub record Rule : Type 0 where
  pub area : Area
  pub value : ℕ

pub record ValidRule (L : Limits) (r : Rule) : Type 0 where
  pub area_valid : ValidArea L r.area
  pub value_word : r.value ≤ max_word

-- What a map was made with, as the code has it: the limits of its paths and its capacity N.
abbrev pub MapSizes : Type 0
MapSizes = code.MapSizes

-- The numbers before the heads, and the bytes of a head.
abbrev pub map_numbers : ℕ
map_numbers = 5

abbrev pub map_head_size : ℕ
map_head_size = 48

abbrev pub map_shape : MapSizes → Shape
map_shape z = record { front = 8 * map_numbers; head_size = map_head_size; cell_size = cell_size_of z.limits; capacity = z.capacity }

-- A rule's head and its row.
abbrev pub rule_numbers : Rule → List ℕ
rule_numbers r =
    subspace_kind r.area.subspace
    ∷ subspace_value r.area.subspace
    ∷ r.area.times.start
    ∷ end_kind r.area.times.end
    ∷ end_value r.area.times.end
    ∷ r.value
    ∷ []

unfoldable pub rule_row : Limits → Rule → Row
rule_row L r = (laid (le 8) (rule_numbers r), path_cell (cell_size_of L) r.area.path)

-- THE LAYOUT of rules in a map of these sizes.
abbrev pub header_of : MapSizes → ℕ → List ℕ
header_of z n = z.limits.mcl ∷ z.limits.mcc ∷ z.limits.mpl ∷ z.capacity ∷ n ∷ []

unfoldable pub map_layout : MapSizes → List Rule → List ℕ
map_layout z rules = sheet_bytes (map_shape z) (header_of z (length rules)) (map (rule_row z.limits) rules)

-- WHAT A MAP'S SHEET IS: sizes within the bounds, "n (in both sheets at most N)", valid rules.
pub record ProperMap (z : MapSizes) (rules : List Rule) : Type 0 where
  pub limits_accepted : Accepted z.limits
  pub capacity_accepted : z.capacity ≤ max_capacity
  pub count : length rules ≤ z.capacity
  pub rules_valid : All (ValidRule z.limits) rules

-- The buffer begins with the sheet of such rules: "bytes past the sheet's length are neither read nor written".
pub record IsMap (s : List ℕ) (z : MapSizes) (rules : List Rule) : Type 0 where
  pub proper : ProperMap z rules
  pub rest : List ℕ
  pub laid_out : s ≡ map_layout z rules ++ rest

-- READING by offsets, whatever the bytes are.
abbrev pub sizes_in : List ℕ → MapSizes
sizes_in s = record {
  limits = record { mcl = number_at s 0; mcc = number_at s 8; mpl = number_at s 16 };
  capacity = number_at s 24;
}

-- Where the number of rules stands.
abbrev pub count_place : ℕ
count_place = 32

abbrev pub count_in : List ℕ → ℕ
count_in s = number_at s count_place

abbrev pub subspace_at : ℕ → ℕ → AreaSubspace
subspace_at kind n = cond (eqb kind 0) Any (Id n)

abbrev pub end_at : ℕ → ℕ → End ℕ
end_at kind n = cond (eqb kind 0) endless (closed n)

unfoldable pub rule_in : Row → Rule
rule_in r = record {
  area = record {
    subspace = subspace_at (number_at (head r) 0) (number_at (head r) 8);
    path = cell_path (cell r);
    times = record { start = number_at (head r) 16; end = end_at (number_at (head r) 24) (number_at (head r) 32) };
  };
  value = number_at (head r) 40;
}

unfoldable pub rules_in : List ℕ → List Rule
rules_in s = map rule_in (take (count_in s) (rows_of (map_shape (sizes_in s)) s))
