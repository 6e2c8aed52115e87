-- WHICH NUMBER A CALL THAT CHANGES OR MAKES A MAP IS REFUSED WITH.
use Rattle.std.specs.Prelude.{ℕ, ◌≡◌, List, [], ◌∷◌, length}
use Rattle.std.proofs.Math.Option.{none}
use Rattle.willow.specs.declared.Limits.{Limits}
use Rattle.willow.specs.declared.Refusal.TheVariants.{BadSheet, BadPath, NoRoom}
use Rattle.willow.specs.Answers.{written_length}
use Rattle.willow.specs.Numbers.{Bytes}
use Rattle.willow.specs.Refusals.{Outcome, value}
use Rattle.sheet.specs.Rows.{sheet_length}
use Rattle.map_form.specs.Maps.{MapSizes, map_shape, Rule, IsMap}
use Rattle.map_law.specs.Insertions.{fresh_map, AreaArgument, Insertion, Passed, insert_answer}
use Rattle.map_law.specs.MapTheorem.{LendsPath}
use Rattle.tables.specs.TableRows.{bad_sizes, bad_kind, short_for_sheet}
use Rattle.tables.specs.Tables.{Row, ◌when◌, AnsweredBy, refusal_of}

-- THE ROWS of a call on a map, each named once. `Of` says of which map they are asked: of one that holds these rules, or of the one that
-- bytes begin with, if they begin with one.
abbrev pub map_at : MapSizes → List Rule → (MapSizes → List Rule → Type 0) → Type 0
map_at z rules Asked = Asked z rules

abbrev pub map_in : List ℕ → (MapSizes → List Rule → Type 0) → Type 0
map_in s Asked = (z : MapSizes) × (rules : List Rule) × IsMap s z rules × Asked z rules

-- "2 BadSheet: a lent sheet is too short, breaks its layout below, or holds sizes over those bounds": there is none.
abbrev pub bad_map : List ℕ → Row
bad_map s = BadSheet when (map_in s (λ z rules. Unit {0}) → ⊥)

-- 3, of the two kinds of an area.
abbrev pub area_kinds : AreaArgument → List ℕ
area_kinds x = x.kind ∷ x.end_kind ∷ []

-- "5 BadPath: a lent packed path is not well formed", under the limits of the map.
abbrev pub bad_area_path : ((MapSizes → List Rule → Type 0) → Type 0) → AreaArgument → Row
bad_area_path Of x = BadPath when Of (λ z rules. LendsPath z x → ⊥)

-- "14 NoRoom: .. a map: n is N."
abbrev pub map_full : ((MapSizes → List Rule → Type 0) → Type 0) → Row
map_full Of = NoRoom when Of (λ z rules. length rules ≡ z.capacity)

-- THE TABLE of an insertion.
abbrev pub insert_rows : ((MapSizes → List Rule → Type 0) → Type 0) → Insertion → List Row
insert_rows Of x = bad_kind (area_kinds x.area) ∷ bad_area_path Of x.area ∷ map_full Of ∷ []

-- An insertion into a map of these rules is refused by its table; else it answers the position that its rule takes. 2 is not among
-- the rows: the sheet is one.
pub record Table (z : MapSizes) (rules : List Rule) (x : Insertion) (a : Outcome ℕ) : Type 0 where
  pub refusals : AnsweredBy (insert_rows (map_at z rules) x) (refusal_of a)
  pub taken : refusal_of a ≡ none → a ≡ value (length rules)

-- For every map, whatever follows it in its buffer. The premises are that the bytes begin with a map and what the arguments' types say.
abbrev pub InsertionsByTable : Type 0
InsertionsByTable = (s : List ℕ) (z : MapSizes) (rules : List Rule) (x : Insertion) → IsMap s z rules → Passed x
    → Table z rules x (insert_answer s x)

-- And the table on any bytes, a map or not. The premises are what types say: the buffer holds bytes, and the arguments are in their
-- bounds, as those of an empty buffer and of zeros are.
abbrev pub InsertionRefusals : Type 0
InsertionRefusals = (s : List ℕ) (x : Insertion) → Bytes s → Passed x
    → AnsweredBy (bad_map s ∷ insert_rows (map_in s) x) (refusal_of (insert_answer s x))

-- "Making a fresh sheet of either kind reads nothing of the buffer; one too short gets 15": the table of a fresh map.
abbrev pub FreshMapTable : Type 0
FreshMapTable = (L : Limits) (N : ℕ) (out : List ℕ)
    → AnsweredBy (bad_sizes L N ∷ short_for_sheet (sheet_length (map_shape (record { limits = L; capacity = N }))) out ∷ [])
    (refusal_of (written_length (fresh_map L N) out))
