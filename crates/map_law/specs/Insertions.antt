-- Making a map and inserting into it: what the calls answer, and the bytes that they leave.
use Rattle.std.specs.Prelude.{ℕ, ◌≤◌, List, [], ◌∷◌, ◌++◌, cond, eqb, drop}
use Rattle.std.proofs.Math.Option.{Option, none, some}
use Rattle.willow.specs.declared.Limits.{Limits}
use Rattle.willow.specs.declared.Refusal.{Refusal}
use Rattle.willow.specs.declared.Refusal.TheVariants.{BadKind, NoRoom}
use Rattle.willow.specs.Answers.{or_else, unless, limits_refusal, capacity_refusal, lent_refusal, path_in}
use Rattle.willow.specs.Areas.{Area}
use Rattle.willow.specs.Limits.{max_word}
use Rattle.willow.specs.Numbers.{Bytes}
use Rattle.willow.specs.Refusals.{Outcome, value}
use Rattle.sheet.specs.Rows.{sheet_length}
use Rattle.area_kinds.specs.AreaKinds.{Parts, area_from, area_with}
use Rattle.map_form.specs.Maps.{map_shape, Rule, map_layout, sizes_in, count_in, rules_in}
use Rattle.map_form.specs.MapTest.{map_refusal}

-- A FRESH MAP. 1, for the limits and "sheet capacity N over 4,096"; then the layout of no rules.
unfoldable pub fresh_map : Limits → ℕ → Outcome (List ℕ)
fresh_map L N = unless (or_else (limits_refusal L) (capacity_refusal N)) (value (map_layout (record { limits = L; capacity = N }) []))

-- AN AREA as it is passed to a call on a map: its kinds as numbers, and its path as a buffer with a count.
pub record AreaArgument : Type 0 where
  pub kind : ℕ
  pub id : ℕ
  pub buffer : List ℕ
  pub count : ℕ
  pub start : ℕ
  pub end_kind : ℕ
  pub end : ℕ

-- What the types of these arguments say.
pub record PassedArea (x : AreaArgument) : Type 0 where
  pub id_word : x.id ≤ max_word
  pub buffer_bytes : Bytes x.buffer
  pub start_word : x.start ≤ max_word
  pub end_word : x.end ≤ max_word

-- What its kinds and numbers stand for; none where refusal 3 is due.
abbrev pub parts_in : AreaArgument → Option Parts
parts_in x = area_from x.kind x.id x.count x.start x.end_kind x.end

abbrev pub kinds_missing : Option Parts → Option Refusal
kinds_missing none = some BadKind
kinds_missing (some a) = none

-- 2, then 3, then 5.
unfoldable pub area_refusal : List ℕ → AreaArgument → Option Refusal
area_refusal s x =
    or_else (map_refusal s)
    (or_else (kinds_missing (parts_in x))
    (lent_refusal (sizes_in s).limits x.buffer x.count))

-- The area itself, where it is not refused.
abbrev pub area_passed : AreaArgument → Parts → Area
area_passed x a = area_with a (path_in x.buffer x.count)

-- AN INSERTION: an area with a value.
pub record Insertion : Type 0 where
  pub area : AreaArgument
  pub value : ℕ

pub record Passed (x : Insertion) : Type 0 where
  pub area_passed_lem : PassedArea x.area
  pub value_word : x.value ≤ max_word

-- "14 NoRoom: .. a map: n is N."
abbrev pub room_refusal : ℕ → ℕ → Option Refusal
room_refusal n N = cond (eqb n N) (some NoRoom) none

-- 2, 3, 5, then 14; else the rule stands behind the others, and the answer is the position that it took.
unfoldable pub insert_refusal : List ℕ → Insertion → Option Refusal
insert_refusal s x = or_else (area_refusal s x.area) (room_refusal (count_in s) (sizes_in s).capacity)

unfoldable pub insert_answer : List ℕ → Insertion → Outcome ℕ
insert_answer s x = unless (insert_refusal s x) (value (count_in s))

abbrev pub rule_with : Insertion → Parts → Rule
rule_with x a = record { area = area_passed x.area a; value = x.value }

-- The bytes afterwards: another layout, and behind it what stood there; "a refusal leaves all lent memory byte for byte as found".
abbrev pub with_rules : List ℕ → List Rule → List ℕ
with_rules s rules = map_layout (sizes_in s) rules ++ drop (sheet_length (map_shape (sizes_in s))) s

abbrev pub leaves_for : List ℕ → Insertion → Option Refusal → Option Parts → List ℕ
leaves_for s x (some r) a = s
leaves_for s x none none = s
leaves_for s x none (some a) = with_rules s (rules_in s ++ (rule_with x a ∷ []))

unfoldable pub insert_leaves : List ℕ → Insertion → List ℕ
insert_leaves s x = leaves_for s x (insert_refusal s x) (parts_in x.area)

-- Arguments as the calls take them.
abbrev pub argument : ℕ → ℕ → List ℕ → ℕ → ℕ → ℕ → ℕ → AreaArgument
argument kind id buffer count start end_kind end = record {
  kind = kind;
  id = id;
  buffer = buffer;
  count = count;
  start = start;
  end_kind = end_kind;
  end = end;
}

abbrev pub insertion : ℕ → ℕ → List ℕ → ℕ → ℕ → ℕ → ℕ → ℕ → Insertion
insertion kind id buffer count start end_kind end v = record { area = argument kind id buffer count start end_kind end; value = v }
