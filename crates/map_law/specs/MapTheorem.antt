-- THE MAP'S THEOREM: what every list of insertions into a fresh map leaves, and what each of them is answered.
use Rattle.std.specs.Prelude.{ℕ, ◌≤◌, ◌<◌, ◌≡◌, ◌↔◌, List, [], ◌∷◌, ◌++◌, length, drop}
use Rattle.willow.specs.declared.Limits.{Limits}
use Rattle.willow.specs.declared.Refusal.{Refusal}
use Rattle.willow.specs.declared.Refusal.TheVariants.{BadLimits, BadSheet, BadKind, BadPath, NoRoom}
use Rattle.willow.specs.declared.AreaSubspace.TheVariants.{Any, Id}
use Rattle.willow.specs.Answers.{written_buffer}
use Rattle.willow.specs.Areas.{Area}
use Rattle.willow.specs.Ranges.{closed, endless}
use Rattle.willow.specs.Kinds.{Says, GoodKind}
use Rattle.willow.specs.Limits.{Accepted, max_capacity}
use Rattle.willow.specs.Lists.{All}
use Rattle.willow.specs.Numbers.{Bytes}
use Rattle.willow.specs.Packed.{Lent}
use Rattle.willow.specs.Paths.{Path}
use Rattle.willow.specs.Refusals.{Outcome, refused, absent, value}
use Rattle.sheet.specs.Rows.{sheet_length}
use Rattle.map_form.specs.Maps.{MapSizes, map_shape, Rule, map_layout, IsMap}
use Rattle.map_law.specs.Insertions.{fresh_map, AreaArgument, Insertion, Passed, insert_answer, insert_leaves}

-- Each insertion gets the map as the one before left it: the bytes after a list of insertions, and their answers.
abbrev pub bytes_after : List ℕ → List Insertion → List ℕ
bytes_after s [] = s
bytes_after s (x ∷ xs) = bytes_after (insert_leaves s x) xs

abbrev pub answers_to : List ℕ → List Insertion → List (Outcome ℕ)
answers_to s [] = []
answers_to s (x ∷ xs) = insert_answer s x ∷ answers_to (insert_leaves s x) xs

-- WHAT IS MEANT. The kinds of an area are 0 or 1, and it lends a path:
abbrev pub GoodKinds : AreaArgument → Type 0
GoodKinds x = GoodKind x.kind × GoodKind x.end_kind

abbrev pub LendsPath : MapSizes → AreaArgument → Type 0
LendsPath z x = (p : Path) × Lent z.limits x.buffer x.count p

-- .. and so the area that is passed: "end 0 open, 1 closed; subspace 0 any, 1 one id. A number .. passed beside kind 0 is not read";
pub record Means (z : MapSizes) (x : AreaArgument) (a : Area) : Type 0 where
  pub subspace : Says x.kind Any (Id x.id) a.subspace
  pub path : Lent z.limits x.buffer x.count a.path
  pub start : a.times.start ≡ x.start
  pub end : Says x.end_kind endless (closed x.end) a.times.end

-- .. and the rule that an insertion passes.
pub record Passes (z : MapSizes) (x : Insertion) (r : Rule) : Type 0 where
  pub area_meant : Means z x.area r.area
  pub same_value : r.value ≡ x.value

-- THE TABLE, both ways, where these rules stand in the map: each answer exactly if its condition holds and that of no refusal
-- tested before it does. 2 is not among them: the sheet is one.
pub record Table (z : MapSizes) (rules : List Rule) (x : Insertion) (a : Outcome ℕ) : Type 0 where
  pub bad_kind_lem : (a ≡ refused BadKind) ↔ (GoodKinds x.area → ⊥)
  pub bad_path_lem : (a ≡ refused BadPath) ↔ (GoodKinds x.area × (LendsPath z x.area → ⊥))
  pub no_room_lem : (a ≡ refused NoRoom) ↔ (GoodKinds x.area × LendsPath z x.area × (length rules ≡ z.capacity))
  pub taken : (a ≡ value (length rules)) ↔ (GoodKinds x.area × LendsPath z x.area × (length rules < z.capacity))

-- The rules after an insertion that was answered so: a refused one changes nothing, another's rule stands behind the others.
abbrev pub Grown : MapSizes → List Rule → Insertion → Outcome ℕ → List Rule → Type 0
Grown z rules x (refused r) next = next ≡ rules
Grown z rules x absent next = ⊥
Grown z rules x (value k) next = (r : Rule) × Passes z x r × (next ≡ rules ++ (r ∷ []))

-- A list of insertions with its answers leads from rules to rules, each answered by the table for the rules just before it.
abbrev pub Leads : MapSizes → List Rule → List Insertion → List (Outcome ℕ) → List Rule → Type 0
Leads z rules [] [] last = last ≡ rules
Leads z rules [] (a ∷ as') last = ⊥
Leads z rules (x ∷ xs) [] last = ⊥
Leads z rules (x ∷ xs) (a ∷ as') last =
    Table z rules x a × ((next : List Rule) × Grown z rules x a next × Leads z next xs as' last)

-- The rules of the insertions in the map, and the map's bytes in every place: the layout of those rules, and behind it what stood
-- in the buffer.
pub record MapAfter (z : MapSizes) (s : List ℕ) (out : List ℕ) (xs : List Insertion) : Type 0 where
  pub rules : List Rule
  pub leads : Leads z [] xs (answers_to s xs) rules
  pub bytes : bytes_after s xs ≡ map_layout z rules ++ drop (sheet_length (map_shape z)) out
  pub within : length rules ≤ z.capacity

-- For all accepted sizes, every buffer that is long enough, and every list of insertions with any arguments, from exactly what
-- making a fresh map leaves. The premises are met by limits of 0, a capacity of 0 and a buffer of 40 zeros.
abbrev pub MapTheorem : Type 0
MapTheorem = (L : Limits) (N : ℕ) (out : List ℕ) (xs : List Insertion) → Accepted L → N ≤ max_capacity
    → sheet_length (map_shape (record { limits = L; capacity = N })) ≤ length out → All Passed xs
    → MapAfter (record { limits = L; capacity = N }) (written_buffer (fresh_map L N) out) out xs

-- BESIDE IT, the refusals that no list of insertions into a fresh map shows. "1 BadLimits: passed as numbers: MCL over 1,024, MCC over
-- 1,024, MPL over 4,096, or sheet capacity N over 4,096": a fresh map is so refused exactly if its sizes are not accepted.
abbrev pub FreshMapRefused : Type 0
FreshMapRefused = (L : Limits) (N : ℕ) → (fresh_map L N ≡ refused BadLimits) ↔ (Accepted L × (N ≤ max_capacity) → ⊥)

-- "2 BadSheet: a lent sheet is too short, breaks its layout below, or holds sizes over those bounds": exactly if no proper map's layout
-- begins the buffer, whatever is inserted. The premise is that a buffer holds bytes, as an empty one does.
abbrev pub RefusedAsNoMap : Type 0
RefusedAsNoMap = (s : List ℕ) (x : Insertion) → Bytes s
    → (insert_answer s x ≡ refused BadSheet) ↔ ((z : MapSizes) (rules : List Rule) → IsMap s z rules → ⊥)

-- "A refusal leaves all lent memory byte for byte as found": every refusal, of every buffer.
abbrev pub InsertionRefusedUnchanged : Type 0
InsertionRefusedUnchanged = (s : List ℕ) (x : Insertion) (r : Refusal) → insert_answer s x ≡ refused r → insert_leaves s x ≡ s
