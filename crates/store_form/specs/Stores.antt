-- The store's sheet: the layout of a state, what state and sizes make a proper one, and reading by offsets. Document 01, "Sheets":
-- "Store, added: MCL, MCC, MPL, N, held count n (in both sheets at most N), namespace, held bytes, let-go bytes; N heads of 56 bytes
-- (subspace, timestamp, payload length, digest); N path cells of C bytes."
use Rattle.std.specs.Prelude.{ℕ, ◌+◌, ◌*◌, ◌≤◌, ◌≡◌, List, [], ◌∷◌, ◌++◌, map, length, take, drop}
use Rattle.willow.specs.declared.Limits.{Limits}
use Rattle.willow.specs.Entries.{Entry, ValidEntry, Prunes, PlaceBelow}
use Rattle.willow.specs.Limits.{Accepted, max_capacity, max_word}
use Rattle.willow.specs.Lists.{In, All, Ascending}
use Rattle.willow.specs.Numbers.{le, number_at}
use Rattle.willow.specs.Store.{Sizes, State, payloads}
use Rattle.number.specs.Records.{laid}
use Rattle.sheet.specs.Cells.{cell_size_of, path_cell, cell_path}
use Rattle.sheet.specs.Rows.{Shape, Row, head, cell, rows_of, sheet_bytes}

-- The numbers before the heads, and the bytes of a head.
abbrev pub store_numbers : ℕ
store_numbers = 8

abbrev pub store_head_size : ℕ
store_head_size = 56

abbrev pub store_shape : Sizes → Shape
store_shape z = record { front = 8 * store_numbers; head_size = store_head_size; cell_size = cell_size_of z.limits; capacity = z.capacity }

-- An entry's head and its row. Its namespace is the store's, and stands before the heads.
unfoldable pub entry_head : Entry → List ℕ
entry_head e = laid (le 8) (e.subspace ∷ e.timestamp ∷ e.payload_length ∷ []) ++ e.digest

unfoldable pub entry_row : Limits → Entry → Row
entry_row L e = (entry_head e, path_cell (cell_size_of L) e.path)

-- THE LAYOUT of a state in a store of these sizes.
abbrev pub store_header : Sizes → State → List ℕ
store_header z t =
    z.limits.mcl
    ∷ z.limits.mcc
    ∷ z.limits.mpl
    ∷ z.capacity
    ∷ length t.entries
    ∷ z.namespace
    ∷ t.held
    ∷ t.let_go
    ∷ []

unfoldable pub store_layout : Sizes → State → List ℕ
store_layout z t = sheet_bytes (store_shape z) (store_header z t) (map (entry_row z.limits) t.entries)

-- WHAT A STORE'S SHEET IS. An entry that stands in a store is valid and of its namespace.
pub record Stands (z : Sizes) (e : Entry) : Type 0 where
  pub valid : ValidEntry z.limits e
  pub of_store : e.namespace ≡ z.namespace

-- "The first n are strictly ascending by subspace then path, none prunes another, held bytes is the sum of their payload lengths,
-- the two totals do not pass 2^64 − 1 together, everything unused is zero."
pub record ProperStore (z : Sizes) (t : State) : Type 0 where
  pub limits_accepted : Accepted z.limits
  pub capacity_accepted : z.capacity ≤ max_capacity
  pub namespace_word : z.namespace ≤ max_word
  pub count : length t.entries ≤ z.capacity
  pub entries_stand : All (Stands z) t.entries
  pub ascending : Ascending PlaceBelow t.entries
  pub none_prunes : (o e : Entry) → In o t.entries → In e t.entries → Prunes o e → ⊥
  pub held_sum : t.held ≡ payloads t.entries
  pub totals : t.held + t.let_go ≤ max_word

-- The buffer begins with the sheet of such a state: "bytes past the sheet's length are neither read nor written".
pub record IsStore (s : List ℕ) (z : Sizes) (t : State) : Type 0 where
  pub proper : ProperStore z t
  pub rest : List ℕ
  pub laid_out : s ≡ store_layout z t ++ rest

-- READING by offsets, whatever the bytes are.
abbrev pub sizes_in : List ℕ → Sizes
sizes_in s = record {
  limits = record { mcl = number_at s 0; mcc = number_at s 8; mpl = number_at s 16 };
  capacity = number_at s 24;
  namespace = number_at s 40;
}

-- Where the numbers stand that an offer changes.
abbrev pub count_place : ℕ
count_place = 32

abbrev pub held_place : ℕ
held_place = 48

abbrev pub let_go_place : ℕ
let_go_place = 56

abbrev pub count_in : List ℕ → ℕ
count_in s = number_at s count_place

abbrev pub held_in : List ℕ → ℕ
held_in s = number_at s held_place

abbrev pub let_go_in : List ℕ → ℕ
let_go_in s = number_at s let_go_place

-- The entry of a row, in a namespace.
unfoldable pub entry_in : ℕ → Row → Entry
entry_in n r = record {
  namespace = n;
  subspace = number_at (head r) 0;
  path = cell_path (cell r);
  timestamp = number_at (head r) 8;
  payload_length = number_at (head r) 16;
  digest = drop 24 (head r);
}

abbrev pub used_rows : List ℕ → List Row
used_rows s = take (count_in s) (rows_of (store_shape (sizes_in s)) s)

unfoldable pub state_in : List ℕ → State
state_in s = record { entries = map (entry_in (sizes_in s).namespace) (used_rows s); held = held_in s; let_go = let_go_in s }
