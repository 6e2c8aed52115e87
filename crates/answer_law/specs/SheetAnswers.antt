-- WHAT THE CALLS THAT READ A SHEET ANSWER, by meaning: of the rules of the map, and of the state of the store, with which the bytes begin.
-- After every list of offers to a fresh store that is demand 3's state (`Demand3OnBytes` of crate store_law).
use Rattle.std.specs.Prelude.{ℕ, ◌≤◌, ◌≡◌, ◌↔◌, List, length}
use Rattle.willow.specs.Entries.{Entry}
use Rattle.willow.specs.Packed.{pack}
use Rattle.willow.specs.Refusals.{absent, value}
use Rattle.willow.specs.Store.{Sizes, State}
use Rattle.area_kinds.specs.AreaKinds.{Parts}
use Rattle.entry.specs.declared.Head.{Head}
use Rattle.map_form.specs.Maps.{MapSizes, Rule, IsMap}
use Rattle.map_reading.specs.Rules.{count_outcome, rule_read, rule_path}
use Rattle.store_form.specs.Stores.{IsStore}
use Rattle.store_reading.specs.declared.StoreNumbers.{StoreNumbers}
use Rattle.store_reading.specs.Held.{numbers_read, entry_read, components_of, packed_of, head_or}
use Rattle.answer_law.specs.PathAnswers.{At}

-- A rule but for its path, of which the count is answered; and its value.
pub record IsRule (r : Rule) (x : Parts × ℕ) : Type 0 where
  pub subspace : x.0.subspace ≡ r.area.subspace
  pub count : x.0.count ≡ length r.area.path
  pub times : x.0.times ≡ r.area.times
  pub value : x.1 ≡ r.value

-- "MCL, MCC, MPL, N, held count n (in both sheets at most N), namespace, held bytes, let-go bytes."
pub record AreNumbers (z : Sizes) (t : State) (n : StoreNumbers) : Type 0 where
  pub limits : n.limits ≡ z.limits
  pub capacity : n.capacity ≡ z.capacity
  pub count : n.count ≡ length t.entries
  pub namespace : n.namespace ≡ z.namespace
  pub held : n.held ≡ t.held
  pub let_go : n.let_go ≡ t.let_go

-- "Subspace, timestamp, payload length, digest."
pub record IsHead (e : Entry) (h : Head) : Type 0 where
  pub subspace : h.subspace ≡ e.subspace
  pub timestamp : h.timestamp ≡ e.timestamp
  pub payload_length : h.payload_length ≡ e.payload_length
  pub digest : h.digest ≡ e.digest

-- The premise is that the bytes begin with a map, or with a store: 40 zero bytes, and 64, are one of limits 0 and no capacity.
pub record MapAnswers (s : List ℕ) (z : MapSizes) (rules : List Rule) : Type 0 where
  pub rule_count : count_outcome s ≡ value (length rules)
  pub rule : (i : ℕ) (x : Parts × ℕ) → rule_read s i ≡ value x → (r : Rule) × At rules i r × IsRule r x
  pub rule_there : (i : ℕ) (r : Rule) → At rules i r → (x : Parts × ℕ) × (rule_read s i ≡ value x)
  pub no_rule_lem : (i : ℕ) → (rule_read s i ≡ absent) ↔ (length rules ≤ i)
  pub rule_path_lem : (i : ℕ) (v : List ℕ) → (rule_path s i ≡ value v) ↔ ((r : Rule) × At rules i r × (pack r.area.path ≡ v))
  pub no_rule_path : (i : ℕ) → (rule_path s i ≡ absent) ↔ (length rules ≤ i)

pub record StoreAnswers (s : List ℕ) (z : Sizes) (t : State) : Type 0 where
  pub numbers : (n : StoreNumbers) × (numbers_read s ≡ value n) × AreNumbers z t n
  pub entry : (i : ℕ) (e : Entry) → (entry_read s i ≡ value e) ↔ At t.entries i e
  pub no_entry_lem : (i : ℕ) → (entry_read s i ≡ absent) ↔ (length t.entries ≤ i)
  -- what is answered of an entry: its head, how many components its path has, and its path
  pub head : (i : ℕ) (e : Entry) → At t.entries i e → IsHead e (head_or (entry_read s i))
  pub components : (i n : ℕ) → (components_of (entry_read s i) ≡ value n) ↔ ((e : Entry) × At t.entries i e × (length e.path ≡ n))
  pub entry_path : (i : ℕ) (v : List ℕ) → (packed_of (entry_read s i) ≡ value v) ↔ ((e : Entry) × At t.entries i e × (pack e.path ≡ v))

pub record SheetAnswers : Type 0 where
  pub of_map : (s : List ℕ) (z : MapSizes) (rules : List Rule) → IsMap s z rules → MapAnswers s z rules
  pub of_store : (s : List ℕ) (z : Sizes) (t : State) → IsStore s z t → StoreAnswers s z t
