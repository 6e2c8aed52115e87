-- Reading a store: what the calls answer, in the words of the state that its bytes hold. That the bytes hold one state and no other
-- is `StoreReading` (crate `store_form`).
use Rattle.std.specs.Prelude.{ℕ, List, [], cond, ltb, length, get_or, replicate, Result, Ok, Err, Option, None, Some}
use Rattle.willow.specs.declared.Refusal.{Refusal}
use Rattle.willow.specs.Answers.{unless}
use Rattle.willow.specs.Entries.{Entry}
use Rattle.willow.specs.Packed.{pack}
use Rattle.willow.specs.Refusals.{Outcome, refused, absent, value}
use Rattle.willow.specs.Store.{Sizes, State}
use Rattle.entry.specs.declared.Head.{Head}
use Rattle.entry.specs.declared.LentEntry.{LentEntry}
use Rattle.entry.specs.LentEntries as lent
use Rattle.store_form.specs.Stores.{sizes_in, state_in}
use Rattle.store_form.specs.StoreTest.{store_refusal}
use Rattle.store_reading.specs.declared.StoreNumbers.{StoreNumbers}
use Rattle.store_reading.specs.declared.HeldEntry.{HeldEntry}

-- "MCL, MCC, MPL, N, held count n (in both sheets at most N), namespace, held bytes, let-go bytes", of a store of these sizes in this state.
abbrev pub numbers_of : Sizes → State → StoreNumbers
numbers_of z t = record {
  limits = z.limits;
  capacity = z.capacity;
  count = length t.entries;
  namespace = z.namespace;
  held = t.held;
  let_go = t.let_go;
}

-- The numbers of a store; 2.
unfoldable pub numbers_read : List ℕ → Outcome StoreNumbers
numbers_read s = unless (store_refusal s) (value (numbers_of (sizes_in s) (state_in s)))

-- Entry i of a list, none past the last. Past the last one `no_entry` stands in, and is not read.
abbrev pub no_entry : Entry
no_entry = record { namespace = 0; subspace = 0; path = []; timestamp = 0; payload_length = 0; digest = [] }

abbrev pub entry_of : List Entry → ℕ → Outcome Entry
entry_of es i = cond (ltb i (length es)) (value (get_or es i no_entry)) absent

-- ENTRY i of a store, in the sheet's order: 2; none past the last.
unfoldable pub entry_read : List ℕ → ℕ → Outcome Entry
entry_read s i = unless (store_refusal s) (entry_of (state_in s).entries i)

-- What is answered of it: how many components its path has, its path packed, and the rest of it as a head. A head of zeros stands
-- where there is no entry.
abbrev pub components_of : Outcome Entry → Outcome ℕ
components_of (refused r) = refused r
components_of absent = absent
components_of (value e) = value (length e.path)

abbrev pub packed_of : Outcome Entry → Outcome (List ℕ)
packed_of (refused r) = refused r
packed_of absent = absent
packed_of (value e) = value (pack e.path)

abbrev pub head_of : Entry → Head
head_of e = record { subspace = e.subspace; timestamp = e.timestamp; payload_length = e.payload_length; digest = e.digest }

abbrev pub no_head : Head
no_head = record { subspace = 0; timestamp = 0; payload_length = 0; digest = replicate 32 0 }

abbrev pub head_or : Outcome Entry → Head
head_or (refused r) = no_head
head_or absent = no_head
head_or (value e) = head_of e

-- The count and the head together, as the code answers them.
abbrev pub held_with : Head → Outcome ℕ → Outcome HeldEntry
held_with h (refused r) = refused r
held_with h absent = absent
held_with h (value n) = value (record { count = n; head = h })

-- What finding an entry answers.
abbrev pub entry_outcome : Result (Option LentEntry) Refusal → Outcome Entry
entry_outcome (Err r) = refused r
entry_outcome (Ok None) = absent
entry_outcome (Ok (Some e)) = value (lent.entry_of e)
