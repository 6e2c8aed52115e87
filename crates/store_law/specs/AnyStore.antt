-- AN OFFER TO ANY STORE, also to one that no list of offers leads to from a fresh one: what it is answered and what it leaves, by
-- meaning, for the entries and totals that the sheet holds.
--
-- A sheet is lent by the caller, and whatever passes for a store is offered to. A store that holds nothing and has let bytes go, for
-- one, is laid out as document 01 says, though an offer that lets bytes go leaves something held. Demand 1 is of every input, so the
-- table is due there too.
use Rattle.std.specs.Prelude.{ℕ, ◌+◌, ◌≡◌, ◌⊎◌, ◌↔◌, List, ◌++◌, true, false, drop}
use Rattle.willow.specs.Demand3.{Makes, ByTable}
use Rattle.willow.specs.Entries.{Entry, Prunes}
use Rattle.willow.specs.Lists.{In}
use Rattle.willow.specs.Store.{Sizes, State, Offer, Passed, offer, Answer, refused, outdated, repeated, taken, is_refused}
use Rattle.sheet.specs.Rows.{sheet_length}
use Rattle.store_form.specs.Stores.{store_shape, store_layout, ProperStore, IsStore}
use Rattle.store_law.specs.Offers.{answer_in, leaves_in}

-- What an unrefused offer of the entry e makes of the entries: a taken one stands among those that it does not prune; an outdated one
-- and a repeat change none of them.
abbrev pub Leaves : State → Entry → Answer → State → Type 0
Leaves t e (refused r) u = ⊥
Leaves t e outdated u = u.entries ≡ t.entries
Leaves t e repeated u = u.entries ≡ t.entries
Leaves t e (taken k) u = (x : Entry) → In x u.entries ↔ ((x ≡ e) ⊎ (In x t.entries × (Prunes e x → ⊥)))

-- What such an offer leaves of a buffer s that begins with the sheet of the state t, if it was answered so.
pub record Filed (s : List ℕ) (z : Sizes) (t : State) (o : Offer) (a : Answer) (left : List ℕ) : Type 0 where
  -- the entry that was passed
  pub entry : Entry
  pub made : Makes z o entry
  -- the sheet of a proper state, and behind it what stood there
  pub state : State
  pub proper : ProperStore z state
  pub laid_out : left ≡ store_layout z state ++ drop (sheet_length (store_shape z)) s
  -- its entries, which a proper state has in their order and each one time
  pub entries : Leaves t entry a state
  -- its totals: they grow together by the payload length that was offered. This gives both of them, since the held bytes of a proper
  -- state are the sum of its entries' payload lengths.
  pub totals : state.held + state.let_go ≡ t.held + t.let_go + entry.payload_length

pub record OfferTo (s : List ℕ) (z : Sizes) (t : State) (o : Offer) : Type 0 where
  -- each answer exactly where its row says, and no other
  pub by_table : ByTable z t o (answer_in s (offer o))
  -- "A refusal leaves all lent memory byte for byte as found"
  pub refused_leaves : is_refused (answer_in s (offer o)) ≡ true → leaves_in s (offer o) ≡ s
  -- any other answer leaves what follows from it
  pub unrefused_leaves : is_refused (answer_in s (offer o)) ≡ false → Filed s z t o (answer_in s (offer o)) (leaves_in s (offer o))

-- For every buffer that begins with the sheet of a store, and every offer with any arguments. The premises are met by limits, capacity
-- and namespace 0, no entry, held bytes 0 and let-go bytes 1, which is a sheet of 64 bytes that no list of offers leads to, and an
-- offer of zeros with an empty buffer.
abbrev pub AnyStore : Type 0
AnyStore = (s : List ℕ) (z : Sizes) (t : State) (o : Offer) → IsStore s z t → Passed o → OfferTo s z t o
