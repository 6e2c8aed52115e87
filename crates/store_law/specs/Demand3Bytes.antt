-- DEMAND 3, WHOLE, ON BYTES.
--
-- "For every list of offers from a fresh store, refused ones included, each given the sheet as the one before left it and nobody else
-- writing there, the store at the list's end holds exactly the entries of the unrefused offers that no other such entry prunes, each
-- one time, by subspace and then path. Held bytes = the payload bytes of these entries. Let-go bytes = the payload bytes of every
-- unrefused offer that repeats an earlier unrefused one or is pruned by another, earlier or later, each such offer counted once, even
-- if both are true of it. Held + let-go = the payload bytes of all unrefused offers. Byte for byte the sheet is the one that document
-- 01 lays out for these entries and totals, wherever the list ends."
--
-- Document 01, "What the promises carry", sentence by sentence:
-- "Demand 3 is a single claim about a whole list of offers and not one for each call": `Demand3OnBytes`, over every list of calls.
-- "The first offer gets a sheet just made fresh, with any sizes and namespace that were accepted": `fresh_in z out`, from exactly what
--   making a fresh store leaves in any buffer that is long enough.
-- "Each later one gets it as the offer before left it, and nothing else writes it": `bytes_after`, `answers_to`, from exactly what an
--   offer's contract gives.
-- "An offer is refused exactly if it was answered with a refusal number, and it is so answered exactly where the table says for the
--   entries and totals that demand 3 gives just before it": `table`, by `Answered` and `ByTable`.
-- "The history is the unrefused offers in list order, taken from what was passed to them": `passed`, by `HistoryOf` and `Adds`.
-- "These make an offer's entry. Offers that agree in all of them offer the same entry, and the later repeats the earlier": `Makes`,
--   `Repeat`, `Goes`.
-- "Payload bytes are the payload lengths, added up as whole numbers": `payloads`, `Sum`.
-- "After the list the sheet is in every byte the one laid out above with the sizes and namespace it was made with, demand 3's entries
--   in its order, their number as n, its two totals, and all that is unused zero": `bytes`, by `store_layout`.
-- "After an empty list that is the fresh sheet": `bytes`, for the empty list.
use Rattle.std.specs.Prelude.{ℕ, ◌≤◌, ◌≡◌, ◌↔◌, true, List, [], ◌++◌, length, drop}
use Rattle.willow.specs.declared.Refusal.TheVariants.{BadLimits, BadSheet}
use Rattle.willow.specs.Answers.{written_buffer}
use Rattle.willow.specs.Demand3.{history, given, GivenBy, HistoryOf, Answered, CallPassed, Within}
use Rattle.willow.specs.Entries.{Entry}
use Rattle.willow.specs.Limits.{Accepted, max_capacity, max_word}
use Rattle.willow.specs.Lists.{All}
use Rattle.willow.specs.Numbers.{Bytes}
use Rattle.willow.specs.Refusals as outcome
use Rattle.willow.specs.Store.{Sizes, State, Call, refused, is_refused}
use Rattle.sheet.specs.Rows.{sheet_length}
use Rattle.store_form.specs.Stores.{store_shape, store_layout, IsStore}
use Rattle.store_law.specs.Offers.{fresh_store, answer_in, leaves_in, bytes_after, answers_to}

-- The buffer once a fresh store of these sizes was made in it.
abbrev pub fresh_in : Sizes → List ℕ → List ℕ
fresh_in z out = written_buffer (fresh_store z) out

-- The history of a list of calls on it.
abbrev pub historyOf : Sizes → List ℕ → List Call → List Entry
historyOf z out cs = history z [] cs (answers_to (fresh_in z out) cs)

-- The parts of the claim, for one list of calls.
pub record Demand3 (z : Sizes) (out : List ℕ) (cs : List Call) : Type 0 where
  -- in every byte the sheet is the one laid out for what demand 3 gives, and the bytes past it are as they were
  pub bytes : bytes_after (fresh_in z out) cs ≡ store_layout z (given 0 (historyOf z out cs)) ++ drop (sheet_length (store_shape z)) out
  -- the history is what was passed to the unrefused offers, in list order
  pub passed : HistoryOf z [] cs (answers_to (fresh_in z out) cs) (historyOf z out cs)
  -- each call was answered as the table says, both ways, for what demand 3 gives just before it
  pub table : Answered z 0 [] cs (answers_to (fresh_in z out) cs)
  -- what was laid out is what demand 3 says in its own words
  pub means : GivenBy 0 (historyOf z out cs) (given 0 (historyOf z out cs))
  -- n is at most N, and the totals do not pass 2^64 - 1 together
  pub within : Within z (given 0 (historyOf z out cs))

-- For all accepted sizes and namespaces, every buffer that is long enough, and every list of calls with any arguments. The premises
-- are met by limits, capacity and namespace 0, a buffer of 64 zeros and no call.
abbrev pub Demand3OnBytes : Type 0
Demand3OnBytes = (z : Sizes) (out : List ℕ) (cs : List Call) → Accepted z.limits → z.capacity ≤ max_capacity
    → z.namespace ≤ max_word → sheet_length (store_shape z) ≤ length out → All CallPassed cs → Demand3 z out cs

-- Beside it, for every buffer: "a refusal leaves all lent memory byte for byte as found".
abbrev pub RefusedUnchanged : Type 0
RefusedUnchanged = (s : List ℕ) (c : Call) → Bytes s → is_refused (answer_in s c) ≡ true → leaves_in s c ≡ s

-- 2 is given exactly if no proper store's layout begins the buffer, whatever is offered.
abbrev pub RefusedAsNoStore : Type 0
RefusedAsNoStore = (s : List ℕ) (c : Call) → Bytes s
    → (answer_in s c ≡ refused BadSheet) ↔ ((z : Sizes) (t : State) → IsStore s z t → ⊥)

-- And a fresh store is refused 1 exactly if its sizes are not accepted.
abbrev pub FreshRefused : Type 0
FreshRefused = (z : Sizes) → (fresh_store z ≡ outcome.refused BadLimits) ↔ (Accepted z.limits × (z.capacity ≤ max_capacity) → ⊥)
