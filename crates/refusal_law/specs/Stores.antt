-- WHICH NUMBER A CALL THAT OFFERS TO A STORE OR MAKES ONE IS REFUSED WITH.
use Rattle.std.specs.Prelude.{ℕ, List, [], ◌∷◌}
use Rattle.willow.specs.declared.Refusal.TheVariants.{BadSheet}
use Rattle.willow.specs.Answers.{written_length}
use Rattle.willow.specs.Numbers.{Bytes}
use Rattle.willow.specs.Store.{Sizes, State, Offer, Passed, offer}
use Rattle.sheet.specs.Rows.{sheet_length}
use Rattle.store_form.specs.Stores.{store_shape, IsStore}
use Rattle.store_law.specs.Offers.{fresh_store, answer_in}
use Rattle.tables.specs.Offers.{refused_with, offer_rows}
use Rattle.tables.specs.TableRows.{bad_sizes, short_for_sheet}
use Rattle.tables.specs.Tables.{Row, ◌when◌, AnsweredBy, refusal_of}

-- THE TABLE OF AN OFFER, on any bytes. What a row asks of a store is asked of the one that the bytes begin with.
abbrev pub store_in : List ℕ → (Sizes → State → Type 0) → Type 0
store_in s Asked = (z : Sizes) × (t : State) × IsStore s z t × Asked z t

-- "2 BadSheet: a lent sheet is too short, breaks its layout below, or holds sizes over those bounds": there is none.
abbrev pub bad_store : List ℕ → Row
bad_store s = BadSheet when (store_in s (λ z t. Unit {0}) → ⊥)

-- The premises are what types say: the buffer holds bytes, and the arguments are in their bounds.
abbrev pub OfferRefusals : Type 0
OfferRefusals = (s : List ℕ) (o : Offer) → Bytes s → Passed o
    → AnsweredBy (bad_store s ∷ offer_rows (store_in s) o) (refused_with (answer_in s (offer o)))

-- The bytes of a sheet of these sizes.
abbrev pub sheet_size : Sizes → ℕ
sheet_size z = sheet_length (store_shape z)

-- THE TABLE OF A FRESH STORE: 1, and 15, "making a fresh sheet of either kind reads nothing of the buffer; one too short gets 15". It has
-- no premise: every namespace is accepted, and the buffer is asked for its length alone.
abbrev pub FreshStoreTable : Type 0
FreshStoreTable = (z : Sizes) (out : List ℕ)
    → AnsweredBy (bad_sizes z.limits z.capacity ∷ short_for_sheet (sheet_size z) out ∷ []) (refusal_of (written_length (fresh_store z) out))
