-- THE TABLE OF AN OFFER to a store, as one list of rows; and what is answered where nothing is refused. (The store's own answers, each with
-- the condition under which it is given, stand in `ByTable` of willow.)
use Rattle.std.specs.Prelude.{◌+◌, ◌<◌, ◌≡◌, List, [], ◌∷◌}
use Rattle.std.proofs.Math.Option.{Option, none, some}
use Rattle.willow.specs.declared.Refusal.{Refusal}
use Rattle.willow.specs.declared.Refusal.TheVariants.{WrongNamespace, BadPath, TotalFull, NoRoom}
use Rattle.willow.specs.Demand3.{OtherNamespace, NoPath, Makes, Outdated, Repeat, Crowded}
use Rattle.willow.specs.Entries.{Entry, Prunes}
use Rattle.willow.specs.Limits.{max_word, Words}
use Rattle.willow.specs.Lists.{Number}
use Rattle.willow.specs.Store.{Sizes, State, Offer, Passed, offer, Answer, refused, outdated, repeated, taken, answer}
use Rattle.tables.specs.Tables.{Row, ◌when◌, AnsweredBy}

abbrev pub refused_with : Answer → Option Refusal
refused_with (refused r) = some r
refused_with outdated = none
refused_with repeated = none
refused_with (taken k) = none

-- 13: "held bytes plus let-go bytes plus the offered payload length pass 2^64 − 1".
abbrev pub Full : State → Offer → Type 0
Full t o = max_word < t.held + t.let_go + o.payload_length

-- 14: "held, less the entries that the offer prunes, is N, and the offer is neither outdated nor a repeat".
abbrev pub RoomMissing : Sizes → State → Offer → Type 0
RoomMissing z t o = (e : Entry) × Makes z o e × Crowded z t e × (Outdated t e → ⊥) × (Repeat t e → ⊥)

-- THE ROWS of an offer, each named once. `Of` says of which store they are asked: of one in a state, or of the one that bytes begin
-- with, if they begin with one (`store_in` of crate refusal_law).
abbrev pub wrong_namespace : ((Sizes → State → Type 0) → Type 0) → Offer → Row
wrong_namespace Of o = WrongNamespace when Of (λ z t. OtherNamespace z o)

abbrev pub bad_offered_path : ((Sizes → State → Type 0) → Type 0) → Offer → Row
bad_offered_path Of o = BadPath when Of (λ z t. NoPath z o)

abbrev pub total_full : ((Sizes → State → Type 0) → Type 0) → Offer → Row
total_full Of o = TotalFull when Of (λ z t. Full t o)

abbrev pub no_room : ((Sizes → State → Type 0) → Type 0) → Offer → Row
no_room Of o = NoRoom when Of (λ z t. RoomMissing z t o)

abbrev pub offer_rows : ((Sizes → State → Type 0) → Type 0) → Offer → List Row
offer_rows Of o = wrong_namespace Of o ∷ bad_offered_path Of o ∷ total_full Of o ∷ no_room Of o ∷ []

abbrev pub store_at : Sizes → State → (Sizes → State → Type 0) → Type 0
store_at z t Asked = Asked z t

-- "Offering answers outdated if a held entry prunes the offer, repeat if one equals it in every field, else taken, with how many
-- it pruned."
abbrev pub Tells : State → Entry → Answer → Type 0
Tells t e (refused r) = ⊥
Tells t e outdated = Outdated t e
Tells t e repeated = (Outdated t e → ⊥) × Repeat t e
Tells t e (taken k) = (Outdated t e → ⊥) × (Repeat t e → ⊥) × Number (Prunes e) t.entries k

-- An offer is refused by the table; and one that is not refused makes an entry, and is answered for it.
pub record ByTable (z : Sizes) (t : State) (o : Offer) (a : Answer) : Type 0 where
  pub refusals : AnsweredBy (offer_rows (store_at z t) o) (refused_with a)
  pub told : refused_with a ≡ none → (e : Entry) × Makes z o e × Tells t e a

-- So is every offer to a store in any state. The premises are limits that are numbers of 64 bits, as 0, and an offer whose arguments are
-- what their types say.
abbrev pub OffersByTable : Type 0
OffersByTable = (z : Sizes) (t : State) (o : Offer) → Words z.limits → Passed o → ByTable z t o (answer z t (offer o))
