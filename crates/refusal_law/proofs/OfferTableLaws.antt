-- The table of an offer on any bytes: 2, and behind it the table of the store that the bytes begin with.
use Prim.Native.Nat.{ℕ}
use mathlib.Core.Path.{◌≡◌, refl}
use mathlib.Core.Logic.{◌↔◌}
use mathlib.Core.List.{List, ◌∷◌}
use mathlib.Core.Bool.{true}
use Rattle.willow.specs.declared.Refusal.TheVariants.{BadSheet}
use Rattle.willow.specs.Numbers.{Bytes}
use Rattle.willow.specs.Store.{Sizes, State, Offer, Passed, offer, refused}
use Rattle.willow.proofs.AnswerLaws.{accepted_words}
use Rattle.tables.proofs.Rows.{First, row_not, same, answered}
use Rattle.store_form.specs.Stores.{IsStore, sizes_in, state_in}
use Rattle.store_form.specs.StoreTest.{is_store}
use Rattle.store_form.proofs.ReadingLaws.{store_reading}
use Rattle.store_law.specs.Offers.{answer_in}
use Rattle.tables.specs.Offers.{offer_rows, refused_with}
use Rattle.tables.proofs.OfferLaws.{offer_rows_lem}
use Rattle.refusal_law.specs.Stores.{store_in, bad_store, OfferRefusals}

of_store : (s : List ℕ) → IsStore s (sizes_in s) (state_in s) → (Asked : Sizes → State → Type 0) → Asked (sizes_in s) (state_in s) ↔ store_in s Asked
of_store s i Asked = (
  λ h. (sizes_in s, state_in s, i, h),
  λ x. rw (store_reading.sizes_back s x.0 x.1 x.2, store_reading.state_back s x.0 x.1 x.2) x.3,
)

is_means : (s : List ℕ) → Bytes s → (is_store s ≡ true) ↔ store_in s (λ z t. Unit {0})
is_means s b = (λ e. (sizes_in s, state_in s, store_reading.read s b e, tt), λ x. store_reading.passes s x.0 x.1 x.2)

sheet_rows : (s : List ℕ) (o : Offer) → Bytes s → Passed o → First (bad_store s ∷ offer_rows (store_in s) o) (refused_with (answer_in s (offer o)))
unfolding answer_in
sheet_rows s o b p =
    row_not refused_with (is_store s) BadSheet (refused BadSheet) _ refl (is_means s b) (λ x.
    let i = store_reading.read s b ((is_means s b).1 x) in
    same
    (refl, (of_store s i _, (refl, (of_store s i _, (refl, (of_store s i _, (refl, (of_store s i _, tt))))))))
    (offer_rows_lem (sizes_in s) (state_in s) o (accepted_words (sizes_in s).limits i.proper.limits_accepted) p))

pub offer_refusals : OfferRefusals
offer_refusals s o b p = answered refl (sheet_rows s o b p)
