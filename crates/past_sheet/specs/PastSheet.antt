-- "Bytes past the sheet's length are neither read nor written." That they are not written stands where a call says what it leaves
-- (`insert_leaves`, `leaves_in`). That they are not read is said here: two buffers that begin with the same sheet are answered alike,
-- whatever stands behind it in each of them.
use Rattle.std.specs.Prelude.{ℕ, ◌≡◌, List}
use Rattle.willow.specs.Store.{Sizes, State, Call}
use Rattle.map_form.specs.Maps.{MapSizes, Rule, IsMap}
use Rattle.map_form.specs.MapTest.{map_refusal}
use Rattle.map_law.specs.Insertions.{AreaArgument, Insertion, insert_answer}
use Rattle.map_reading.specs.Rules.{count_outcome, rule_read, rule_path}
use Rattle.listing_law.specs.Listings.{listing}
use Rattle.store_form.specs.Stores.{IsStore}
use Rattle.store_form.specs.StoreTest.{store_refusal}
use Rattle.store_law.specs.Offers.{answer_in}
use Rattle.store_reading.specs.Held.{numbers_read, entry_read}

-- OF A MAP: its test, an insertion, a listing, and reading it. The premises are met by 40 zero bytes, a map of limits 0 and no rules, with
-- nothing behind them in one buffer and any bytes in the other.
pub record MapAnsweredAlike (s t : List ℕ) : Type 0 where
  pub tested : map_refusal s ≡ map_refusal t
  pub inserted : (x : Insertion) → insert_answer s x ≡ insert_answer t x
  pub listed : (x : AreaArgument) → listing s x ≡ listing t x
  pub counted : count_outcome s ≡ count_outcome t
  pub rule_read_lem : (i : ℕ) → rule_read s i ≡ rule_read t i
  pub path_read : (i : ℕ) → rule_path s i ≡ rule_path t i

abbrev pub MapPastSheet : Type 0
MapPastSheet = (s t : List ℕ) (z : MapSizes) (rules : List Rule) → IsMap s z rules → IsMap t z rules → MapAnsweredAlike s t

-- OF A STORE: its test, an offer, and reading it. The premises are met by 64 zero bytes, likewise.
pub record StoreAnsweredAlike (s t : List ℕ) : Type 0 where
  pub tested : store_refusal s ≡ store_refusal t
  pub offered : (c : Call) → answer_in s c ≡ answer_in t c
  pub numbers_read_lem : numbers_read s ≡ numbers_read t
  pub entry_read_lem : (i : ℕ) → entry_read s i ≡ entry_read t i

abbrev pub StorePastSheet : Type 0
StorePastSheet = (s t : List ℕ) (z : Sizes) (held : State) → IsStore s z held → IsStore t z held → StoreAnsweredAlike s t
