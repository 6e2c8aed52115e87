-- A buffer that begins with a sheet passes its test and is read as that sheet's sizes and contents, and every answer is one of these
-- alone: so two such buffers are answered alike.
use Prim.Native.Nat.{ℕ}
use mathlib.Core.Path.{◌≡◌, sym, ◌∙◌, ap}
use mathlib.Core.List.{List, []}
use mathlib.Core.Option.{Option, none, some}
use mathlib.Core.Bool.{cond}
use lib.Dec.{ltb}
use lib.ListN.{length, get_or}
use Rattle.willow.specs.declared.Refusal.TheVariants.{BadSheet}
use Rattle.willow.specs.Answers.{unless, or_else, lent_refusal}
use Rattle.willow.specs.Packed.{pack}
use Rattle.willow.specs.Refusals.{absent, value}
use Rattle.willow.specs.Store as state
use Rattle.area_kinds.specs.AreaKinds.{Parts}
use Rattle.map_form.specs.Maps as maps
use Rattle.map_form.specs.MapTest.{is_map, map_refusal}
use Rattle.map_form.proofs.MapProofs.{map_reading}
use Rattle.map_law.specs.Insertions.{AreaArgument, Insertion, parts_in, kinds_missing, area_refusal, area_passed, room_refusal, insert_refusal, insert_answer}
use Rattle.map_rules.specs.RulePlaces.{no_rule, rule_parts}
use Rattle.map_rules.proofs.RuleAtLaws.{rules_many}
use Rattle.map_reading.specs.Rules.{count_outcome, rule_read, rule_path}
use Rattle.listing_law.specs.Listings.{positions, positions_for, listing}
use Rattle.store_form.specs.Stores as stores
use Rattle.store_form.specs.StoreTest.{is_store, store_refusal}
use Rattle.store_form.proofs.ReadingLaws.{store_reading}
use Rattle.store_law.specs.Offers.{answer_in}
use Rattle.store_reading.specs.Held.{numbers_of, entry_of, numbers_read, entry_read}
use Rattle.past_sheet.specs.PastSheet.{MapPastSheet, StorePastSheet}

-- A MAP: its test, its sizes, its rules and their number.
module _ (s t : List ℕ) (z : maps.MapSizes) (rules : List maps.Rule) (ms : maps.IsMap s z rules) (mt : maps.IsMap t z rules) where
  map_passes : is_map s ≡ is_map t
  map_passes = map_reading.passes s z rules ms ∙ sym (map_reading.passes t z rules mt)

  map_tested : map_refusal s ≡ map_refusal t
  map_tested = ap (λ b. cond b none (some BadSheet)) map_passes

  map_sizes : maps.sizes_in s ≡ maps.sizes_in t
  map_sizes = map_reading.sizes_back s z rules ms ∙ sym (map_reading.sizes_back t z rules mt)

  map_rules : maps.rules_in s ≡ maps.rules_in t
  map_rules = map_reading.rules_back s z rules ms ∙ sym (map_reading.rules_back t z rules mt)

  map_count : maps.count_in s ≡ maps.count_in t
  map_count = sym (rules_many s (map_reading.passes s z rules ms)) ∙ ap length map_rules ∙ rules_many t (map_reading.passes t z rules mt)

  -- Each answer is a function of these four.
  area_refused : (x : AreaArgument) → area_refusal s x ≡ area_refusal t x
  unfolding area_refusal
  area_refused x = λ i. or_else (map_tested i) (or_else (kinds_missing (parts_in x)) (lent_refusal (map_sizes i).limits x.buffer x.count))

  insertion_refused : (x : Insertion) → insert_refusal s x ≡ insert_refusal t x
  unfolding insert_refusal
  insertion_refused x = λ i. or_else (area_refused x.area i) (room_refusal (map_count i) (map_sizes i).capacity)

  map_inserted : (x : Insertion) → insert_answer s x ≡ insert_answer t x
  unfolding insert_answer
  map_inserted x = λ i. unless (insertion_refused x i) (value (map_count i))

  map_listed : (x : AreaArgument) → listing s x ≡ listing t x
  unfolding listing
  map_listed x = go (parts_in x)
    where
      go : (p : Option Parts) → unless (area_refusal s x) (value (positions_for s x p)) ≡ unless (area_refusal t x) (value (positions_for t x p))
      go none = λ i. unless (area_refused x i) (value [])
      go (some a) = λ i. unless (area_refused x i) (value (positions (area_passed x a) (map_rules i)))

  map_counted : count_outcome s ≡ count_outcome t
  unfolding count_outcome
  map_counted = λ i. unless (map_tested i) (value (map_count i))

  map_rule_read : (k : ℕ) → rule_read s k ≡ rule_read t k
  unfolding rule_read
  map_rule_read k = λ i. unless (map_tested i) (cond (ltb k (map_count i)) (value (rule_parts (get_or (map_rules i) k no_rule))) absent)

  map_path_read : (k : ℕ) → rule_path s k ≡ rule_path t k
  unfolding rule_path
  map_path_read k = λ i. unless (map_tested i) (cond (ltb k (map_count i)) (value (pack (get_or (map_rules i) k no_rule).area.path)) absent)

pub map_past_sheet : MapPastSheet
map_past_sheet s t z rules ms mt = record {
  tested = map_tested s t z rules ms mt;
  inserted = map_inserted s t z rules ms mt;
  listed = map_listed s t z rules ms mt;
  counted = map_counted s t z rules ms mt;
  rule_read_lem = map_rule_read s t z rules ms mt;
  path_read = map_path_read s t z rules ms mt;
}

-- A STORE: its test, its sizes and its state.
module _ (s t : List ℕ) (z : state.Sizes) (held : state.State) (ms : stores.IsStore s z held) (mt : stores.IsStore t z held) where
  store_passes : is_store s ≡ is_store t
  store_passes = store_reading.passes s z held ms ∙ sym (store_reading.passes t z held mt)

  store_tested : store_refusal s ≡ store_refusal t
  store_tested = ap (λ b. cond b none (some BadSheet)) store_passes

  store_sizes : stores.sizes_in s ≡ stores.sizes_in t
  store_sizes = store_reading.sizes_back s z held ms ∙ sym (store_reading.sizes_back t z held mt)

  store_state : stores.state_in s ≡ stores.state_in t
  store_state = store_reading.state_back s z held ms ∙ sym (store_reading.state_back t z held mt)

  store_offered : (c : state.Call) → answer_in s c ≡ answer_in t c
  unfolding answer_in
  store_offered c = λ i. cond (store_passes i) (state.answer (store_sizes i) (store_state i) c) (state.refused BadSheet)

  store_numbers_lem : numbers_read s ≡ numbers_read t
  unfolding numbers_read
  store_numbers_lem = λ i. unless (store_tested i) (value (numbers_of (store_sizes i) (store_state i)))

  store_entry : (k : ℕ) → entry_read s k ≡ entry_read t k
  unfolding entry_read
  store_entry k = λ i. unless (store_tested i) (entry_of (store_state i).entries k)

pub store_past_sheet : StorePastSheet
store_past_sheet s t z held ms mt = record {
  tested = store_tested s t z held ms mt;
  offered = store_offered s t z held ms mt;
  numbers_read_lem = store_numbers_lem s t z held ms mt;
  entry_read_lem = store_entry s t z held ms mt;
}
