-- WHICH NUMBER A CALL THAT TESTS OR READS A SHEET IS REFUSED WITH: 2, and 15 where it writes. Making a sheet, offering, inserting and listing
-- have theirs in the files beside this one: `FreshStoreTable`, `OfferRefusals` (Stores.antt), `FreshMapTable`, `InsertionRefusals` (Maps.antt),
-- `ListingTables` (Listing.antt). The exports have the right side of their call inside of `given`.
use Rattle.std.specs.Prelude.{ℕ, ◌≡◌, List, [], ◌∷◌}
use Rattle.willow.specs.Answers.{written_length}
use Rattle.willow.specs.Numbers.{Bytes}
use Rattle.willow.specs.Refusals.{value}
use Rattle.tables.specs.TableRows.{out_too_small}
use Rattle.tables.specs.Tables.{AnsweredBy, refusal_of}
use Rattle.map_form.specs.MapTest.{map_refusal}
use Rattle.map_reading.specs.Rules.{count_outcome, rule_read, rule_path}
use Rattle.store_form.specs.StoreTest.{store_refusal}
use Rattle.store_reading.specs.Held.{numbers_read, entry_read, components_of, packed_of}
use Rattle.refusal_law.specs.Maps.{bad_map}
use Rattle.refusal_law.specs.Stores.{bad_store}

-- The premise is that a buffer holds bytes, as an empty one does. `rule_path` and `entry_path` give a part of the sheet, the empty one where
-- they refuse: their rows are those of what the part is of.
pub record SheetTables : Type 0 where
  pub map_test : (s : List ℕ) → Bytes s → AnsweredBy (bad_map s ∷ []) (map_refusal s)
  pub rule_count : (s : List ℕ) → Bytes s → AnsweredBy (bad_map s ∷ []) (refusal_of (count_outcome s))
  pub rule : (s : List ℕ) (i : ℕ) → Bytes s → AnsweredBy (bad_map s ∷ []) (refusal_of (rule_read s i))
  pub rule_path_lem : (s : List ℕ) (i : ℕ) → Bytes s → AnsweredBy (bad_map s ∷ []) (refusal_of (rule_path s i))
  pub write_rule_path : (s : List ℕ) (i : ℕ) (out : List ℕ) → Bytes s
      → AnsweredBy (bad_map s ∷ out_too_small (λ v. rule_path s i ≡ value v) out ∷ []) (refusal_of (written_length (rule_path s i) out))
  pub store_test : (s : List ℕ) → Bytes s → AnsweredBy (bad_store s ∷ []) (store_refusal s)
  pub numbers : (s : List ℕ) → Bytes s → AnsweredBy (bad_store s ∷ []) (refusal_of (numbers_read s))
  pub entry : (s : List ℕ) (i : ℕ) → Bytes s → AnsweredBy (bad_store s ∷ []) (refusal_of (components_of (entry_read s i)))
  pub entry_path : (s : List ℕ) (i : ℕ) → Bytes s → AnsweredBy (bad_store s ∷ []) (refusal_of (packed_of (entry_read s i)))
  pub write_entry_path : (s : List ℕ) (i : ℕ) (out : List ℕ) → Bytes s
      → AnsweredBy (bad_store s ∷ out_too_small (λ v. packed_of (entry_read s i) ≡ value v) out ∷ [])
      (refusal_of (written_length (packed_of (entry_read s i)) out))
