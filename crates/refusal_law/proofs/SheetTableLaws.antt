-- The tables of the calls that test or read a sheet: the sheet's test is the one row of 2, and what is read of a sheet refuses nothing by
-- itself; where it is written, 15 stands behind it.
use Prim.Native.Nat.{ℕ}
use mathlib.Core.Path.{◌≡◌, refl}
use mathlib.Core.Logic.Iff
use mathlib.Core.List.{List, [], ◌∷◌}
use mathlib.Core.Bool.{cond}
use lib.Dec.{ltb}
use lib.ListN.{length}
use Rattle.willow.specs.declared.Refusal.TheVariants.{BadSheet}
use Rattle.willow.specs.Answers.{or_else, written_length}
use Rattle.willow.specs.Entries.{Entry}
use Rattle.willow.specs.Numbers.{Bytes}
use Rattle.willow.specs.Refusals.{Outcome, refused, absent, value}
use Rattle.tables.specs.TableRows.{out_too_small}
use Rattle.tables.specs.Tables.{Row, refusal_of}
use Rattle.tables.proofs.RefusalLaws.{may_be_there, said_row}
use Rattle.tables.proofs.Rows.{First, tested_not, behind, answered}
use Rattle.map_form.specs.Maps.{sizes_in, rules_in, count_in}
use Rattle.map_form.specs.MapTest.{is_map, map_refusal}
use Rattle.map_form.proofs.MapProofs.{map_reading}
use Rattle.map_reading.specs.Rules.{count_outcome, rule_read, rule_path}
use Rattle.store_form.specs.Stores as store
use Rattle.store_form.specs.StoreTest.{is_store, store_refusal}
use Rattle.store_form.proofs.ReadingLaws.{store_reading}
use Rattle.store_reading.specs.Held.{entry_of, numbers_read, entry_read, components_of, packed_of}
use Rattle.refusal_law.specs.Sheets.{SheetTables}
use Rattle.tables.proofs.LentLaws.{unless_refused}
use Rattle.refusal_law.specs.Maps.{bad_map}
use Rattle.refusal_law.specs.Stores.{bad_store}

-- 2, of a map and of a store.
map_row_lem : (s : List ℕ) → Bytes s → First (bad_map s ∷ []) (map_refusal s)
map_row_lem s b = tested_not (is_map s) BadSheet (
  λ e. (sizes_in s, rules_in s, map_reading.read s b e, tt),
  λ x. map_reading.passes s x.0 x.1 x.2,
)

store_row : (s : List ℕ) → Bytes s → First (bad_store s ∷ []) (store_refusal s)
store_row s b = tested_not (is_store s) BadSheet (
  λ e. (store.sizes_in s, store.state_in s, store_reading.read s b e, tt),
  λ x. store_reading.passes s x.0 x.1 x.2,
)

-- WHAT IS READ refuses nothing by itself, and hands on what the test refuses.
count_refusal : (s : List ℕ) → refusal_of (count_outcome s) ≡ map_refusal s
unfolding count_outcome
count_refusal s = unless_refused (map_refusal s) (value (count_in s)) refl

rule_refusal : (s : List ℕ) (i : ℕ) → refusal_of (rule_read s i) ≡ map_refusal s
unfolding rule_read
rule_refusal s i = unless_refused (map_refusal s) (cond (ltb i (count_in s)) (value _) absent) (may_be_there (ltb i (count_in s)) _)

rule_path_refusal : (s : List ℕ) (i : ℕ) → refusal_of (rule_path s i) ≡ map_refusal s
unfolding rule_path
rule_path_refusal s i = unless_refused (map_refusal s) (cond (ltb i (count_in s)) (value _) absent) (may_be_there (ltb i (count_in s)) _)

numbers_refusal : (s : List ℕ) → refusal_of (numbers_read s) ≡ store_refusal s
unfolding numbers_read
numbers_refusal s = unless_refused (store_refusal s) (value _) refl

entry_refusal : (s : List ℕ) (i : ℕ) → refusal_of (entry_read s i) ≡ store_refusal s
unfolding entry_read
entry_refusal s i = unless_refused (store_refusal s) (entry_of (store.state_in s).entries i) (may_be_there (ltb i (length (store.state_in s).entries)) _)

components_refusal : (o : Outcome Entry) → refusal_of (components_of o) ≡ refusal_of o
components_refusal (refused r) = refl
components_refusal absent = refl
components_refusal (value e) = refl

packed_refusal : (o : Outcome Entry) → refusal_of (packed_of o) ≡ refusal_of o
packed_refusal (refused r) = refl
packed_refusal absent = refl
packed_refusal (value e) = refl

-- WHAT IS WRITTEN: 15 behind the others.
written_behind : (o : Outcome (List ℕ)) (out : List ℕ) → refusal_of (written_length o out) ≡ or_else (refusal_of o) (refusal_of (written_length o out))
written_behind (refused r) out = refl
written_behind absent out = refl
written_behind (value v) out = refl

written_rows : {row : Row} (o : Outcome (List ℕ)) (out : List ℕ) → First (row ∷ []) (refusal_of o)
    → First (row ∷ out_too_small (λ v. o ≡ value v) out ∷ []) (refusal_of (written_length o out))
written_rows o out f = rw (written_behind o out) (behind f (λ e p. said_row (λ v. o ≡ value v) out o e (λ v. Iff.rfl)))

pub sheet_tables : SheetTables
sheet_tables = record {
  map_test = λ s b. answered refl (map_row_lem s b);
  rule_count = λ s b. answered refl (rw (count_refusal s) (map_row_lem s b));
  rule = λ s i b. answered refl (rw (rule_refusal s i) (map_row_lem s b));
  rule_path_lem = λ s i b. answered refl (rw (rule_path_refusal s i) (map_row_lem s b));
  write_rule_path = λ s i out b. answered refl (written_rows (rule_path s i) out (rw (rule_path_refusal s i) (map_row_lem s b)));
  store_test = λ s b. answered refl (store_row s b);
  numbers = λ s b. answered refl (rw (numbers_refusal s) (store_row s b));
  entry = λ s i b. answered refl (rw (components_refusal (entry_read s i), entry_refusal s i) (store_row s b));
  entry_path = λ s i b. answered refl (rw (packed_refusal (entry_read s i), entry_refusal s i) (store_row s b));
  write_entry_path = λ s i out b. answered refl (written_rows (packed_of (entry_read s i)) out (rw (packed_refusal (entry_read s i), entry_refusal s i) (store_row s b)));
}
