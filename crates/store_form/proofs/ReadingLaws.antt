-- Reading a store. The layout of a proper state is read back: its numbers, then its rows in use, then their entries; and so it
-- passes the test. Bytes that pass are the layout of what is read from them. Hence the test fails exactly where there is none.
use Prim.Native.Nat.{ℕ, ◌*◌, ◌≤◌, ◌<◌}
use mathlib.Core.Path.{◌≡◌, refl, sym, ◌∙◌, ap}
use mathlib.Core.Logic.{◌↔◌}
use mathlib.Core.List.{List, [], ◌∷◌, ◌++◌, map}
use mathlib.Core.Option.{Option, none, some}
use mathlib.Core.Bool.{true, cond}
use native.Mathlib.Omega.{arith}
use lib.ListN.{length, take, drop, get_or, length-map}
use Rattle.willow.specs.declared.Limits.{Limits}
use Rattle.willow.specs.declared.Refusal.{Refusal}
use Rattle.willow.specs.declared.Refusal.TheVariants.{BadSheet}
use Rattle.willow.specs.Entries.{Entry, ValidEntry, PlaceBelow}
use Rattle.willow.specs.Limits.{Words, max_word}
use Rattle.willow.specs.Lists.{All, Ascending}
use Rattle.willow.specs.Numbers.{Bytes, le, number_at}
use Rattle.willow.specs.Store.{Sizes, State, payloads}
use Rattle.willow.proofs.AnswerLaws.{accepted_words}
use Rattle.willow.proofs.Bools.{not_true_false}
use Rattle.willow.proofs.ListLaws.{all_also, all_take}
use Rattle.willow.proofs.NumberLaws.{number_word}
use Rattle.number.specs.Records.{laid, Sized}
use Rattle.sheet.specs.Cells.{cell_size_of, cell_fits}
use Rattle.sheet.specs.Rows.{Row, head, cell, Fitting, rows_of, sheet_length, sheet_bytes}
use Rattle.sheet.proofs.LayoutLaws.{numbers_first, layout_number, layout_room, layout_used, layout_heads_zero, layout_cells_zero, length_used, layout_back}
use Rattle.sheet.proofs.RowLaws.{fitting_take, fitting_rows, rows_bytes}
use Rattle.store_form.specs.Apart.{ascends, clear_from}
use Rattle.store_form.specs.Stores.{store_numbers, store_head_size, store_shape, store_header, store_layout, entry_row, Stands, ProperStore, IsStore, sizes_in, count_in, held_in, let_go_in, entry_in, used_rows, state_in}
use Rattle.store_form.specs.StoreTest.{is_store, store_refusal, StoreReading}
use Rattle.store_form.proofs.ApartLaws.{apart_theorem}
use Rattle.store_form.proofs.EntryRows.{row_cell_fits, rows_fit_lem, entries_back, Passed, entry_valid, rows_back, named_rows_lem, named_payloads, named_ascends, named_clear}
use Rattle.store_form.proofs.TestedLaws.{EntriesTested, Tested, passes, tested, is_store_passes, known}

-- THE TEST OF ENTRIES says the same in every namespace.
pub tested_in : (m n held : ℕ) (rs : List Row) → EntriesTested held (map (entry_in m) rs) → EntriesTested held (map (entry_in n) rs)
tested_in m n held rs t =
    let e = named_rows_lem n m rs in
    record {
      ascending = ap ascends (sym e) ∙ named_ascends n (map (entry_in m) rs) ∙ t.ascending;
      clear = ap (clear_from []) (sym e) ∙ named_clear n [] (map (entry_in m) rs) ∙ t.clear;
      held_sum = ap payloads (sym e) ∙ named_payloads n (map (entry_in m) rs) ∙ t.held_sum;
    }

-- A PROPER STATE'S LAYOUT.
module _ (z : Sizes) (t : State) (rest : List ℕ) (p : ProperStore z t) where
  abbrev bytes : List ℕ
  bytes = store_layout z t ++ rest

  abbrev n : ℕ
  n = length t.entries

  abbrev used : List Row
  used = map (entry_row z.limits) t.entries

  words : Words z.limits
  words = accepted_words z.limits p.limits_accepted

  valid : All (ValidEntry z.limits) t.entries
  valid = all_also (Stands z) (ValidEntry z.limits) (λ e s. s.valid) t.entries p.entries_stand

  named_so : All (λ e. e.namespace ≡ z.namespace) t.entries
  named_so = all_also (Stands z) (λ e. e.namespace ≡ z.namespace) (λ e s. s.of_store) t.entries p.entries_stand

  fits : Fitting (store_shape z) n used
  fits = rows_fit_lem z t.entries valid

  header_words : All (λ k. k ≤ max_word) (store_header z t)
  header_words =
      let w = words in
      let c = p.capacity_accepted in
      let k = p.count in
      let s = p.totals in
      (w.mcl_word, (w.mcc_word, (w.mpl_word, (omega arith, (omega arith, (p.namespace_word, (omega arith, (omega arith, tt))))))))

  pub number_back : (i : ℕ) → i < store_numbers → number_at bytes (8 * i) ≡ get_or (store_header z t) i 0
  unfolding store_layout
  number_back i h = layout_number (store_shape z) (store_header z t) n used rest refl fits p.count i header_words h

  sizes_read : sizes_in bytes ≡ z
  sizes_read =
      let a = number_back 0 (omega arith) in
      let b = number_back 1 (omega arith) in
      let c = number_back 2 (omega arith) in
      let d = number_back 3 (omega arith) in
      let e = number_back 5 (omega arith) in
      λ i. record { limits = record { mcl = a i; mcc = b i; mpl = c i }; capacity = d i; namespace = e i }

  used_read : take n (rows_of (store_shape z) bytes) ≡ used
  unfolding store_layout
  used_read = layout_used (store_shape z) (store_header z t) n used rest refl fits p.count

  entries_read : map (entry_in z.namespace) (take n (rows_of (store_shape z) bytes)) ≡ t.entries
  entries_read =
      ap (map (entry_in z.namespace)) used_read ∙ entries_back z.limits z.namespace t.entries words valid named_so

  state_read : state_in bytes ≡ t
  unfolding state_in
  state_read =
      let z' = sizes_read in
      let c = number_back 4 (omega arith) in
      let h = number_back 6 (omega arith) in
      let g = number_back 7 (omega arith) in
      let es = (λ i. map (entry_in (z' i).namespace) (take (c i) (rows_of (store_shape (z' i)) bytes))) ∙ entries_read in
      λ i. record { entries = es i; held = h i; let_go = g i }

  -- it passes
  cells_pass : (es : List Entry) → All (ValidEntry z.limits) es → All (λ r. cell_fits z.limits (cell r) ≡ true) (map (entry_row z.limits) es)
  cells_pass [] v = tt
  cells_pass (e ∷ es) v = (row_cell_fits z.limits e v.0 words, cells_pass es v.1)

  entries_pass : EntriesTested t.held t.entries
  entries_pass = record {
    ascending = (apart_theorem.ascending t.entries).1 p.ascending;
    clear = (apart_theorem.none_prunes z.namespace t.entries named_so p.ascending).1 p.none_prunes;
    held_sum = sym p.held_sum;
  }

  layout_tested : Tested bytes z n t.held t.let_go
  unfolding store_layout
  layout_tested =
      let room = layout_room (store_shape z) (store_header z t) n used rest refl fits p.count in
      record {
        long = omega arith;
        sizes = record {
          limits_accepted = p.limits_accepted;
          capacity_accepted = p.capacity_accepted;
          count = p.count;
          totals = p.totals;
        };
        room = room;
        rows = record {
          cells_fit = rw used_read (cells_pass t.entries valid);
          entries = tested_in z.namespace 0 t.held (take n (rows_of (store_shape z) bytes)) (rw entries_read entries_pass);
          heads_zero = layout_heads_zero (store_shape z) (store_header z t) n used rest refl fits p.count;
          cells_zero = layout_cells_zero (store_shape z) (store_header z t) n used rest refl fits p.count;
        };
      }

  layout_passes : is_store bytes ≡ true
  layout_passes =
      let z' = sizes_read in
      let c = number_back 4 (omega arith) in
      let h = number_back 6 (omega arith) in
      let g = number_back 7 (omega arith) in
      is_store_passes bytes
      ∙ (λ i. passes bytes (z' i) (c i) (h i) (g i))
      ∙ (tested bytes z n t.held t.let_go).1 layout_tested

-- BYTES THAT PASSED.
rows_passed : (L : Limits) (rs : List Row) → All (λ r. Bytes (head r) × Bytes (cell r)) rs → Sized head store_head_size rs → Sized cell (cell_size_of L) rs
    → All (λ r. cell_fits L (cell r) ≡ true) rs → All (Passed L) rs
rows_passed L [] b h c f = tt
rows_passed L (r ∷ rs) b h c f = (
  record { head_bytes = b.0.0; cell_bytes = b.0.1; head_size_lem = h.0; cell_size_lem = c.0; fits = f.0 },
  rows_passed L rs b.1 h.1 c.1 f.1,
)

rows_stand : (z : Sizes) (rs : List Row) → z.namespace ≤ max_word → All (Passed z.limits) rs → All (Stands z) (map (entry_in z.namespace) rs)
rows_stand z [] w p = tt
rows_stand z (r ∷ rs) w p = (
  record { valid = entry_valid z.limits z.namespace r p.0 w; of_store = unfold entry_in in refl },
  rows_stand z rs w p.1,
)

module _ (s : List ℕ) (b : Bytes s) (q : Tested s (sizes_in s) (count_in s) (held_in s) (let_go_in s)) where
  pub used_passed : All (Passed (sizes_in s).limits) (used_rows s)
  used_passed =
      let z = store_shape (sizes_in s) in
      let f = fitting_take z z.capacity (count_in s) (rows_of z s) (fitting_rows z s q.room) q.sizes.count in
      rows_passed (sizes_in s).limits (used_rows s) (all_take _ (count_in s) (rows_of z s) (rows_bytes z s q.room b)) f.heads f.cells q.rows.cells_fit

  pub used_count : length (state_in s).entries ≡ count_in s
  unfolding state_in
  used_count =
      length-map (used_rows s) (entry_in (sizes_in s).namespace)
      ∙ length_used (store_shape (sizes_in s)) s q.room (count_in s) q.sizes.count q.rows.heads_zero q.rows.cells_zero

  read_stand : All (Stands (sizes_in s)) (state_in s).entries
  unfolding state_in
  read_stand = rows_stand (sizes_in s) (used_rows s) (number_word s 40 b) used_passed

  read_tested : EntriesTested (held_in s) (state_in s).entries
  unfolding state_in
  read_tested = tested_in 0 (sizes_in s).namespace (held_in s) (used_rows s) q.rows.entries

  read_ascending : Ascending PlaceBelow (state_in s).entries
  read_ascending = (apart_theorem.ascending (state_in s).entries).0 read_tested.ascending

  read_proper : ProperStore (sizes_in s) (state_in s)
  unfolding state_in
  read_proper = record {
    limits_accepted = q.sizes.limits_accepted;
    capacity_accepted = q.sizes.capacity_accepted;
    namespace_word = number_word s 40 b;
    count = let l = used_count in let k = q.sizes.count in omega arith;
    entries_stand = read_stand;
    ascending = read_ascending;
    none_prunes =
        (apart_theorem.none_prunes (sizes_in s).namespace (state_in s).entries
        (all_also (Stands (sizes_in s)) (λ e. e.namespace ≡ (sizes_in s).namespace) (λ e t. t.of_store) (state_in s).entries read_stand)
        read_ascending).0 read_tested.clear;
    held_sum = sym read_tested.held_sum;
    totals = q.sizes.totals;
  }

  -- the header that was read is the header of what was read
  read_header : take (8 * store_numbers) s ≡ laid (le 8) (store_header (sizes_in s) (state_in s))
  unfolding state_in
  read_header = numbers_first s store_numbers b q.long ∙ ap (λ n. laid (le 8) (with n)) (sym used_count)
    where
      with : ℕ → List ℕ
      with n = number_at s 0 ∷ number_at s 8 ∷ number_at s 16 ∷ number_at s 24 ∷ n ∷ number_at s 40 ∷ number_at s 48 ∷ number_at s 56 ∷ []

  read_laid_out : s ≡ store_layout (sizes_in s) (state_in s) ++ drop (sheet_length (store_shape (sizes_in s))) s
  unfolding store_layout state_in
  read_laid_out =
      let z = store_shape (sizes_in s) in
      let rows = rows_back (sizes_in s).limits (sizes_in s).namespace (used_rows s) used_passed in
      layout_back z s q.room (count_in s) q.sizes.count q.rows.heads_zero q.rows.cells_zero
      (store_header (sizes_in s) (state_in s)) read_header
      ∙ ap (λ rs. sheet_bytes z (store_header (sizes_in s) (state_in s)) rs ++ drop (sheet_length z) s) (sym rows)

-- THE THEOREM.
stored : (s : List ℕ) → Bytes s → is_store s ≡ true → IsStore s (sizes_in s) (state_in s)
stored s b h =
    let q = known s h in
    record { proper = read_proper s b q; rest = drop (sheet_length (store_shape (sizes_in s))) s; laid_out = read_laid_out s b q }

passed : (s : List ℕ) (z : Sizes) (t : State) → IsStore s z t → is_store s ≡ true
passed s z t h = ap is_store h.laid_out ∙ layout_passes z t h.rest h.proper

refused : (s : List ℕ) → Bytes s → (store_refusal s ≡ some BadSheet) ↔ ((z : Sizes) (t : State) → IsStore s z t → ⊥)
refused s b = (
  λ e z t h. some≢none (sym e ∙ ap (λ x. cond x none (some BadSheet)) (passed s z t h)),
  λ n. ap (λ x. cond x none (some BadSheet)) (not_true_false (is_store s) (λ h. n (sizes_in s) (state_in s) (stored s b h))),
)
  where
    some≢none : ◌≡◌ {A = Option Refusal} (some BadSheet) none → ⊥
    some≢none e = let z : ◌≡◌ {A = ℕ} 0 1 = cc in omega arith

pub store_reading : StoreReading
store_reading = record {
  passes = passed;
  read = stored;
  sizes_back = λ s z t h. ap sizes_in h.laid_out ∙ sizes_read z t h.rest h.proper;
  state_back = λ s z t h. ap state_in h.laid_out ∙ state_read z t h.rest h.proper;
  refused_exactly = refused;
}
