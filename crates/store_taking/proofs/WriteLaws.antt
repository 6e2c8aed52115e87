-- What the writes of an offer leave of a store: its bytes are the layout of its state, and a number or the rows that are written make
-- the layout of another one.
use Prim.Native.Nat.{ℕ, ◌*◌, ◌<◌}
use mathlib.Core.Path.{◌≡◌, refl, sym, ◌∙◌, ap}
use mathlib.Core.List.{List, [], ◌∷◌, ◌++◌, map}
use mathlib.Core.Bool.{true}
use native.Mathlib.Omega.{arith}
use lib.ListN.{length, drop}
use Rattle.willow.specs.Entries.{Entry, ValidEntry}
use Rattle.willow.specs.Numbers.{Bytes, le}
use Rattle.willow.proofs.ListLaws.{all_also}
use Rattle.willow.proofs.NumberLaws.{le_length}
use Rattle.number.specs.Overwriting.{overwrite}
use Rattle.sheet.specs.Rows.{Shape, Row, Fitting, Room, sheet_length, sheet_bytes, with_rows}
use Rattle.sheet.proofs.LayoutLaws.{filled, layout_room, layout_with, layout_number_put}
use Rattle.sheet.proofs.RowLaws.{with_behind_write}
use Rattle.store_form.specs.Stores.{store_numbers, store_shape, store_header, store_layout, entry_row, Stands, IsStore, sizes_in, state_in}
use Rattle.store_form.specs.StoreTest.{is_store}
use Rattle.store_form.proofs.EntryRows.{rows_fit_lem}
use Rattle.store_form.proofs.ReadingLaws.{store_reading}
use Rattle.store_law.proofs.LaidOutLaws.{laid_rest}
use Rattle.store_writing.specs.Filed.{with_counts}

module _ (s : List ℕ) (b : Bytes s) (stored : is_store s ≡ true) where
  abbrev z : Shape
  z = store_shape (sizes_in s)

  abbrev rest : List ℕ
  rest = drop (sheet_length z) s

  abbrev es : List Entry
  es = (state_in s).entries

  abbrev rows : List Row
  rows = map (entry_row (sizes_in s).limits) es

  store : IsStore s (sizes_in s) (state_in s)
  store = store_reading.read s b stored

  -- NOTHING WRITTEN.
  pub as_found : s ≡ store_layout (sizes_in s) (state_in s) ++ rest
  as_found =
      let behind : rest ≡ store.rest = ap (drop (sheet_length z)) store.laid_out ∙ laid_rest (sizes_in s) (state_in s) store.rest store.proper in
      store.laid_out ∙ ap (λ l. store_layout (sizes_in s) (state_in s) ++ l) (sym behind)

  rows_fitting : Fitting z (length es) rows
  rows_fitting =
      rows_fit_lem (sizes_in s) es (all_also (Stands (sizes_in s)) (ValidEntry (sizes_in s).limits) (λ e k. k.valid) es store.proper.entries_stand)

  -- A NUMBER, where u is the layout of eight numbers and of the rows: alone, and with other rows.
  module _ (u numbers : List ℕ) (k : length numbers ≡ store_numbers) (e : u ≡ sheet_bytes z numbers rows ++ rest) (i x : ℕ) (h : i < store_numbers) where
    eight : 8 * length numbers ≡ 8 * store_numbers
    eight = ap (λ n. 8 * n) k

    number_put : overwrite u (8 * i) (le 8 x) ≡ sheet_bytes z (overwrite numbers i (x ∷ [])) rows ++ rest
    number_put =
        ap (λ l. overwrite l (8 * i) (le 8 x)) e
        ∙ layout_number_put z numbers (length es) rows rest eight rows_fitting store.proper.count i x (omega arith)

    number_before : (new : List Row) → overwrite (with_rows z u new) (8 * i) (le 8 x) ≡ with_rows z (overwrite u (8 * i) (le 8 x)) new
    number_before new =
        let room : Room z u = rw e (layout_room z numbers (length es) rows rest eight rows_fitting store.proper.count) in
        let l = le_length 8 x in
        sym (with_behind_write z u room (8 * i) (le 8 x) (omega arith) new)

  -- LET-GO.
  pub let_go_put : (g : ℕ) → overwrite s 56 (le 8 g) ≡ store_layout (sizes_in s) (record { entries = es; held = (state_in s).held; let_go = g }) ++ rest
  unfolding store_layout overwrite
  let_go_put g = number_put s (store_header (sizes_in s) (state_in s)) refl as_found 7 g (omega arith)

  -- OTHER ENTRIES, and then the count and both totals.
  pub counts_put : (new : List Entry) (n held g : ℕ) → n ≡ length new
      → with_counts n held g (with_rows z s (filled z (map (entry_row (sizes_in s).limits) new)))
      ≡ store_layout (sizes_in s) (record { entries = new; held = held; let_go = g }) ++ rest
  unfolding store_layout with_counts overwrite
  counts_put new n held g en =
      let y = sizes_in s in
      let t = state_in s in
      let R : List Row = filled z (map (entry_row y.limits) new) in
      let h₀ : List ℕ = store_header y t in
      let h₁ : List ℕ = y.limits.mcl ∷ y.limits.mcc ∷ y.limits.mpl ∷ y.capacity ∷ n ∷ y.namespace ∷ t.held ∷ t.let_go ∷ [] in
      let h₂ : List ℕ = y.limits.mcl ∷ y.limits.mcc ∷ y.limits.mpl ∷ y.capacity ∷ n ∷ y.namespace ∷ held ∷ t.let_go ∷ [] in
      let h₃ : List ℕ = y.limits.mcl ∷ y.limits.mcc ∷ y.limits.mpl ∷ y.capacity ∷ n ∷ y.namespace ∷ held ∷ g ∷ [] in
      let u₁ : List ℕ = overwrite s 32 (le 8 n) in
      let u₂ : List ℕ = overwrite u₁ 48 (le 8 held) in
      let e₁ : u₁ ≡ sheet_bytes z h₁ rows ++ rest = number_put s h₀ refl as_found 4 n (omega arith) in
      let e₂ : u₂ ≡ sheet_bytes z h₂ rows ++ rest = number_put u₁ h₁ refl e₁ 6 held (omega arith) in
      let e₃ : overwrite u₂ 56 (le 8 g) ≡ sheet_bytes z h₃ rows ++ rest = number_put u₂ h₂ refl e₂ 7 g (omega arith) in
      ap (λ l. overwrite (overwrite l 48 (le 8 held)) 56 (le 8 g)) (number_before s h₀ refl as_found 4 n (omega arith) R)
      ∙ ap (λ l. overwrite l 56 (le 8 g)) (number_before u₁ h₁ refl e₁ 6 held (omega arith) R)
      ∙ number_before u₂ h₂ refl e₂ 7 g (omega arith) R
      ∙ ap (λ l. with_rows z l R) e₃
      ∙ layout_with z h₃ (length es) rows rest refl rows_fitting store.proper.count (map (entry_row y.limits) new)
      ∙ ap (λ k. sheet_bytes z (y.limits.mcl ∷ y.limits.mcc ∷ y.limits.mpl ∷ y.capacity ∷ k ∷ y.namespace ∷ held ∷ g ∷ []) (map (entry_row y.limits) new) ++ rest) en
