-- Calls on the layout of a proper state. The layout is as long as the sheet and is read back, and what is behind
-- it is kept: a call answers what it answers to the state, and leaves the layout of the state afterwards.
use Prim.Native.Nat.{ℕ, ◌+◌}
use mathlib.Core.Path.{◌≡◌, refl, ◌∙◌, ap}
use mathlib.Core.List.{List, ◌++◌, map}
use mathlib.Core.Bool.{cond}
use lib.ListN.{length, drop}
use Rattle.willow.specs.Entries.{ValidEntry}
use Rattle.willow.specs.Lists.{All}
use Rattle.willow.specs.Store.{Sizes, State, Call, answer, after}
use Rattle.willow.proofs.ListLaws.{all_also}
use Rattle.sheet.specs.Rows.{Row, Fitting, sheet_length}
use Rattle.sheet.proofs.LayoutLaws.{layout_length, layout_rest}
use Rattle.store_form.specs.Stores.{store_shape, store_header, store_layout, entry_row, Stands, ProperStore, IsStore, sizes_in, state_in}
use Rattle.store_form.specs.StoreTest.{is_store}
use Rattle.store_form.proofs.EntryRows.{rows_fit_lem}
use Rattle.store_form.proofs.ReadingLaws.{store_reading}
use Rattle.store_law.specs.Offers.{answer_in, leaves_in}

module _ (z : Sizes) (t : State) (rest : List ℕ) (p : ProperStore z t) where
  abbrev bytes : List ℕ
  bytes = store_layout z t ++ rest

  abbrev rows : List Row
  rows = map (entry_row z.limits) t.entries

  valid : All (ValidEntry z.limits) t.entries
  valid = all_also (Stands z) (ValidEntry z.limits) (λ e s. s.valid) t.entries p.entries_stand

  fits : Fitting (store_shape z) (length t.entries) rows
  fits = rows_fit_lem z t.entries valid

  -- THE LAYOUT AND WHAT IS BEHIND IT.
  pub laid_length : length bytes ≡ sheet_length (store_shape z) + length rest
  unfolding store_layout
  laid_length = layout_length (store_shape z) (store_header z t) (length t.entries) rows rest refl fits p.count

  pub laid_rest : drop (sheet_length (store_shape z)) bytes ≡ rest
  unfolding store_layout
  laid_rest = layout_rest (store_shape z) (store_header z t) (length t.entries) rows rest refl fits p.count

  -- A CALL on it: what it does with the sizes and the state that it reads, it does with these.
  laid_read : {A : Type 0} (f : Sizes → State → A) (else : A) → cond (is_store bytes) (f (sizes_in bytes) (state_in bytes)) else ≡ f z t
  laid_read f else =
      let stored : IsStore bytes z t = record { proper = p; rest = rest; laid_out = refl } in
      let y = store_reading.sizes_back bytes z t stored in
      let u = store_reading.state_back bytes z t stored in
      ap (λ k. cond k (f (sizes_in bytes) (state_in bytes)) else) (store_reading.passes bytes z t stored) ∙ (λ i. f (y i) (u i))

  pub laid_answer : (c : Call) → answer_in bytes c ≡ answer z t c
  unfolding answer_in
  laid_answer c = laid_read (λ y u. answer y u c) _

  pub laid_leaves : (c : Call) → leaves_in bytes c ≡ store_layout z (after z t c) ++ rest
  unfolding leaves_in
  laid_leaves c =
      laid_read (λ y u. store_layout y (after y u c) ++ drop (sheet_length (store_shape y)) bytes) _
      ∙ ap (λ l. store_layout z (after z t c) ++ l) laid_rest
