-- A store that passed, as the code reads it. Entry i is the one of row i, which passed its own test; so the path and the head that are
-- cut out of that row are the entry's, and the count stands before the path.
use Prim.Native.Nat.{ℕ, ◌<◌}
use mathlib.Core.Path.{◌≡◌, sym, ◌∙◌, ap, subst}
use mathlib.Core.List.{List, map}
use mathlib.Core.Bool.{true}
use native.Mathlib.Omega.{arith}
use lib.ListN.{length, get_or, length-map, get_or-map}
use lib.Seq.{drop-cons, get_or-take}
use Rattle.willow.specs.Entries.{Entry}
use Rattle.willow.specs.Numbers.{Bytes}
use Rattle.willow.specs.Packed.{pack}
use Rattle.number.proofs.RecordLaws.{all_at}
use Rattle.entry.specs.Heads.{entry_at}
use Rattle.sheet.specs.Cells.{used_part}
use Rattle.sheet.specs.Rows.{Row, cell, zero_row, rows_of, row_at}
use Rattle.sheet.proofs.CellProofs.{cell_tested, cell_pack}
use Rattle.store_form.specs.Stores.{store_shape, sizes_in, count_in, held_in, let_go_in, entry_in, used_rows, state_in}
use Rattle.store_form.specs.StoreTest.{is_store}
use Rattle.store_form.proofs.EntryRows.{Passed, named}
use Rattle.store_form.proofs.ReadingLaws.{used_passed, used_count}
use Rattle.store_form.proofs.TestedLaws.{known}
use Rattle.packed.specs.LentPaths.{path_of}
use Rattle.entry.specs.declared.LentEntry.{LentEntry}
use Rattle.entry.specs.LentEntries.{entry_of}
use Rattle.store_rows.specs.declared.rows.StoreRows.{StoreRows}
use Rattle.store_rows.specs.EntryRows.{sizes_of}
use Rattle.store_rows.specs.HeldRows.{held_entry, held_row, RowsOf}
use Rattle.store_reading.specs.declared.StoreNumbers.{StoreNumbers}
use Rattle.store_reading.specs.Held.{numbers_of, no_entry}

-- element i of a list is the same whatever stands for one past the end
same_at : {A : Type 0} (l : List A) (i : ℕ) (d e : A) → i < length l → get_or l i d ≡ get_or l i e
same_at l i d e h = let p = drop-cons l i d h in let q = drop-cons l i e h in cc

module _ (s : List ℕ) (stored : is_store s ≡ true) (b : Bytes s) where
  -- THE NUMBERS: the count that stands in a store is that of its entries.
  pub entries_many : length (state_in s).entries ≡ count_in s
  entries_many = used_count s b (known s stored)

  pub numbers_are : (x : StoreNumbers) → x.limits ≡ (sizes_in s).limits → x.capacity ≡ (sizes_in s).capacity → x.count ≡ count_in s
      → x.namespace ≡ (sizes_in s).namespace → x.held ≡ held_in s → x.let_go ≡ let_go_in s → x ≡ numbers_of (sizes_in s) (state_in s)
  unfolding state_in
  numbers_are x l c n m h g =
      let k = n ∙ sym entries_many in
      λ t. record { limits = l t; capacity = c t; count = k t; namespace = m t; held = h t; let_go = g t }

  -- ENTRY i.
  module _ (i : ℕ) (h : i < count_in s) where
    abbrev row : Row
    row = row_at (store_shape (sizes_in s)) s i

    abbrev held : Entry
    held = get_or (state_in s).entries i no_entry

    used_many : length (used_rows s) ≡ count_in s
    unfolding state_in
    used_many = sym (length-map (used_rows s) (entry_in (sizes_in s).namespace)) ∙ entries_many

    used_row : get_or (used_rows s) i (zero_row (store_shape (sizes_in s))) ≡ row
    used_row = get_or-take (count_in s) (rows_of (store_shape (sizes_in s)) s) i (zero_row (store_shape (sizes_in s))) h

    row_passed : Passed (sizes_in s).limits row
    row_passed =
        let l = used_many in
        subst (λ r. Passed (sizes_in s).limits r) used_row
        (all_at (Passed (sizes_in s).limits) (used_rows s) i (zero_row (store_shape (sizes_in s))) (used_passed s b (known s stored)) (omega arith))

    -- it is the one of row i
    entry_at_lem : held ≡ entry_in (sizes_in s).namespace row
    unfolding state_in
    entry_at_lem =
        let n = (sizes_in s).namespace in
        let none = zero_row (store_shape (sizes_in s)) in
        let l = entries_many in
        same_at (map (entry_in n) (used_rows s)) i no_entry (entry_in n none) (omega arith)
        ∙ get_or-map (entry_in n) (used_rows s) i none
        ∙ ap (entry_in n) used_row

    -- it was found: its head and its path were read from row i of the store's rows, and the namespace before the heads
    module _ (r : StoreRows) (of : RowsOf r s) where
      row_is : held_row r i ≡ row
      row_is = λ t. row_at (store_shape (sizes_of (of.1.0 t) (of.1.1.0 t))) (of.0 t) i

      pub found : (e : LentEntry) → e.namespace ≡ (sizes_in s).namespace → entry_at 0 e.head (held_entry r i).path ≡ held_entry r i
          → path_of e.path ≡ (held_entry r i).path → entry_of e ≡ held
      unfolding entry_in
      found e n h p =
          let x : entry_of e ≡ named (sizes_in s).namespace (entry_at 0 e.head (path_of e.path)) = λ t. record {
            namespace = n t;
            subspace = e.head.subspace;
            path = path_of e.path;
            timestamp = e.head.timestamp;
            payload_length = e.head.payload_length;
            digest = e.head.digest;
          } in
          x ∙ ap (named (sizes_in s).namespace) (ap (entry_at 0 e.head) p ∙ h) ∙ ap (entry_in (sizes_in s).namespace) row_is ∙ sym entry_at_lem

      pub found_whole : (p : List ℕ) → p ≡ used_part (cell (held_row r i)) → p ≡ pack held.path
      unfolding entry_in
      found_whole p e =
          e ∙ ap (λ x. used_part (cell x)) row_is
          ∙ sym (cell_pack (sizes_in s).limits (cell row) ((cell_tested (sizes_in s).limits (cell row)).0 row_passed.fits) row_passed.cell_bytes)
          ∙ sym (ap (λ x. pack x.path) entry_at_lem)
