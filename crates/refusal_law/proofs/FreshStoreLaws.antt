-- Making a fresh store. Its layout has as many bytes as a sheet of its sizes, whatever the namespace is, so the test of the buffer asks for
-- no more and no less; before it stand the tests of the limits and of the capacity, which are one row.
use Prim.Native.Nat.{ℕ, ◌<◌}
use mathlib.Core.Path.{◌≡◌, refl, sym, ◌∙◌, ap, subst}
use mathlib.Core.List.{List, [], ◌∷◌, append-nil}
use native.Mathlib.Omega.{arith}
use lib.ListN.{length}
use Rattle.willow.specs.declared.Refusal.TheVariants.{OutTooSmall}
use Rattle.willow.specs.Answers.{written_length}
use Rattle.willow.specs.Refusals.{value}
use Rattle.willow.specs.Store.{Sizes, fresh}
use Rattle.tables.specs.TableRows.{bad_sizes, short_for_sheet}
use Rattle.tables.specs.Tables.{◌when◌, refusal_of}
use Rattle.tables.proofs.Rows.{First, behind, answered}
use Rattle.sheet.proofs.LayoutLaws.{layout_length}
use Rattle.store_form.specs.Stores.{store_shape, store_header, store_layout}
use Rattle.store_form.proofs.EntryRows.{rows_fit_lem}
use Rattle.store_law.specs.Offers.{sizes_refusal, fresh_store}
use Rattle.tables.proofs.LentLaws.{sizes_row, unless_chain, written_row}
use Rattle.refusal_law.specs.Stores.{sheet_size, FreshStoreTable}

-- THE LAYOUT of a fresh store.
pub fresh_length : (z : Sizes) → length (store_layout z fresh) ≡ sheet_size z
unfolding store_layout
fresh_length z =
    let l = layout_length (store_shape z) (store_header z fresh) 0 [] [] refl (rows_fit_lem z [] tt) (omega arith) in
    ap length (sym (append-nil (store_layout z fresh))) ∙ l ∙ omega arith

-- THE TABLE. 15
sheet_row : (z : Sizes) (out : List ℕ) → First (short_for_sheet (sheet_size z) out ∷ []) (refusal_of (written_length (value (store_layout z fresh)) out))
sheet_row z out =
    subst (λ n. First (OutTooSmall when (length out < n) ∷ []) (refusal_of (written_length (value (store_layout z fresh)) out))) (fresh_length z)
    (written_row (store_layout z fresh) out)

-- and before it 1, of the limits and of the capacity
fresh_rows : (z : Sizes) (out : List ℕ)
    → First (bad_sizes z.limits z.capacity ∷ short_for_sheet (sheet_size z) out ∷ []) (refusal_of (written_length (fresh_store z) out))
unfolding fresh_store
fresh_rows z out =
    rw (unless_chain (λ o. refusal_of (written_length o out)) (λ r. refl) (sizes_refusal z) (value (store_layout z fresh)))
    (behind (sizes_row z.limits z.capacity) (λ e p. sheet_row z out))

pub fresh_store_table : FreshStoreTable
fresh_store_table z out = answered refl (fresh_rows z out)
