-- What the function under an offer answers and leaves.
use Rattle.std.specs.Prelude.{ℕ, List, ◌++◌, drop}
use Rattle.willow.specs.Entries.{Entry}
use Rattle.willow.specs.Store.{Answer, answer_entry, after_answer}
use Rattle.sheet.specs.Rows.{sheet_length}
use Rattle.store_form.specs.Stores.{store_shape, store_layout, sizes_in, state_in}

-- The answer to an entry of the store's namespace, and the bytes afterwards.
abbrev pub entry_answer : List ℕ → Entry → Answer
entry_answer s e = answer_entry (sizes_in s) (state_in s) e

unfoldable pub entry_leaves : List ℕ → Entry → List ℕ
entry_leaves s e = store_layout (sizes_in s) (after_answer (state_in s) e (entry_answer s e)) ++ drop (sheet_length (store_shape (sizes_in s))) s
