-- The store's calls on bytes: what they answer, and the bytes that they leave.
use Rattle.std.specs.Prelude.{ℕ, List, [], ◌∷◌, ◌++◌, cond, drop}
use Rattle.std.proofs.Math.Option.{Option}
use Rattle.willow.specs.declared.Refusal.{Refusal}
use Rattle.willow.specs.declared.Refusal.TheVariants.{BadSheet}
use Rattle.willow.specs.Answers.{or_else, unless, limits_refusal, capacity_refusal}
use Rattle.willow.specs.Refusals.{Outcome, value}
use Rattle.willow.specs.Store.{Sizes, fresh, Call, Answer, refused, answer, after}
use Rattle.sheet.specs.Rows.{sheet_length}
use Rattle.store_form.specs.Stores.{store_shape, store_layout, sizes_in, state_in}
use Rattle.store_form.specs.StoreTest.{is_store}

-- A FRESH STORE. 1, for the limits and "sheet capacity N over 4,096"; then the layout of a fresh state.
abbrev pub sizes_refusal : Sizes → Option Refusal
sizes_refusal z = or_else (limits_refusal z.limits) (capacity_refusal z.capacity)

unfoldable pub fresh_store : Sizes → Outcome (List ℕ)
fresh_store z = unless (sizes_refusal z) (value (store_layout z fresh))

-- THE ANSWER on bytes: 2, and else the answer of the state that the bytes hold.
unfoldable pub answer_in : List ℕ → Call → Answer
answer_in s c = cond (is_store s) (answer (sizes_in s) (state_in s) c) (refused BadSheet)

-- THE BYTES AFTERWARDS: the layout of the state afterwards, and behind it what stood there; bytes that are no store stay.
unfoldable pub leaves_in : List ℕ → Call → List ℕ
leaves_in s c =
    cond (is_store s)
    (store_layout (sizes_in s) (after (sizes_in s) (state_in s) c) ++ drop (sheet_length (store_shape (sizes_in s))) s)
    s

-- "Each later one gets it as the offer before left it, and nothing else writes it."
abbrev pub bytes_after : List ℕ → List Call → List ℕ
bytes_after s [] = s
bytes_after s (c ∷ cs) = bytes_after (leaves_in s c) cs

abbrev pub answers_to : List ℕ → List Call → List Answer
answers_to s [] = []
answers_to s (c ∷ cs) = answer_in s c ∷ answers_to (leaves_in s c) cs
