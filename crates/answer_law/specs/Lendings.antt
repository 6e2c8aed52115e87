-- A LIST OF OFFERS, each given the sheet as the one before left it, whatever follows the sheet in the buffer that each is lent; and that this
-- is the same as the whole buffer going from call to call where nothing else writes any of it.
use Rattle.std.specs.Prelude.{ℕ, ◌≡◌, List, [], ◌∷◌, ◌++◌, take}
use Rattle.willow.specs.Demand3.{CallPassed}
use Rattle.willow.specs.Lists.{All}
use Rattle.willow.specs.Store.{Sizes, State, Call, Answer}
use Rattle.store_form.specs.Stores.{store_layout, ProperStore}
use Rattle.store_law.specs.Offers.{answer_in, leaves_in, bytes_after, answers_to}
use Rattle.refusal_law.specs.Stores.{sheet_size}

-- A LENDING: a call, and the bytes that follow the sheet in the buffer that this call is lent. "Nobody else writing there" speaks of
-- the sheet. Two sheets may stand one behind the other in a caller's memory; a buffer that begins with the first then holds the
-- second too, and an offer to that one may come in between.
pub record Lending : Type 0 where
  pub call : Call
  pub behind : List ℕ

abbrev pub calls : List Lending → List Call
calls [] = []
calls (x ∷ xs) = x.call ∷ calls xs

-- What a call leaves of the buffer that it is lent, if the sheet in it is s; and the sheet in that, which has n bytes.
abbrev pub lent_leaves : List ℕ → Lending → List ℕ
lent_leaves s x = leaves_in (s ++ x.behind) x.call

abbrev pub next_sheet : ℕ → List ℕ → Lending → List ℕ
next_sheet n s x = take n (lent_leaves s x)

-- A LIST OF THEM, "each given the sheet as the one before left it": the sheet at its end, and the answers.
abbrev pub sheet_after : ℕ → List ℕ → List Lending → List ℕ
sheet_after n s [] = s
sheet_after n s (x ∷ xs) = sheet_after n (next_sheet n s x) xs

abbrev pub replies_to : ℕ → List ℕ → List Lending → List Answer
replies_to n s [] = []
replies_to n s (x ∷ xs) = answer_in (s ++ x.behind) x.call ∷ replies_to n (next_sheet n s x) xs

-- IN ONE BUFFER. Where every call is lent the same buffer, sheet and rest, and nothing else writes any of it, the whole buffer goes from
-- call to call (`bytes_after`, `answers_to`), and this is the same.
abbrev pub each_lent : List ℕ → List Call → List Lending
each_lent rest [] = []
each_lent rest (c ∷ cs) = record { call = c; behind = rest } ∷ each_lent rest cs

pub record SameInBuffer (n : ℕ) (sheet rest : List ℕ) (cs : List Call) : Type 0 where
  pub bytes : bytes_after (sheet ++ rest) cs ≡ sheet_after n sheet (each_lent rest cs) ++ rest
  pub answers : answers_to (sheet ++ rest) cs ≡ replies_to n sheet (each_lent rest cs)

-- The premises are met by limits, capacity and namespace 0, no entry, totals of 0 and no call.
abbrev pub OneBuffer : Type 0
OneBuffer = (z : Sizes) (t : State) (rest : List ℕ) (cs : List Call) → ProperStore z t → All CallPassed cs
    → SameInBuffer (sheet_size z) (store_layout z t) rest cs
