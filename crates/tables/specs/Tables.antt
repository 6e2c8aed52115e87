-- Document 01's table, as one statement for every call: "when several numbers apply, the smallest is given".
use Rattle.std.specs.Prelude.{ℕ, ◌+◌, ◌<◌, ◌≡◌, ◌⊎◌, ◌↔◌, List, [], ◌∷◌, cond, eqb}
use Rattle.std.proofs.Math.Option.{Option, none, some}
use Rattle.willow.specs.declared.Refusal.{Refusal}
use Rattle.willow.specs.declared.Refusal.TheVariants.{BadLimits, BadSheet, BadKind, WrongNamespace, BadPath, BadLengths, PathTooLong, TooManyComponents, ComponentTooLong, NoSuchPrefix, Overfilled, Unfinished, TotalFull, NoRoom, OutTooSmall}
use Rattle.willow.specs.Refusals.{refusal_number, Outcome, refused, absent, value}

-- THE ORDER OF THE TESTS, by which every table is judged.
abbrev pub order : List Refusal
order =
    BadLimits ∷ BadSheet ∷ BadKind ∷ WrongNamespace ∷ BadPath ∷ BadLengths ∷ PathTooLong ∷ TooManyComponents ∷ ComponentTooLong
    ∷ NoSuchPrefix ∷ Overfilled ∷ Unfinished ∷ TotalFull ∷ NoRoom ∷ OutTooSmall ∷ []

-- The place of r in such a list, from 0; their numbers tell refusals apart.
abbrev pub place : Refusal → List Refusal → ℕ
place r [] = 0
place r (s ∷ ss) = cond (eqb (refusal_number r) (refusal_number s)) 0 (1 + place r ss)

-- r is tested before s.
abbrev pub Before : Refusal → Refusal → Type 0
Before r s = place r order < place s order

-- A ROW: a refusal, and "exactly when" it applies. A call's table is the list of the rows that it can meet.
infix 68 ◌when◌
pub data Row : Type 1 where
  ◌when◌ : Refusal → Type 0 → Row

-- The refusal r applies: the condition of a row of r holds.
abbrev pub Applies : List Row → Refusal → Type 0
Applies [] r = ⊥
Applies (s when condition ∷ rows) r = ((r ≡ s) × condition) ⊎ Applies rows r

-- THE STATEMENT. A refusal is given exactly if it applies and none that is tested before it does, and none is given exactly if
-- none applies. In which sequence the rows are written plays no part.
pub record AnsweredBy (rows : List Row) (given : Option Refusal) : Type 0 where
  pub first : (r : Refusal) → (given ≡ some r) ↔ (Applies rows r × ((s : Refusal) → Before s r → Applies rows s → ⊥))
  pub fine : (given ≡ none) ↔ ((r : Refusal) → Applies rows r → ⊥)

-- The refusal in an outcome.
abbrev pub refusal_of : {A : Type 0} → Outcome A → Option Refusal
refusal_of (refused r) = some r
refusal_of absent = none
refusal_of (value x) = none

-- WHAT THE STATEMENT IS WORTH. The order is the one of the numbers; a table leaves one answer; and tables in which the same
-- refusals apply are one table: so rows may be exchanged, and one whose condition is impossible may be left out.
pub record Tables : Type 1 where
  pub by_number : (r s : Refusal) → Before r s ↔ (refusal_number r < refusal_number s)
  pub one_answer : (rows : List Row) (a b : Option Refusal) → AnsweredBy rows a → AnsweredBy rows b → a ≡ b
  pub same_rows : (rows others : List Row) → ((r : Refusal) → Applies rows r ↔ Applies others r)
      → (a : Option Refusal) → AnsweredBy rows a → AnsweredBy others a
