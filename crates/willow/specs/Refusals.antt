-- What a call gives back: document 01's numbers, and the three kinds of outcome.
use Rattle.std.specs.Prelude.{ℕ}
use Rattle.willow.specs.declared.Refusal.{Refusal}
use Rattle.willow.specs.declared.Refusal.TheVariants.{BadLimits, BadSheet, BadKind, WrongNamespace, BadPath, BadLengths, PathTooLong, TooManyComponents, ComponentTooLong, NoSuchPrefix, Overfilled, Unfinished, TotalFull, NoRoom, OutTooSmall}

-- Document 01, "What a call gives back": the number of each refusal. No statement compares these numbers: which refusal is
-- given where several apply is said by the order in which a definition tests them.
abbrev pub refusal_number : Refusal → ℕ
refusal_number BadLimits = 1
refusal_number BadSheet = 2
refusal_number BadKind = 3
refusal_number WrongNamespace = 4
refusal_number BadPath = 5
refusal_number BadLengths = 6
refusal_number PathTooLong = 7
refusal_number TooManyComponents = 8
refusal_number ComponentTooLong = 9
refusal_number NoSuchPrefix = 10
refusal_number Overfilled = 11
refusal_number Unfinished = 12
refusal_number TotalFull = 13
refusal_number NoRoom = 14
refusal_number OutTooSmall = 15

-- A call is refused; or there is no such component, prefix, greater path or intersection ("None is no refusal"); or it
-- has a value.
pub data Outcome (A : Type 0) : Type 0 where
  refused : Refusal → Outcome A
  absent : Outcome A
  value : A → Outcome A
