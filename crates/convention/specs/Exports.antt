-- What an exported call returns: numbers alone, "status first". 0 says that there is an answer, the number of a refusal (1 to
-- 63) that the call was refused, 255 that there is none; the value behind it is 0 unless there is an answer.
use Rattle.std.specs.Prelude.{ℕ, Bool, true, false}
use Rattle.std.specs.Prelude as code
use Rattle.std.proofs.Math.Option.{Option, none, some}
use Rattle.willow.specs.declared.Limits.{Limits}
use Rattle.willow.specs.declared.Refusal.{Refusal}
use Rattle.willow.specs.Refusals.{refusal_number, Outcome, refused, absent, value}
use Rattle.convention.specs.declared.Answer.{Answer}

abbrev pub answered_status : ℕ
answered_status = 0

abbrev pub none_status : ℕ
none_status = 255

-- An outcome whose value becomes a number by `number`.
abbrev pub given : {A : Type 0} → (A → ℕ) → Outcome A → Answer
given number (refused r) = record { status = refusal_number r; value = 0 }
given number absent = record { status = none_status; value = 0 }
given number (value x) = record { status = answered_status; value = number x }

-- What there may not be: it, or the status that says why it is not there.
abbrev pub value_or_status : {A : Type 0} → code.Result (code.Option A) Refusal → code.Result A ℕ
value_or_status (code.Err r) = code.Err (refusal_number r)
value_or_status (code.Ok code.None) = code.Err none_status
value_or_status (code.Ok (code.Some x)) = code.Ok x

-- A number stands for itself; no is 0 and yes is 1.
abbrev pub itself : ℕ → ℕ
itself n = n

abbrev pub yes_number : Bool → ℕ
yes_number false = 0
yes_number true = 1

-- A test: 0 where it refuses nothing.
abbrev pub refusal_status : Option Refusal → ℕ
refusal_status none = answered_status
refusal_status (some r) = refusal_number r

-- Limits that are passed as three numbers.
abbrev pub limits_of : ℕ → ℕ → ℕ → Limits
limits_of mcl mcc mpl = record { mcl = mcl; mcc = mcc; mpl = mpl }
