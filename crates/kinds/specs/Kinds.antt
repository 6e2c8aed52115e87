-- Questions whose arguments come with kinds as numbers.
use Rattle.std.specs.Prelude.{ℕ}
use Rattle.std.proofs.Math.Option.{Option, none, some}
use Rattle.willow.specs.declared.Limits.{Limits}
use Rattle.willow.specs.declared.Refusal.TheVariants.{BadKind}
use Rattle.willow.specs.Answers.{unless, limits_refusal}
use Rattle.willow.specs.Ranges.{End, Range, end_from}
use Rattle.willow.specs.Refusals.{Outcome, refused}

-- "3 BadKind: a kind number passed to a call is neither 0 nor 1"; or the question on what the kinds stand for.
abbrev pub of_kinds : {A B : Type 0} → Option B → (B → Outcome A) → Outcome A
of_kinds none f = refused BadKind
of_kinds (some b) f = f b

-- With limits: 1, then 3, and only then what is asked.
unfoldable pub on_kinds : {A B : Type 0} → Limits → Option B → (B → Outcome A) → Outcome A
on_kinds L b f = unless (limits_refusal L) (of_kinds b f)

-- Two of them, the first tested first.
abbrev pub both : {A B : Type 0} → Option A → Option B → Option (A × B)
both none y = none
both (some x) none = none
both (some x) (some y) = some (x, y)

-- The range that three numbers stand for; none where refusal 3 is due.
abbrev pub from_start : ℕ → Option (End ℕ) → Option (Range ℕ)
from_start a none = none
from_start a (some e) = some (record { start = a; end = e })

abbrev pub range_from : ℕ → ℕ → ℕ → Option (Range ℕ)
range_from a kind n = from_start a (end_from kind n)
