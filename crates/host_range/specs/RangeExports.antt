-- Ranges towards a host: three numbers, "kinds: end 0 open, 1 closed", in a question and in an answer.
use Rattle.std.specs.Prelude.{ℕ}
use Rattle.std.proofs.Math.Option.{Option, none, some}
use Rattle.willow.specs.Ranges.{End, Range, end_of, end_kind, end_value, end_from}
use Rattle.willow.specs.Refusals.{refusal_number, Outcome, refused, absent, value}
use Rattle.convention.specs.Exports.{answered_status, none_status}
use Rattle.range.specs.NumberRanges.{range_of}
use Rattle.kinds.specs.Kinds.{both, of_kinds, range_from}
use Rattle.host_range.specs.declared.RangeAnswer.{RangeAnswer}

-- Questions on one end, on two, on one range and on two.
abbrev pub on_end : {A : Type 0} → ℕ → ℕ → (End ℕ → Outcome A) → Outcome A
on_end kind n f = of_kinds (end_from kind n) f

abbrev pub on_ends : {A : Type 0} → ℕ → ℕ → ℕ → ℕ → (End ℕ → End ℕ → Outcome A) → Outcome A
on_ends j m k n f = of_kinds (both (end_from j m) (end_from k n)) (λ p. f p.0 p.1)

abbrev pub on_range : {A : Type 0} → ℕ → ℕ → ℕ → (Range ℕ → Outcome A) → Outcome A
on_range a kind n f = of_kinds (range_from a kind n) f

abbrev pub on_ranges : {A : Type 0} → ℕ → ℕ → ℕ → ℕ → ℕ → ℕ → (Range ℕ → Range ℕ → Outcome A) → Outcome A
on_ranges a j m b k n f = of_kinds (both (range_from a j m) (range_from b k n)) (λ p. f p.0 p.1)

-- A range as an answer: status first, and zeros unless there is one; "in an answer .. the number there is 0" beside kind 0.
abbrev pub no_range : ℕ → RangeAnswer
no_range status = record { status = status; start = 0; end_kind = 0; end = 0 }

abbrev pub given_range : Outcome (Range ℕ) → RangeAnswer
given_range (refused r) = no_range (refusal_number r)
given_range absent = no_range none_status
given_range (value r) = record { status = answered_status; start = r.start; end_kind = end_kind r.end; end = end_value r.end }
