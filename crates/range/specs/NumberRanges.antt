-- Ranges of the values of an order: what the code's values mean. The questions on ranges are defined in `willow`, for the values of
-- every order.
use Rattle.std.specs.Prelude.{ℕ, Bool, true, false, Option, None, Some}
use Rattle.willow.specs.Ranges.{End, closed, endless, Range, end_of}
use Rattle.range.specs.declared.Range as declared

-- The code's ranges, as ranges.
abbrev pub range_of : {A : Type 0} → declared.Range A → Range A
range_of r = record { start = r.start; end = end_of r.end }

-- `get_end`: the end value, none where the end is open.
abbrev pub end_value_of : {A : Type 0} → End A → Option A
end_value_of (closed e) = Some e
end_value_of endless = None

abbrev pub is_open : {A : Type 0} → End A → Bool
is_open (closed e) = false
is_open endless = true

-- The range of all numbers.
abbrev pub full_range : Range ℕ
full_range = record { start = 0; end = endless }
