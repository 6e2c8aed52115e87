-- Ranges of values that stand for others, as a lent path stands for a path, and are ordered as those are.
use Rattle.willow.specs.Ranges.{End, closed, endless, Range}

-- The end, and the range, of what the values stand for.
abbrev pub end_by : {A B : Type 0} → (A → B) → End A → End B
end_by f (closed x) = closed (f x)
end_by f endless = endless

abbrev pub range_by : {A B : Type 0} → (A → B) → Range A → Range B
range_by f r = record { start = f r.start; end = end_by f r.end }
