-- An end beside a value (`PartialEq` and `PartialOrd` of range.rs between `RangeEnd` and a value), for the values of an order.
use Rattle.std.specs.Prelude.{Bool, false}
use Rattle.std.specs.declared.cmp.Ordering.{Ordering}
use Rattle.std.specs.declared.cmp.Ordering.TheVariants.{Less, Greater}
use Rattle.willow.specs.Orders.{is_equal}
use Rattle.willow.specs.Ranges.{End, closed, endless}

-- "Open being greatest": an open end is above every value ..
abbrev pub compare_end_value : {A : Type 0} → (A → A → Ordering) → End A → A → Ordering
compare_end_value compare (closed e) x = compare e x
compare_end_value compare endless x = Greater

-- .. and every value is below it,
abbrev pub compare_value_end : {A : Type 0} → (A → A → Ordering) → A → End A → Ordering
compare_value_end compare x (closed e) = compare x e
compare_value_end compare x endless = Less

-- and it equals none.
abbrev pub is_end_value : {A : Type 0} → (A → A → Ordering) → End A → A → Bool
is_end_value compare (closed e) x = is_equal (compare e x)
is_end_value compare endless x = false
