-- What the intersection of two lent ranges answers: whose start and whose end stands. Where both are equal it is the second's, as in
-- an area intersection: "the second's if they are equal".
use Rattle.std.specs.Prelude.{◌≡◌, cond}
use Rattle.std.proofs.Math.Option.{Option, none, some}
use Rattle.std.specs.declared.cmp.Ordering.{Ordering}
use Rattle.willow.specs.Orders.{is_less, is_greater}
use Rattle.willow.specs.Ranges.{End, closed, endless, Range, compare_ends, intersection}
use Rattle.willow.specs.Refusals.{Outcome, absent, value}
use Rattle.path_range_intersection.specs.declared.Side.{Side}
use Rattle.path_range_intersection.specs.declared.Side.TheVariants.{First, Second}

-- WHAT THE SIDES STAND FOR: one of two starts, one of two ends or an open one.
abbrev pub start_at : {A : Type 0} → Side → A → A → A
start_at First a b = a
start_at Second a b = b

abbrev pub end_at : {A : Type 0} → End Side → End A → End A → End A
end_at (closed First) d e = d
end_at (closed Second) d e = e
end_at endless d e = endless

-- THE ANSWER. The later start: the first's only where it is above the second's.
abbrev pub later_side : {A : Type 0} → (A → A → Ordering) → A → A → Side
later_side compare a b = cond (is_greater (compare a b)) First Second

-- The sooner end: the first's only where it is below the second's; and else the second's, or open where that one is.
abbrev pub second_end : {A : Type 0} → End A → End Side
second_end (closed e) = closed Second
second_end endless = endless

abbrev pub end_side : {A : Type 0} → (A → A → Ordering) → End A → End A → End Side
end_side compare d e = cond (is_less (compare_ends compare d e)) (closed First) (second_end e)

abbrev pub sides_for : {A : Type 0} → (A → A → Ordering) → Range A → Range A → Option (Range A) → Outcome (Range Side)
sides_for compare r s none = absent
sides_for compare r s (some m) = value (record { start = later_side compare r.start s.start; end = end_side compare r.end s.end })

unfoldable pub sides_met : {A : Type 0} → (A → A → Ordering) → Range A → Range A → Outcome (Range Side)
sides_met compare r s = sides_for compare r s (intersection compare r s)

-- WHAT THE ANSWER MEANS, of the intersection that `willow` defines: there is none exactly if there is no intersection, and else
-- the sides stand for its start and its end. Where both inputs have the same start, or the same end, either side would stand for it:
-- there the second's is named, and an open end as open. So no other answer has this. It is true of the comparison of every total order,
-- as that of paths is.
pub record SidesTheorem {A : Type 0} (compare : A → A → Ordering) : Type 0 where
  pub none_met : (r s : Range A) → intersection compare r s ≡ none → sides_met compare r s ≡ absent
  pub sides_met_lem : (r s m : Range A) → intersection compare r s ≡ some m
      → (a : Side) × (e : End Side) × (sides_met compare r s ≡ value (record { start = a; end = e }))
      × (start_at a r.start s.start ≡ m.start) × (end_at e r.end s.end ≡ m.end)
      × (r.start ≡ s.start → a ≡ Second) × (r.end ≡ s.end → e ≡ second_end s.end)
