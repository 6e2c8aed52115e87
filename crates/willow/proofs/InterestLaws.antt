-- Areas of interest: their areas intersect as areas do, and they are ordered as an area with a pair of numbers.
use Prim.Native.Nat.{ℕ, ◌<◌, min}
use mathlib.Core.Path.{◌≡◌, refl}
use mathlib.Core.Logic.{◌⊎◌, inl, inr}
use mathlib.Core.Option.{Option, none, some}
use mathlib.Core.Bool.{Bool, true, false}
use native.Mathlib.Omega.{arith}
use lib.Dec.{leb}
use borrow.Author.Tests.{leb-true, leb-false}
use Rattle.willow.specs.Areas.{Area, IsAreaIntersection, AreaBelow, area_intersection, compare_areas}
use Rattle.willow.specs.AreasOfInterest.{AreaOfInterest, smaller_bound, Smaller, interest_in, interest_intersection, compare_interest, IsInterestIntersection, InterestBelow, InterestLaws}
use Rattle.willow.specs.Orders.{Total, Decides, compare_numbers, compare_pairs, PairBelow}
use Rattle.willow.proofs.OrderLaws.{numbers_total, numbers_decided, pairs_total, pairs_decided, keyed_total, keyed_decided}
use Rattle.willow.proofs.AreaLaws.{areas_intersected, areas_total, areas_decided}

smaller : (m n : ℕ) → Smaller m n (smaller_bound m n)
smaller m n = (one (leb m n) refl, omega arith, omega arith)
  where
    one : (b : Bool) → leb m n ≡ b → (min m n ≡ m) ⊎ (min m n ≡ n)
    one true e = let h = leb-true m n e in inl (omega arith)
    one false e = let h = leb-false m n e in inr (omega arith)

intersected : (a b : AreaOfInterest) → IsInterestIntersection a b (interest_intersection a b)
unfolding interest_intersection
intersected a b = go (area_intersection a.area b.area) (areas_intersected a.area b.area)
  where
    go : (m : Option Area) → IsAreaIntersection a.area b.area m → IsInterestIntersection a b (interest_in a b m)
    go none h = h
    go (some m) h = (h, smaller a.max_count b.max_count, smaller a.max_size b.max_size)

-- THE ORDER: by a key of an area and two numbers.
abbrev key : AreaOfInterest → Area × (ℕ × ℕ)
key a = (a.area, (a.max_count, a.max_size))

interest_by_key : (a b : AreaOfInterest) → key a ≡ key b → a ≡ b
interest_by_key a b h = λ i. record { area = (h i).0; max_count = (h i).1.0; max_size = (h i).1.1 }

bounds_total : Total (compare_pairs compare_numbers compare_numbers)
bounds_total = pairs_total compare_numbers compare_numbers numbers_total numbers_total

keys_total : Total (compare_pairs compare_areas (compare_pairs compare_numbers compare_numbers))
keys_total = pairs_total compare_areas (compare_pairs compare_numbers compare_numbers) areas_total bounds_total

order_total : Total compare_interest
order_total = keyed_total key interest_by_key (compare_pairs compare_areas (compare_pairs compare_numbers compare_numbers)) keys_total

order_means : Decides compare_interest InterestBelow
order_means =
    keyed_decided key interest_by_key (compare_pairs compare_areas (compare_pairs compare_numbers compare_numbers)) keys_total (PairBelow AreaBelow (PairBelow ◌<◌ ◌<◌))
    (pairs_decided compare_areas (compare_pairs compare_numbers compare_numbers) areas_total bounds_total AreaBelow (PairBelow ◌<◌ ◌<◌) areas_decided
    (pairs_decided compare_numbers compare_numbers numbers_total numbers_total ◌<◌ ◌<◌ numbers_decided numbers_decided))

pub interest_laws : InterestLaws
interest_laws = record { intersected = intersected; order_total = order_total; order_means = order_means }
