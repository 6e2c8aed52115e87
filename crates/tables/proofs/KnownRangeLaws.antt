-- Ranges and areas that are known by what they include. Nothing is below 0 or below the empty path, and every path has the empty one as
-- a prefix; and what is at least p and below the least valid path above p is p.
use Prim.Native.Nat.{ℕ, ◌<◌}
use mathlib.Core.Path.{◌≡◌, refl, sym, ap, subst}
use mathlib.Core.Logic.{◌⊎◌, inl, inr, ⊎_elim, ◌↔◌}
use mathlib.Core.Bool.{true, false≢true}
use mathlib.Core.List.{[]}
use mathlib.Core.Option.{Option, none, some}
use native.Mathlib.Omega.{arith}
use borrow.Author.Tests.{eqb-true, eq-eqb}
use Rattle.willow.specs.declared.AreaSubspace.{AreaSubspace}
use Rattle.willow.specs.declared.AreaSubspace.TheVariants.{Any, Id}
use Rattle.willow.specs.declared.Limits.{Limits}
use Rattle.willow.specs.Areas.{Triplet, InSubspace, InArea, full_area, subspace_area, is_any, is_subspace}
use Rattle.willow.specs.AreasOfInterest.{of_interest, full_of_interest}
use Rattle.tables.specs.KnownRanges.{singleton_range, KnownRanges}
use Rattle.willow.specs.LeastPaths.{Least, GreaterPath, successor}
use Rattle.willow.specs.Limits.{max_word}
use Rattle.willow.specs.Orders.{AtMost}
use Rattle.willow.specs.Paths.{Path, Valid, PathBelow, Prefix, compare_paths}
use Rattle.willow.specs.Ranges.{End, closed, endless, InRange, end_number}
use Rattle.willow.specs.Ranges3d.{InRange3d, full_range3d, end_at}
use Rattle.willow.proofs.LeastPathLaws.{least_paths}
use Rattle.willow.proofs.OrderLaws.{at_most_number, below_irreflexive, at_most_below}
use Rattle.willow.proofs.PathLaws.{path_order, prefix_at_most}

-- THE FULL ONES.
from_zero : (n : ℕ) → AtMost ◌<◌ 0 n
from_zero n = (at_most_number 0 n).1 (omega arith)

all_numbers : (n : ℕ) → InRange ◌<◌ (record { start = 0; end = endless }) n
all_numbers n = (from_zero n, tt)

empty_prefix : (p : Path) → Prefix [] p
empty_prefix p = (p, refl)

all_paths : (p : Path) → InRange PathBelow (record { start = []; end = endless }) p
all_paths p = (prefix_at_most [] p (empty_prefix p), tt)

all_of_area : (t : Triplet) → InArea full_area t
unfolding full_area
all_of_area t = record { subspace = tt; path = empty_prefix t.path; time = all_numbers t.time }

all_of_interest : (t : Triplet) → InArea full_of_interest.area t
unfolding full_of_interest of_interest
all_of_interest t = all_of_area t

all_of_range3d : (t : Triplet) → InRange3d full_range3d t
unfolding full_range3d
all_of_range3d t = record { subspace = all_numbers t.subspace; path = all_paths t.path; time = all_numbers t.time }

one_subspace : (i : ℕ) (t : Triplet) → InArea (subspace_area i) t ↔ (t.subspace ≡ i)
unfolding subspace_area
one_subspace i t = (λ a. a.subspace, λ e. record { subspace = e; path = empty_prefix t.path; time = all_numbers t.time })

-- ONE PATH.
module _ (L : Limits) (p q : Path) (v : Valid L q) where
  starts : (n : Option Path) → Least (GreaterPath L p) n → InRange PathBelow (record { start = p; end = end_at n }) q → q ≡ p
  starts none h (inl e, b) = sym e
  starts none h (inr a, b) = absurd (h q (v, a))
  starts (some r) h (inl e, b) = sym e
  starts (some r) h (inr a, b) = absurd (below_irreflexive compare_paths PathBelow path_order.means r (at_most_below compare_paths PathBelow path_order.means path_order.total r q r (h.1 q (v, a)) b))

  held : (n : Option Path) → Least (GreaterPath L p) n → q ≡ p → InRange PathBelow (record { start = p; end = end_at n }) q
  held none h e = (inl (sym e), tt)
  held (some r) h e = (inl (sym e), subst (λ x. PathBelow x r) (sym e) h.0.1)

one_path : (L : Limits) (p q : Path) → Valid L p → Valid L q → InRange PathBelow (singleton_range L p) q ↔ (q ≡ p)
one_path L p q u v =
    let h = (least_paths L).least_successor p u in
    (starts L p q v (successor L p) h, held L p q v (successor L p) h)

-- SUBSPACES.
any_means : (s : AreaSubspace) → (is_any s ≡ true) ↔ ((i : ℕ) → InSubspace s i)
any_means Any = (λ e i. tt, λ h. refl)
any_means (Id j) = (λ e. absurd (false≢true e), λ h. absurd (two (h 0) (h 1)))
  where
    two : 0 ≡ j → 1 ≡ j → ⊥
    two a b = omega arith

abbrev id_or : AreaSubspace → ℕ → ℕ
id_or Any n = n
id_or (Id j) n = j

any≢id : (i : ℕ) → Any ≡ Id i → ⊥
any≢id i e = let a = ap (λ s. id_or s 0) e in let b = ap (λ s. id_or s 1) e in omega arith

id_means : (s : AreaSubspace) (i : ℕ) → (is_subspace s i ≡ true) ↔ (s ≡ Id i)
id_means Any i = (λ e. absurd (false≢true e), λ h. absurd (any≢id i h))
id_means (Id j) i = (λ e. ap Id (eqb-true j i e), λ h. eq-eqb j i (ap (λ s. id_or s 0) h))

-- AN END AS A NUMBER.
abbrev is_closed : End ℕ → ℕ
is_closed (closed n) = 1
is_closed endless = 0

open≢closed : (n : ℕ) → endless ≡ closed n → ⊥
open≢closed n e = let z : ◌≡◌ {A = ℕ} 0 1 = ap is_closed e in omega arith

end_as_number : (e : End ℕ) (n : ℕ) → (end_number e ≡ n) ↔ ((e ≡ closed n) ⊎ ((e ≡ endless) × (n ≡ max_word)))
end_as_number (closed m) n = (λ h. inl (ap closed h), ⊎_elim (λ h. let s : m ≡ n = cc in s) (λ h. absurd (open≢closed m (sym h.0))))
end_as_number endless n = (λ h. inr (refl, sym h), ⊎_elim (λ h. absurd (open≢closed n h)) (λ h. sym h.1))

pub known_ranges : KnownRanges
known_ranges = record {
  all_of_area = all_of_area;
  all_of_interest = all_of_interest;
  all_of_range3d = all_of_range3d;
  one_subspace = one_subspace;
  one_path = one_path;
  any_means = any_means;
  id_means = id_means;
  end_as_number = end_as_number;
}
