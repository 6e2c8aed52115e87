-- Two lists are compared from an index on: a turn compares the elements there and goes on behind them, until a list ends. The
-- library compares slices as the theory compares components.
use Prim.Native.Nat.{ℕ, suc, ◌+◌, ◌≤◌, ◌<◌}
use mathlib.Core.Path.{◌≡◌, refl, ap}
use mathlib.Core.List.{List, [], ◌∷◌}
use mathlib.Core.Bool.{false}
use native.Mathlib.Omega.{arith}
use native.Mathlib.Numerals.{add-one}
use lib.ListN.{length, drop, get_or, drop_of_length-le}
use lib.Seq.{drop-cons}
use Rattle.std.specs.Cmp.Lexicographic.{slice_cmp, pointwise}
use Rattle.std.specs.Ordering.{nat_cmp, ordering_then}
use Rattle.std.proofs.lemmas.Bool.Decides.{nat_tests}
use lib.Dec.{eqb}
use Rattle.std.specs.declared.cmp.Ordering.{Ordering}
use Rattle.std.specs.declared.cmp.Ordering.TheVariants.{Less, Equal, Greater}
use Rattle.willow.specs.Orders.{is_equal, then, compare_numbers, compare_lists}
use Rattle.willow.specs.Paths.{compare_components}

-- LISTS FROM AN INDEX ON, over any comparison of their elements.
module _ {A : Type 0} (compare : A → A → Ordering) (x y : List A) (i : ℕ) where
  -- a turn, by what the comparison of the elements at i answered
  pub lists_by : (d : A) (o : Ordering) → i < length x → i < length y → o ≡ compare (get_or x i d) (get_or y i d)
      → compare_lists compare (drop i x) (drop i y) ≡ then o (compare_lists compare (drop (i + 1) x) (drop (i + 1) y))
  lists_by d o p q e = rw (add-one i, drop-cons x i d p, drop-cons y i d q, e)

  -- the second has ended, the first has, both have
  pub lists_longer : (d : A) → i < length x → length y ≤ i → compare_lists compare (drop i x) (drop i y) ≡ Greater
  lists_longer d p q = rw (drop-cons x i d p, drop_of_length-le y q)

  pub lists_shorter : (d : A) → length x ≤ i → i < length y → compare_lists compare (drop i x) (drop i y) ≡ Less
  lists_shorter d p q = rw (drop_of_length-le x p, drop-cons y i d q)

  pub lists_ended : length x ≤ i → length y ≤ i → compare_lists compare (drop i x) (drop i y) ≡ Equal
  lists_ended p q = rw (drop_of_length-le x p, drop_of_length-le y q)

-- LISTS OF DIFFERENT LENGTHS are not equal.
pub lists_apart : {A : Type 0} (compare : A → A → Ordering) (x y : List A) → (length x ≡ length y → ⊥) → is_equal (compare_lists compare x y) ≡ false
lists_apart compare [] [] n = absurd (n refl)
lists_apart compare [] (b ∷ y) n = refl
lists_apart compare (a ∷ x) [] n = refl
lists_apart compare (a ∷ x) (b ∷ y) n = go (compare a b) (lists_apart compare x y (λ e. n (ap suc e)))
  where
    go : (o : Ordering) → is_equal (compare_lists compare x y) ≡ false → is_equal (then o (compare_lists compare x y)) ≡ false
    go Less h = refl
    go Equal h = h
    go Greater h = refl

-- THE LIBRARY'S ORDER of slices, and its equality.
pub slices_ordered : (x y : List ℕ) → slice_cmp nat_cmp x y ≡ compare_components x y
unfolding compare_numbers
slices_ordered [] [] = refl
slices_ordered [] (b ∷ y) = refl
slices_ordered (a ∷ x) [] = refl
slices_ordered (a ∷ x) (b ∷ y) = go (nat_cmp a b) (slices_ordered x y)
  where
    go : (o : Ordering) → slice_cmp nat_cmp x y ≡ compare_components x y → ordering_then o (slice_cmp nat_cmp x y) ≡ then o (compare_components x y)
    go Less h = refl
    go Equal h = h
    go Greater h = refl

pub slices_equal : (x y : List ℕ) → pointwise eqb x y ≡ is_equal (compare_components x y)
unfolding compare_numbers
slices_equal [] [] = refl
slices_equal [] (b ∷ y) = refl
slices_equal (a ∷ x) [] = refl
slices_equal (a ∷ x) (b ∷ y) =
    let ih = slices_equal x y in
    grind (arith, nat_tests, ih)
