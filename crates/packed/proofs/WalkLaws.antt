-- Two paths are walked side by side from an index on: a turn meets their components there, and each of the two ends. What
-- the walk counts then answers the questions of equality, prefix and relatedness.
use Rattle.std.proofs.Common.{◌≡◌, ℕ, suc, ◌+◌, ◌<◌, ◌≤◌, Bool, true, false, cond, ◌&&◌, ◌||◌, eqb, [], ◌∷◌, length, get_or, drop, sym, refl, ◌∙◌, ap₂, add-one, arith, drop_of_length-le, drop-cons, eq-eqb, ne_eqb}
use lib.Dec.{eqb-zero-suc, eqb-suc-suc}
use Rattle.std.specs.Ordering.{MatchOrdering, is_ne, nat_cmp}
use Rattle.std.proofs.lemmas.Cmp.{ranked}
use native.Mathlib.Decide.{dec_lt}
use mathlib.Core.Bool.{false≢true}
use Prim.Native.Nat.{min}
use Rattle.std.specs.declared.cmp.Ordering.{Ordering}
use Rattle.std.specs.declared.cmp.Ordering.TheVariants.{Less, Equal, Greater}
use Rattle.willow.specs.Orders.{is_equal, reverse, then}
use Rattle.willow.specs.Paths.{Component, Path, compare_components, compare_paths, is_prefix_of, is_related, common_count}
use Rattle.willow.proofs.PathLaws.{components_total, common_means}
use Rattle.component.proofs.ComponentLaws.{lists_by, lists_longer, lists_shorter, lists_ended, lists_apart}
use Rattle.packed.specs.declared.lent.LentPath.{LentPath}
use Rattle.packed.specs.LentPaths.{path_of}
use Rattle.packed.proofs.PrefixLaws.{front}

-- WHICH OF TWO ANSWERS DECIDES.
then_decided : (o r : Ordering) → is_ne o ≡ true → then o r ≡ o
then_decided Less r n = refl
then_decided Equal r n = absurd (false≢true n)
then_decided Greater r n = refl

then_passed : (o r : Ordering) → is_ne o ≡ false → then o r ≡ r
then_passed Less r n = absurd (false≢true (sym n))
then_passed Equal r n = refl
then_passed Greater r n = absurd (false≢true (sym n))

-- TWO PATHS FROM i ON: x and y are the components that were read there.
module _ (p q : Path) (i : ℕ) where
  module _ (x y : Component) (h : i < length p) (k : i < length q) (ex : x ≡ get_or p i []) (ey : y ≡ get_or q i []) where
    compare_turn : (o : Ordering) → o ≡ compare_components x y → compare_paths (drop i p) (drop i q) ≡ then o (compare_paths (drop (i + 1) p) (drop (i + 1) q))
    compare_turn o e = lists_by compare_components p q i [] o h k (e ∙ ap₂ compare_components ex ey)

    -- components that are not equal decide, and behind others the rest does
    pub compare_decided : (o : Ordering) → o ≡ compare_components x y → is_ne o ≡ true → compare_paths (drop i p) (drop i q) ≡ o
    compare_decided o e n = compare_turn o e ∙ then_decided o (compare_paths (drop (i + 1) p) (drop (i + 1) q)) n

    pub compare_passed : (o : Ordering) → o ≡ compare_components x y → is_ne o ≡ false
        → compare_paths (drop i p) (drop i q) ≡ compare_paths (drop (i + 1) p) (drop (i + 1) q)
    compare_passed o e n = compare_turn o e ∙ then_passed o (compare_paths (drop (i + 1) p) (drop (i + 1) q)) n

    pub common_turn : (same : Bool) → same ≡ is_equal (compare_components x y)
        → common_count (drop i p) (drop i q) ≡ cond same (suc (common_count (drop (i + 1) p) (drop (i + 1) q))) 0
    common_turn same e = rw (add-one i, drop-cons p i [] h, drop-cons q i [] k, e, ex, ey)

  -- where one of them has ended, or both
  pub common_over : min (length p) (length q) ≤ i → common_count (drop i p) (drop i q) ≡ 0
  common_over h = elim (dec_lt i (length p)) [
    | yes k ↦ let past : length q ≤ i = omega arith in rw (drop-cons p i [] k, drop_of_length-le q past)
    | no k ↦ let past : length p ≤ i = omega arith in rw (drop_of_length-le p past)
  ]

  pub compare_over : (o : Ordering) → o ≡ nat_cmp (length p) (length q) → i ≡ min (length p) (length q) → compare_paths (drop i p) (drop i q) ≡ o
  compare_over o e m = go o (ranked (length p) (length q) o e)
    where
      go : (o : Ordering) → MatchOrdering o (length p < length q) (length p ≡ length q) (length q < length p) → compare_paths (drop i p) (drop i q) ≡ o
      go Less h = lists_shorter compare_components p q i [] (omega arith) (omega arith)
      go Equal h = lists_ended compare_components p q i (omega arith) (omega arith)
      go Greater h = lists_longer compare_components p q i [] (omega arith) (omega arith)

-- WHAT THE COUNT SAYS. The first is a prefix exactly if all of its components are common.
pub prefix_by_count : (p q : Path) → is_prefix_of p q ≡ eqb (common_count p q) (length p)
prefix_by_count [] q = refl
prefix_by_count (c ∷ cs) [] = sym (eqb-zero-suc (length cs))
prefix_by_count (c ∷ cs) (d ∷ ds) = go (compare_components c d) (prefix_by_count cs ds)
  where
    go : (o : Ordering) → is_prefix_of cs ds ≡ eqb (common_count cs ds) (length cs)
        → is_equal o && is_prefix_of cs ds ≡ eqb (cond (is_equal o) (suc (common_count cs ds)) 0) (suc (length cs))
    go Less h = sym (eqb-zero-suc (length cs))
    go Equal h = h ∙ sym (eqb-suc-suc (common_count cs ds) (length cs))
    go Greater h = sym (eqb-zero-suc (length cs))

-- a longer one is no prefix
pub prefix_longer : (p q : Path) → length q < length p → is_prefix_of p q ≡ false
prefix_longer p q h =
    let k = (common_means p q).of_second in
    prefix_by_count p q ∙ ne_eqb (common_count p q) (length p) (λ e. omega arith)

-- Two of one length are equal exactly if the first is a prefix.
pub equal_by_prefix : (p q : Path) → length p ≡ length q → is_equal (compare_paths p q) ≡ is_prefix_of p q
equal_by_prefix [] [] e = refl
equal_by_prefix [] (d ∷ ds) e = absurd (omega arith)
equal_by_prefix (c ∷ cs) [] e = absurd (omega arith)
equal_by_prefix (c ∷ cs) (d ∷ ds) e = go (compare_components c d) (equal_by_prefix cs ds (omega arith))
  where
    go : (o : Ordering) → is_equal (compare_paths cs ds) ≡ is_prefix_of cs ds → is_equal (then o (compare_paths cs ds)) ≡ is_equal o && is_prefix_of cs ds
    go Less h = refl
    go Equal h = h
    go Greater h = refl

-- The count is the same the other way round, so that the two are related exactly if it is one of the lengths.
equal_reverse : (o : Ordering) → is_equal (reverse o) ≡ is_equal o
equal_reverse Less = refl
equal_reverse Equal = refl
equal_reverse Greater = refl

pub common_flip : (p q : Path) → common_count q p ≡ common_count p q
common_flip [] [] = refl
common_flip [] (d ∷ ds) = refl
common_flip (c ∷ cs) [] = refl
common_flip (c ∷ cs) (d ∷ ds) = rw (components_total.flip c d, equal_reverse (compare_components c d), common_flip cs ds)

pub related_by_count : (p q : Path) → is_related p q ≡ eqb (common_count p q) (length p) || eqb (common_count p q) (length q)
unfolding is_related
related_by_count p q = rw (prefix_by_count p q, prefix_by_count q p, common_flip p q)

-- THE ANSWERS of two lent paths, which have as many components as they count: n is how many they have in common.
pub counted : (p : LentPath) → length (path_of p) ≡ p.count
counted p = (front p.bytes.now p.count p.readable).count

module _ (p q : LentPath) where
  -- of different counts they are not equal, and a longer one is no prefix
  pub not_equal : (p.count ≡ q.count → ⊥) → is_equal (compare_paths (path_of p) (path_of q)) ≡ false
  not_equal d = lists_apart compare_components (path_of p) (path_of q) (λ e. d (sym (counted p) ∙ e ∙ counted q))

  pub not_prefix : q.count < p.count → is_prefix_of (path_of p) (path_of q) ≡ false
  not_prefix h = prefix_longer (path_of p) (path_of q) (omega (arith, counted p, counted q))

  module _ (n : ℕ) (e : n ≡ common_count (path_of p) (path_of q)) where
    pub prefix_counted : is_prefix_of (path_of p) (path_of q) ≡ eqb n p.count
    prefix_counted = prefix_by_count (path_of p) (path_of q) ∙ ap₂ eqb (sym e) (counted p)

    pub equal_counted : p.count ≡ q.count → is_equal (compare_paths (path_of p) (path_of q)) ≡ eqb n p.count
    equal_counted h = equal_by_prefix (path_of p) (path_of q) (counted p ∙ h ∙ sym (counted q)) ∙ prefix_counted

    related_counted : is_related (path_of p) (path_of q) ≡ eqb n p.count || eqb n q.count
    related_counted = related_by_count (path_of p) (path_of q) ∙ ap₂ ◌||◌ (ap₂ eqb (sym e) (counted p)) (ap₂ eqb (sym e) (counted q))

    pub related_first : n ≡ p.count → is_related (path_of p) (path_of q) ≡ eqb n p.count
    related_first h = related_counted ∙ rw (eq-eqb n p.count h)

    pub related_second : (n ≡ p.count → ⊥) → is_related (path_of p) (path_of q) ≡ eqb n q.count
    related_second d = related_counted ∙ rw (ne_eqb n p.count d)
