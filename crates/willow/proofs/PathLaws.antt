-- Theorems 1 and 2: the order of paths is that of lists over the order of components, which is that of lists over numbers; and
-- the test of a prefix finds the rest, component by component. The laws of prefixes beside the order are said for lists.
use Prim.Native.Nat.{ℕ, zero, suc, ◌<◌, ◌≤◌}
use mathlib.Core.Path.{◌≡◌, refl, sym, ◌∙◌, ap}
use mathlib.Core.Logic.{◌⊎◌, inl, inr, ◌↔◌}
use mathlib.Core.List.{List, [], ◌∷◌, ◌++◌, append_assoc, append-nil}
use mathlib.Core.Bool.{Bool, true, false, ◌&&◌, cond, true≢false, false≢true}
use native.Mathlib.Omega.{arith}
use lib.ListN.{length, take, drop, length-append, take-append-drop}
use lib.Seq.{take_at, length-take-le}
use Rattle.std.specs.declared.cmp.Ordering.{Ordering}
use Rattle.std.specs.declared.cmp.Ordering.TheVariants.{Less, Equal, Greater}
use Rattle.willow.specs.Orders.{is_equal, reverse, then, Total, Decides, AtMost, compare_numbers, compare_lists}
use Rattle.willow.specs.Paths.{Path, compare_components, compare_paths, ComponentBelow, PathBelow, PathOrder, Prefix, is_prefix, is_prefix_of, Related, is_related, common_count, common_prefix, Common, PathPrefix}
use Rattle.willow.proofs.Bools.{both_true, either_true, true_left, true_right, not_true_false, decided_false}
use Rattle.willow.proofs.OrderLaws.{less≢equal, less≢greater, equal≢greater, is_equal_true, then_less, less_flip, equal_by, numbers_total, numbers_decided, lists_total, lists_decided, not_below_nil, below_asymmetric}

pub components_total : Total compare_components
components_total = lists_total compare_numbers numbers_total

pub components_decided : Decides compare_components ComponentBelow
components_decided = lists_decided compare_numbers numbers_total ◌<◌ numbers_decided

pub paths_total : Total compare_paths
paths_total = lists_total compare_components components_total

pub paths_decided : Decides compare_paths PathBelow
paths_decided = lists_decided compare_components components_total ComponentBelow components_decided

-- THEOREM 1.
pub path_order : PathOrder
path_order = record { total = paths_total; means = paths_decided }

-- PREFIXES OF LISTS, as tests.
equal_and : (o : Ordering) (b : Bool) → is_equal o && b ≡ true → (o ≡ Equal) × (b ≡ true)
equal_and o b h = let r = both_true (is_equal o) b h in (is_equal_true o r.0, r.1)

module _ {A : Type 0} (compare : A → A → Ordering) (t : Total compare) where
  -- l prefixes r exactly if r is l and something behind it
  pub prefix_of_lem : (l q : List A) → is_prefix compare l (l ++ q) ≡ true
  prefix_of_lem [] q = refl
  prefix_of_lem (x ∷ xs) q = rw (t.self x) (prefix_of_lem xs q)

  pub prefix_rest : (l r : List A) → is_prefix compare l r ≡ true → (q : List A) × (l ++ q ≡ r)
  prefix_rest [] r h = (r, refl)
  prefix_rest (x ∷ xs) [] h = absurd (false≢true h)
  prefix_rest (x ∷ xs) (y ∷ ys) h =
      let b = equal_and (compare x y) (is_prefix compare xs ys) h in
      let e = t.same x y b.0 in
      let k = prefix_rest xs ys b.1 in
      let f = k.1 in
      (k.0, cc)

  -- a prefix is equal, or smaller and shorter
  pub prefix_cases : (l r : List A) → is_prefix compare l r ≡ true → (l ≡ r) ⊎ ((compare_lists compare l r ≡ Less) × (length l < length r))
  prefix_cases [] [] h = inl refl
  prefix_cases [] (y ∷ ys) h = inr (refl, omega arith)
  prefix_cases (x ∷ xs) [] h = absurd (false≢true h)
  prefix_cases (x ∷ xs) (y ∷ ys) h =
      let b = equal_and (compare x y) (is_prefix compare xs ys) h in
      go (t.same x y b.0) b.0 (prefix_cases xs ys b.1)
    where
      go : x ≡ y → compare x y ≡ Equal → (xs ≡ ys) ⊎ ((compare_lists compare xs ys ≡ Less) × (length xs < length ys))
          → (x ∷ xs ≡ y ∷ ys) ⊎ ((then (compare x y) (compare_lists compare xs ys) ≡ Less) × (length (x ∷ xs) < length (y ∷ ys)))
      go e c (inl k) = inl cc
      go e c (inr k) = inr (rw c k.0, omega arith)

  -- l with a least element behind it is the least above l
  pub snoc_above : (l : List A) (z : A) → compare_lists compare l (l ++ (z ∷ [])) ≡ Less
  snoc_above [] z = refl
  snoc_above (x ∷ xs) z = rw (t.self x) (snoc_above xs z)

  pub snoc_least : (z : A) → ((a : A) → compare a z ≡ Less → ⊥) → (l r : List A) → compare_lists compare l r ≡ Less
      → compare_lists compare r (l ++ (z ∷ [])) ≡ Less → ⊥
  snoc_least z low [] [] h k = less≢equal (sym h)
  snoc_least z low [] (y ∷ ys) h k = elim (then_less (compare y z) (compare_lists compare ys []) k) [
    | inl e ↦ low y e
    | inr e ↦ not_below_nil compare t ys e.1
  ]
  snoc_least z low (x ∷ xs) [] h k = less≢greater (sym h)
  snoc_least z low (x ∷ xs) (y ∷ ys) h k =
      go (then_less (compare x y) (compare_lists compare xs ys) h) (then_less (compare y x) (compare_lists compare ys (xs ++ (z ∷ []))) k) (snoc_least z low xs ys)
    where
      go : (compare x y ≡ Less) ⊎ ((compare x y ≡ Equal) × (compare_lists compare xs ys ≡ Less))
          → (compare y x ≡ Less) ⊎ ((compare y x ≡ Equal) × (compare_lists compare ys (xs ++ (z ∷ [])) ≡ Less))
          → (compare_lists compare xs ys ≡ Less → compare_lists compare ys (xs ++ (z ∷ [])) ≡ Less → ⊥) → ⊥
      go (inl a) (inl b) ih = less≢greater (sym b ∙ less_flip compare t x y a)
      go (inl a) (inr b) ih = equal≢greater (sym b.0 ∙ less_flip compare t x y a)
      go (inr a) (inl b) ih = less≢equal (sym b ∙ t.flip x y ∙ ap reverse a.0)
      go (inr a) (inr b) ih = ih a.1 b.1

  -- what is above l and no longer than l is not prefixed by l
  pub above_short : (l r : List A) → compare_lists compare l r ≡ Less → (length l < length r → ⊥) → is_prefix compare l r ≡ false
  above_short l r h k = not_true_false (is_prefix compare l r) (λ e. fin (prefix_cases l r e))
    where
      fin : (l ≡ r) ⊎ ((compare_lists compare l r ≡ Less) × (length l < length r)) → ⊥
      fin (inl e) = less≢equal (sym h ∙ equal_by (compare_lists compare) (lists_total compare t) l r e)
      fin (inr e) = k e.1

  -- whatever l prefixes is below all that is above l and that l does not prefix
  pub block : (l r q : List A) → is_prefix compare l r ≡ true → is_prefix compare l q ≡ false → compare_lists compare l q ≡ Less → compare_lists compare r q ≡ Less
  block [] r q h k e = absurd (true≢false k)
  block (x ∷ xs) [] q h k e = absurd (false≢true h)
  block (x ∷ xs) (y ∷ ys) [] h k e = absurd (less≢greater (sym e))
  block (x ∷ xs) (y ∷ ys) (z ∷ zs) h k e =
      let b = equal_and (compare x y) (is_prefix compare xs ys) h in
      go (t.same x y b.0) (then_less (compare x z) (compare_lists compare xs zs) e) (block xs ys zs b.1)
    where
      go : x ≡ y → (compare x z ≡ Less) ⊎ ((compare x z ≡ Equal) × (compare_lists compare xs zs ≡ Less))
          → (is_prefix compare xs zs ≡ false → compare_lists compare xs zs ≡ Less → compare_lists compare ys zs ≡ Less) → then (compare y z) (compare_lists compare ys zs) ≡ Less
      go f (inl a) ih = rw (← f, a)
      go f (inr a) ih = rw (← f, a.0) (ih (rw a.0 at k) a.1)

-- PREFIXES OF PATHS, by meaning.
pub prefix_means : (p q : Path) → (is_prefix_of p q ≡ true) ↔ Prefix p q
prefix_means p q = (prefix_rest compare_components components_total p q, λ r. rw (← r.1) (prefix_of_lem compare_components components_total p r.0))

pub prefix_fails : (p q : Path) → (is_prefix_of p q ≡ false) ↔ (Prefix p q → ⊥)
prefix_fails p q = decided_false (is_prefix_of p q) (prefix_means p q)

pub prefix_self : (p : Path) → Prefix p p
prefix_self p = ([], append-nil p)

pub prefix_transitive : (p q r : Path) → Prefix p q → Prefix q r → Prefix p r
prefix_transitive p q r a b = (a.0 ++ b.0, sym (append_assoc p a.0 b.0) ∙ ap (λ x. x ++ b.0) a.1 ∙ b.1)

pub prefix_shorter : (p q : Path) → Prefix p q → length p ≤ length q
prefix_shorter p q a = let l = length-append p a.0 in let e = ap length a.1 in omega arith

pub prefix_at_most : (p q : Path) → Prefix p q → AtMost PathBelow p q
prefix_at_most p q a = elim (prefix_cases compare_components components_total p q ((prefix_means p q).1 a)) [
  | inl e ↦ inl e
  | inr e ↦ inr ((paths_decided.less p q).0 e.0)
]

pub prefix_antisymmetric : (p q : Path) → Prefix p q → Prefix q p → p ≡ q
prefix_antisymmetric p q a b = go (prefix_at_most p q a) (prefix_at_most q p b)
  where
    go : AtMost PathBelow p q → AtMost PathBelow q p → p ≡ q
    go (inl e) b = e
    go (inr a) (inl e) = sym e
    go (inr a) (inr b) = absurd (below_asymmetric compare_paths PathBelow paths_decided p q a b)

pub prefix_block : (p r q : Path) → Prefix p r → (Prefix p q → ⊥) → PathBelow p q → PathBelow r q
prefix_block p r q a n b =
    (paths_decided.less r q).0
    (block compare_components components_total p r q ((prefix_means p r).1 a) ((prefix_fails p q).1 n) ((paths_decided.less p q).1 b))

-- Two prefixes of one path are related.
pub prefixes_related : (p q r : Path) → Prefix p r → Prefix q r → Related p q
prefixes_related [] q r a b = inl (q, refl)
prefixes_related (c ∷ cs) [] r a b = inr (c ∷ cs, refl)
prefixes_related (c ∷ cs) (d ∷ ds) [] a b = let e = a.1 in let z : ◌≡◌ {A = ℕ} 0 1 = cc in absurd (omega arith)
prefixes_related (c ∷ cs) (d ∷ ds) (f ∷ fs) a b =
    let x = a.1 in
    let y = b.1 in
    let h : c ≡ d = cc in
    let k : cs ++ a.0 ≡ fs = cc in
    let l : ds ++ b.0 ≡ fs = cc in
    elim (prefixes_related cs ds fs (a.0, k) (b.0, l)) [
      | inl m ↦ let e = m.1 in inl (m.0, cc)
      | inr m ↦ let e = m.1 in inr (m.0, cc)
    ]

pub related_means : (p q : Path) → (is_related p q ≡ true) ↔ Related p q
unfolding is_related
related_means p q = (λ e. to (either_true (is_prefix_of p q) (is_prefix_of q p) e), from)
  where
    to : (is_prefix_of p q ≡ true) ⊎ (is_prefix_of q p ≡ true) → Related p q
    to (inl e) = inl ((prefix_means p q).0 e)
    to (inr e) = inr ((prefix_means q p).0 e)

    from : Related p q → is_related p q ≡ true
    from (inl a) = true_left (is_prefix_of p q) (is_prefix_of q p) ((prefix_means p q).1 a)
    from (inr a) = true_right (is_prefix_of p q) (is_prefix_of q p) ((prefix_means q p).1 a)

-- THE LONGEST COMMON PREFIX.
pub common_means : (p q : Path) → Common p q (common_count p q)
common_means [] q = record { of_first = omega arith; of_second = omega arith; equal = refl; largest = λ j h k e. h }
common_means (c ∷ cs) [] = record { of_first = omega arith; of_second = omega arith; equal = refl; largest = λ j h k e. k }
common_means (c ∷ cs) (d ∷ ds) = go (compare_components c d) refl (common_means cs ds)
  where
    step : (n : ℕ) → c ≡ d → Common cs ds n → Common (c ∷ cs) (d ∷ ds) (suc n)
    step n h k = record {
      of_first = let x = k.of_first in omega arith;
      of_second = let x = k.of_second in omega arith;
      equal = let x = k.equal in cc;
      largest = most;
    }
      where
        most : (j : ℕ) → j ≤ suc (length cs) → j ≤ suc (length ds) → take j (c ∷ cs) ≡ take j (d ∷ ds) → j ≤ suc n
        most zero a b e = omega arith
        most (suc j) a b e =
            let f : take j cs ≡ take j ds = cc in
            let m = k.largest j (omega arith) (omega arith) f in
            omega arith

    none : (c ≡ d → ⊥) → Common (c ∷ cs) (d ∷ ds) 0
    none n = record { of_first = omega arith; of_second = omega arith; equal = refl; largest = most }
      where
        most : (j : ℕ) → j ≤ suc (length cs) → j ≤ suc (length ds) → take j (c ∷ cs) ≡ take j (d ∷ ds) → j ≤ 0
        most zero a b e = omega arith
        most (suc j) a b e = let f : c ≡ d = cc in absurd (n f)

    go : (o : Ordering) → compare_components c d ≡ o → Common cs ds (common_count cs ds)
        → Common (c ∷ cs) (d ∷ ds) (cond (is_equal o) (suc (common_count cs ds)) 0)
    go Less e k = none (λ h. less≢equal (sym e ∙ equal_by compare_components components_total c d h))
    go Equal e k = step (common_count cs ds) (components_total.same c d e) k
    go Greater e k = none (λ h. equal≢greater (sym (equal_by compare_components components_total c d h) ∙ e))

-- The first k components of a path are a prefix of it.
pub take_prefix : (k : ℕ) (p : Path) → Prefix (take k p) p
take_prefix k p = (drop k p, take-append-drop k p)

common_longest : (p q r : Path) → Prefix r p → Prefix r q → Prefix r (common_prefix p q)
common_longest p q r a b =
    let l = prefix_shorter r p a in
    let m = prefix_shorter r q b in
    let e = taken p a in
    let f = taken q b in
    let k = (common_means p q).largest (length r) l m (e ∙ sym f) in
    elim (prefixes_related r (common_prefix p q) p a (take_prefix (common_count p q) p)) [
      | inl x ↦ x
      | inr x ↦ back x k
    ]
  where
    taken : (s : Path) → Prefix r s → take (length r) s ≡ r
    taken s x = rw (← x.1) (take_at r x.0 (length r) refl)

    back : Prefix (common_prefix p q) r → length r ≤ common_count p q → Prefix r (common_prefix p q)
    back x k =
        let e : take (length r) p ≡ r = taken p a in
        elim (prefix_cases compare_components components_total (common_prefix p q) r ((prefix_means (common_prefix p q) r).1 x)) [
          | inl h ↦ rw h (prefix_self r)
          | inr h ↦ let n = of_length in absurd (omega arith)
        ]
      where
        of_length : common_count p q ≤ length (common_prefix p q)
        of_length = let z = length-take-le (common_count p q) p (common_means p q).of_first in omega arith

-- THEOREM 2.
pub path_prefix : PathPrefix
path_prefix = record {
  prefix_means = prefix_means;
  related_means = related_means;
  common_means = common_means;
  common_first = λ p q. take_prefix (common_count p q) p;
  common_second = λ p q. rw (common_means p q).equal (take_prefix (common_count p q) q);
  common_longest = common_longest;
}
