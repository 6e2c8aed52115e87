-- The comparisons of numbers, pairs and lists are total orders, and decide what they are meant to decide. Each construction
-- carries the two records from its parts, so that every order of the core has them in a line.
use Prim.Native.Nat.{ℕ, ◌<◌, ◌≤◌}
use mathlib.Core.Path.{◌≡◌, refl, sym, ◌∙◌, ap}
use mathlib.Core.Logic.{◌⊎◌, inl, inr, ◌↔◌}
use mathlib.Core.List.{List, [], ◌∷◌, ◌++◌}
use mathlib.Core.Bool.{Bool, true, false, cond, false≢true}
use native.Mathlib.Omega.{arith}
use lib.Dec.{ltb, eqb}
use borrow.Author.Tests.{ltb-true, ltb-false, eqb-true, eqb-false, lt-ltb, le-ltb, eq-eqb, ne_eqb}
use Rattle.std.specs.declared.cmp.Ordering.{Ordering}
use Rattle.std.specs.declared.cmp.Ordering.TheVariants.{Less, Equal, Greater}
use Rattle.willow.specs.Orders.{is_less, is_equal, is_greater, reverse, then, Total, Decides, AtMost, compare_numbers, compare_pairs, PairBelow, compare_lists, ListBelow}

-- THE THREE ANSWERS differ.
pub less≢equal : Less ≡ Equal → ⊥
less≢equal e = let z : ◌≡◌ {A = ℕ} 0 1 = cc in omega arith

pub less≢greater : Less ≡ Greater → ⊥
less≢greater e = let z : ◌≡◌ {A = ℕ} 0 1 = cc in omega arith

pub equal≢greater : Equal ≡ Greater → ⊥
equal≢greater e = let z : ◌≡◌ {A = ℕ} 0 1 = cc in omega arith

pub is_less_true : (o : Ordering) → is_less o ≡ true → o ≡ Less
is_less_true Less h = refl
is_less_true Equal h = absurd (false≢true h)
is_less_true Greater h = absurd (false≢true h)

pub is_equal_true : (o : Ordering) → is_equal o ≡ true → o ≡ Equal
is_equal_true Less h = absurd (false≢true h)
is_equal_true Equal h = refl
is_equal_true Greater h = absurd (false≢true h)

pub is_greater_true : (o : Ordering) → is_greater o ≡ true → o ≡ Greater
is_greater_true Less h = absurd (false≢true h)
is_greater_true Equal h = absurd (false≢true h)
is_greater_true Greater h = refl

-- What `then` says.
pub reverse_then : (a b : Ordering) → reverse (then a b) ≡ then (reverse a) (reverse b)
reverse_then Less b = refl
reverse_then Equal b = refl
reverse_then Greater b = refl

pub then_equal : (a b : Ordering) → then a b ≡ Equal → (a ≡ Equal) × (b ≡ Equal)
then_equal Less b e = (e, cc)
then_equal Equal b e = (refl, e)
then_equal Greater b e = (e, cc)

pub then_less : (a b : Ordering) → then a b ≡ Less → (a ≡ Less) ⊎ ((a ≡ Equal) × (b ≡ Less))
then_less Less b e = inl refl
then_less Equal b e = inr (refl, e)
then_less Greater b e = inl e

-- FROM A TOTAL ORDER.
module _ {A : Type 0} (compare : A → A → Ordering) (t : Total compare) where
  pub less_flip : (x y : A) → compare x y ≡ Less → compare y x ≡ Greater
  less_flip x y e = t.flip x y ∙ ap reverse e

  pub greater_flip : (x y : A) → compare x y ≡ Greater → compare y x ≡ Less
  greater_flip x y e = t.flip x y ∙ ap reverse e

  pub less_irreflexive : (x : A) → compare x x ≡ Less → ⊥
  less_irreflexive x e = less≢equal (sym e ∙ t.self x)

  pub less_asymmetric : (x y : A) → compare x y ≡ Less → compare y x ≡ Less → ⊥
  less_asymmetric x y e f = less≢greater (sym f ∙ less_flip x y e)

  pub equal_by : (x y : A) → x ≡ y → compare x y ≡ Equal
  equal_by x y e = rw e (t.self y)

  -- what is not greater is less or equal
  pub not_greater : (x y : A) → (compare x y ≡ Greater → ⊥) → (compare x y ≡ Less) ⊎ (x ≡ y)
  not_greater x y n = go (compare x y) refl
    where
      go : (o : Ordering) → compare x y ≡ o → (compare x y ≡ Less) ⊎ (x ≡ y)
      go Less e = inl e
      go Equal e = inr (t.same x y e)
      go Greater e = absurd (n e)

-- A comparison that is total decides what its `Less` means.
pub decides : {A : Type 0} (compare : A → A → Ordering) (Below : A → A → Type 0) → Total compare
    → ((x y : A) → (compare x y ≡ Less) ↔ Below x y) → Decides compare Below
decides compare Below t l = record {
  less = l;
  equal = λ x y. (t.same x y, equal_by compare t x y);
  greater = λ x y. (λ e. (l y x).0 (greater_flip compare t x y e), λ b. less_flip compare t y x ((l y x).1 b));
}

-- FROM A COMPARISON THAT DECIDES.
module _ {A : Type 0} (compare : A → A → Ordering) (Below : A → A → Type 0) (d : Decides compare Below) where
  -- at most, as a test that is not greater
  pub at_most_means : (x y : A) → AtMost Below x y ↔ (compare x y ≡ Greater → ⊥)
  at_most_means x y = (to, from (compare x y) refl)
    where
      to : AtMost Below x y → compare x y ≡ Greater → ⊥
      to (inl e) g = equal≢greater (sym ((d.equal x y).1 e) ∙ g)
      to (inr b) g = less≢greater (sym ((d.less x y).1 b) ∙ g)

      from : (o : Ordering) → compare x y ≡ o → (compare x y ≡ Greater → ⊥) → AtMost Below x y
      from Less e n = inr ((d.less x y).0 e)
      from Equal e n = inl ((d.equal x y).0 e)
      from Greater e n = absurd (n e)

  pub below_irreflexive : (x : A) → Below x x → ⊥
  below_irreflexive x b = less≢equal (sym ((d.less x x).1 b) ∙ (d.equal x x).1 refl)

  pub below_asymmetric : (x y : A) → Below x y → Below y x → ⊥
  below_asymmetric x y b c = less≢greater (sym ((d.less x y).1 b) ∙ (d.greater x y).1 c)

  -- of two values one is below the other, or they are equal
  pub below_cases : (x y : A) → Below x y ⊎ ((x ≡ y) ⊎ Below y x)
  below_cases x y = go (compare x y) refl
    where
      go : (o : Ordering) → compare x y ≡ o → Below x y ⊎ ((x ≡ y) ⊎ Below y x)
      go Less e = inl ((d.less x y).0 e)
      go Equal e = inr (inl ((d.equal x y).0 e))
      go Greater e = inr (inr ((d.greater x y).0 e))

  module _ (t : Total compare) where
    pub below_transitive : (x y z : A) → Below x y → Below y z → Below x z
    below_transitive x y z b c = (d.less x z).0 (t.trans x y z ((d.less x y).1 b) ((d.less y z).1 c))

    -- at most, then below
    pub at_most_below : (x y z : A) → AtMost Below x y → Below y z → Below x z
    at_most_below x y z (inl e) c = rw e c
    at_most_below x y z (inr b) c = below_transitive x y z b c

    pub below_at_most : (x y z : A) → Below x y → AtMost Below y z → Below x z
    below_at_most x y z b (inl e) = rw (sym e) b
    below_at_most x y z b (inr c) = below_transitive x y z b c

    pub at_most_transitive : (x y z : A) → AtMost Below x y → AtMost Below y z → AtMost Below x z
    at_most_transitive x y z (inl e) b = rw e b
    at_most_transitive x y z (inr a) b = inr (below_at_most x y z a b)

-- NUMBERS.
pub less_number : (m n : ℕ) → m < n → compare_numbers m n ≡ Less
unfolding compare_numbers
less_number m n h = rw (lt-ltb m n h)

pub number_less : (m n : ℕ) → compare_numbers m n ≡ Less → m < n
unfolding compare_numbers
number_less m n e = go (ltb m n) (eqb m n) refl e
  where
    go : (a b : Bool) → ltb m n ≡ a → cond a Less (cond b Equal Greater) ≡ Less → m < n
    go true b p e = ltb-true m n p
    go false true p e = absurd (less≢equal (sym e))
    go false false p e = absurd (less≢greater (sym e))

pub number_equal : (m n : ℕ) → compare_numbers m n ≡ Equal → m ≡ n
unfolding compare_numbers
number_equal m n e = go (ltb m n) (eqb m n) refl e
  where
    go : (a b : Bool) → eqb m n ≡ b → cond a Less (cond b Equal Greater) ≡ Equal → m ≡ n
    go true b p e = absurd (less≢equal e)
    go false true p e = eqb-true m n p
    go false false p e = absurd (equal≢greater (sym e))

pub number_self : (m : ℕ) → compare_numbers m m ≡ Equal
unfolding compare_numbers
number_self m = rw (le-ltb m m (omega arith), eq-eqb m m refl)

pub number_flip : (m n : ℕ) → compare_numbers n m ≡ reverse (compare_numbers m n)
unfolding compare_numbers
number_flip m n = go (ltb m n) (eqb m n) refl refl
  where
    go : (a b : Bool) → ltb m n ≡ a → eqb m n ≡ b → cond (ltb n m) Less (cond (eqb n m) Equal Greater) ≡ reverse (cond a Less (cond b Equal Greater))
    go true b p q = let h = ltb-true m n p in rw (le-ltb n m (omega arith), ne_eqb n m (λ k. omega arith))
    go false true p q = let h = eqb-true m n q in rw (le-ltb n m (omega arith), eq-eqb n m (sym h))
    go false false p q =
        let h = ltb-false m n p in
        let k = eqb-false m n q in
        let l : n < m = below h k in
        rw (lt-ltb n m l)
      where
        below : n ≤ m → (m ≡ n → ⊥) → n < m
        below h k = omega arith

pub numbers_total : Total compare_numbers
numbers_total = record {
  same = number_equal;
  self = number_self;
  flip = number_flip;
  trans = λ x y z p q. less_number x z (omega (arith, number_less x y p, number_less y z q));
}

pub numbers_decided : Decides compare_numbers ◌<◌
numbers_decided = decides compare_numbers ◌<◌ numbers_total (λ m n. (number_less m n, less_number m n))

-- at most, of numbers, is the order of the library
pub at_most_number : (m n : ℕ) → AtMost ◌<◌ m n ↔ (m ≤ n)
at_most_number m n = (to, λ h. from (ltb m n) refl h)
  where
    to : AtMost ◌<◌ m n → m ≤ n
    to (inl e) = omega arith
    to (inr b) = omega arith

    from : (b : Bool) → ltb m n ≡ b → m ≤ n → AtMost ◌<◌ m n
    from true e h = inr (ltb-true m n e)
    from false e h = let k = ltb-false m n e in inl (omega arith)

-- PAIRS.
module _ {A B : Type 0} (c : A → A → Ordering) (d : B → B → Ordering) (s : Total c) (t : Total d) where
  pair_same : (x y : A × B) → compare_pairs c d x y ≡ Equal → x ≡ y
  pair_same x y e =
      let b = then_equal (c x.0 y.0) (d x.1 y.1) e in
      let p = s.same x.0 y.0 b.0 in
      let q = t.same x.1 y.1 b.1 in
      λ i. (p i, q i)

  pair_trans : (x y z : A × B) → compare_pairs c d x y ≡ Less → compare_pairs c d y z ≡ Less → compare_pairs c d x z ≡ Less
  pair_trans x y z p q = go (then_less (c x.0 y.0) (d x.1 y.1) p) (then_less (c y.0 z.0) (d y.1 z.1) q)
    where
      go : (c x.0 y.0 ≡ Less) ⊎ ((c x.0 y.0 ≡ Equal) × (d x.1 y.1 ≡ Less))
          → (c y.0 z.0 ≡ Less) ⊎ ((c y.0 z.0 ≡ Equal) × (d y.1 z.1 ≡ Less))
          → then (c x.0 z.0) (d x.1 z.1) ≡ Less
      go (inl a) (inl b) = rw (s.trans x.0 y.0 z.0 a b)
      go (inl a) (inr b) = let h = s.same y.0 z.0 b.0 in rw (← h, a)
      go (inr a) (inl b) = let h = s.same x.0 y.0 a.0 in rw (h, b)
      go (inr a) (inr b) = let h = s.same x.0 y.0 a.0 in rw (h, b.0) (t.trans x.1 y.1 z.1 a.1 b.1)

  pub pairs_total : Total (compare_pairs c d)
  pairs_total = record {
    same = pair_same;
    self = λ x. rw (s.self x.0) (t.self x.1);
    flip = λ x y. rw (s.flip x.0 y.0, t.flip x.1 y.1, reverse_then (c x.0 y.0) (d x.1 y.1));
    trans = pair_trans;
  }

  module _ (P : A → A → Type 0) (Q : B → B → Type 0) (p : Decides c P) (q : Decides d Q) where
    pub pairs_decided : Decides (compare_pairs c d) (PairBelow P Q)
    pairs_decided = decides (compare_pairs c d) (PairBelow P Q) pairs_total (λ x y. (to x y, from x y))
      where
        to : (x y : A × B) → compare_pairs c d x y ≡ Less → PairBelow P Q x y
        to x y e = go (then_less (c x.0 y.0) (d x.1 y.1) e)
          where
            go : (c x.0 y.0 ≡ Less) ⊎ ((c x.0 y.0 ≡ Equal) × (d x.1 y.1 ≡ Less)) → PairBelow P Q x y
            go (inl a) = inl ((p.less x.0 y.0).0 a)
            go (inr a) = inr (s.same x.0 y.0 a.0, (q.less x.1 y.1).0 a.1)

        from : (x y : A × B) → PairBelow P Q x y → compare_pairs c d x y ≡ Less
        from x y (inl a) = rw ((p.less x.0 y.0).1 a)
        from x y (inr a) = rw (equal_by c s x.0 y.0 a.0) ((q.less x.1 y.1).1 a.1)

-- BY A KEY: values that are equal if their keys are.
module _ {A K : Type 0} (key : A → K) (one : (x y : A) → key x ≡ key y → x ≡ y) (c : K → K → Ordering) (t : Total c) where
  pub keyed_total : Total (λ x y. c (key x) (key y))
  keyed_total = record {
    same = λ x y e. one x y (t.same (key x) (key y) e);
    self = λ x. t.self (key x);
    flip = λ x y. t.flip (key x) (key y);
    trans = λ x y z. t.trans (key x) (key y) (key z);
  }

  pub keyed_decided : (Below : K → K → Type 0) → Decides c Below → Decides (λ x y. c (key x) (key y)) (λ x y. Below (key x) (key y))
  keyed_decided Below d =
      decides (λ x y. c (key x) (key y)) (λ x y. Below (key x) (key y)) keyed_total (λ x y. d.less (key x) (key y))

-- LISTS.
module _ {A : Type 0} (compare : A → A → Ordering) (t : Total compare) where
  list_same : (l m : List A) → compare_lists compare l m ≡ Equal → l ≡ m
  list_same [] [] e = refl
  list_same [] (y ∷ ys) e = absurd (less≢equal e)
  list_same (x ∷ xs) [] e = absurd (equal≢greater (sym e))
  list_same (x ∷ xs) (y ∷ ys) e =
      let b = then_equal (compare x y) (compare_lists compare xs ys) e in
      let h = t.same x y b.0 in
      let k = list_same xs ys b.1 in
      cc

  list_self : (l : List A) → compare_lists compare l l ≡ Equal
  list_self [] = refl
  list_self (x ∷ xs) = rw (t.self x) (list_self xs)

  list_flip : (l m : List A) → compare_lists compare m l ≡ reverse (compare_lists compare l m)
  list_flip [] [] = refl
  list_flip [] (y ∷ ys) = refl
  list_flip (x ∷ xs) [] = refl
  list_flip (x ∷ xs) (y ∷ ys) = rw (t.flip x y, list_flip xs ys, reverse_then (compare x y) (compare_lists compare xs ys))

  list_trans : (l m n : List A) → compare_lists compare l m ≡ Less → compare_lists compare m n ≡ Less → compare_lists compare l n ≡ Less
  list_trans [] [] n p q = q
  list_trans [] (y ∷ ys) [] p q = absurd (less≢greater (sym q))
  list_trans [] (y ∷ ys) (z ∷ zs) p q = refl
  list_trans (x ∷ xs) [] n p q = absurd (less≢greater (sym p))
  list_trans (x ∷ xs) (y ∷ ys) [] p q = absurd (less≢greater (sym q))
  list_trans (x ∷ xs) (y ∷ ys) (z ∷ zs) p q =
      elim (then_less (compare x y) (compare_lists compare xs ys) p) [
        | inl a ↦ elim (then_less (compare y z) (compare_lists compare ys zs) q) [
          | inl b ↦ rw (t.trans x y z a b)
          | inr b ↦ rw (← (t.same y z b.0), a)
        ]
        | inr a ↦ elim (then_less (compare y z) (compare_lists compare ys zs) q) [
          | inl b ↦ rw (t.same x y a.0, b)
          | inr b ↦ rw (t.same x y a.0, b.0) (list_trans xs ys zs a.1 b.1)
        ]
      ]

  pub lists_total : Total (compare_lists compare)
  lists_total = record { same = list_same; self = list_self; flip = list_flip; trans = list_trans }

  -- no list is below the empty one
  pub not_below_nil : (l : List A) → compare_lists compare l [] ≡ Less → ⊥
  not_below_nil [] e = less≢equal (sym e)
  not_below_nil (x ∷ xs) e = less≢greater (sym e)

  -- a common front is passed over
  pub lists_after : (l m n : List A) → compare_lists compare (l ++ m) (l ++ n) ≡ compare_lists compare m n
  lists_after [] m n = refl
  lists_after (x ∷ xs) m n = rw (t.self x) (lists_after xs m n)

  module _ (Below : A → A → Type 0) (d : Decides compare Below) where
    list_below : (l m : List A) → compare_lists compare l m ≡ Less → ListBelow Below l m
    list_below [] [] e = absurd (less≢equal (sym e))
    list_below [] (y ∷ ys) e = inl (record { next = y; rest = ys; whole = refl })
    list_below (x ∷ xs) [] e = absurd (less≢greater (sym e))
    list_below (x ∷ xs) (y ∷ ys) e = go (then_less (compare x y) (compare_lists compare xs ys) e) (list_below xs ys)
      where
        on : x ≡ y → ListBelow Below xs ys → ListBelow Below (x ∷ xs) (y ∷ ys)
        on h (inl g) = let k = g.whole in inl (record { next = g.next; rest = g.rest; whole = cc })
        on h (inr g) =
            let k = g.lower in
            let k' = g.higher in
            inr (record {
              shared = x ∷ g.shared;
              low = g.low;
              high = g.high;
              low_rest = g.low_rest;
              high_rest = g.high_rest;
              below = g.below;
              lower = cc;
              higher = cc;
            })

        go : (compare x y ≡ Less) ⊎ ((compare x y ≡ Equal) × (compare_lists compare xs ys ≡ Less))
            → (compare_lists compare xs ys ≡ Less → ListBelow Below xs ys) → ListBelow Below (x ∷ xs) (y ∷ ys)
        go (inl a) ih = inr (record {
          shared = [];
          low = x;
          high = y;
          low_rest = xs;
          high_rest = ys;
          below = (d.less x y).0 a;
          lower = refl;
          higher = refl;
        })
        go (inr a) ih = on (t.same x y a.0) (ih a.1)

    below_list : (l m : List A) → ListBelow Below l m → compare_lists compare l m ≡ Less
    below_list l m (inl g) = rw g.whole (goes_on l)
      where
        goes_on : (k : List A) → compare_lists compare k (k ++ (g.next ∷ g.rest)) ≡ Less
        goes_on [] = refl
        goes_on (x ∷ xs) = rw (t.self x) (goes_on xs)
    below_list l m (inr g) =
        let k = lists_after g.shared (g.low ∷ g.low_rest) (g.high ∷ g.high_rest) in
        rw (g.lower, g.higher, k, (d.less g.low g.high).1 g.below)

    pub lists_decided : Decides (compare_lists compare) (ListBelow Below)
    lists_decided = decides (compare_lists compare) (ListBelow Below) lists_total (λ l m. (list_below l m, below_list l m))
