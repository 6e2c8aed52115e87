-- What the questions on lent paths answer. A list is cut before its element i, and the first n elements are the only prefix of that length;
-- what the tests of two paths mean is theorem 1 and theorem 2.
use Prim.Native.Nat.{ℕ, zero, suc, ◌+◌, ◌≤◌, ◌<◌}
use mathlib.Core.Path.{◌≡◌, refl, sym, ◌∙◌, ap, subst}
use mathlib.Core.Logic.Iff
use mathlib.Core.Logic.{◌↔◌}
use mathlib.Core.Bool.{Bool, true, false, cond, false≢true}
use mathlib.Core.List.{List, [], ◌∷◌, ◌++◌}
use native.Mathlib.Omega.{arith}
use lib.Dec.{leb, ltb, eqb}
use lib.ListN.{length, take, drop, get_or, length-append, take-append-drop}
use lib.Seq.{take-append_seam}
use borrow.Author.Tests.{leb-true, leb-false, le-leb, lt-leb, ltb-true, ltb-false, lt-ltb, le-ltb, eqb-true}
use Rattle.std.specs.declared.cmp.Ordering.{Ordering}
use Rattle.std.specs.declared.cmp.Ordering.TheVariants.{Less, Equal, Greater}
use Rattle.willow.specs.Orders.{is_equal}
use Rattle.willow.specs.Packed.{joined}
use Rattle.willow.specs.Paths.{Component, Path, path_length, Prefix, compare_paths, is_prefix_of, common_count, common_prefix, Common}
use Rattle.willow.specs.Refusals.{absent, value}
use Rattle.tables.proofs.BufferLaws.{apart}
use Rattle.willow.proofs.PackedLaws.{joined_length}
use Rattle.willow.proofs.PathLaws.{path_order, path_prefix}
use Rattle.reading.specs.Reading.{prefix_length_of, prefix_count_of, component_of, component_length_of}
use Rattle.writing.specs.Writing.{prefix_of}
use Rattle.answer_law.specs.PathAnswers.{At, First, PathAnswers}

-- VALUES that are the same.
pub same_value : {A : Type 0} (x y : A) → (value x ≡ value y) ↔ (x ≡ y)
same_value x y = (λ e. let s : x ≡ y = cc in s, λ e. ap value e)

pub value_there : {A : Type 0} (t : Bool) (x y : A) → cond t (value x) absent ≡ value y → (t ≡ true) × (x ≡ y)
value_there true x y e = (refl, (same_value x y).0 e)
value_there false x y e = apart absent (value y) e (λ h. omega arith)

absent_there : {A : Type 0} (t : Bool) (x : A) → cond t (value x) absent ≡ absent → t ≡ false
absent_there true x e = apart (value x) absent e (λ h. omega arith)
absent_there false x e = refl

-- ELEMENT i.
pub at_there : {A : Type 0} (l : List A) (i : ℕ) (d : A) → i < length l → At l i (get_or l i d)
at_there [] i d h = absurd (omega arith)
at_there (x ∷ xs) zero d h = ([], xs, refl, refl)
at_there (x ∷ xs) (suc i) d h =
    let r = at_there xs i d (omega arith) in
    let n = r.2 in
    (x ∷ r.0, r.1, omega arith, ap (λ l. x ∷ l) r.3)

pub at_is : {A : Type 0} (l : List A) (i : ℕ) (d x : A) → At l i x → (i < length l) × (get_or l i d ≡ x)
at_is l i d x r = subst (λ m. (i < length m) × (get_or m i d ≡ x)) (sym r.3) (go r.0 i r.2)
  where
    go : (before : List _) (j : ℕ) → length before ≡ j → (j < length (before ++ (x ∷ r.1))) × (get_or (before ++ (x ∷ r.1)) j d ≡ x)
    go [] zero e = (omega arith, refl)
    go [] (suc j) e = absurd (omega arith)
    go (y ∷ ys) zero e = absurd (omega arith)
    go (y ∷ ys) (suc j) e = let k = go ys j (omega arith) in let m = k.0 in (omega arith, k.1)

-- THE FIRST n.
first_is : (p : Path) (n : ℕ) (q : Path) → First p n q → (n ≤ length p) × (take n p ≡ q)
first_is p n q f =
    let e = f.0.1 in
    let l : length p ≡ length q + length f.0.0 = ap length (sym e) ∙ length-append q f.0.0 in
    let m = f.1 in
    (omega arith, ap (λ k. take k p) (sym f.1) ∙ ap (take (length q)) (sym e) ∙ take-append_seam q f.0.0)

first_there : (p : Path) (n : ℕ) → n ≤ length p → First p n (take n p)
first_there p n h = ((drop n p, take-append-drop n p), length_first p n h)
  where
    length_first : (l : Path) (k : ℕ) → k ≤ length l → length (take k l) ≡ k
    length_first l zero h = refl
    length_first [] (suc k) h = absurd (omega arith)
    length_first (x ∷ xs) (suc k) h = let m = length_first xs k (omega arith) in omega arith

-- ONE PATH.
empty_means : (p : Path) → (eqb (length p) 0 ≡ true) ↔ (p ≡ [])
empty_means [] = (λ e. refl, λ e. refl)
empty_means (c ∷ cs) = (
  λ e. let n = eqb-true (length (c ∷ cs)) 0 e in absurd (omega arith),
  λ e. let n = ap length e in absurd (omega arith),
)

at_most_absent : {A : Type 0} (n m : ℕ) (x : A) → (cond (leb n m) (value x) absent ≡ absent) ↔ (m < n)
at_most_absent n m x = (λ e. leb-false n m (absent_there (leb n m) x e), λ h. rw (lt-leb n m h))

pub below_absent : {A : Type 0} (i m : ℕ) (x : A) → (cond (ltb i m) (value x) absent ≡ absent) ↔ (m ≤ i)
below_absent i m x = (λ e. ltb-false i m (absent_there (ltb i m) x e), λ h. rw (le-ltb i m h))

prefix_length : (n : ℕ) (p : Path) (m : ℕ) → (prefix_length_of n p ≡ value m) ↔ ((q : Path) × First p n q × (length (joined q) ≡ m))
prefix_length n p m = (
  λ e.
      let s = value_there (leb n (length p)) (path_length (take n p)) m e in
      let l = leb-true n (length p) s.0 in
      (take n p, first_there p n l, joined_length (take n p) ∙ s.1),
  λ t.
      let f = first_is p n t.0 t.1 in
      rw (le-leb n (length p) f.0) (ap value (ap path_length f.1 ∙ sym (joined_length t.0) ∙ t.2)),
)

prefix_count_lem : (n : ℕ) (p : Path) (m : ℕ) → (prefix_count_of n p ≡ value m) ↔ ((n ≤ length p) × (n ≡ m))
prefix_count_lem n p m = (
  λ e. let s = value_there (leb n (length p)) n m e in (leb-true n (length p) s.0, s.1),
  λ t. rw (le-leb n (length p) t.0) (ap value t.1),
)

prefix_is : (n : ℕ) (p q : Path) → (prefix_of n p ≡ value q) ↔ First p n q
prefix_is n p q = (
  λ e.
      let s = value_there (leb n (length p)) (take n p) q e in
      subst (First p n) s.1 (first_there p n (leb-true n (length p) s.0)),
  λ f. let t = first_is p n q f in rw (le-leb n (length p) t.0) (ap value t.1),
)

component_is : (i : ℕ) (p : Path) (c : Component) → (component_of i p ≡ value c) ↔ At p i c
component_is i p c = (
  λ e.
      let s = value_there (ltb i (length p)) (get_or p i []) c e in
      subst (At p i) s.1 (at_there p i [] (ltb-true i (length p) s.0)),
  λ a. let t = at_is p i [] c a in rw (lt-ltb i (length p) t.0) (ap value t.1),
)

component_length_is : (i : ℕ) (p : Path) (n : ℕ) → (component_length_of i p ≡ value n) ↔ ((c : Component) × At p i c × (length c ≡ n))
component_length_is i p n = (
  λ e.
      let s = value_there (ltb i (length p)) (length (get_or p i [])) n e in
      (get_or p i [], at_there p i [] (ltb-true i (length p) s.0), s.1),
  λ t.
      let k = at_is p i [] t.0 t.1 in
      rw (lt-ltb i (length p) k.0) (ap value (ap length k.1 ∙ t.2)),
)

-- TWO PATHS.
equal_means : (o : Ordering) → (is_equal o ≡ true) ↔ (o ≡ Equal)
equal_means Less = (λ e. absurd (false≢true e), λ e. let z : ◌≡◌ {A = ℕ} 0 1 = cc in absurd (omega arith))
equal_means Equal = (λ e. refl, λ e. refl)
equal_means Greater = (λ e. absurd (false≢true e), λ e. let z : ◌≡◌ {A = ℕ} 0 1 = cc in absurd (omega arith))

pub path_answers : PathAnswers
path_answers = record {
  component_count = λ p n. same_value (length p) n;
  is_empty = λ p. Iff.trans (same_value (eqb (length p) 0) true) (empty_means p);
  path_length_lem = λ p n. (
    λ e. joined_length p ∙ (same_value (path_length p) n).0 e,
    λ e. ap value (sym (joined_length p) ∙ e),
  );
  path_length_of_prefix = prefix_length;
  no_such_length = λ n p. at_most_absent n (length p) (path_length (take n p));
  create_prefix = prefix_count_lem;
  no_such_count = λ n p. at_most_absent n (length p) n;
  component = component_is;
  no_such_component = λ i p. below_absent i (length p) (get_or p i []);
  component_length = component_length_is;
  no_component_length = λ i p. below_absent i (length p) (length (get_or p i []));
  write_prefix = prefix_is;
  no_such_prefix_lem = λ n p. at_most_absent n (length p) (take n p);
  compare_less = λ p q. Iff.trans (same_value (compare_paths p q) Less) (path_order.means.less p q);
  compare_equal = λ p q. Iff.trans (same_value (compare_paths p q) Equal) (path_order.means.equal p q);
  compare_greater = λ p q. Iff.trans (same_value (compare_paths p q) Greater) (path_order.means.greater p q);
  equal = λ p q. Iff.trans (same_value (is_equal (compare_paths p q)) true) (Iff.trans (equal_means (compare_paths p q)) (path_order.means.equal p q));
  is_prefix_of_lem = λ p q. Iff.trans (same_value (is_prefix_of p q) true) (path_prefix.prefix_means p q);
  is_prefixed_by = λ p q. Iff.trans (same_value (is_prefix_of q p) true) (path_prefix.prefix_means q p);
  is_related_lem = λ p q. Iff.trans (same_value _ true) (path_prefix.related_means p q);
  longest_common_prefix = λ p q n e. subst (Common p q) ((same_value (common_count p q) n).0 e) (path_prefix.common_means p q);
  write_longest_common_prefix = λ p q r e.
      let s : common_prefix p q ≡ r = (same_value (common_prefix p q) r).0 e in
      subst (λ x. Prefix x p × Prefix x q × ((t : Path) → Prefix t p → Prefix t q → Prefix t x)) s
      (path_prefix.common_first p q, path_prefix.common_second p q, path_prefix.common_longest p q);
}
