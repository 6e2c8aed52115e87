-- WHAT THE QUESTIONS ON LENT PATHS ANSWER, by meaning: of the paths p and q that are lent (`PathQuestions` of willow says which these are).
use Rattle.std.specs.Prelude.{ℕ, ◌≤◌, ◌<◌, ◌≡◌, ◌↔◌, true, List, [], ◌∷◌, ◌++◌, length}
use Rattle.std.specs.declared.cmp.Ordering.TheVariants.{Less, Equal, Greater}
use Rattle.willow.specs.Packed.{joined}
use Rattle.willow.specs.Paths.{Component, Path, PathBelow, Prefix, Related, Common}
use Rattle.willow.specs.Refusals.{absent, value}
use Rattle.reading.specs.Reading.{count_of, emptiness_of, length_of, prefix_length_of, prefix_count_of, component_of, component_length_of}
use Rattle.relation.specs.Relation.{order_of, equality_of, prefix_test_of, prefixed_test_of, relatedness_of, common_count_of}
use Rattle.writing.specs.Writing.{prefix_of, common_prefix_of}

-- Element i of a list, counted from 0: as many stand before it.
abbrev pub At : {A : Type 0} → List A → ℕ → A → Type 0
At {A} l i x = (before : List A) × (after : List A) × (length before ≡ i) × (l ≡ before ++ (x ∷ after))

-- The prefix of n components.
abbrev pub First : Path → ℕ → Path → Type 0
First p n q = Prefix q p × (length q ≡ n)

-- There are no premises. "None (no such component, prefix ..)": exactly where there is none.
pub record PathAnswers : Type 0 where
  pub component_count : (p : Path) (n : ℕ) → (count_of p ≡ value n) ↔ (length p ≡ n)
  pub is_empty : (p : Path) → (emptiness_of p ≡ value true) ↔ (p ≡ [])
  pub path_length_lem : (p : Path) (n : ℕ) → (length_of p ≡ value n) ↔ (length (joined p) ≡ n)
  pub path_length_of_prefix : (n : ℕ) (p : Path) (m : ℕ) → (prefix_length_of n p ≡ value m) ↔ ((q : Path) × First p n q × (length (joined q) ≡ m))
  pub no_such_length : (n : ℕ) (p : Path) → (prefix_length_of n p ≡ absent) ↔ (length p < n)
  pub create_prefix : (n : ℕ) (p : Path) (m : ℕ) → (prefix_count_of n p ≡ value m) ↔ ((n ≤ length p) × (n ≡ m))
  pub no_such_count : (n : ℕ) (p : Path) → (prefix_count_of n p ≡ absent) ↔ (length p < n)
  pub component : (i : ℕ) (p : Path) (c : Component) → (component_of i p ≡ value c) ↔ At p i c
  pub no_such_component : (i : ℕ) (p : Path) → (component_of i p ≡ absent) ↔ (length p ≤ i)
  pub component_length : (i : ℕ) (p : Path) (n : ℕ) → (component_length_of i p ≡ value n) ↔ ((c : Component) × At p i c × (length c ≡ n))
  pub no_component_length : (i : ℕ) (p : Path) → (component_length_of i p ≡ absent) ↔ (length p ≤ i)
  pub write_prefix : (n : ℕ) (p q : Path) → (prefix_of n p ≡ value q) ↔ First p n q
  pub no_such_prefix_lem : (n : ℕ) (p : Path) → (prefix_of n p ≡ absent) ↔ (length p < n)
  -- of two paths
  pub compare_less : (p q : Path) → (order_of p q ≡ value Less) ↔ PathBelow p q
  pub compare_equal : (p q : Path) → (order_of p q ≡ value Equal) ↔ (p ≡ q)
  pub compare_greater : (p q : Path) → (order_of p q ≡ value Greater) ↔ PathBelow q p
  pub equal : (p q : Path) → (equality_of p q ≡ value true) ↔ (p ≡ q)
  pub is_prefix_of_lem : (p q : Path) → (prefix_test_of p q ≡ value true) ↔ Prefix p q
  pub is_prefixed_by : (p q : Path) → (prefixed_test_of p q ≡ value true) ↔ Prefix q p
  pub is_related_lem : (p q : Path) → (relatedness_of p q ≡ value true) ↔ Related p q
  pub longest_common_prefix : (p q : Path) (n : ℕ) → common_count_of p q ≡ value n → Common p q n
  -- the longest that both have, and each such prefix is one of it
  pub write_longest_common_prefix : (p q r : Path) → common_prefix_of p q ≡ value r
      → Prefix r p × Prefix r q × ((s : Path) → Prefix s p → Prefix s q → Prefix s r)
