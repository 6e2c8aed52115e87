-- Paths: lists of components, each a list of bytes. Validity, order, prefix, relatedness and the longest common prefix,
-- from Willow's Data Model.
use Rattle.std.specs.Prelude.{ℕ, suc, ◌+◌, ◌≤◌, ◌<◌, ◌≡◌, ◌⊎◌, ◌↔◌, List, [], ◌∷◌, ◌++◌, Bool, true, false, ◌&&◌, ◌||◌, cond, length, take}
use Rattle.willow.specs.declared.Limits.{Limits}
use Rattle.std.specs.declared.cmp.Ordering.{Ordering}
use Rattle.willow.specs.Orders.{is_equal, Total, Decides, compare_numbers, compare_lists, ListBelow}
use Rattle.willow.specs.Lists.{All}
use Rattle.willow.specs.Numbers.{Bytes}

abbrev pub Component : Type 0
Component = List ℕ

abbrev pub Path : Type 0
Path = List Component

-- The number of bytes in a path: the sum of its components' lengths.
abbrev pub path_length : Path → ℕ
path_length [] = 0
path_length (c ∷ cs) = length c + path_length cs

-- Data Model: a component is a bytestring of at most max_component_length bytes.
abbrev pub ValidComponent : Limits → Component → Type 0
ValidComponent L c = (length c ≤ L.mcl) × Bytes c

-- Data Model: a path has at most max_component_count components, and at most max_path_length bytes in all of them.
pub record Valid (L : Limits) (p : Path) : Type 0 where
  pub count : length p ≤ L.mcc
  pub total : path_length p ≤ L.mpl
  pub each : All (ValidComponent L) p

-- THE ORDER. "Component by component, bytes unsigned; a proper prefix is smaller, for components and for paths."
-- Computed:
abbrev pub compare_components : Component → Component → Ordering
compare_components = compare_lists compare_numbers

abbrev pub compare_paths : Path → Path → Ordering
compare_paths = compare_lists compare_components

-- Meant:
abbrev pub ComponentBelow : Component → Component → Type 0
ComponentBelow = ListBelow ◌<◌

abbrev pub PathBelow : Path → Path → Type 0
PathBelow = ListBelow ComponentBelow

-- THEOREM 1. Path order is a total order, and it is the order of the text.
pub record PathOrder : Type 0 where
  pub total : Total compare_paths
  pub means : Decides compare_paths PathBelow

-- PREFIX. Data Model: p is a prefix of q if the first components of q are exactly the components of p. Meant:
abbrev pub Prefix : Path → Path → Type 0
Prefix p q = (rest : Path) × (p ++ rest ≡ q)

-- Computed:
abbrev pub is_prefix : {A : Type 0} → (A → A → Ordering) → List A → List A → Bool
is_prefix compare [] ys = true
is_prefix compare (x ∷ xs) [] = false
is_prefix compare (x ∷ xs) (y ∷ ys) = is_equal (compare x y) && is_prefix compare xs ys

abbrev pub is_prefix_of : Path → Path → Bool
is_prefix_of = is_prefix compare_components

-- Related: one of the two is a prefix of the other.
abbrev pub Related : Path → Path → Type 0
Related p q = Prefix p q ⊎ Prefix q p

unfoldable pub is_related : Path → Path → Bool
is_related p q = is_prefix_of p q || is_prefix_of q p

-- THE LONGEST COMMON PREFIX. Computed, as the number of its components:
abbrev pub common_count : Path → Path → ℕ
common_count [] q = 0
common_count (c ∷ cs) [] = 0
common_count (c ∷ cs) (d ∷ ds) = cond (is_equal (compare_components c d)) (suc (common_count cs ds)) 0

abbrev pub common_prefix : Path → Path → Path
common_prefix p q = take (common_count p q) p

-- Meant: k is the largest count for which both prefixes are equal.
pub record Common (p q : Path) (k : ℕ) : Type 0 where
  pub of_first : k ≤ length p
  pub of_second : k ≤ length q
  pub equal : take k p ≡ take k q
  pub largest : (j : ℕ) → j ≤ length p → j ≤ length q → take j p ≡ take j q → j ≤ k

-- THEOREM 2. Prefix and relatedness are decided; the common prefix is a prefix of both, and every common prefix is a
-- prefix of it.
pub record PathPrefix : Type 0 where
  pub prefix_means : (p q : Path) → (is_prefix_of p q ≡ true) ↔ Prefix p q
  pub related_means : (p q : Path) → (is_related p q ≡ true) ↔ Related p q
  pub common_means : (p q : Path) → Common p q (common_count p q)
  pub common_first : (p q : Path) → Prefix (common_prefix p q) p
  pub common_second : (p q : Path) → Prefix (common_prefix p q) q
  pub common_longest : (p q r : Path) → Prefix r p → Prefix r q → Prefix r (common_prefix p q)
