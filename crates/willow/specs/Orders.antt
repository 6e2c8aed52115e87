-- Orders. A comparison answers `Ordering`; this file says what makes one a total order, what its three answers mean, and how
-- the comparisons of numbers, pairs and lists are built.
use Rattle.std.specs.Prelude.{ℕ, ◌≡◌, ◌⊎◌, ◌↔◌, List, [], ◌∷◌, ◌++◌, Bool, true, false, cond, ltb, eqb}
use Rattle.std.specs.declared.cmp.Ordering.{Ordering}
use Rattle.std.specs.declared.cmp.Ordering.TheVariants.{Less, Equal, Greater}

-- The number of each answer towards a host: less 0, equal 1, greater 2.
abbrev pub order_number : Ordering → ℕ
order_number Less = 0
order_number Equal = 1
order_number Greater = 2

abbrev pub is_less : Ordering → Bool
is_less Less = true
is_less Equal = false
is_less Greater = false

abbrev pub is_equal : Ordering → Bool
is_equal Less = false
is_equal Equal = true
is_equal Greater = false

abbrev pub is_greater : Ordering → Bool
is_greater Less = false
is_greater Equal = false
is_greater Greater = true

-- The answer for the same two, the other way round.
abbrev pub reverse : Ordering → Ordering
reverse Less = Greater
reverse Equal = Equal
reverse Greater = Less

-- The first comparison decides; where it finds both equal, the second does.
abbrev pub then : Ordering → Ordering → Ordering
then Less o = Less
then Equal o = o
then Greater o = Greater

-- WHAT IS MEANT by a total order: `Equal` is the answer for equal values and for no others, exchanging the two reverses the
-- answer, and less is transitive.
pub record Total {A : Type 0} (compare : A → A → Ordering) : Type 0 where
  pub same : (x y : A) → compare x y ≡ Equal → x ≡ y
  pub self : (x : A) → compare x x ≡ Equal
  pub flip : (x y : A) → compare y x ≡ reverse (compare x y)
  pub trans : (x y z : A) → compare x y ≡ Less → compare y z ≡ Less → compare x z ≡ Less

-- WHAT IS MEANT by a comparison that decides the relation `Below`: its answers are below, equal and above.
pub record Decides {A : Type 0} (compare : A → A → Ordering) (Below : A → A → Type 0) : Type 0 where
  pub less : (x y : A) → (compare x y ≡ Less) ↔ Below x y
  pub equal : (x y : A) → (compare x y ≡ Equal) ↔ (x ≡ y)
  pub greater : (x y : A) → (compare x y ≡ Greater) ↔ Below y x

-- Below or equal.
abbrev pub AtMost : {A : Type 0} → (A → A → Type 0) → A → A → Type 0
AtMost Below x y = (x ≡ y) ⊎ Below x y

-- Numbers.
unfoldable pub compare_numbers : ℕ → ℕ → Ordering
compare_numbers m n = cond (ltb m n) Less (cond (eqb m n) Equal Greater)

-- Pairs: by the first, then by the second.
abbrev pub compare_pairs : {A B : Type 0} → (A → A → Ordering) → (B → B → Ordering) → A × B → A × B → Ordering
compare_pairs c d x y = then (c x.0 y.0) (d x.1 y.1)

-- WHAT IS MEANT by that order of pairs.
abbrev pub PairBelow : {A B : Type 0} → (A → A → Type 0) → (B → B → Type 0) → A × B → A × B → Type 0
PairBelow P Q x y = P x.0 y.0 ⊎ ((x.0 ≡ y.0) × Q x.1 y.1)

-- Lists: element by element, and where one of them ends first it is the lesser.
abbrev pub compare_lists : {A : Type 0} → (A → A → Ordering) → List A → List A → Ordering
compare_lists compare [] [] = Equal
compare_lists compare [] (y ∷ ys) = Less
compare_lists compare (x ∷ xs) [] = Greater
compare_lists compare (x ∷ xs) (y ∷ ys) = then (compare x y) (compare_lists compare xs ys)

-- WHAT IS MEANT by that order of lists, in two cases. m goes on where l ends: l is a proper prefix of m ..
pub record GoesOn {A : Type 0} (l m : List A) : Type 0 where
  pub next : A
  pub rest : List A
  pub whole : m ≡ l ++ (next ∷ rest)

-- .. or the two agree up to a place where l has the lower element.
pub record Diverges {A : Type 0} (Below : A → A → Type 0) (l m : List A) : Type 0 where
  pub shared : List A
  pub low : A
  pub high : A
  pub low_rest : List A
  pub high_rest : List A
  pub below : Below low high
  pub lower : l ≡ shared ++ (low ∷ low_rest)
  pub higher : m ≡ shared ++ (high ∷ high_rest)

abbrev pub ListBelow : {A : Type 0} → (A → A → Type 0) → List A → List A → Type 0
ListBelow Below l m = GoesOn l m ⊎ Diverges Below l m
