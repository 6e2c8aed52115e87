-- Lists: what it is to stand in one, to have a property throughout, to ascend, and to be summed in part; and tests of lists and of
-- values that may be there.
use Rattle.std.specs.Prelude.{ℕ, ◌+◌, ◌≡◌, ◌⊎◌, List, [], ◌∷◌, Bool, true, false, ◌&&◌, ◌||◌, cond}
use Rattle.std.proofs.Math.Option.{Option, none, some}

-- x is in the list.
abbrev pub In : {A : Type 0} → A → List A → Type 0
In x [] = ⊥
In x (y ∷ ys) = (x ≡ y) ⊎ In x ys

-- Each element has P.
abbrev pub All : {A : Type 0} → (A → Type 0) → List A → Type 0
All P [] = Unit {0}
All P (x ∷ xs) = P x × All P xs

-- Strictly ascending: each element is below all that follow it. So no element stands twice.
abbrev pub Ascending : {A : Type 0} → (A → A → Type 0) → List A → Type 0
Ascending Below [] = Unit {0}
Ascending {A} Below (x ∷ xs) = ((y : A) → In y xs → Below x y) × Ascending Below xs

-- n is the sum of the weights of exactly those elements of the list that have P. P may look at the elements before the one
-- in question, the latest first; `before` are those before the list.
abbrev pub Sum : {A : Type 0} → (A → ℕ) → (List A → A → Type 0) → List A → List A → ℕ → Type 0
Sum weight P before [] n = n ≡ 0
Sum weight P before (x ∷ xs) n =
    (P before x × ((m : ℕ) × (n ≡ weight x + m) × Sum weight P (x ∷ before) xs m))
    ⊎ ((P before x → ⊥) × Sum weight P (x ∷ before) xs n)

-- n of the list's elements have P.
abbrev pub Number : {A : Type 0} → (A → Type 0) → List A → ℕ → Type 0
Number P l n = Sum (λ x. 1) (λ before x. P x) [] l n

-- Computed: some element passes the test.
abbrev pub any : {A : Type 0} → (A → Bool) → List A → Bool
any test [] = false
any test (x ∷ xs) = test x || any test xs

-- Computed: every element passes the test.
abbrev pub every : {A : Type 0} → (A → Bool) → List A → Bool
every test [] = true
every test (x ∷ xs) = test x && every test xs

-- Computed: there is a value.
abbrev pub is_some : {A : Type 0} → Option A → Bool
is_some none = false
is_some (some x) = true

-- Computed: the elements that pass the test, in their order.
abbrev pub filter : {A : Type 0} → (A → Bool) → List A → List A
filter test [] = []
filter test (x ∷ xs) = cond (test x) (x ∷ filter test xs) (filter test xs)
