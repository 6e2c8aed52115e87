-- What is chosen by a test, and what there may be, taken apart by cases.
use Prim.Native.Nat.{ℕ}
use mathlib.Core.Path.{◌≡◌, refl}
use mathlib.Core.Option.{Option, none, some}
use mathlib.Core.Bool.{Bool, true, false, cond}
use native.Mathlib.Omega.{arith}

-- What holds of each choice, where the tests choose it, holds of what is chosen: by one test, and by two.
pub by_test : {A : Type 0} (P : A → Type 0) (t : Bool) {x y : A} → (t ≡ true → P x) → (t ≡ false → P y) → P (cond t x y)
by_test P true f g = f refl
by_test P false f g = g refl

pub by_tests : {A : Type 0} (P : A → Type 0) (t u : Bool) {x y z : A} → (t ≡ true → P x) → (u ≡ true → P y)
    → (t ≡ false → u ≡ false → P z) → P (cond t x (cond u y z))
by_tests P true u f g h = f refl
by_tests P false true f g h = g refl
by_tests P false false f g h = h refl refl

-- There is something, or nothing.
pub by_option : {A : Type 0} {P : Type 0} (o : Option A) → (o ≡ none → P) → ((x : A) → o ≡ some x → P) → P
by_option none f g = f refl
by_option (some x) f g = g x refl

-- Nothing is not something.
pub nothing_found : {A P : Type 0} (x : A) → none ≡ some x → P
nothing_found x e = let z : ◌≡◌ {A = ℕ} 0 1 = cc in absurd (omega arith)
