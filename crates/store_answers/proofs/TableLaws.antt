-- What is known of an offer that is taken.
use Prim.Native.Nat.{ℕ}
use mathlib.Core.Path.{◌≡◌, refl}
use mathlib.Core.Bool.{Bool, true, false}
use native.Mathlib.Omega.{arith}
use Rattle.willow.specs.Store.{taken, answer_by}

pub taken_means : (out same crowded : Bool) (k m : ℕ) → answer_by false out same crowded k ≡ taken m
    → (out ≡ false) × (same ≡ false) × (crowded ≡ false) × (k ≡ m)
taken_means true same crowded k m e = absurd (let z : ◌≡◌ {A = ℕ} 0 1 = cc in omega arith)
taken_means false true crowded k m e = absurd (let z : ◌≡◌ {A = ℕ} 0 1 = cc in omega arith)
taken_means false false true k m e = absurd (let z : ◌≡◌ {A = ℕ} 0 1 = cc in omega arith)
taken_means false false false k m e = (refl, refl, refl, cc)
