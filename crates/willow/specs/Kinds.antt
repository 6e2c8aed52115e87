-- Kinds that are passed as numbers.
use Rattle.std.specs.Prelude.{ℕ, ◌≡◌, ◌⊎◌, ◌↔◌, cond, eqb}
use Rattle.std.proofs.Math.Option.{Option, none, some}

-- "Kinds: end 0 open, 1 closed; subspace 0 any, 1 one id." Where x is what kind 0 says and y what kind 1 says.
-- Computed: the one that a kind says; none where refusal 3 is due.
abbrev pub of_kind : {A : Type 0} → ℕ → A → A → Option A
of_kind kind x y = cond (eqb kind 0) (some x) (cond (eqb kind 1) (some y) none)

-- Meant: v is what it says. That "a number or path passed beside kind 0 is not read" shows where x does not mention it.
abbrev pub Says : {A : Type 0} → ℕ → A → A → A → Type 0
Says kind x y v = ((kind ≡ 0) × (v ≡ x)) ⊎ ((kind ≡ 1) × (v ≡ y))

-- "3 BadKind: a kind number passed to a call is neither 0 nor 1."
abbrev pub GoodKind : ℕ → Type 0
GoodKind kind = (kind ≡ 0) ⊎ (kind ≡ 1)

-- What is computed is what is meant, and none is given exactly for the other numbers. There are no premises.
pub record KindLaws : Type 1 where
  pub says : {A : Type 0} (kind : ℕ) (x y v : A) → (of_kind kind x y ≡ some v) ↔ Says kind x y v
  pub bad : {A : Type 0} (kind : ℕ) (x y : A) → (of_kind kind x y ≡ none) ↔ (GoodKind kind → ⊥)
