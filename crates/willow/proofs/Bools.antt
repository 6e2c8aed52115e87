-- Tests taken apart: what a conjunction, a disjunction or a negation says that is known to be true or false.
use mathlib.Core.Path.{◌≡◌, refl, sym, ◌∙◌}
use mathlib.Core.Logic.{◌⊎◌, inl, inr, ◌↔◌}
use mathlib.Core.Bool.{Bool, true, false, ◌&&◌, ◌||◌, true≢false, false≢true}

pub both_true : (a b : Bool) → a && b ≡ true → (a ≡ true) × (b ≡ true)
both_true true b e = (refl, e)
both_true false b e = absurd (false≢true e)

pub true_both : (a b : Bool) → a ≡ true → b ≡ true → a && b ≡ true
true_both true b e f = f
true_both false b e f = e

pub either_true : (a b : Bool) → a || b ≡ true → (a ≡ true) ⊎ (b ≡ true)
either_true true b e = inl refl
either_true false b e = inr e

pub true_left : (a b : Bool) → a ≡ true → a || b ≡ true
true_left true b e = refl
true_left false b e = absurd (false≢true e)

pub true_right : (a b : Bool) → b ≡ true → a || b ≡ true
true_right true b e = refl
true_right false b e = e

pub neither_true : (a b : Bool) → a || b ≡ false → (a ≡ false) × (b ≡ false)
neither_true true b e = absurd (true≢false e)
neither_true false b e = (refl, e)

-- A test that cannot be true is false, and the other way round.
pub not_true_false : (b : Bool) → (b ≡ true → ⊥) → b ≡ false
not_true_false true h = absurd (h refl)
not_true_false false h = refl

pub false_not_true : (b : Bool) → b ≡ false → b ≡ true → ⊥
false_not_true b e f = false≢true (sym e ∙ f)

-- Every test is true or false.
pub bool_cases : (b : Bool) → (b ≡ true) ⊎ (b ≡ false)
bool_cases true = inl refl
bool_cases false = inr refl

-- A test that decides P says also when P fails.
pub decided_false : {P : Type 0} (b : Bool) → (b ≡ true) ↔ P → (b ≡ false) ↔ (P → ⊥)
decided_false b d = (λ e p. false_not_true b e (d.1 p), λ n. not_true_false b (λ e. n (d.0 e)))

pub decided : {P : Type 0} (b : Bool) → (b ≡ true) ↔ P → P ⊎ (P → ⊥)
decided {P} b d = go (bool_cases b)
  where
    go : (b ≡ true) ⊎ (b ≡ false) → P ⊎ (P → ⊥)
    go (inl e) = inl (d.0 e)
    go (inr e) = inr ((decided_false b d).0 e)

-- Tests that mean P and Q, joined.
pub conjunction_means : {a b : Bool} {P Q : Type 0} → (a ≡ true) ↔ P → (b ≡ true) ↔ Q → (a && b ≡ true) ↔ (P × Q)
conjunction_means {a} {b} p q = (
  λ e. let h = both_true a b e in (p.0 h.0, q.0 h.1),
  λ h. true_both a b (p.1 h.0) (q.1 h.1),
)

pub disjunction_means : {a b : Bool} {P Q : Type 0} → (a ≡ true) ↔ P → (b ≡ true) ↔ Q → (a || b ≡ true) ↔ (P ⊎ Q)
disjunction_means {a} {b} {P} {Q} p q = (λ e. to (either_true a b e), from)
  where
    to : (a ≡ true) ⊎ (b ≡ true) → P ⊎ Q
    to (inl e) = inl (p.0 e)
    to (inr e) = inr (q.0 e)

    from : P ⊎ Q → a || b ≡ true
    from (inl h) = true_left a b (p.1 h)
    from (inr h) = true_right a b (q.1 h)
