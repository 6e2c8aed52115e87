-- What a write leaves: a list with another written over it from a place on.
use Rattle.std.specs.Prelude.{ℕ, ◌+◌, List, [], ◌∷◌, ◌++◌, Bool, true, ◌&&◌, eqb, length, take, drop, replicate}

-- vs written over s from the place `at` on; all else is as it was.
unfoldable pub overwrite : {A : Type 0} → List A → ℕ → List A → List A
overwrite s at vs = take at s ++ (vs ++ drop (at + length vs) s)

abbrev pub zeros : ℕ → List ℕ
zeros n = replicate n 0

-- Every byte is zero.
abbrev pub all_zero : List ℕ → Bool
all_zero [] = true
all_zero (b ∷ bs) = eqb b 0 && all_zero bs
