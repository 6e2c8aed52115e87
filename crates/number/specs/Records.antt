-- Records of one size, one behind the other: the heads and the cells of a sheet, and the numbers of its header.
use Rattle.std.specs.Prelude.{ℕ, ◌+◌, ◌*◌, ◌≡◌, List, [], ◌∷◌, ◌++◌, length, take, drop}

-- The byte forms of all elements, one behind the other.
abbrev pub laid : {A : Type 0} → (A → List ℕ) → List A → List ℕ
laid form [] = []
laid form (x ∷ xs) = form x ++ laid form xs

-- The byte form of each has `size` bytes.
abbrev pub Sized : {A : Type 0} → (A → List ℕ) → ℕ → List A → Type 0
Sized form size [] = Unit {0}
Sized form size (x ∷ xs) = (length (form x) ≡ size) × Sized form size xs

-- Record i of those of `size` bytes that stand from `base` on.
unfoldable pub record_at : ℕ → ℕ → ℕ → List ℕ → List ℕ
record_at base size i s = take size (drop (base + size * i) s)
