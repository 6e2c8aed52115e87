-- Bytes, and numbers of a fixed width in bytes, little-endian: the lowest byte first.
use Rattle.std.specs.Prelude.{ℕ, zero, suc, ◌+◌, ◌*◌, ◌/◌, ◌%◌, ◌<◌, List, [], ◌∷◌, take, drop}
use Rattle.willow.specs.Lists.{All}

-- Every element is a byte.
abbrev pub Bytes : List ℕ → Type 0
Bytes = All (λ b. b < 256)

-- The number n in `width` bytes.
unfoldable pub le : ℕ → ℕ → List ℕ
le zero n = []
le (suc width) n = n % 256 ∷ le width (n / 256)

-- The number that bytes make: the sum of byte i times 256 ^ i.
unfoldable pub unle : List ℕ → ℕ
unle [] = 0
unle (b ∷ bs) = b + 256 * unle bs

-- The 8-byte number at a place of a buffer.
unfoldable pub number_at : List ℕ → ℕ → ℕ
number_at s at = unle (take 8 (drop at s))
