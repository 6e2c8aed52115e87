-- Paths made from parts: `from_slices` and what follows its rules.
use Rattle.std.specs.Prelude.{ℕ, zero, suc, ◌+◌, ◌/◌, ◌%◌, ◌≤◌, ◌<◌, ◌≡◌, ◌↔◌, List, [], ◌∷◌, ◌++◌, map, Bool, ◌&&◌, cond, ltb, eqb, length, take, drop}
use Rattle.willow.specs.declared.Limits.{Limits}
use Rattle.willow.specs.declared.Refusal.TheVariants.{BadLengths, PathTooLong, TooManyComponents, ComponentTooLong}
use Rattle.willow.specs.Refusals.{Outcome, refused, value}
use Rattle.willow.specs.Limits.{max_word}
use Rattle.willow.specs.Lists.{In, All, any}
use Rattle.willow.specs.Numbers.{Bytes, le, unle}
use Rattle.willow.specs.Packed.{joined}
use Rattle.willow.specs.Paths.{Component, Path, path_length, Valid}

-- "`from_slices` is the reference for construction with refusals 7, 8, 9 in that order." What is asked of the components of
-- a path that is made, however it is made:
unfoldable pub admitted : Limits → Path → Outcome Path
admitted L p =
    cond (ltb L.mpl (path_length p)) (refused PathTooLong)
    (cond (ltb L.mcc (length p)) (refused TooManyComponents)
    (cond (any (λ c. ltb L.mcl (length c)) p) (refused ComponentTooLong)
    (value p)))

-- Lengths are lent as a buffer of 8-byte numbers. The first k of them:
abbrev pub numbers : ℕ → List ℕ → List ℕ
numbers zero s = []
numbers (suc k) s = unle (take 8 s) ∷ numbers k (drop 8 s)

unfoldable pub lengths_in : List ℕ → List ℕ
lengths_in s = numbers (length s / 8) s

abbrev pub total : List ℕ → ℕ
total [] = 0
total (n ∷ ns) = n + total ns

-- Refusal 6: "component lengths do not add up to the bytes lent with them". The sum is one of whole numbers; a buffer whose
-- length is no multiple of 8 holds no such lengths.
unfoldable pub lengths_fit : List ℕ → List ℕ → Bool
lengths_fit lengths bytes = eqb (length lengths % 8) 0 && eqb (total (lengths_in lengths)) (length bytes)

-- The bytes, cut into components of these lengths.
abbrev pub cut : List ℕ → List ℕ → Path
cut [] bytes = []
cut (n ∷ ns) bytes = take n bytes ∷ cut ns (drop n bytes)

unfoldable pub from_slices : Limits → List ℕ → List ℕ → Outcome Path
from_slices L lengths bytes = cond (lengths_fit lengths bytes) (admitted L (cut (lengths_in lengths) bytes)) (refused BadLengths)

-- `append` and `append_slice`: the same rules, of the whole new path.
unfoldable pub append : Limits → Path → Component → Outcome Path
append L p c = admitted L (p ++ (c ∷ []))

unfoldable pub append_slice : Limits → Path → List ℕ → List ℕ → Outcome Path
append_slice L p lengths bytes = cond (lengths_fit lengths bytes) (admitted L (p ++ cut (lengths_in lengths) bytes)) (refused BadLengths)

-- WHAT IS MEANT: each answer exactly if its own condition holds and none that is tested before it. The premise says that the
-- components are made of bytes, as those of every lent buffer are.
abbrev pub SomeTooLong : Limits → Path → Type 0
SomeTooLong L p = (c : Component) × In c p × (L.mcl < length c)

pub record Admission (L : Limits) (p : Path) : Type 0 where
  pub path_too_long_lem : (admitted L p ≡ refused PathTooLong) ↔ (L.mpl < path_length p)
  pub too_many_components_lem : (admitted L p ≡ refused TooManyComponents) ↔ ((path_length p ≤ L.mpl) × (L.mcc < length p))
  pub component_too_long_lem : (admitted L p ≡ refused ComponentTooLong)
      ↔ ((path_length p ≤ L.mpl) × (length p ≤ L.mcc) × SomeTooLong L p)
  pub valid : (q : Path) → (admitted L p ≡ value q) ↔ ((q ≡ p) × Valid L p)

-- A buffer of lengths: each as an 8-byte number, one behind the other.
abbrev pub length_buffer : List ℕ → List ℕ
length_buffer [] = []
length_buffer (n ∷ ns) = le 8 n ++ length_buffer ns

-- The components that lengths and bytes stand for: the lengths are the buffer of theirs, each of which has 64 bits, and the
-- components joined are the bytes.
pub record Slices (lengths bytes : List ℕ) (p : Path) : Type 0 where
  pub sizes : lengths ≡ length_buffer (map length p)
  pub words : All (λ c. length c ≤ max_word) p
  pub content : joined p ≡ bytes

-- Refusal 6 is given exactly if there are no such components; else there is one list of them, made of the bytes lent, and what
-- is answered is what `admitted` says of it. The premises say that what is lent is made of bytes, as empty buffers are.
pub record Construction : Type 0 where
  pub admission : (L : Limits) (p : Path) → All Bytes p → Admission L p
  pub slices_only : (lengths bytes : List ℕ) (p q : Path) → Slices lengths bytes p → Slices lengths bytes q → p ≡ q
  pub slices_bytes : (lengths bytes : List ℕ) (p : Path) → Bytes bytes → Slices lengths bytes p → All Bytes p
  pub made_unless : (L : Limits) (lengths bytes : List ℕ)
      → Bytes lengths → (from_slices L lengths bytes ≡ refused BadLengths) ↔ ((p : Path) → Slices lengths bytes p → ⊥)
  pub made_as : (L : Limits) (lengths bytes : List ℕ) (p : Path) → Slices lengths bytes p → from_slices L lengths bytes ≡ admitted L p
  pub appended_unless : (L : Limits) (p : Path) (lengths bytes : List ℕ)
      → Bytes lengths → (append_slice L p lengths bytes ≡ refused BadLengths) ↔ ((q : Path) → Slices lengths bytes q → ⊥)
  pub appended_as : (L : Limits) (p : Path) (lengths bytes : List ℕ) (q : Path) → Slices lengths bytes q
      → append_slice L p lengths bytes ≡ admitted L (p ++ q)
