-- The packed form of a path, its test, and a path that is lent as a buffer with a count beside it.
use Rattle.std.specs.Prelude.{ℕ, zero, suc, ◌+◌, ◌-◌, ◌*◌, ◌≤◌, ◌≡◌, ◌↔◌, List, [], ◌∷◌, ◌++◌, Bool, true, ◌&&◌, cond, leb, eqb, length, take, drop}
use Rattle.std.proofs.Math.Option.{Option, none, some}
use Rattle.willow.specs.declared.Limits.{Limits}
use Rattle.willow.specs.Limits.{max_word, Words}
use Rattle.willow.specs.Numbers.{Bytes, le, number_at}
use Rattle.willow.specs.Paths.{Path, path_length, Valid}

-- THE PACKED FORM. "8-byte numbers, here little-endian; the count k, then k accumulated lengths, then the bytes."
-- The accumulated lengths, where `before` bytes stand before these components:
abbrev pub accumulated : ℕ → Path → List ℕ
accumulated before [] = []
accumulated before (c ∷ cs) = le 8 (before + length c) ++ accumulated (before + length c) cs

abbrev pub joined : Path → List ℕ
joined [] = []
joined (c ∷ cs) = c ++ joined cs

unfoldable pub pack : Path → List ℕ
pack p = le 8 (length p) ++ (accumulated 0 p ++ joined p)

-- READING BACK, whatever the bytes are. The count:
unfoldable pub packed_count : List ℕ → ℕ
packed_count b = number_at b 0

-- "Component i is the bytes between two accumulated lengths (the first starts at 0)." The components whose accumulated
-- lengths stand from `at` on, r of them, the bytes from `base` on; `from` is the accumulated length before them:
abbrev pub components_from : List ℕ → ℕ → ℕ → ℕ → ℕ → Path
components_from b base zero at from = []
components_from b base (suc r) at from =
    take (number_at b at - from) (drop (base + from) b) ∷ components_from b base r (at + 8) (number_at b at)

unfoldable pub unpack : List ℕ → Path
unpack b = components_from b (8 + 8 * packed_count b) (packed_count b) 8 0

-- The accumulated length before component i: 0 before the first. Where the table stands from `at` on, with `from` before it:
abbrev pub length_from : List ℕ → ℕ → ℕ → ℕ → ℕ
length_from b at from zero = from
length_from b at from (suc i) = number_at b (at + 8 * i)

abbrev pub length_before : List ℕ → ℕ → ℕ
length_before b i = length_from b 8 0 i

-- THE TEST. "Well formed: k at most MCC, steps from 0 up to MCL, last at most MPL, and no byte more." The r accumulated
-- lengths from `at` on step up from `from` by at most MCL; the last is at most MPL, and as many bytes follow:
abbrev pub steps_fit : Limits → List ℕ → ℕ → ℕ → ℕ → Bool
steps_fit L b zero at from = leb from L.mpl && eqb (at + from) (length b)
steps_fit L b (suc r) at from =
    leb from (number_at b at) && (leb (number_at b at - from) L.mcl && steps_fit L b r (at + 8) (number_at b at))

unfoldable pub well_formed : Limits → List ℕ → Bool
well_formed L b =
    leb 8 (length b)
    && (leb (packed_count b) L.mcc
    && (leb (8 + 8 * packed_count b) (length b)
    && steps_fit L b (packed_count b) 8 0))

-- Well formed under some limits: no number of 8 bytes is above these.
abbrev pub widest : Limits
widest = record { mcl = max_word; mcc = max_word; mpl = max_word }

abbrev pub Packed : List ℕ → Type 0
Packed b = well_formed widest b ≡ true

-- A LENT PATH. "A path is read as a lent buffer with a count beside it; the count may be below the one in the buffer; above
-- it, 5." The whole buffer is tested, also where the count is smaller. Computed: the path, or none where refusal 5 is due.
unfoldable pub lent : Limits → List ℕ → ℕ → Option Path
lent L b k = cond (well_formed L b && leb k (packed_count b)) (some (take k (unpack b))) none

-- Meant: the buffer is the packed form of a valid path, and p is its first k components.
pub record Lent (L : Limits) (b : List ℕ) (k : ℕ) (p : Path) : Type 0 where
  pub whole : Path
  pub valid : Valid L whole
  pub packed : b ≡ pack whole
  pub within : k ≤ length whole
  pub first : p ≡ take k whole

-- THEOREM 4. Packing and reading back are inverse, and a buffer is well formed exactly if it is the packed form of a valid
-- path. Its premises are what the types of a call say: bytes, as (1, 0, 0, 0, 0, 0, 0, 0), and numbers of 64 bits, as 0.
pub record PackedForm : Type 0 where
  pub read_back : (p : Path) → length p ≤ max_word → path_length p ≤ max_word → unpack (pack p) ≡ p
  pub exactly : (L : Limits) (b : List ℕ) → Words L → Bytes b
      → (well_formed L b ≡ true) ↔ ((p : Path) × Valid L p × (b ≡ pack p))
  pub pack_back : (L : Limits) (b : List ℕ) → Bytes b → well_formed L b ≡ true → pack (unpack b) ≡ b
  pub lent_some : (L : Limits) (b : List ℕ) (k : ℕ) → Words L → Bytes b → (p : Path) → (lent L b k ≡ some p) ↔ Lent L b k p
  pub lent_none : (L : Limits) (b : List ℕ) (k : ℕ) → Words L → Bytes b → (lent L b k ≡ none) ↔ ((p : Path) → Lent L b k p → ⊥)
  pub lent_valid : (L : Limits) (b : List ℕ) (k : ℕ) → Words L → Bytes b → (p : Path) → Lent L b k p → Valid L p
