-- WHICH NUMBER a builder's call is refused with, said by what stands in the buffers: the rows of document 01's table that the
-- call can meet, in the order of their numbers. A table leaves one answer, so no two numbers can be exchanged, and no test can
-- come before one of a smaller number.
use Rattle.std.specs.Prelude.{ℕ, ◌+◌, ◌≤◌, ◌<◌, ◌≡◌, ◌⊎◌, List, length, take}
use Rattle.std.proofs.Math.Option.{Option, none, some}
use Rattle.willow.specs.declared.Limits.{Limits}
use Rattle.willow.specs.declared.Refusal.{Refusal}
use Rattle.willow.specs.declared.Refusal.TheVariants.{BadLimits, BadPath, PathTooLong, TooManyComponents, ComponentTooLong, NoSuchPrefix, Overfilled, Unfinished, OutTooSmall}
use Rattle.willow.specs.Limits.{Accepted}
use Rattle.willow.specs.Numbers.{Bytes}
use Rattle.willow.specs.Packed.{Lent}
use Rattle.willow.specs.Paths.{Component, Path, path_length}
use Rattle.builder_law.specs.Building.{State, limits_of, declared_size, Holds, state_of, new_refusal, prefix_refusal, append_refusal, build_refusal}
use Rattle.builder_law.specs.Runs.{Words}

-- "When several numbers apply, the smallest is given": a row gives its number where its condition holds, and else what the
-- rows behind it give. Where no row is left, the call is not refused.
pub data Row (condition : Type 0) (r : Refusal) (others : Option Refusal → Type 0) (answer : Option Refusal) : Type 0 where
  applies : condition → answer ≡ some r → Row condition r others answer
  passes : (condition → ⊥) → others answer → Row condition r others answer

abbrev pub NoRow : Option Refusal → Type 0
NoRow answer = answer ≡ none

-- THE CONDITIONS. 1: "passed as numbers: MCL over 1,024, MCC over 1,024, MPL over 4,096".
abbrev pub LimitsOver : State → Type 0
LimitsOver s = Accepted (limits_of s) → ⊥

-- 5: "a lent packed path is not well formed", or its count is above the one in the buffer.
abbrev pub NoneLent : State → List ℕ → ℕ → Type 0
NoneLent s b k = (p : Path) → Lent (limits_of s) b k p → ⊥

-- 5: "a builder's buffer disagrees with its counts", where it is long enough for the declared path.
abbrev pub Disagrees : State → List ℕ → Type 0
Disagrees s out = (declared_size s ≤ length out) × ((q : Path) → Holds s out q → ⊥)

-- 7: "total length over MPL", as declared.
abbrev pub DeclaredLong : State → Type 0
DeclaredLong s = s.mpl < s.length

-- 8: "count over MCC", as declared.
abbrev pub DeclaredMany : State → Type 0
DeclaredMany s = s.mcc < s.count

-- 9: "a component over MCL bytes".
abbrev pub ComponentOver : State → Component → Type 0
ComponentOver s c = s.mcl < length c

-- 10: "a builder is started from more components than the reference has": than the count that is lent beside it.
abbrev pub PrefixMissing : ℕ → ℕ → Type 0
PrefixMissing k n = k < n

-- 11: "a component or prefix would pass the builder's declared count or length". A prefix of n components of the path that is
-- lent, by its count or by its bytes:
abbrev pub PrefixPasses : State → List ℕ → ℕ → ℕ → Type 0
PrefixPasses s b k n =
    (s.count < n)
    ⊎ ((p : Path) × Lent (limits_of s) b k p × (s.length < path_length (take n p)))

-- A component, by the count; or by its own bytes alone, whatever the buffer holds; or by its bytes behind those of the
-- components that the buffer holds, where it is long enough for the declared path:
abbrev pub ComponentPasses : State → Component → List ℕ → Type 0
ComponentPasses s c out =
    (s.count < s.appended + 1)
    ⊎ ((s.length < length c)
    ⊎ ((q : Path) × (declared_size s ≤ length out) × Holds s out q × (s.length < path_length q + length c)))

-- 12: "a build with count or length short of what was declared": by the count; or by a length above 0 with nothing appended,
-- whatever the buffer holds; or by the bytes of the components that it holds, where it is long enough for the declared path.
abbrev pub BuildShort : State → List ℕ → Type 0
BuildShort s out =
    (s.appended < s.count)
    ⊎ (((s.appended ≡ 0) × (0 < s.length))
    ⊎ ((q : Path) × (declared_size s ≤ length out) × Holds s out q × (path_length q < s.length)))

-- 15: "the buffer for the answer is too short": "if shorter than the declared path".
abbrev pub BufferShort : State → List ℕ → Type 0
BufferShort s out = length out < declared_size s

-- THE TABLES, of `new`,
abbrev pub NewTable : State → List ℕ → Option Refusal → Type 0
NewTable s out =
    Row (LimitsOver s) BadLimits
    (Row (DeclaredLong s) PathTooLong
    (Row (DeclaredMany s) TooManyComponents
    (Row (BufferShort s out) OutTooSmall
    NoRow)))

-- of `new_from_prefix`, with n components of the reference b that is lent with the count k,
abbrev pub PrefixTable : State → List ℕ → ℕ → ℕ → List ℕ → Option Refusal → Type 0
PrefixTable s b k n out =
    Row (LimitsOver s) BadLimits
    (Row (NoneLent s b k) BadPath
    (Row (DeclaredLong s) PathTooLong
    (Row (DeclaredMany s) TooManyComponents
    (Row (PrefixMissing k n) NoSuchPrefix
    (Row (PrefixPasses s b k n) Overfilled
    (Row (BufferShort s out) OutTooSmall
    NoRow))))))

-- of `append_component`,
abbrev pub AppendTable : State → Component → List ℕ → Option Refusal → Type 0
AppendTable s c out =
    Row (LimitsOver s) BadLimits
    (Row (Disagrees s out) BadPath
    (Row (DeclaredLong s) PathTooLong
    (Row (DeclaredMany s) TooManyComponents
    (Row (ComponentOver s c) ComponentTooLong
    (Row (ComponentPasses s c out) Overfilled
    (Row (BufferShort s out) OutTooSmall
    NoRow))))))

-- and of `build`.
abbrev pub BuildTable : State → List ℕ → Option Refusal → Type 0
BuildTable s out =
    Row (LimitsOver s) BadLimits
    (Row (Disagrees s out) BadPath
    (Row (DeclaredLong s) PathTooLong
    (Row (DeclaredMany s) TooManyComponents
    (Row (BuildShort s out) Unfinished
    (Row (BufferShort s out) OutTooSmall
    NoRow)))))

-- Each call is answered by its table. The premises are what types say: buffers hold bytes, and a state's numbers are of 64 bits
-- (a count above them has no place in the buffer). The limits 0 0 0, nothing declared and a buffer of eight zero bytes meet
-- all of them.
pub record BuilderTable : Type 0 where
  pub new_refused : (L : Limits) (bytes count : ℕ) (out : List ℕ) → NewTable (state_of L bytes count 0) out (new_refusal L bytes count out)
  pub prefix_refused : (L : Limits) (bytes count : ℕ) (b : List ℕ) (k n : ℕ) (out : List ℕ) → Bytes b
      → PrefixTable (state_of L bytes count n) b k n out (prefix_refusal L bytes count b k n out)
  pub append_refused : (s : State) (c : Component) (out : List ℕ) → Words s → Bytes out → AppendTable s c out (append_refusal s c out)
  pub build_refused : (s : State) (out : List ℕ) → Words s → Bytes out → BuildTable s out (build_refusal s out)
