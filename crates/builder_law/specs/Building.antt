-- The builder: what stands in its buffer, when the two agree, and what each of its calls answers and leaves.
--
-- "The builder is taken and handed back by every append; where the Rust asserts or overruns, 5, 10, 11, 12 and 15 stand
-- instead. Its buffer, if shorter than the declared path, gets 15; else it agrees if it holds the declared count, well-formed
-- lengths of the components appended, no more than declared, and zeros for the lengths to come."
use Rattle.std.specs.Prelude.{ℕ, ◌+◌, ◌≤◌, ◌≡◌, List, [], ◌∷◌, ◌++◌, Bool, ◌&&◌, ◌||◌, not, cond, leb, ltb, eqb, length, take}
use Rattle.std.proofs.Math.Option.{Option, none, some}
use Rattle.willow.specs.declared.Limits.{Limits}
use Rattle.willow.specs.declared.Refusal.{Refusal}
use Rattle.willow.specs.declared.Refusal.TheVariants.{BadPath, PathTooLong, TooManyComponents, ComponentTooLong, NoSuchPrefix, Overfilled, Unfinished, OutTooSmall}
use Rattle.number.specs.Overwriting.{overwrite}
use Rattle.willow.specs.Answers.{or_else, limits_refusal, path_refusal, path_in}
use Rattle.willow.specs.Lists.{All}
use Rattle.willow.specs.Paths.{Component, Path, path_length, ValidComponent}
use Rattle.builder_parts.specs.Buffer.{size_of, partial, agrees_with, components_in}

-- A STATE of the builder: the limits, the declared length and count, and how many components are appended.
pub record State : Type 0 where
  pub mcl : ℕ
  pub mcc : ℕ
  pub mpl : ℕ
  pub length : ℕ
  pub count : ℕ
  pub appended : ℕ

-- THE DECLARED PATH. Its limits, and the size of its packed form: a whole number, that no sum wraps.
abbrev pub limits_of : State → Limits
limits_of s = record { mcl = s.mcl; mcc = s.mcc; mpl = s.mpl }

abbrev pub declared_size : State → ℕ
declared_size s = size_of s.length s.count

-- MEANT by a buffer that agrees with its state: it begins with what stands there once some components q are appended, as many
-- as the state says, each valid, in count and length no more than declared. What stands behind q's bytes is free.
pub record Holds (s : State) (out : List ℕ) (q : Path) : Type 0 where
  pub as_many : length q ≡ s.appended
  pub few : s.appended ≤ s.count
  pub short : path_length q ≤ s.length
  pub each : All (ValidComponent (limits_of s)) q
  pub begins : take (length (partial s.count q)) out ≡ partial s.count q

-- COMPUTED: whether it agrees, and the components that were appended, as the buffer holds them.
abbrev pub agrees : State → List ℕ → Bool
agrees s out = agrees_with s.mcl s.length s.count s.appended out

abbrev pub appended_path : State → List ℕ → Path
appended_path s out = components_in s.count s.appended out

abbrev pub long_enough : State → List ℕ → Bool
long_enough s out = leb (declared_size s) (length out)

-- REFUSALS, in the order of their tests. 7 and 8 speak of the declared sizes:
abbrev pub declared_refusal : State → Option Refusal
declared_refusal s =
    cond (ltb s.mpl s.length) (some PathTooLong)
    (cond (ltb s.mcc s.count) (some TooManyComponents)
    none)

-- 5, "a builder's buffer disagrees with its counts": judged of a buffer that is long enough for the declared path.
abbrev pub buffer_refusal : State → List ℕ → Option Refusal
buffer_refusal s out = cond (long_enough s out && not (agrees s out)) (some BadPath) none

-- 15, of a buffer that is shorter.
abbrev pub room_refusal : State → List ℕ → Option Refusal
room_refusal s out = cond (long_enough s out) none (some OutTooSmall)

-- 1, 5, 7, 8: what every call tests of a state and the buffer beside it.
unfoldable pub state_refusal : State → List ℕ → Option Refusal
state_refusal s out = or_else (limits_refusal (limits_of s)) (or_else (buffer_refusal s out) (declared_refusal s))

-- How many bytes are known to be appended: none, where the buffer is too short to be read.
unfoldable pub known_length : State → List ℕ → ℕ
known_length s out = cond (long_enough s out) (path_length (appended_path s out)) 0

-- 11: so many components and bytes, behind those that are there, would pass the declared count or length.
abbrev pub overfilled : State → ℕ → ℕ → ℕ → ℕ → Option Refusal
overfilled s count bytes moreComponents moreBytes =
    cond (ltb s.count (count + moreComponents) || ltb s.length (bytes + moreBytes)) (some Overfilled) none

-- 12: "a build with count or length short of what was declared". Where the buffer is too short to be read, the length is
-- judged only where nothing is appended, as docs/DECISIONS.md decides.
unfoldable pub length_short : State → List ℕ → Bool
length_short s out =
    cond (long_enough s out) (ltb (path_length (appended_path s out)) s.length) (eqb s.appended 0 && ltb 0 s.length)

abbrev pub unfinished : State → List ℕ → Option Refusal
unfinished s out = cond (ltb s.appended s.count || length_short s out) (some Unfinished) none

-- What comes of a call: what was there, if it is refused; else what is new.
abbrev pub by_refusal : {A : Type 0} → Option Refusal → A → A → A
by_refusal (some r) old new = old
by_refusal none old new = new

-- THE CALLS. A fresh state for a declared length and count, with so many components appended.
abbrev pub state_of : Limits → ℕ → ℕ → ℕ → State
state_of L length count appended =
    record { mcl = L.mcl; mcc = L.mcc; mpl = L.mpl; length = length; count = count; appended = appended }

-- `new`: 1, 7, 8, 15; the count and zero lengths are written.
unfoldable pub new_refusal : Limits → ℕ → ℕ → List ℕ → Option Refusal
new_refusal L length count out =
    or_else (limits_refusal L) (or_else (declared_refusal (state_of L length count 0)) (room_refusal (state_of L length count 0) out))

abbrev pub new_buffer : ℕ → List ℕ → List ℕ
new_buffer count out = overwrite out 0 (partial count [])

-- `new_from_prefix`, of the first n components of a lent reference: 1, 5, 7, 8, then 10 ("more components than the reference
-- has"), 11, 15; the prefix is written.
unfoldable pub prefix_refusal : Limits → ℕ → ℕ → List ℕ → ℕ → ℕ → List ℕ → Option Refusal
prefix_refusal L length count b k n out =
    or_else (path_refusal L b k)
    (or_else (declared_refusal (state_of L length count n))
    (or_else (cond (ltb k n) (some NoSuchPrefix) none)
    (or_else (overfilled (state_of L length count n) 0 0 n (path_length (path_in b n)))
    (room_refusal (state_of L length count n) out))))

abbrev pub prefix_buffer : ℕ → List ℕ → ℕ → List ℕ → List ℕ
prefix_buffer count b n out = overwrite out 0 (partial count (path_in b n))

-- `append_component`: 1, 5, 7, 8, then 9, 11, 15; the component's length and bytes are written.
unfoldable pub append_refusal : State → Component → List ℕ → Option Refusal
append_refusal s c out =
    or_else (state_refusal s out)
    (or_else (cond (ltb s.mcl (length c)) (some ComponentTooLong) none)
    (or_else (overfilled s s.appended (known_length s out) 1 (length c))
    (room_refusal s out)))

abbrev pub grown : State → State
grown s = record { mcl = s.mcl; mcc = s.mcc; mpl = s.mpl; length = s.length; count = s.count; appended = s.appended + 1 }

abbrev pub grown_buffer : State → Component → List ℕ → List ℕ
grown_buffer s c out = overwrite out 0 (partial s.count (appended_path s out ++ (c ∷ [])))

-- `build`: 1, 5, 7, 8, then 12, 15; nothing is written, for the declared path stands at the front of the buffer.
unfoldable pub build_refusal : State → List ℕ → Option Refusal
build_refusal s out = or_else (state_refusal s out) (or_else (unfinished s out) (room_refusal s out))
