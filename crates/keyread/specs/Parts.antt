-- What the functions that read a key line answer, in the words of crate `keyform`.
use denote.Ref.{Bor}
use Rattle.std.specs.Prelude.{ℕ, ◌*◌, ◌≤◌, ◌<◌, List, map, ◌≡◌, None, Some, length}
use Rattle.std.specs.Prelude as code
use Rattle.std.proofs.Math.Option.{Option, none, some}
use Rattle.number.specs.Overwriting.{overwrite}
use Rattle.keyform.specs.Reading.{Field, read_hex, read_component, read_path, Read, asks, with_question}
use Rattle.keyform.specs.Wording.{Question, successor_of, next_greater_of, greatest_path}
use Rattle.willow.specs.Construction.{length_buffer}
use Rattle.willow.specs.declared.Limits.{Limits}
use Rattle.willow.specs.Packed.{joined}
use Rattle.willow.specs.Paths.{Component, Path, path_length}
use Rattle.keyread.specs.declared.inner.Question as asked
use Rattle.keyread.specs.declared.inner.Question.TheVariants.{Successor, NextGreater, Greatest}

-- A field: its number, and the line behind it.
abbrev pub field_read : code.Option (ℕ × Bor (List ℕ)) → Option Field
field_read None = none
field_read (Some (v, rest)) = some (record { number = v; rest = rest.now })

-- Hexadecimal digits: what they are is written; where they are none, what is written is of no use.
abbrev pub HexRead : List ℕ → List ℕ → ℕ → code.Option ℕ → List ℕ → Type 0
HexRead s before to None behind = (read_hex s ≡ none) × (length behind ≡ length before)
HexRead s before to (Some n) behind = (v : List ℕ) × (read_hex s ≡ some v) × (behind ≡ overwrite before to v) × (n ≡ length v)

-- A component: its bytes are written, two digits a byte or none for a dash.
abbrev pub ComponentRead : List ℕ → List ℕ → ℕ → code.Option ℕ → List ℕ → Type 0
ComponentRead s before to None behind = (read_component s ≡ none) × (length behind ≡ length before)
ComponentRead s before to (Some n) behind =
    (v : Component) × (read_component s ≡ some v) × (behind ≡ overwrite before to v) × (n ≡ length v) × (2 * n ≤ length s) × (0 < length s)

-- The lengths of components, as 8-byte numbers.
abbrev pub sizes : Path → List ℕ
sizes p = length_buffer (map length p)

-- A path: its components' lengths and its bytes are written to the front.
abbrev pub PathRead : Option Path → List ℕ → List ℕ → code.Option (ℕ × ℕ) → List ℕ → List ℕ → Type 0
PathRead o lengths bytes None lengths' bytes' = (o ≡ none) × (length lengths' ≡ length lengths) × (length bytes' ≡ length bytes)
PathRead o lengths bytes (Some (k, n)) lengths' bytes' =
    (p : Path)
    × (o ≡ some p)
    × (lengths' ≡ overwrite lengths 0 (sizes p))
    × (bytes' ≡ overwrite bytes 0 (joined p))
    × (k ≡ length p)
    × (n ≡ path_length p)
    × (8 * k ≤ length lengths)
    × (n ≤ length bytes)

-- A question whose path is still to be read.
abbrev pub asked_read : asked.Question → Option Question
asked_read (Successor text) = asks successor_of (read_path text.now)
asked_read (NextGreater text) = asks next_greater_of (read_path text.now)
asked_read Greatest = some greatest_path

abbrev pub question_read : code.Option asked.Question → Option Question
question_read None = none
question_read (Some q) = asked_read q

-- A line: its limits, and such a question.
abbrev pub line_read : code.Option (Limits × asked.Question) → Option Read
line_read None = none
line_read (Some (L, q)) = with_question L.mcl L.mcc L.mpl (asked_read q)

-- The text of a question's path is no longer than so many bytes.
abbrev pub path_within : ℕ → asked.Question → Type 0
path_within n (Successor text) = length text.now ≤ n
path_within n (NextGreater text) = length text.now ≤ n
path_within n Greatest = Unit {0}
