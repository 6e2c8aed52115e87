-- WHAT IS MEANT by a key line: how it is worded. "Limits, S (successor), G (next greater), M (greatest; no path), path. Single
-- spaces; decimal numbers of 1 to 10 digits; lower-case hexadecimal, two digits a byte; lines to 16,384 bytes without the
-- newline."
use Rattle.std.specs.Prelude.{ℕ, ◌≤◌, List, ◌∷◌, ◌++◌, ◌≡◌, length}
use Rattle.willow.specs.declared.Limits.{Limits}
use Rattle.willow.specs.Lists.{All}
use Rattle.willow.specs.Numbers.{Bytes}
use Rattle.willow.specs.Paths.{Path}
use Rattle.keyform.specs.Texts.{text, space, Numeral, numeral_text, numeral_value, path_text}

-- The most bytes in a line.
abbrev pub max_line : ℕ
max_line = 16384

pub data Question : Type 0 where
  successor_of : Path → Question
  next_greater_of : Path → Question
  greatest_path : Question

abbrev pub question_text : Question → List ℕ
question_text (successor_of p) = text "S " ++ path_text p
question_text (next_greater_of p) = text "G " ++ path_text p
question_text greatest_path = text "M"

-- The bytes of the path that a question names are bytes.
abbrev pub BytesAsked : Question → Type 0
BytesAsked (successor_of p) = All Bytes p
BytesAsked (next_greater_of p) = All Bytes p
BytesAsked greatest_path = Unit {0}

-- Three numerals, by their digits, and a question.
pub record Wording : Type 0 where
  pub mcl : List ℕ
  pub mcc : List ℕ
  pub mpl : List ℕ
  pub asked : Question

abbrev pub limits_worded : Wording → Limits
limits_worded w = record { mcl = numeral_value w.mcl; mcc = numeral_value w.mcc; mpl = numeral_value w.mpl }

abbrev pub wording_text : Wording → List ℕ
wording_text w =
    numeral_text w.mcl ++ (space ∷ (numeral_text w.mcc ++ (space ∷ (numeral_text w.mpl ++ (space ∷ question_text w.asked)))))

-- A line is of the form by this wording.
pub record OfForm (line : List ℕ) (w : Wording) : Type 0 where
  pub mcl_numeral : Numeral w.mcl
  pub mcc_numeral : Numeral w.mcc
  pub mpl_numeral : Numeral w.mpl
  pub asked_bytes : BytesAsked w.asked
  pub within : length line ≤ max_line
  pub worded : line ≡ wording_text w
