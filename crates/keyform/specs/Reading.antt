-- WHAT IS COMPUTED of a key line: its limits and its question, or nothing where it is of another form.
use Rattle.std.specs.Prelude.{ℕ, ◌+◌, ◌-◌, ◌*◌, Bool, ◌&&◌, cond, List, [], ◌∷◌, eqb, leb, ltb, length, get_or}
use Rattle.std.proofs.Math.Option.{Option, none, some}
use Rattle.willow.specs.declared.Limits.{Limits}
use Rattle.willow.specs.Paths.{Component, Path}
use Rattle.keyform.specs.Splitting.{pieces}
use Rattle.keyform.specs.Texts.{space, dash, slash, digit_zero, decimal_digits, most_digits}
use Rattle.keyform.specs.Wording.{Question, successor_of, next_greater_of, greatest_path}

-- A NUMERAL AND THE SPACE BEHIND IT, at the front of a line: its value and the rest of the line. v is the number of the digits
-- that came, and `left` more may come.
abbrev pub is_digit : ℕ → Bool
is_digit b = leb digit_zero b && leb b 57

pub record Field : Type 0 where
  pub number : ℕ
  pub rest : List ℕ

abbrev pub field_from : ℕ → ℕ → List ℕ → Option Field
field_from left v [] = none
field_from left v (b ∷ bs) =
    cond (eqb b space) (cond (ltb left most_digits) (some (record { number = v; rest = bs })) none)
    (cond (is_digit b && ltb 0 left) (field_from (left - 1) (decimal_digits * v + (b - digit_zero)) bs) none)

unfoldable pub read_field : List ℕ → Option Field
read_field s = field_from most_digits 0 s

-- HEXADECIMAL. The value of a digit; 16 where it is none.
abbrev pub hex_value : ℕ → ℕ
hex_value b = cond (is_digit b) (b - digit_zero) (cond (leb 97 b && leb b 102) (b - 87) 16)

-- An element before a list that there may not be.
abbrev pub before : {A : Type 0} → A → Option (List A) → Option (List A)
before x none = none
before x (some xs) = some (x ∷ xs)

abbrev pub read_hex : List ℕ → Option (List ℕ)
read_hex [] = some []
read_hex (x ∷ []) = none
read_hex (x ∷ y ∷ s) = cond (ltb (hex_value x) 16 && ltb (hex_value y) 16) (before (16 * hex_value x + hex_value y) (read_hex s)) none

-- A COMPONENT: a dash, or bytes. Nothing is no component.
abbrev pub is_dash : List ℕ → Bool
is_dash s = eqb (length s) 1 && eqb (get_or s 0 0) dash

unfoldable pub read_component : List ℕ → Option Component
read_component s = cond (eqb (length s) 0) none (cond (is_dash s) (some []) (read_hex s))

-- The component that a piece is, before those of the pieces behind it.
abbrev pub before_or : Option Component → Option Path → Option Path
before_or none rest = none
before_or (some c) rest = before c rest

abbrev pub read_components : List (List ℕ) → Option Path
read_components [] = some []
read_components (s ∷ ss) = before_or (read_component s) (read_components ss)

-- A PATH: (), or components split by /.
abbrev pub is_unit : List ℕ → Bool
is_unit s = eqb (length s) 2 && (eqb (get_or s 0 0) 40 && eqb (get_or s 1 0) 41)

unfoldable pub read_path : List ℕ → Option Path
read_path s = cond (is_unit s) (some []) (read_components (pieces slash s))

-- A QUESTION: S or G, a space and a path; or M alone.
abbrev pub asks : (Path → Question) → Option Path → Option Question
asks question none = none
asks question (some p) = some (question p)

abbrev pub behind_space : List ℕ → Option Path
behind_space [] = none
behind_space (b ∷ s) = cond (eqb b space) (read_path s) none

abbrev pub alone : List ℕ → Option Question
alone [] = some greatest_path
alone (b ∷ s) = none

abbrev pub read_question : List ℕ → Option Question
read_question [] = none
read_question (b ∷ s) =
    cond (eqb b 83) (asks successor_of (behind_space s))
    (cond (eqb b 71) (asks next_greater_of (behind_space s))
    (cond (eqb b 77) (alone s)
    none))

-- A LINE: three numbers and a question.
pub record Read : Type 0 where
  pub limits : Limits
  pub asked : Question

abbrev pub with_question : ℕ → ℕ → ℕ → Option Question → Option Read
with_question mcl mcc mpl none = none
with_question mcl mcc mpl (some q) = some (record { limits = record { mcl = mcl; mcc = mcc; mpl = mpl }; asked = q })

abbrev pub behind_two : ℕ → ℕ → Option Field → Option Read
behind_two mcl mcc none = none
behind_two mcl mcc (some f) = with_question mcl mcc f.number (read_question f.rest)

abbrev pub behind_one : ℕ → Option Field → Option Read
behind_one mcl none = none
behind_one mcl (some f) = behind_two mcl f.number (read_field f.rest)

abbrev pub behind_none : Option Field → Option Read
behind_none none = none
behind_none (some f) = behind_one f.number (read_field f.rest)

unfoldable pub read_line : List ℕ → Option Read
read_line line = behind_none (read_field line)
