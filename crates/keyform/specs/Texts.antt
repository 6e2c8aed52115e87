-- Bytes as they are written in key lines: "Bytes in hexadecimal, components split by /, - an empty component, () the empty
-- path", and numbers in decimal.
use Prim.Native.Char.{code}
use Rattle.std.specs.Prelude.{ℕ, ◌+◌, ◌*◌, ◌/◌, ◌%◌, ◌<◌, ◌≤◌, cond, List, [], ◌∷◌, ◌++◌, map, ltb, length}
use Prim.Native.String as string
use Prim.Native.String.{String}
use Rattle.willow.specs.Lists.{All}
use Rattle.willow.specs.Paths.{Component, Path}

-- The bytes of a quoted text, a character of it a byte.
abbrev pub text : String → List ℕ
text string.[] = []
text (string.◌∷◌ c s) = code c ∷ text s

abbrev pub newline : ℕ
newline = 10

abbrev pub space : ℕ
space = 32

abbrev pub dash : ℕ
dash = 45

abbrev pub slash : ℕ
slash = 47

-- The byte of the digit 0; the others follow it.
abbrev pub digit_zero : ℕ
digit_zero = 48

-- DECIMAL. The digits of a numeral are numbers below 10, the highest first.
abbrev pub decimal_digits : ℕ
decimal_digits = 10

-- "Decimal numbers of 1 to 10 digits."
abbrev pub most_digits : ℕ
most_digits = 10

pub record Numeral (digits : List ℕ) : Type 0 where
  pub some_digit : 1 ≤ length digits
  pub few_digits : length digits ≤ most_digits
  pub each_digit : All (λ d. d < decimal_digits) digits

abbrev pub numeral_text : List ℕ → List ℕ
numeral_text = map (λ d. digit_zero + d)

-- The number that digits behind the number v make with it; behind 0, the number that they make.
abbrev pub numeral_from : ℕ → List ℕ → ℕ
numeral_from v [] = v
numeral_from v (d ∷ ds) = numeral_from (decimal_digits * v + d) ds

abbrev pub numeral_value : List ℕ → ℕ
numeral_value = numeral_from 0

-- A number below 100, without leading zeros: a refusal's number is one of 1 to 63.
unfoldable pub decimal_text : ℕ → List ℕ
decimal_text n =
    cond (ltb n decimal_digits) ((digit_zero + n) ∷ [])
    ((digit_zero + n / decimal_digits) ∷ (digit_zero + n % decimal_digits) ∷ [])

-- HEXADECIMAL. "Lower-case hexadecimal, two digits a byte." The byte of the digit of a value below 16: 0 to 9, then a to f.
abbrev pub hex_digit : ℕ → ℕ
hex_digit d = cond (ltb d decimal_digits) (digit_zero + d) (87 + d)

abbrev pub hex_text : List ℕ → List ℕ
hex_text [] = []
hex_text (b ∷ bs) = hex_digit (b / 16) ∷ hex_digit (b % 16) ∷ hex_text bs

-- A component: "- an empty component".
abbrev pub component_text : Component → List ℕ
component_text [] = dash ∷ []
component_text (b ∷ bs) = hex_text (b ∷ bs)

-- Pieces with a separator between each two.
abbrev pub behind_each : ℕ → List (List ℕ) → List ℕ
behind_each separator [] = []
behind_each separator (x ∷ xs) = separator ∷ (x ++ behind_each separator xs)

abbrev pub between : ℕ → List (List ℕ) → List ℕ
between separator [] = []
between separator (x ∷ xs) = x ++ behind_each separator xs

-- A path: "components split by /", "() the empty path".
abbrev pub path_text : Path → List ℕ
path_text [] = text "()"
path_text (c ∷ cs) = between slash (map component_text (c ∷ cs))
