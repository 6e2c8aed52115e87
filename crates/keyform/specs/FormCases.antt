-- Where the form of a key line could be read otherwise, as rows: each is a case of theorem 11.
use Rattle.std.specs.Prelude.{ℕ, List, [], ◌∷◌, ◌++◌, map, ◌≡◌, replicate}
use Prim.Native.String.{String}
use Rattle.keyform.specs.Answering.{answer_text, printed, kept, printed_over}
use Rattle.keyform.specs.KeyCases.{KeyCase}
use Rattle.keyform.specs.Texts.{text, path_text}

abbrev row : String → String → KeyCase
row l a = record { line = l; answer = a }

-- NUMBERS: leading zeros are digits, and there are 1 to 10 of them; 3 comes before 1.
abbrev pub number_cases : List KeyCase
number_cases =
    row "0000000002 1 2 S 01ff" "02"
    ∷ row "00000000002 1 2 S 01ff" "refused 3"
    ∷ row "9999999999 1 2 S 01ff" "refused 1"
    ∷ row " 1 2 S 01ff" "refused 3"
    ∷ row "2 2 4097 X" "refused 3"
    ∷ []

-- PATHS: every digit, the empty path, what is no digit, and what stands only alone; 7 comes before 9.
abbrev pub path_cases : List KeyCase
path_cases =
    row "8 2 8 S 0123456789abcdef" "0123456789abcdef/-"
    ∷ row "2 0 2 M" "()"
    ∷ row "2 1 2 S 01FF" "refused 3"
    ∷ row "2 1 2 S 01f" "refused 3"
    ∷ row "2 2 3 S 01//02" "refused 3"
    ∷ row "2 2 3 S -01" "refused 3"
    ∷ row "2 2 3 S ()/01" "refused 3"
    ∷ row "2 2 3 S 010203/01" "refused 7"
    ∷ []

-- QUESTIONS AND SPACES: M is alone, S and G are not; each space is single.
abbrev pub question_cases : List KeyCase
question_cases =
    row "4 2 6 M 01" "refused 3"
    ∷ row "4 2 6 M " "refused 3"
    ∷ row "4 2 6 S" "refused 3"
    ∷ row "4 2 6 S " "refused 3"
    ∷ row "4 2 6 s 01" "refused 3"
    ∷ row "4  2 6 M" "refused 3"
    ∷ row "4 2 6 M\r" "refused 3"
    ∷ []

-- LONG LINES: a line of 16,384 bytes is read, one of 16,385 is not. A path of n empty components has 2 n - 1 bytes.
abbrev pub empty_components : ℕ → List ℕ
empty_components n = path_text (replicate n [])

-- WHOLE INPUTS: without a line, with an empty one, and with a last one that no newline ends.
abbrev pub input_cases : List KeyCase
input_cases =
    row "" ""
    ∷ row "\n" "refused 3\n"
    ∷ row "1 2 5 M\n\n2 1 2 S 01ff" "ff/ff\nrefused 3\n02\n"
    ∷ []

pub record FormCasesHold : Type 0 where
  pub numbers : map (λ c. answer_text (text c.line)) number_cases ≡ map (λ c. text c.answer) number_cases
  pub paths : map (λ c. answer_text (text c.line)) path_cases ≡ map (λ c. text c.answer) path_cases
  pub questions : map (λ c. answer_text (text c.line)) question_cases ≡ map (λ c. text c.answer) question_cases
  pub longest : answer_text (text "02 1 2 S " ++ empty_components 8188) ≡ text "refused 8"
  pub too_long : answer_text (text "2 1 2 S " ++ empty_components 8189) ≡ text "refused 3"
  pub inputs : map (λ c. printed (text c.line)) input_cases ≡ map (λ c. text c.answer) input_cases
  pub chunks : printed_over (kept []) (text "2 1 2 S 01" ∷ text "ff\n1 2 " ∷ text "5 M" ∷ []) ≡ text "02\nff/ff\n"
