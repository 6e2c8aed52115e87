-- Document 01's key lines as bytes in and bytes out. Those marked (*) stand among the marked cases of willow too, as paths.
use Prim.Native.String.{String}
use Rattle.std.specs.Prelude.{List, [], ◌∷◌, map, ◌≡◌}
use Rattle.keyform.specs.Answering.{answer_text, printed}
use Rattle.keyform.specs.Texts.{text}

pub record KeyCase : Type 0 where
  pub line : String
  pub answer : String

abbrev case : String → String → KeyCase
case l a = record { line = l; answer = a }

abbrev pub key_cases : List KeyCase
key_cases =
    case "2 1 2 S 01ff" "02"
    ∷ case "2 2 3 S ()" "-"
    ∷ case "2 2 3 S 01" "01/-"
    ∷ case "3 2 3 G 01ff/ff" "01ff00"
    ∷ case "2 2 2 G ffff/-" "none"
    ∷ case "4 2 6 M" "ffffffff/ffff"
    ∷ case "1 2 5 M" "ff/ff"
    ∷ case "2 2 3 G 01" "0100"
    ∷ case "2 2 3 G ()" "none"
    ∷ case "2 1 3 G 010203" "refused 9"
    ∷ case "2 1 3 S 0101/0101" "refused 7"
    ∷ case "2 1 3 S 01/01" "refused 8"
    ∷ case "2 2 4097 S 01" "refused 1"
    ∷ case "" "refused 3"
    ∷ []

pub record KeyCasesHold : Type 0 where
  pub each : map (λ c. answer_text (text c.line)) key_cases ≡ map (λ c. text c.answer) key_cases
  pub document : printed (text "2 1 2 S 01ff\n2 2 3 G 01\n2 2 3 G ()\n2 1 3 G 010203\n") ≡ text "02\n0100\nnone\nrefused 9\n"
