-- Text split at a separator, and the lines of an input.
use Rattle.std.specs.Prelude.{ℕ, cond, List, [], ◌∷◌, ◌++◌, eqb}
use Rattle.keyform.specs.Texts.{newline}

-- The pieces between the separators, where `so_far` has come of the first of them.
abbrev pub pieces_from : ℕ → List ℕ → List ℕ → List (List ℕ)
pieces_from separator so_far [] = so_far ∷ []
pieces_from separator so_far (b ∷ bs) =
    cond (eqb b separator) (so_far ∷ pieces_from separator [] bs) (pieces_from separator (so_far ++ (b ∷ [])) bs)

unfoldable pub pieces : ℕ → List ℕ → List (List ℕ)
pieces separator s = pieces_from separator [] s

-- "Lines .. each ended by a newline or the input's end. Where the input ends with a newline, no further line follows it; empty
-- input has no line." So the last piece is a line only if there is something of it.
abbrev pub or_nothing : List ℕ → List (List ℕ)
or_nothing [] = []
or_nothing (b ∷ bs) = (b ∷ bs) ∷ []

abbrev pub lines_from : List ℕ → List ℕ → List (List ℕ)
lines_from so_far [] = or_nothing so_far
lines_from so_far (b ∷ bs) =
    cond (eqb b newline) (so_far ∷ lines_from [] bs) (lines_from (so_far ++ (b ∷ [])) bs)

unfoldable pub lines_of : List ℕ → List (List ℕ)
lines_of input = lines_from [] input

-- Each line ended by a newline.
abbrev pub ended_lines : List (List ℕ) → List ℕ
ended_lines [] = []
ended_lines (l ∷ ls) = l ++ (newline ∷ ended_lines ls)

-- MEANT: the input as it is, where it is empty or ends in a newline; else with a newline behind it.
abbrev pub closed : List ℕ → List ℕ
closed [] = []
closed (b ∷ []) = cond (eqb b newline) (b ∷ []) (b ∷ newline ∷ [])
closed (b ∷ c ∷ s) = b ∷ closed (c ∷ s)
