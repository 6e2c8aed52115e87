-- The answer to a key line, and to an input that comes in chunks.
use Rattle.std.specs.Prelude.{ℕ, ◌+◌, ◌*◌, cond, List, [], ◌∷◌, ◌++◌, eqb, leb, ltb, length}
use Rattle.std.proofs.Math.Option.{Option, none, some}
use Rattle.willow.specs.declared.Limits.{Limits}
use Rattle.willow.specs.declared.Refusal.{Refusal}
use Rattle.willow.specs.declared.Refusal.TheVariants.{BadKind}
use Rattle.willow.specs.Construction.{admitted}
use Rattle.willow.specs.LeastPaths.{greatest}
use Rattle.willow.specs.Limits.{max_mcc, max_mpl}
use Rattle.willow.specs.Paths.{Path}
use Rattle.willow.specs.Refusals.{refusal_number, Outcome, refused, absent, value}
use Rattle.construction.specs.Making.{under_limits}
use Rattle.least.specs.Places as least
use Rattle.keyform.specs.Reading.{Read, read_line}
use Rattle.keyform.specs.Splitting.{lines_of}
use Rattle.keyform.specs.Texts.{text, newline, decimal_text, path_text}
use Rattle.keyform.specs.Wording.{max_line, Question, successor_of, next_greater_of, greatest_path}

-- A question on a path that is made by the rules of `from_slices`: 7, 8, 9.
abbrev pub on_made : Outcome Path → (Path → Outcome Path) → Outcome Path
on_made (refused r) f = refused r
on_made absent f = absent
on_made (value p) f = f p

abbrev pub question_outcome : Limits → Question → Outcome Path
question_outcome L (successor_of p) = on_made (admitted L p) (least.successor_of L)
question_outcome L (next_greater_of p) = on_made (admitted L p) (least.next_greater_of L)
question_outcome L greatest_path = value (greatest L)

-- "A line of another form, an empty one too, gets 3 before any other number"; else 1 comes first.
abbrev pub read_outcome : Option Read → Outcome Path
read_outcome none = refused BadKind
read_outcome (some r) = under_limits r.limits (question_outcome r.limits r.asked)

unfoldable pub line_outcome : List ℕ → Outcome Path
line_outcome line = cond (leb (length line) max_line) (read_outcome (read_line line)) (refused BadKind)

-- "It prints per line the path, `none`, or `refused` and the number."
abbrev pub refused_text : Refusal → List ℕ
refused_text r = text "refused " ++ decimal_text (refusal_number r)

abbrev pub outcome_text : Outcome Path → List ℕ
outcome_text (refused r) = refused_text r
outcome_text absent = text "none"
outcome_text (value p) = path_text p

unfoldable pub answer_text : List ℕ → List ℕ
answer_text line = outcome_text (line_outcome line)

-- The most bytes in an answer: the text of a path has two digits for each of its bytes, and for each of its components at most
-- a dash and the slash behind it.
abbrev pub max_answer : ℕ
max_answer = 2 * max_mpl + 2 * max_mcc

-- An answer and the newline behind it.
unfoldable pub ended_answer : List ℕ → List ℕ
ended_answer line = answer_text line ++ (newline ∷ [])

abbrev pub ended_answers : List (List ℕ) → List ℕ
ended_answers [] = []
ended_answers (l ∷ ls) = ended_answer l ++ ended_answers ls

-- All that is printed for an input.
unfoldable pub printed : List ℕ → List ℕ
printed input = ended_answers (lines_of input)

-- IN CHUNKS. What is held of a line while it comes: its bytes, or only that they are more than a line may have.
pub data Held : Type 0 where
  kept : List ℕ → Held
  overlong : Held

abbrev pub longer : Held → ℕ → Held
longer (kept l) b = cond (ltb (length l) max_line) (kept (l ++ (b ∷ []))) overlong
longer overlong b = overlong

-- What is printed when the line that is held has ended.
abbrev pub held_answer : Held → List ℕ
held_answer (kept l) = ended_answer l
held_answer overlong = refused_text BadKind ++ (newline ∷ [])

abbrev pub held_after : Held → List ℕ → Held
held_after h [] = h
held_after h (b ∷ bs) = held_after (cond (eqb b newline) (kept []) (longer h b)) bs

abbrev pub printed_by : Held → List ℕ → List ℕ
printed_by h [] = []
printed_by h (b ∷ bs) = cond (eqb b newline) (held_answer h ++ printed_by (kept []) bs) (printed_by (longer h b) bs)

-- What the input's end adds: the answer to a line that no newline has ended, if there is something of it.
abbrev pub printed_at_end : Held → List ℕ
printed_at_end (kept []) = []
printed_at_end (kept (b ∷ bs)) = held_answer (kept (b ∷ bs))
printed_at_end overlong = held_answer overlong

-- Over a list of chunks, one behind the other.
abbrev pub printed_over : Held → List (List ℕ) → List ℕ
printed_over h [] = printed_at_end h
printed_over h (c ∷ cs) = printed_by h c ++ printed_over (held_after h c) cs
