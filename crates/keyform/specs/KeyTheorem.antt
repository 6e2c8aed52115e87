-- THEOREM 11. Key lines by their meaning. The only premise beside the wording itself is that a path that is shown is made of
-- bytes, as the empty one is.
use Rattle.std.specs.Prelude.{ℕ, ◌≤◌, ◌<◌, List, [], map, ◌↔◌, ◌≡◌, length}
use Rattle.std.proofs.Math.Option.{Option, none, some}
use Rattle.willow.specs.declared.Refusal.{Refusal}
use Rattle.willow.specs.declared.Refusal.TheVariants.{BadLimits, BadKind, PathTooLong, TooManyComponents, ComponentTooLong}
use Rattle.willow.specs.Construction.{SomeTooLong}
use Rattle.willow.specs.LeastPaths.{Least, GreaterNotPrefixed, GreaterPath}
use Rattle.willow.specs.Limits.{Accepted}
use Rattle.willow.specs.Lists.{In, All}
use Rattle.willow.specs.Numbers.{Bytes}
use Rattle.willow.specs.Orders.{AtMost}
use Rattle.willow.specs.Packed.{joined}
use Rattle.willow.specs.Paths.{Path, path_length, Valid, PathBelow}
use Rattle.keyform.specs.Answering.{refused_text, answer_text, printed, kept, printed_over}
use Rattle.keyform.specs.Reading.{read_path, Read, read_line}
use Rattle.keyform.specs.Splitting.{lines_of, ended_lines, closed}
use Rattle.keyform.specs.Texts.{text, newline, path_text}
use Rattle.keyform.specs.Wording.{max_line, Question, successor_of, next_greater_of, greatest_path, Wording, limits_worded, OfForm}

-- (a) A line is read exactly if it is of the form, as what it is worded to be, and it can be read in one way. And limits and a
-- question are written in one way, up to the numerals' leading zeros: with as many digits in each numeral the lines are the same.
abbrev pub read_as : Wording → Read
read_as w = record { limits = limits_worded w; asked = w.asked }

pub record OneWording : Type 0 where
  pub read_exactly : (line : List ℕ) (r : Read)
      → ((read_line line ≡ some r) × (length line ≤ max_line)) ↔ ((w : Wording) × OfForm line w × (r ≡ read_as w))
  pub one_reading : (line : List ℕ) (v w : Wording) → OfForm line v → OfForm line w → v ≡ w
  pub one_writing : (l m : List ℕ) (v w : Wording) → OfForm l v → OfForm m w → limits_worded v ≡ limits_worded w → v.asked ≡ w.asked
      → length v.mcl ≡ length w.mcl → length v.mcc ≡ length w.mcc → length v.mpl ≡ length w.mpl → l ≡ m

-- (b) WHAT A LINE IS ANSWERED. The answer that a search has: the shown path, or none.
abbrev pub found_text : Option Path → List ℕ
found_text none = text "none"
found_text (some q) = path_text q

-- The path that a question names, if it names one.
abbrev pub Names : Question → Path → Type 0
Names (successor_of p) q = p ≡ q
Names (next_greater_of p) q = p ≡ q
Names greatest_path q = ⊥

pub record LineAnswers (line : List ℕ) (w : Wording) : Type 0 where
  pub bad_limits_lem : (Accepted (limits_worded w) → ⊥) → answer_text line ≡ refused_text BadLimits
  pub path_too_long_lem : Accepted (limits_worded w) → (p : Path) → Names w.asked p → (limits_worded w).mpl < path_length p
      → answer_text line ≡ refused_text PathTooLong
  pub too_many_components_lem : Accepted (limits_worded w) → (p : Path) → Names w.asked p → path_length p ≤ (limits_worded w).mpl
      → (limits_worded w).mcc < length p → answer_text line ≡ refused_text TooManyComponents
  pub component_too_long_lem : Accepted (limits_worded w) → (p : Path) → Names w.asked p → path_length p ≤ (limits_worded w).mpl
      → length p ≤ (limits_worded w).mcc → SomeTooLong (limits_worded w) p → answer_text line ≡ refused_text ComponentTooLong
  pub successor : Accepted (limits_worded w) → (p : Path) → w.asked ≡ successor_of p → Valid (limits_worded w) p
      → (o : Option Path) × Least (GreaterPath (limits_worded w) p) o × (answer_text line ≡ found_text o)
  pub next_greater_lem : Accepted (limits_worded w) → (p : Path) → w.asked ≡ next_greater_of p → Valid (limits_worded w) p
      → (o : Option Path) × Least (GreaterNotPrefixed (limits_worded w) p) o × (answer_text line ≡ found_text o)
  pub greatest : Accepted (limits_worded w) → w.asked ≡ greatest_path
      → (g : Path) × Valid (limits_worded w) g × ((r : Path) → Valid (limits_worded w) r → AtMost PathBelow r g) × (answer_text line ≡ path_text g)

pub record Answered : Type 0 where
  pub of_form : (line : List ℕ) (w : Wording) → OfForm line w → LineAnswers line w
  pub of_another_form : (line : List ℕ) → ((w : Wording) → OfForm line w → ⊥) → answer_text line ≡ refused_text BadKind

-- (c) WHAT IS SHOWN can be read back, and the kinds of answer can be told apart.
pub record Shown : Type 0 where
  pub path_read_back : (p : Path) → All Bytes p → read_path (path_text p) ≡ some p
  pub path_not_none : (p : Path) → All Bytes p → path_text p ≡ text "none" → ⊥
  pub path_not_refused : (p : Path) (r : Refusal) → All Bytes p → path_text p ≡ refused_text r → ⊥
  pub none_not_refused : (r : Refusal) → text "none" ≡ refused_text r → ⊥
  pub refusals_differ : (q r : Refusal) → refused_text q ≡ refused_text r → q ≡ r

-- (d) THE LINES OF AN INPUT hold no newline, and each followed by one they give the input, or the input with one added where it
-- is not empty and does not end in one. What is printed has the lines' answers, one for each and in their order, as its own
-- lines, and each is ended. However an input is cut into chunks, the same is printed.
pub record Lines : Type 0 where
  pub without_newline : (input l : List ℕ) → In l (lines_of input) → In newline l → ⊥
  pub ended : (input : List ℕ) → ended_lines (lines_of input) ≡ closed input
  pub each_answered : (input : List ℕ) → printed input ≡ ended_lines (map answer_text (lines_of input))
  pub answers_apart : (input : List ℕ) → lines_of (printed input) ≡ map answer_text (lines_of input)
  pub in_chunks : (chunks : List (List ℕ)) → printed_over (kept []) chunks ≡ printed (joined chunks)

pub record KeyTheorem : Type 0 where
  pub one_wording : OneWording
  pub answered : Answered
  pub shown : Shown
  pub lines : Lines
