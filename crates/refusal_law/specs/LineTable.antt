-- WHICH NUMBER A KEY LINE IS REFUSED WITH. "A line of another form, an empty one too, gets 3 before any other number": 1, 7, 8 and 9 speak
-- of how a line is worded, so that they have nothing to say of a line that is not of the form, and 3 needs no exception to the order.
use Rattle.std.specs.Prelude.{ℕ, ◌<◌, ◌≡◌, ◌↔◌, List, [], ◌∷◌, length}
use Rattle.willow.specs.declared.Refusal.{Refusal}
use Rattle.willow.specs.declared.Refusal.TheVariants.{BadLimits, BadKind, PathTooLong, TooManyComponents, ComponentTooLong}
use Rattle.willow.specs.Construction.{SomeTooLong}
use Rattle.willow.specs.Paths.{Path, path_length}
use Rattle.willow.specs.Refusals.{refused}
use Rattle.tables.specs.TableRows.{LimitsOver}
use Rattle.tables.specs.Tables.{Row, ◌when◌, AnsweredBy, refusal_of}
use Rattle.keyform.specs.Answering.{line_outcome, refused_text, answer_text}
use Rattle.keyform.specs.KeyTheorem.{Names}
use Rattle.keyform.specs.Wording.{Wording, limits_worded, OfForm}

-- The line is worded so that it has P; and it names a path that has P under the limits that it words.
abbrev pub Worded : List ℕ → (Wording → Type 0) → Type 0
Worded line P = (w : Wording) × OfForm line w × P w

-- THE ROWS of a key line, each named once. "3 BadKind: .. or a line of the key program is not of its form."
abbrev pub other_form : List ℕ → Row
other_form line = BadKind when (Worded line (λ w. Unit {0}) → ⊥)

-- 1, 7, 8, 9, of the limits and the path that it words; "the rules of `from_slices`".
abbrev pub worded_limits_over : List ℕ → Row
worded_limits_over line = BadLimits when Worded line (λ w. LimitsOver (limits_worded w))

abbrev pub worded_too_long : List ℕ → Row
worded_too_long line = PathTooLong when Worded line (λ w. (p : Path) × Names w.asked p × ((limits_worded w).mpl < path_length p))

abbrev pub worded_too_many : List ℕ → Row
worded_too_many line = TooManyComponents when Worded line (λ w. (p : Path) × Names w.asked p × ((limits_worded w).mcc < length p))

abbrev pub worded_component_too_long : List ℕ → Row
worded_component_too_long line = ComponentTooLong when Worded line (λ w. (p : Path) × Names w.asked p × SomeTooLong (limits_worded w) p)

-- THE TABLE of a line; and `refused` and a number are printed for exactly the refusal that is given. There are no premises.
abbrev pub line_rows : List ℕ → List Row
line_rows line = worded_limits_over line ∷ other_form line ∷ worded_too_long line ∷ worded_too_many line ∷ worded_component_too_long line ∷ []

pub record LineTable : Type 0 where
  pub refusals : (line : List ℕ) → AnsweredBy (line_rows line) (refusal_of (line_outcome line))
  pub printed_so : (line : List ℕ) (r : Refusal) → (answer_text line ≡ refused_text r) ↔ (line_outcome line ≡ refused r)
