-- A line's outcome by the case in which it was read: 3, a question on the rest of the line as a path, or the greatest path.
use Prim.Native.Nat.{ℕ, ◌≤◌}
use mathlib.Core.List.{List}
use mathlib.Core.Logic.{inl, inr}
use mathlib.Core.Path.{◌≡◌, refl, sym, ◌∙◌, ap}
use lib.ListN.{length}
use borrow.Author.Tests.{le-leb}
use denote.Ref.{Bor}
use Rattle.std.specs.Prelude.{None, Some, Result}
use Rattle.std.specs.Prelude as code
use Rattle.willow.specs.declared.Limits.{Limits}
use Rattle.willow.specs.declared.Refusal.TheVariants.{BadKind}
use Rattle.willow.specs.Construction.{admitted}
use Rattle.willow.specs.Limits.{Accepted}
use Rattle.willow.specs.Lists.{All}
use Rattle.willow.specs.Numbers.{Bytes}
use Rattle.willow.specs.Packed.{widest}
use Rattle.willow.specs.Paths.{Path, Valid}
use Rattle.willow.specs.Refusals.{Outcome, refused, absent, value}
use Rattle.willow.proofs.ConstructionLaws.{construction}
use Rattle.willow.proofs.LeastPathLaws.{least_paths}
use Rattle.least.specs.Places as least
use Rattle.greatest.specs.Greatest.{greatest_outcome}
use Rattle.keyform.specs.Answering.{line_outcome, on_made, question_outcome, read_outcome}
use Rattle.keyform.specs.Reading.{read_line}
use Rattle.keyform.specs.Wording.{max_line, Question, BytesAsked, limits_worded, successor_of, next_greater_of, greatest_path}
use Rattle.keyform.proofs.AnsweringLaws.{form_outcome, other_form_lem}
use Rattle.keyform.proofs.WordingLaws.{form_decided}
use Rattle.keyread.specs.declared.inner.Question as asked
use Rattle.keyread.specs.declared.inner.Question.TheVariants.{Successor, NextGreater, Greatest}
use Rattle.keyread.specs.Parts.{line_read}
use Rattle.keyask.specs.Found.{Sound, text_outcome}
use Rattle.keyask.proofs.FoundLaws.{under_sound, successor_sound, next_greater_sound}

module _ (s : List ℕ) (within : length s ≤ max_line) (r : code.Option (Limits × asked.Question)) (reads : line_read r ≡ read_line s) where
  line_is : (q : code.Option (Limits × asked.Question)) → r ≡ q → line_outcome s ≡ read_outcome (line_read q)
  unfolding line_outcome
  line_is q e = rw (le-leb (length s) max_line within) (ap read_outcome (sym reads ∙ ap line_read e))

  pub line_bad : r ≡ None → line_outcome s ≡ refused BadKind
  line_bad e = line_is None e

  module _ (L : Limits) (q : asked.Question) (line : r ≡ Some (L, q)) where
    pub line_greatest : q ≡ Greatest → line_outcome s ≡ greatest_outcome L
    line_greatest e = line_is (Some (L, Greatest)) (line ∙ ap (λ x. Some (L, x)) e)

    pub line_successor : (text : Bor (List ℕ)) → q ≡ Successor text → line_outcome s ≡ text_outcome L successor_of text.now
    line_successor text e = line_is (Some (L, Successor text)) (line ∙ ap (λ x. Some (L, x)) e)

    pub line_next_greater : (text : Bor (List ℕ)) → q ≡ NextGreater text → line_outcome s ≡ text_outcome L next_greater_of text.now
    line_next_greater text e = line_is (Some (L, NextGreater text)) (line ∙ ap (λ x. Some (L, x)) e)

-- THE OUTCOME is sound under the limits that the line words.
made_answers : (L : Limits) (p : Path) (f : Path → Outcome Path) → All Bytes p → Accepted L → (Valid L p → Sound L (f p)) → Sound L (on_made (admitted L p) f)
made_answers L p f b a h = go (admitted L p) refl
  where
    go : (o : Outcome Path) → admitted L p ≡ o → Sound L (on_made o f)
    go (refused r) e = tt
    go absent e = tt
    go (value q) e = let t = ((construction.admission L p b).valid q).0 e in rw t.0 (h t.1)

question_sound : (L : Limits) (q : Question) → Accepted L → BytesAsked q → Sound L (question_outcome L q)
question_sound L (successor_of p) a b = made_answers L p (least.successor_of L) b a (successor_sound L p a)
question_sound L (next_greater_of p) a b = made_answers L p (least.next_greater_of L) b a (next_greater_sound L p a)
question_sound L greatest_path a b = (a, (least_paths L).greatest_valid)

pub line_sound : (line : List ℕ) → (L : Limits) × Sound L (line_outcome line)
line_sound line = elim (form_decided line) [
  | inl f ↦
      let L = limits_worded f.0 in
      (L, rw (form_outcome line f.0 f.1) (under_sound L (question_outcome L f.0.asked) (λ a. question_sound L f.0.asked a f.1.asked_bytes)))
  | inr n ↦ (widest, rw (other_form_lem line n) tt)
]
