-- What was found of a line is shown as its answer, which has room; the newline is written behind it.
use Prim.Native.Nat.{ℕ, ◌+◌, ◌-◌, ◌≤◌, ◌<◌}
use mathlib.Core.List.{List, [], ◌∷◌, ◌++◌, append_assoc}
use mathlib.Core.Path.{◌≡◌, refl, sym, ◌∙◌, ap}
use native.Mathlib.Omega.{arith}
use lib.ListN.{length, take, drop, set, length-append}
use lib.Seq.{take_at}
use borrow.Author.Tests.{lt-leb}
use Rattle.willow.specs.declared.Refusal.{Refusal}
use Rattle.willow.specs.declared.Refusal.TheVariants.{BadKind}
use Rattle.willow.specs.Paths.{Path}
use Rattle.willow.specs.Refusals.{Outcome}
use Rattle.number.specs.Overwriting.{overwrite}
use Rattle.number.proofs.OverwritingLaws.{length_overwrite, overwrite_at_front, front_written, store_overwrite, written_on}
use Rattle.keyform.specs.Answering.{max_answer, refused_text, outcome_text, line_outcome, answer_text, ended_answer}
use Rattle.keyform.specs.Texts.{newline}
use Rattle.keyform.specs.Wording.{max_line}
use Rattle.keyform.proofs.AnsweringLaws.{answer_bound, refused_length}

-- WHAT IS SHOWN of a line's outcome is its answer, which is short enough
pub line_shown : (line : List ℕ) (o : Outcome Path) → o ≡ line_outcome line → (outcome_text o ≡ answer_text line) × (length (outcome_text o) ≤ max_answer)
unfolding answer_text
line_shown line o e = let b = answer_bound line in (ap outcome_text e, rw e b)

pub answer_room : (t : List ℕ) (to room : ℕ) → length t ≤ max_answer → to + max_answer + 1 ≤ room → to + length t ≤ room
answer_room t to room h k = omega arith

-- THE NEWLINE behind an answer
module _ (text out shown : List ℕ) (to at : ℕ) (place : at ≡ to + length text) (written : shown ≡ overwrite out to text)
    (bound : length text ≤ max_answer) (room : to + max_answer + 1 ≤ length out) where
  pub newline_room : at < length shown
  newline_room = let l = ap length written ∙ length_overwrite out to text (omega arith) in omega arith

  pub newline_place : at + 1 ≡ to + length (text ++ (newline ∷ []))
  newline_place = let l = length-append text (newline ∷ []) in omega arith

  pub newline_written : set shown at newline ≡ overwrite out to (text ++ (newline ∷ []))
  newline_written =
      let l = newline_room in
      written_on out text (newline ∷ []) shown (set shown at newline) to at (sym place) (omega arith) written (store_overwrite shown at newline l)

pub ended_is : (line : List ℕ) → answer_text line ++ (newline ∷ []) ≡ ended_answer line
unfolding ended_answer
ended_is line = refl

-- .. and behind that of a line
pub found_room : (line : List ℕ) (o : Outcome Path) (to room : ℕ) → o ≡ line_outcome line → to + max_answer + 1 ≤ room → to + length (outcome_text o) ≤ room
found_room line o to room e k = let b = (line_shown line o e).1 in omega arith

pub record Ended (line out : List ℕ) (to : ℕ) (shown : List ℕ) (at : ℕ) : Type 0 where
  pub room : at < length shown
  pub place : at + 1 ≡ to + length (ended_answer line)
  pub written : set shown at newline ≡ overwrite out to (ended_answer line)

pub line_ended : (line : List ℕ) (o : Outcome Path) (out : List ℕ) (to : ℕ) (shown : List ℕ) (at : ℕ) → o ≡ line_outcome line
    → at ≡ to + length (outcome_text o) → shown ≡ overwrite out to (outcome_text o) → to + max_answer + 1 ≤ length out → Ended line out to shown at
line_ended line o out to shown at h e w k =
    let s = (line_shown line o h).0 in
    let t = answer_text line in
    let place : at ≡ to + length t = e ∙ ap (λ x. to + length x) s in
    let written : shown ≡ overwrite out to t = w ∙ ap (overwrite out to) s in
    let b = answer_bound line in
    record {
      room = newline_room t out shown to at place written b k;
      place = newline_place t out shown to at place written b k ∙ ap (λ x. to + length x) (ended_is line);
      written = newline_written t out shown to at place written b k ∙ ap (overwrite out to) (ended_is line);
    }

-- A LINE OF ANY LENGTH: one that is too long gets 3, of another the answer stands before the newline.
pub long_answer : (line : List ℕ) → max_line < length line → refused_text BadKind ≡ answer_text line
unfolding answer_text line_outcome
long_answer line h = rw (lt-leb (length line) max_line h)

pub refused_bound : (r : Refusal) → length (refused_text r) ≤ max_answer
refused_bound r = let b = refused_length r in omega arith

pub refused_front : (line out : List ℕ) (n : ℕ) (new : List ℕ) → max_line < length line → max_answer + 1 ≤ length out
    → n ≡ 0 + length (refused_text BadKind) → new ≡ overwrite out 0 (refused_text BadKind)
    → (n ≤ length out) × (n ≡ length (answer_text line)) × (take n new ≡ answer_text line)
refused_front line out n new long room e w =
    let b = refused_bound BadKind in
    let z : n ≡ length (refused_text BadKind) = omega arith in
    (omega arith, z ∙ ap length (long_answer line long), rw (w, z) (front_written out (refused_text BadKind) _ refl ∙ long_answer line long))

pub answer_front : (line out : List ℕ) (n : ℕ) (new : List ℕ) → max_answer + 1 ≤ length out → n ≡ 0 + length (ended_answer line) → new ≡ overwrite out 0 (ended_answer line)
    → (1 ≤ n) × (n - 1 ≤ length out) × (n - 1 ≡ length (answer_text line)) × (take (n - 1) new ≡ answer_text line)
answer_front line out n new room e w =
    let b = answer_bound line in
    let l = ap length (sym (ended_is line)) ∙ length-append (answer_text line) (newline ∷ []) in
    let z : length (answer_text line) ≡ n - 1 = omega arith in (
      omega arith,
      omega arith,
      sym z,
      ap (take (n - 1)) (w ∙ overwrite_at_front out (ended_answer line) ∙ ap (λ x. x ++ drop (length (ended_answer line)) out) (sym (ended_is line)))
          ∙ ap (take (n - 1)) (append_assoc (answer_text line) (newline ∷ []) (drop (length (ended_answer line)) out))
          ∙ take_at (answer_text line) (newline ∷ drop (length (ended_answer line)) out) (n - 1) z,
    )
