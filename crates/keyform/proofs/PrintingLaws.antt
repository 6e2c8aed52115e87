-- What is printed for an input is printed line by line. In chunks, what is held is always what has come of the line, or that it
-- is too long; so each newline gives the answer of the line that it ends, wherever the input is cut.
use Prim.Native.Nat.{ℕ, ◌≤◌, ◌<◌}
use mathlib.Core.Path.{◌≡◌, refl, sym, ◌∙◌, ap}
use mathlib.Core.List.{List, [], ◌∷◌, ◌++◌, append_assoc, append-nil, map}
use mathlib.Core.Bool.{Bool, true, false, cond}
use native.Mathlib.Omega.{arith}
use lib.Dec.{eqb, leb}
use lib.ListN.{length, length-append}
use borrow.Author.Tests.{leb-false, ltb-true, ltb-false, le-leb, lt-leb}
use Rattle.willow.specs.Lists.{All}
use Rattle.willow.specs.Packed.{joined}
use Rattle.willow.proofs.ListLaws.{all_in}
use Rattle.keyform.proofs.CaseLaws.{by_test}
use Rattle.keyform.proofs.ShownLaws.{answer_without}
use Rattle.keyform.proofs.SplittingLaws.{Without, without_in, lines_without, ended_lines_lem, lines_ended}
use Rattle.keyform.specs.Answering.{line_outcome, answer_text, ended_answer, ended_answers, printed, Held, kept, overlong, longer, held_answer, held_after, printed_by, printed_at_end, printed_over}
use Rattle.keyform.specs.KeyTheorem.{Lines}
use Rattle.keyform.specs.Splitting.{or_nothing, lines_from, lines_of, ended_lines}
use Rattle.keyform.specs.Texts.{newline}
use Rattle.keyform.specs.Wording.{max_line}

-- ANSWERS, each ended, are lines.
ended_answers_lem : (ls : List (List ℕ)) → ended_answers ls ≡ ended_lines (map answer_text ls)
unfolding ended_answer
ended_answers_lem [] = refl
ended_answers_lem (l ∷ ls) = append_assoc (answer_text l) (newline ∷ []) (ended_answers ls) ∙ ap (λ m. answer_text l ++ (newline ∷ m)) (ended_answers_lem ls)

answers_without : (ls : List (List ℕ)) → All (Without newline) (map answer_text ls)
answers_without [] = tt
answers_without (l ∷ ls) = (answer_without l, answers_without ls)

each_answered : (input : List ℕ) → printed input ≡ ended_lines (map answer_text (lines_of input))
unfolding printed
each_answered input = ended_answers_lem (lines_of input)

-- WHAT IS HELD when `so_far` has come of a line.
abbrev pub held_of : List ℕ → Held
held_of so_far = cond (leb (length so_far) max_line) (kept so_far) overlong

pub held_longer : (so_far : List ℕ) (b : ℕ) → longer (held_of so_far) b ≡ held_of (so_far ++ (b ∷ []))
held_longer so_far b = by_test (λ h. longer h b ≡ held_of (so_far ++ (b ∷ []))) _
    (λ e. by_test (λ h. h ≡ held_of (so_far ++ (b ∷ []))) _ (λ less. fits (ltb-true _ _ less)) (λ full. passes (ltb-false _ _ full)))
    (λ e. let h : max_line < length so_far = leb-false _ _ e in passes (omega arith))
  where
    fits : length so_far < max_line → kept (so_far ++ (b ∷ [])) ≡ held_of (so_far ++ (b ∷ []))
    fits h = let n = length-append so_far (b ∷ []) in rw (le-leb (length (so_far ++ (b ∷ []))) max_line (omega arith))

    passes : max_line ≤ length so_far → overlong ≡ held_of (so_far ++ (b ∷ []))
    passes h = let n = length-append so_far (b ∷ []) in rw (lt-leb (length (so_far ++ (b ∷ []))) max_line (omega arith))

-- a line that is too long is answered 3
long_answer : (l : List ℕ) → leb (length l) max_line ≡ false → held_answer overlong ≡ ended_answer l
unfolding ended_answer answer_text line_outcome
long_answer l e = rw e

pub held_answer_lem : (so_far : List ℕ) → held_answer (held_of so_far) ≡ ended_answer so_far
held_answer_lem so_far = by_test (λ h. held_answer h ≡ ended_answer so_far) (leb (length so_far) max_line)
    (λ e. refl)
    (long_answer so_far)

held_at_end : (so_far : List ℕ) → printed_at_end (held_of so_far) ≡ ended_answers (or_nothing so_far)
held_at_end [] = refl
held_at_end (b ∷ bs) = by_test (λ h. printed_at_end h ≡ ended_answer (b ∷ bs) ++ []) (leb (length (b ∷ bs)) max_line)
    (λ e. sym (append-nil (ended_answer (b ∷ bs))))
    (λ e. long_answer (b ∷ bs) e ∙ sym (append-nil (ended_answer (b ∷ bs))))

-- A WHOLE INPUT, from what is held.
printed_from : (so_far s : List ℕ) → printed_by (held_of so_far) s ++ printed_at_end (held_after (held_of so_far) s) ≡ ended_answers (lines_from so_far s)
printed_from so_far [] = held_at_end so_far
printed_from so_far (b ∷ bs) = go (eqb b newline) (printed_from [] bs) (printed_from (so_far ++ (b ∷ [])) bs)
  where
    go : (t : Bool)
        → printed_by (kept []) bs ++ printed_at_end (held_after (kept []) bs) ≡ ended_answers (lines_from [] bs)
        → printed_by (held_of (so_far ++ (b ∷ []))) bs ++ printed_at_end (held_after (held_of (so_far ++ (b ∷ []))) bs) ≡ ended_answers (lines_from (so_far ++ (b ∷ [])) bs)
        → cond t (held_answer (held_of so_far) ++ printed_by (kept []) bs) (printed_by (longer (held_of so_far) b) bs)
        ++ printed_at_end (held_after (cond t (kept []) (longer (held_of so_far) b)) bs)
        ≡ ended_answers (cond t (so_far ∷ lines_from [] bs) (lines_from (so_far ++ (b ∷ [])) bs))
    go true f g = rw (held_answer_lem so_far) (append_assoc (ended_answer so_far) _ _ ∙ ap (λ l. ended_answer so_far ++ l) f)
    go false f g = rw (held_longer so_far b) g

-- No more is ever held than a line may have.
abbrev pub Within : Held → Type 0
Within (kept l) = length l ≤ max_line
Within overlong = Unit {0}

longer_within : (h : Held) (b : ℕ) → Within (longer h b)
longer_within overlong b = tt
longer_within (kept l) b = by_test Within _ (λ less. let h : length l < max_line = ltb-true _ _ less in let n = length-append l (b ∷ []) in omega arith) (λ full. tt)

pub held_within : (h : Held) (s : List ℕ) → Within h → Within (held_after h s)
held_within h [] w = w
held_within h (b ∷ bs) w = held_within (cond (eqb b newline) (kept []) (longer h b)) bs (by_test Within (eqb b newline) (λ e. omega arith) (λ e. longer_within h b))

-- CHUNKS one behind the other are one chunk.
pub held_append : (h : Held) (c d : List ℕ) → held_after h (c ++ d) ≡ held_after (held_after h c) d
held_append h [] d = refl
held_append h (b ∷ bs) d = held_append (cond (eqb b newline) (kept []) (longer h b)) bs d

pub printed_append : (h : Held) (c d : List ℕ) → printed_by h (c ++ d) ≡ printed_by h c ++ printed_by (held_after h c) d
printed_append h [] d = refl
printed_append h (b ∷ bs) d = go (eqb b newline) (printed_append (kept []) bs d) (printed_append (longer h b) bs d)
  where
    go : (t : Bool) → printed_by (kept []) (bs ++ d) ≡ printed_by (kept []) bs ++ printed_by (held_after (kept []) bs) d
        → printed_by (longer h b) (bs ++ d) ≡ printed_by (longer h b) bs ++ printed_by (held_after (longer h b) bs) d
        → cond t (held_answer h ++ printed_by (kept []) (bs ++ d)) (printed_by (longer h b) (bs ++ d))
        ≡ cond t (held_answer h ++ printed_by (kept []) bs) (printed_by (longer h b) bs) ++ printed_by (held_after (cond t (kept []) (longer h b)) bs) d
    go true f g = rw f (sym (append_assoc (held_answer h) (printed_by (kept []) bs) (printed_by (held_after (kept []) bs) d)))
    go false f g = g

over_joined : (h : Held) (chunks : List (List ℕ)) → printed_over h chunks ≡ printed_by h (joined chunks) ++ printed_at_end (held_after h (joined chunks))
over_joined h [] = refl
over_joined h (c ∷ cs) =
    rw (printed_append h c (joined cs), held_append h c (joined cs), over_joined (held_after h c) cs)
    (sym (append_assoc (printed_by h c) (printed_by (held_after h c) (joined cs)) (printed_at_end (held_after (held_after h c) (joined cs)))))

in_chunks : (chunks : List (List ℕ)) → printed_over (kept []) chunks ≡ printed (joined chunks)
unfolding printed lines_of
in_chunks chunks = over_joined (kept []) chunks ∙ printed_from [] (joined chunks)

pub lines : Lines
lines = record {
  without_newline = λ input l i. without_in newline l (all_in (Without newline) (lines_of input) (lines_without input) l i);
  ended = ended_lines_lem;
  each_answered = each_answered;
  answers_apart = λ input. ap lines_of (each_answered input) ∙ lines_ended (map answer_text (lines_of input)) (answers_without (lines_of input));
  in_chunks = in_chunks;
}
