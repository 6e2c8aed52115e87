-- Text without the separator goes whole into the piece that is being read, by recursion on it; so splitting and joining are
-- inverse. Lines are pieces that a newline ends, with the last one left out where it is empty.
use Prim.Native.Nat.{ℕ, suc, ◌<◌}
use mathlib.Core.Path.{◌≡◌, refl, sym, ◌∙◌, ap}
use mathlib.Core.Logic.{inl, inr}
use mathlib.Core.List.{List, [], ◌∷◌, ◌++◌, append_assoc, append-nil}
use native.Mathlib.Omega.{arith}
use lib.Dec.{eqb}
use lib.ListN.{length, take, drop, get_or, take-append-drop}
use lib.Seq.{drop-cons, take-suc, take-length}
use borrow.Author.Tests.{eqb-true, eqb-false, eq-eqb, ne_eqb}
use Rattle.willow.specs.Lists.{In, All}
use Rattle.willow.proofs.ListLaws.{all_append}
use Rattle.keyform.proofs.CaseLaws.{by_test}
use Rattle.keyform.specs.Splitting.{pieces_from, pieces, or_nothing, lines_from, lines_of, ended_lines, closed}
use Rattle.keyform.specs.Texts.{newline, behind_each, between}

-- TEXT WITHOUT A BYTE.
abbrev pub Without : ℕ → List ℕ → Type 0
Without x = All (λ b. b ≡ x → ⊥)

pub without_in : (x : ℕ) (s : List ℕ) → Without x s → In x s → ⊥
without_in x [] w i = i
without_in x (b ∷ bs) w (inl e) = w.0 (sym e)
without_in x (b ∷ bs) w (inr i) = without_in x bs w.1 i

pub without_snoc : (x : ℕ) (s : List ℕ) (b : ℕ) → Without x s → (b ≡ x → ⊥) → Without x (s ++ (b ∷ []))
without_snoc x s b w n = all_append (λ c. c ≡ x → ⊥) s (b ∷ []) w (n, tt)

-- as a search from the front finds it: one place further
pub without_more : (x : ℕ) (s : List ℕ) (e : ℕ) → e < length s → (get_or s e 0 ≡ x → ⊥) → Without x (take e s) → Without x (take (suc e) s)
without_more x s e h n w = rw (take-suc s e 0 h) (without_snoc x (take e s) (get_or s e 0) w n)

-- PIECES. The first piece, read as far as `so_far`, takes up all that is without the separator.
module _ (separator : ℕ) where
  pieces_past : (so_far x s : List ℕ) → Without separator x → pieces_from separator so_far (x ++ s) ≡ pieces_from separator (so_far ++ x) s
  pieces_past so_far [] s w = rw (append-nil so_far)
  pieces_past so_far (b ∷ bs) s w =
      rw (ne_eqb b separator w.0) (pieces_past (so_far ++ (b ∷ [])) bs s w.1 ∙ ap (λ l. pieces_from separator l s) (append_assoc so_far (b ∷ []) bs))

  -- a piece and the separator behind it, and the last piece
  pub pieces_first : (x s : List ℕ) → Without separator x → pieces separator (x ++ (separator ∷ s)) ≡ x ∷ pieces separator s
  unfolding pieces
  pieces_first x s w = pieces_past [] x (separator ∷ s) w ∙ rw (eq-eqb separator separator refl)

  pub pieces_only : (x : List ℕ) → Without separator x → pieces separator x ≡ x ∷ []
  unfolding pieces
  pieces_only x w = ap (pieces_from separator []) (sym (append-nil x)) ∙ pieces_past [] x [] w

  -- the same by places, where the first separator is found at e, or none up to the end
  pub pieces_on : (s : List ℕ) (e : ℕ) → Without separator (take e s) → e < length s → get_or s e 0 ≡ separator
      → pieces separator s ≡ take e s ∷ pieces separator (drop (suc e) s)
  pieces_on s e w h f =
      let split : s ≡ take e s ++ (separator ∷ drop (suc e) s) =
      sym (take-append-drop e s) ∙ ap (λ l. take e s ++ l) (drop-cons s e 0 h ∙ ap (λ b. b ∷ drop (suc e) s) f) in
      ap (pieces separator) split ∙ pieces_first (take e s) (drop (suc e) s) w

  pub pieces_end : (s : List ℕ) (e : ℕ) → Without separator (take e s) → e ≡ length s → pieces separator s ≡ s ∷ []
  pieces_end s e w h = pieces_only s (rw (h, take-length s) at w)

  -- JOINED with separators, pieces are split into themselves ..
  pub pieces_between : (x : List ℕ) (xs : List (List ℕ)) → All (Without separator) (x ∷ xs) → pieces separator (between separator (x ∷ xs)) ≡ x ∷ xs
  pieces_between x [] w = ap (pieces separator) (append-nil x) ∙ pieces_only x w.0
  pieces_between x (y ∷ ys) w = pieces_first x (y ++ behind_each separator ys) w.0 ∙ ap (λ l. x ∷ l) (pieces_between y ys w.1)

  -- .. and the pieces of a text are joined to it.
  behind_from : (so_far s : List ℕ) → behind_each separator (pieces_from separator so_far s) ≡ separator ∷ (so_far ++ s)
  behind_from so_far [] = refl
  behind_from so_far (b ∷ bs) = by_test (λ ps. behind_each separator ps ≡ separator ∷ (so_far ++ (b ∷ bs))) (eqb b separator)
      (λ e. rw (behind_from [] bs, eqb-true b separator e))
      (λ e. behind_from (so_far ++ (b ∷ [])) bs ∙ ap (λ l. separator ∷ l) (append_assoc so_far (b ∷ []) bs))

  between_from : (so_far s : List ℕ) → between separator (pieces_from separator so_far s) ≡ so_far ++ s
  between_from so_far [] = refl
  between_from so_far (b ∷ bs) = by_test (λ ps. between separator ps ≡ so_far ++ (b ∷ bs)) (eqb b separator)
      (λ e. rw (behind_from [] bs, eqb-true b separator e))
      (λ e. between_from (so_far ++ (b ∷ [])) bs ∙ append_assoc so_far (b ∷ []) bs)

  pub between_pieces : (s : List ℕ) → between separator (pieces separator s) ≡ s
  unfolding pieces
  between_pieces s = between_from [] s

  -- There is always a piece.
  pub some_piece : (s : List ℕ) → pieces separator s ≡ [] → ⊥
  unfolding pieces
  some_piece s e = let f = behind_from [] s in let g = ap (behind_each separator) e in let z : ◌≡◌ {A = ℕ} 0 1 = cc in omega arith

-- LINES. The line that is being read takes up all that is without a newline.
lines_past : (so_far x s : List ℕ) → Without newline x → lines_from so_far (x ++ s) ≡ lines_from (so_far ++ x) s
lines_past so_far [] s w = rw (append-nil so_far)
lines_past so_far (b ∷ bs) s w =
    rw (ne_eqb b newline w.0) (lines_past (so_far ++ (b ∷ [])) bs s w.1 ∙ ap (λ l. lines_from l s) (append_assoc so_far (b ∷ []) bs))

-- a line and its newline, and what is left without one
pub lines_first : (x s : List ℕ) → Without newline x → lines_of (x ++ (newline ∷ s)) ≡ x ∷ lines_of s
unfolding lines_of
lines_first x s w = lines_past [] x (newline ∷ s) w

pub lines_last : (x : List ℕ) → Without newline x → lines_of x ≡ or_nothing x
unfolding lines_of
lines_last x w = ap (lines_from []) (sym (append-nil x)) ∙ lines_past [] x [] w

-- lines that are ended are read again
pub lines_ended : (ls : List (List ℕ)) → All (Without newline) ls → lines_of (ended_lines ls) ≡ ls
unfolding lines_of
lines_ended [] w = refl
lines_ended (l ∷ ls) w = lines_first l (ended_lines ls) w.0 ∙ ap (λ m. l ∷ m) (lines_ended ls w.1)

-- EACH ENDED, the lines are the input, with a newline added where one is missing.
closed_line : (x s : List ℕ) → closed (x ++ (newline ∷ s)) ≡ x ++ (newline ∷ closed s)
closed_line [] [] = refl
closed_line [] (c ∷ s) = refl
closed_line (b ∷ []) s = ap (λ l. b ∷ l) (closed_line [] s)
closed_line (b ∷ c ∷ x) s = ap (λ l. b ∷ l) (closed_line (c ∷ x) s)

closed_open : (b : ℕ) (x : List ℕ) → Without newline (b ∷ x) → closed (b ∷ x) ≡ b ∷ (x ++ (newline ∷ []))
closed_open b [] w = rw (ne_eqb b newline w.0)
closed_open b (c ∷ x) w = ap (λ l. b ∷ l) (closed_open c x w.1)

ended_from : (so_far s : List ℕ) → Without newline so_far → ended_lines (lines_from so_far s) ≡ closed (so_far ++ s)
ended_from [] [] w = refl
ended_from (b ∷ bs) [] w = sym (ap closed (append-nil (b ∷ bs)) ∙ closed_open b bs w)
ended_from so_far (b ∷ bs) w = by_test (λ ls. ended_lines ls ≡ closed (so_far ++ (b ∷ bs))) (eqb b newline)
    (λ e. rw (eqb-true b newline e, ended_from [] bs tt) (sym (closed_line so_far bs)))
    (λ e. ended_from (so_far ++ (b ∷ [])) bs (without_snoc newline so_far b w (eqb-false b newline e)) ∙ ap closed (append_assoc so_far (b ∷ []) bs))

pub ended_lines_lem : (input : List ℕ) → ended_lines (lines_of input) ≡ closed input
unfolding lines_of
ended_lines_lem input = ended_from [] input tt

-- no line holds a newline
without_from : (so_far s : List ℕ) → Without newline so_far → All (Without newline) (lines_from so_far s)
without_from [] [] w = tt
without_from (b ∷ bs) [] w = (w, tt)
without_from so_far (b ∷ bs) w = by_test (All (Without newline)) (eqb b newline)
    (λ e. (w, without_from [] bs tt))
    (λ e. without_from (so_far ++ (b ∷ [])) bs (without_snoc newline so_far b w (eqb-false b newline e)))

pub lines_without : (input : List ℕ) → All (Without newline) (lines_of input)
unfolding lines_of
lines_without input = without_from [] input tt
