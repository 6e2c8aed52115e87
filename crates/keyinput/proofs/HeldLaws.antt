-- What the bytes of an input do to what is held of a line, line by line and over a chunk.
use Prim.Native.Nat.{ℕ, zero, suc, ◌+◌, ◌-◌, ◌≤◌, ◌<◌}
use mathlib.Core.List.{List, [], ◌∷◌, ◌++◌, append_assoc, append-nil}
use mathlib.Core.Logic.{inl}
use mathlib.Core.Path.{◌≡◌, refl, sym, ◌∙◌, ap}
use native.Mathlib.Omega.{arith}
use lib.Dec.{ltb}
use lib.ListN.{length, take, drop, get_or, length-append, length-drop}
use lib.Seq.{split_at, take-length, take_all}
use borrow.Author.Tests.{ne_eqb, ltb-true, lt-ltb}
use Rattle.willow.specs.declared.Refusal.TheVariants.{BadKind}
use Rattle.number.specs.Overwriting.{overwrite}
use Rattle.number.proofs.OverwritingLaws.{overwrite_nil, length_overwrite, written_on}
use Rattle.keyform.specs.Answering.{max_answer, answer_text, refused_text, Held, kept, overlong, longer, held_answer, held_after, printed_by, printed_at_end}
use Rattle.keyform.specs.Texts.{newline}
use Rattle.keyform.specs.Wording.{max_line}
use Rattle.keyform.proofs.AnsweringLaws.{answer_bound, refused_length}
use Rattle.keyform.proofs.CaseLaws.{by_test}
use Rattle.keyform.proofs.PrintingLaws.{held_append, printed_append}
use Rattle.keyform.proofs.SplittingLaws.{Without}
use Rattle.keyline.proofs.AnswerLaws.{ended_is}
use Rattle.keyinput.specs.Held.{Feeds, longer_by, Takes}

-- THE ANSWER to a line that is held has room.
pub held_bound : (h : Held) → length (held_answer h) ≤ max_answer + 1
held_bound (kept l) =
    let b = answer_bound l in
    let e = ap length (sym (ended_is l)) ∙ length-append (answer_text l) (newline ∷ []) in
    omega arith
held_bound overlong =
    let b = refused_length BadKind in
    let e = length-append (refused_text BadKind) (newline ∷ []) in
    omega arith

-- BYTES WITHOUT A NEWLINE make the line longer, and nothing is printed for them.
part_held : (h : Held) (s : List ℕ) → Without newline s → held_after h s ≡ longer_by h s
part_held h [] w = refl
part_held h (b ∷ bs) w = rw (ne_eqb b newline w.0) (part_held (longer h b) bs w.1)

part_printed : (h : Held) (s : List ℕ) → Without newline s → printed_by h s ≡ []
part_printed h [] w = refl
part_printed h (b ∷ bs) w = rw (ne_eqb b newline w.0) (part_printed (longer h b) bs w.1)

-- what they make of it: as long as it fits it is kept, then it is too long, and stays so
pub longer_fits : (l s : List ℕ) → length l + length s ≤ max_line → longer_by (kept l) s ≡ kept (l ++ s)
longer_fits l [] n = ap kept (sym (append-nil l))
longer_fits l (b ∷ bs) n =
    let e = length-append l (b ∷ []) in
    rw (lt-ltb (length l) max_line (omega arith)) (longer_fits (l ++ (b ∷ [])) bs (omega arith) ∙ ap kept (append_assoc l (b ∷ []) bs))

pub longer_overlong : (s : List ℕ) → longer_by overlong s ≡ overlong
longer_overlong [] = refl
longer_overlong (b ∷ bs) = longer_overlong bs

pub longer_passes : (l s : List ℕ) → length l ≤ max_line → max_line < length l + length s → longer_by (kept l) s ≡ overlong
longer_passes l [] n m = absurd (omega arith)
longer_passes l (b ∷ bs) n m = by_test (λ h. longer_by h bs ≡ overlong) (ltb (length l) max_line)
    (λ e. let h : length l < max_line = ltb-true _ _ e in let a = length-append l (b ∷ []) in longer_passes (l ++ (b ∷ [])) bs (omega arith) (omega arith))
    (λ e. longer_overlong bs)

-- A LINE'S END TAKEN: bytes without a newline, and the newline behind them
pub line_taken : (h : Held) (part out : List ℕ) (to at : ℕ) (h' : Held) (out' : List ℕ) → Without newline part → to + max_answer + 1 ≤ length out
    → at ≡ to + length (held_answer (longer_by h part)) → out' ≡ overwrite out to (held_answer (longer_by h part)) → h' ≡ kept []
    → Takes h (part ++ (newline ∷ [])) out to h' at out'
line_taken h part out to at h' out' w space place written anew =
    let g = longer_by h part in
    let p : printed_by h (part ++ (newline ∷ [])) ≡ held_answer g =
    printed_append h part (newline ∷ []) ∙ rw (part_printed h part w, part_held h part w) (append-nil (held_answer g)) in
    record {
      holds = anew ∙ sym (held_append h part (newline ∷ []));
      behind = place ∙ ap (λ x. to + length x) (sym p);
      printed = written ∙ ap (overwrite out to) (sym p);
      inside = let k = held_bound g in omega arith;
    }

-- .. and bytes without one
part_taken : (h : Held) (part out : List ℕ) (to : ℕ) (h' : Held) → Without newline part → to ≤ length out → h' ≡ longer_by h part
    → Takes h part out to h' to out
part_taken h part out to h' w space held =
    let p = part_printed h part w in
    record {
      holds = held ∙ sym (part_held h part w);
      behind = let z : to ≡ to + 0 = omega arith in z ∙ ap (λ x. to + length x) (sym p);
      printed = sym (overwrite_nil out to) ∙ ap (overwrite out to) (sym p);
      inside = space;
    }

-- .. and what is taken behind what was taken
taken_on : (h : Held) (done next out : List ℕ) (at : ℕ) (h' : Held) (out' : List ℕ) (at' : ℕ) (h'' : Held) (out'' : List ℕ)
    → Takes h done out 0 h' at out' → Takes h' next out' at h'' at' out'' → Takes h (done ++ next) out 0 h'' at' out''
taken_on h done next out at h' out' at' h'' out'' before more =
    let g : Held = held_after h done in
    let q : h' ≡ g = before.holds in
    let p : printed_by h (done ++ next) ≡ printed_by h done ++ printed_by g next = printed_append h done next in
    let w : printed_by h' next ≡ printed_by g next = ap (λ x. printed_by x next) q in
    let l = length-append (printed_by h done) (printed_by g next) in
    let lp = ap length p in
    let lw = ap length w in
    let place = before.behind in
    let onward = more.behind in
    let room = before.inside in
    let here = more.inside in
    let same = ap length before.printed ∙ length_overwrite out 0 (printed_by h done) (omega arith) in
    record {
      holds = more.holds ∙ ap (λ x. held_after x next) q ∙ sym (held_append h done next);
      behind = omega arith;
      printed =
          written_on out (printed_by h done) (printed_by g next) out' out'' 0 at (omega arith) (omega arith) before.printed
          (more.printed ∙ ap (overwrite out' at) w) ∙ ap (overwrite out 0) (sym p);
      inside = omega arith;
    }

-- A CHUNK, line by line: the lines that were taken, and the rest behind them
pub record FedSoFar (h : Held) (chunk out done rest : List ℕ) (h' : Held) (at : ℕ) (out' : List ℕ) : Type 0 where
  pub whole : chunk ≡ done ++ rest
  pub taken : Takes h done out 0 h' at out'

pub feed_start : (h : Held) (chunk out : List ℕ) → FedSoFar h chunk out [] chunk h 0 out
feed_start h chunk out =
    record { whole = refl; taken = record { holds = refl; behind = refl; printed = sym (overwrite_nil out 0); inside = omega arith } }

-- no byte before the newline that is found is one
pub before_found : (s : List ℕ) (n : ℕ) → ((k : ℕ) → k < n → get_or s k 0 ≡ newline → ⊥) → Without newline (take n s)
before_found s zero h = tt
before_found [] (suc n) h = tt
before_found (b ∷ bs) (suc n) h = (h 0 (omega arith), before_found bs n (λ k l. h (suc k) (omega arith)))

-- .. and the line that it ends stands before the rest
line_at : (rest : List ℕ) (n : ℕ) → n < length rest → get_or rest n 0 ≡ newline
    → rest ≡ (take n rest ++ (newline ∷ [])) ++ take (length rest - (n + 1)) (drop (n + 1) rest)
line_at rest n h e =
    let z : n + 1 ≡ suc n = omega arith in
    rw (take_all (length rest - (n + 1)) (drop (n + 1) rest) (omega (arith, length-drop (n + 1) rest)), z)
    (split_at rest n 0 h ∙ ap (λ b. take n rest ++ (b ∷ drop (suc n) rest)) e ∙ sym (append_assoc (take n rest) (newline ∷ []) (drop (suc n) rest)))

module _ (h : Held) (chunk out done rest : List ℕ) (h' : Held) (at : ℕ) (out' : List ℕ) (f : FedSoFar h chunk out done rest h' at out') where
  -- one line more
  pub feed_again : (n at' : ℕ) (h'' : Held) (out'' : List ℕ) → n < length rest → get_or rest n 0 ≡ newline
      → Takes h' (take n rest ++ (newline ∷ [])) out' at h'' at' out''
      → FedSoFar h chunk out (done ++ (take n rest ++ (newline ∷ []))) (take (length rest - (n + 1)) (drop (n + 1) rest)) h'' at' out''
  feed_again n at' h'' out'' within e more =
      record {
        whole = f.whole ∙ ap (λ l. done ++ l) (line_at rest n within e) ∙ sym (append_assoc done _ _);
        taken = taken_on _ _ _ _ _ _ _ _ _ _ f.taken more;
      }

  -- the buffer is as long as it was
  room_same : length out' ≡ length out
  room_same =
      let place = f.taken.behind in
      let room = f.taken.inside in
      ap length f.taken.printed ∙ length_overwrite out 0 (printed_by h done) (omega arith)

  pub stopped_over : (h'' : Held) → Without newline rest → h'' ≡ longer_by h' rest
      → Feeds h chunk out (record { used = length chunk; written = at }) h'' out'
  stopped_over h'' w held =
      let room = f.taken.inside in
      let same = room_same in
      let more = part_taken h' rest out' at h'' w (omega arith) held in
      record {
        within = omega arith;
        taken = rw (take-length chunk, f.whole) (taken_on _ _ _ _ _ _ _ _ _ _ f.taken more);
        goes_on = inl refl;
      }

-- THE INPUT'S END: where nothing is held, nothing is answered
pub none_ended : (l : List ℕ) → length l ≡ 0 → printed_at_end (kept l) ≡ []
none_ended [] e = refl
none_ended (b ∷ bs) e = absurd (omega arith)
