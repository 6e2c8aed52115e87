-- Demand 3 on bytes. What making a fresh store leaves is the layout of a fresh state. Each call on the layout of a proper state leaves
-- the layout of a proper one, so bytes and answers follow the states along the list; and of these theorem 9 speaks.
use Prim.Native.Nat.{ℕ, ◌+◌, ◌≤◌}
use mathlib.Core.Path.{◌≡◌, refl, sym, ◌∙◌, ap, subst}
use mathlib.Core.List.{List, [], ◌∷◌, ◌++◌, append-nil}
use mathlib.Core.Option.{Option, none, some}
use mathlib.Core.Bool.{Bool, true, false, cond, false≢true}
use native.Mathlib.Omega.{arith}
use lib.ListN.{length, drop}
use borrow.Author.Tests.{le-leb}
use Rattle.willow.specs.declared.Refusal.TheVariants.{BadLimits, BadSheet}
use Rattle.willow.specs.Answers.{or_else, unless, limits_refusal, written_buffer}
use Rattle.willow.specs.Demand3.{grown, history, given, GivenBy, HistoryOf, Answered, CallPassed, Within}
use Rattle.willow.specs.Entries.{Entry}
use Rattle.willow.specs.Lists.{All}
use Rattle.willow.specs.Refusals.{value}
use Rattle.willow.specs.Store.{Sizes, State, fresh, Call, offer, Answer, refused, outdated, repeated, taken, is_refused, offered, answer, after_offered, after, run, answers}
use Rattle.willow.proofs.AnswerLaws.{accepted_words}
use Rattle.willow.proofs.Demand3Laws.{demand3}
use Rattle.willow.proofs.LimitLaws.{limit_laws}
use Rattle.sheet.specs.Rows.{sheet_length}
use Rattle.store_form.specs.Stores.{store_shape, store_layout, sizes_in, state_in}
use Rattle.store_form.specs.StoreTest.{is_store}
use Rattle.store_form.proofs.ReadingLaws.{store_reading}
use Rattle.store_law.specs.Demand3Bytes.{fresh_in, Demand3OnBytes, RefusedUnchanged}
use Rattle.store_law.specs.Offers.{fresh_store, answer_in, leaves_in, bytes_after, answers_to}
use Rattle.store_law.proofs.LaidOutLaws.{laid_length, laid_rest, laid_answer, laid_leaves}
use Rattle.store_law.proofs.ProperLaws.{AcceptedSizes, Follows, follows_fresh, proper, follows_step}

-- A FRESH STORE.
fresh_made : (z : Sizes) → AcceptedSizes z → fresh_store z ≡ value (store_layout z fresh)
unfolding fresh_store limits_refusal
fresh_made z a =
    let l = ap (λ b. cond b none (some BadLimits)) ((limit_laws.limits_means z.limits).1 a.limits) in
    let n = ap (λ b. cond b none (some BadLimits)) ((limit_laws.capacity_means z.capacity).1 a.capacity) in
    λ i. unless (or_else (l i) (n i)) (value (store_layout z fresh))

fresh_laid : (z : Sizes) (out : List ℕ) → AcceptedSizes z → sheet_length (store_shape z) ≤ length out
    → fresh_in z out ≡ store_layout z fresh ++ drop (sheet_length (store_shape z)) out
fresh_laid z out a h =
    let l : length (store_layout z fresh) ≡ sheet_length (store_shape z) + 0 =
    ap length (sym (append-nil (store_layout z fresh))) ∙ laid_length z fresh [] (proper z 0 fresh [] a (follows_fresh z)) in
    let m : length (store_layout z fresh) ≡ sheet_length (store_shape z) = omega arith in
    ap (λ o. written_buffer o out) (fresh_made z a) ∙ rw (m, le-leb (sheet_length (store_shape z)) (length out) h)

-- A LIST OF CALLS.
module _ (z : Sizes) (a : AcceptedSizes z) (rest : List ℕ) (base : ℕ) where
  all_bytes : (cs : List Call) (t : State) (h : List Entry) → All CallPassed cs → Follows z base t h
      → bytes_after (store_layout z t ++ rest) cs ≡ store_layout z (run z t cs) ++ rest
  all_bytes [] t h q f = refl
  all_bytes (c ∷ cs) t h q f =
      ap (λ s. bytes_after s cs) (laid_leaves z t rest (proper z base t h a f) c)
      ∙ all_bytes cs (after z t c) (grown z h c (answer z t c)) q.1 (follows_step z base t h c a q.0 f)

  all_answers : (cs : List Call) (t : State) (h : List Entry) → All CallPassed cs → Follows z base t h
      → answers_to (store_layout z t ++ rest) cs ≡ answers z t cs
  all_answers [] t h q f = refl
  all_answers (c ∷ cs) t h q f =
      let p = proper z base t h a f in
      let x = laid_answer z t rest p c in
      let y =
      ap (λ s. answers_to s cs) (laid_leaves z t rest p c)
      ∙ all_answers cs (after z t c) (grown z h c (answer z t c)) q.1 (follows_step z base t h c a q.0 f) in
      λ i. x i ∷ y i

pub demand3_on_bytes : Demand3OnBytes
demand3_on_bytes z out cs l n m h q =
    let a : AcceptedSizes z = record { limits = l; capacity = n; namespace = m } in
    let rest : List ℕ = drop (sheet_length (store_shape z)) out in
    let start = fresh_laid z out a h in
    let bytes = ap (λ s. bytes_after s cs) start ∙ all_bytes z a rest 0 cs fresh [] q (follows_fresh z) in
    let said = ap (λ s. answers_to s cs) start ∙ all_answers z a rest 0 cs fresh [] q (follows_fresh z) in
    let d = demand3 z cs (accepted_words z.limits l) q in
    record {
      bytes = bytes ∙ ap (λ t. store_layout z t ++ rest) d.state ∙ ap (λ l. store_layout z (given 0 (history z [] cs l)) ++ rest) (sym said);
      passed = subst (λ l. HistoryOf z [] cs l (history z [] cs l)) (sym said) d.passed;
      table = subst (λ l. Answered z 0 [] cs l) (sym said) d.table;
      means = subst (λ l. GivenBy 0 (history z [] cs l) (given 0 (history z [] cs l))) (sym said)
          (subst (λ t. GivenBy 0 (history z [] cs (answers z fresh cs)) t) d.state d.means);
      within = subst (λ l. Within z (given 0 (history z [] cs l))) (sym said) (subst (λ t. Within z t) d.state d.within);
    }

-- A REFUSED CALL.
pub refused_stays : (z : Sizes) (t : State) (c : Call) → is_refused (answer z t c) ≡ true → after z t c ≡ t
unfolding after
refused_stays z t (offer o) = go (offered z o) (answer z t (offer o))
  where
    go : (m : Option Entry) (a : Answer) → is_refused a ≡ true → after_offered t m a ≡ t
    go none a e = refl
    go (some x) (refused r) e = refl
    go (some x) outdated e = absurd (false≢true e)
    go (some x) repeated e = absurd (false≢true e)
    go (some x) (taken k) e = absurd (false≢true e)

pub refused_unchanged : RefusedUnchanged
unfolding answer_in leaves_in
refused_unchanged s c b = go (is_store s) refl
  where
    go : (t : Bool) → is_store s ≡ t → is_refused (cond t (answer (sizes_in s) (state_in s) c) (refused BadSheet)) ≡ true
        → cond t (store_layout (sizes_in s) (after (sizes_in s) (state_in s) c) ++ drop (sheet_length (store_shape (sizes_in s))) s) s ≡ s
    go true e r =
        let k = store_reading.read s b e in
        let behind = ap (drop (sheet_length (store_shape (sizes_in s)))) k.laid_out ∙ laid_rest (sizes_in s) (state_in s) k.rest k.proper in
        ap (λ u. store_layout (sizes_in s) u ++ drop (sheet_length (store_shape (sizes_in s))) s) (refused_stays (sizes_in s) (state_in s) c r)
        ∙ ap (λ l. store_layout (sizes_in s) (state_in s) ++ l) behind
        ∙ sym k.laid_out
    go false e r = refl
