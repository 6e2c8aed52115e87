-- Each call on the layout of a proper state leaves the layout of a proper one and what stood behind it, so sheets and answers follow the
-- states along the list, whatever each call is lent behind the sheet. A proper store comes from its own entries.
use Prim.Native.Nat.{ℕ}
use mathlib.Core.Path.{◌≡◌, refl, sym, ◌∙◌, ap, subst}
use mathlib.Core.Logic.{inl}
use mathlib.Core.List.{List, [], ◌∷◌, ◌++◌, append-nil}
use native.Mathlib.Omega.{arith}
use lib.ListN.{length, take}
use lib.Seq.{take_at}
use Rattle.willow.specs.Demand3.{grown, CallPassed}
use Rattle.willow.specs.Entries.{Entry, ValidEntry, PlaceBelow}
use Rattle.willow.specs.Lists.{All, Ascending}
use Rattle.willow.specs.Store.{Sizes, State, Call, answer, after, run, answers}
use Rattle.willow.proofs.EntryLaws.{places_means}
use Rattle.willow.proofs.FilingLaws.{Sorted}
use Rattle.willow.proofs.ListLaws.{all_also, all_in}
use Rattle.sheet.specs.Rows.{sheet_length}
use Rattle.store_form.specs.Stores.{store_shape, store_layout, Stands, ProperStore}
use Rattle.store_law.specs.Offers.{bytes_after, answers_to}
use Rattle.store_law.proofs.LaidOutLaws.{laid_length, laid_answer, laid_leaves}
use Rattle.store_law.proofs.ProperLaws.{AcceptedSizes, Follows, proper, follows_step}
use Rattle.refusal_law.specs.Stores.{sheet_size}
use Rattle.answer_law.specs.Lendings.{Lending, calls, lent_leaves, next_sheet, sheet_after, replies_to, each_lent, OneBuffer}

-- THE SHEET ALONE.
laid_size : (z : Sizes) (t : State) → ProperStore z t → length (store_layout z t) ≡ sheet_length (store_shape z)
laid_size z t p = let l = ap length (sym (append-nil (store_layout z t))) ∙ laid_length z t [] p in omega arith

laid_first : (z : Sizes) (t : State) (rest : List ℕ) → ProperStore z t → take (sheet_length (store_shape z)) (store_layout z t ++ rest) ≡ store_layout z t
laid_first z t rest p = take_at (store_layout z t) rest (sheet_length (store_shape z)) (laid_size z t p)

-- A PROPER STATE comes from its own entries.
means_sorted : (l : List Entry) → Ascending PlaceBelow l → Sorted l
means_sorted [] a = tt
means_sorted (x ∷ xs) a = (λ y i. (places_means x y).1 (a.0 y i), means_sorted xs a.1)

module _ (z : Sizes) (t : State) (p : ProperStore z t) where
  pub accepted : AcceptedSizes z
  accepted = record { limits = p.limits_accepted; capacity = p.capacity_accepted; namespace = p.namespace_word }

  pub follows_own : Follows z t.let_go t t.entries
  follows_own =
      let h = p.held_sum in
      record {
        inv = record {
          ascending = means_sorted t.entries p.ascending;
          names = λ x i. (all_in (Stands z) t.entries p.entries_stand x i).of_store;
          sound = λ x i. (i, λ o j. p.none_prunes o x j i);
          cover = λ x i. inl i;
          holds = p.held_sum;
          whole = omega arith;
        };
        within = record { count = p.count; totals = p.totals };
        valid = all_also (Stands z) (ValidEntry z.limits) (λ e s. s.valid) t.entries p.entries_stand;
      }

module _ (z : Sizes) (a : AcceptedSizes z) (base : ℕ) where
  -- the history behind a call to the state t
  abbrev next : State → List Entry → Call → List Entry
  next t h c = grown z h c (answer z t c)

  -- ONE CALL, with any bytes behind the sheet.
  module _ (t : State) (h : List Entry) (x : Lending) (q : CallPassed x.call) (f : Follows z base t h) where
    leads_on : Follows z base (after z t x.call) (next t h x.call)
    leads_on = follows_step z base t h x.call a q f

    proper_on : ProperStore z (after z t x.call)
    proper_on = proper z base (after z t x.call) (next t h x.call) a leads_on

    left : lent_leaves (store_layout z t) x ≡ store_layout z (after z t x.call) ++ x.behind
    left = laid_leaves z t x.behind (proper z base t h a f) x.call

    next_sheet_lem : next_sheet (sheet_size z) (store_layout z t) x ≡ store_layout z (after z t x.call)
    next_sheet_lem = ap (take (sheet_size z)) left ∙ laid_first z (after z t x.call) x.behind proper_on

  -- A LIST OF CALLS.
  pub all_sheets : (xs : List Lending) (t : State) (h : List Entry) → All CallPassed (calls xs) → Follows z base t h
      → sheet_after (sheet_size z) (store_layout z t) xs ≡ store_layout z (run z t (calls xs))
  all_sheets [] t h q f = refl
  all_sheets (x ∷ xs) t h q f =
      ap (λ s. sheet_after (sheet_size z) s xs) (next_sheet_lem t h x q.0 f)
      ∙ all_sheets xs (after z t x.call) (next t h x.call) q.1 (leads_on t h x q.0 f)

  pub all_replies : (xs : List Lending) (t : State) (h : List Entry) → All CallPassed (calls xs) → Follows z base t h
      → replies_to (sheet_size z) (store_layout z t) xs ≡ answers z t (calls xs)
  all_replies [] t h q f = refl
  all_replies (x ∷ xs) t h q f =
      let said = laid_answer z t x.behind (proper z base t h a f) x.call in
      let later =
      ap (λ s. replies_to (sheet_size z) s xs) (next_sheet_lem t h x q.0 f)
      ∙ all_replies xs (after z t x.call) (next t h x.call) q.1 (leads_on t h x q.0 f) in
      λ i. said i ∷ later i

  -- THE SAME IN ONE BUFFER.
  all_bytes : (rest : List ℕ) (cs : List Call) (t : State) (h : List Entry) → All CallPassed cs → Follows z base t h
      → bytes_after (store_layout z t ++ rest) cs ≡ store_layout z (run z t cs) ++ rest
  all_bytes rest [] t h q f = refl
  all_bytes rest (c ∷ cs) t h q f =
      ap (λ s. bytes_after s cs) (laid_leaves z t rest (proper z base t h a f) c)
      ∙ all_bytes rest cs (after z t c) (next t h c) q.1 (follows_step z base t h c a q.0 f)

  all_answers : (rest : List ℕ) (cs : List Call) (t : State) (h : List Entry) → All CallPassed cs → Follows z base t h
      → answers_to (store_layout z t ++ rest) cs ≡ answers z t cs
  all_answers rest [] t h q f = refl
  all_answers rest (c ∷ cs) t h q f =
      let p = proper z base t h a f in
      let said = laid_answer z t rest p c in
      let later =
      ap (λ s. answers_to s cs) (laid_leaves z t rest p c)
      ∙ all_answers rest cs (after z t c) (next t h c) q.1 (follows_step z base t h c a q.0 f) in
      λ i. said i ∷ later i

-- IN ONE BUFFER.
calls_each : (rest : List ℕ) (cs : List Call) → calls (each_lent rest cs) ≡ cs
calls_each rest [] = refl
calls_each rest (c ∷ cs) = ap (λ l. c ∷ l) (calls_each rest cs)

pub one_buffer : OneBuffer
one_buffer z t rest cs p q =
    let a = accepted z t p in
    let f = follows_own z t p in
    let e = calls_each rest cs in
    let k = subst (λ l. All CallPassed l) (sym e) q in
    record {
      bytes =
          all_bytes z a t.let_go rest cs t t.entries q f
          ∙ ap (λ l. store_layout z (run z t l) ++ rest) (sym e)
          ∙ ap (λ s. s ++ rest) (sym (all_sheets z a t.let_go (each_lent rest cs) t t.entries k f));
      answers =
          all_answers z a t.let_go rest cs t t.entries q f
          ∙ ap (λ l. answers z t l) (sym e)
          ∙ sym (all_replies z a t.let_go (each_lent rest cs) t t.entries k f);
    }
