-- An offer to any store. A proper state has the invariant of demand 3 with its own entries for the history, before which the bytes that
-- it let go were let go. So one offer leads it on as demand 3's step says, and what that says of the history comes out in the entries.
use Prim.Native.Nat.{◌+◌}
use mathlib.Core.Path.{◌≡◌, refl, sym, ◌∙◌, ap, subst}
use mathlib.Core.Logic.{◌⊎◌, inl, inr, ◌↔◌}
use mathlib.Core.List.{List, [], ◌∷◌, ◌++◌}
use mathlib.Core.Option.{Option, none, some}
use mathlib.Core.Bool.{Bool, true, false, cond, true≢false}
use native.Mathlib.Omega.{arith}
use lib.Dec.{eqb}
use lib.ListN.{drop}
use borrow.Author.Tests.{eqb-true}
use Rattle.willow.specs.declared.Refusal.TheVariants.{WrongNamespace}
use Rattle.willow.specs.Demand3.{with_entry, grown, Stays, Makes, ByTable}
use Rattle.willow.specs.Entries.{Entry, ValidEntry, Prunes, PlaceBelow}
use Rattle.willow.specs.Limits.{Words}
use Rattle.willow.specs.Lists.{In, Ascending}
use Rattle.willow.specs.Packed.{lent}
use Rattle.willow.specs.Paths.{Path}
use Rattle.willow.specs.Store.{Sizes, State, Offer, Passed, offer, Answer, refused, is_refused, entry_with, entry_from, offered, answer_entry, answer_offered, answer, after_answer, after_offered, after}
use Rattle.willow.proofs.AnswerLaws.{accepted_words}
use Rattle.willow.proofs.Demand3Laws.{View, v_refused, v_outdated, v_repeated, v_taken, view, Inv, given_by}
use Rattle.willow.proofs.EntryLaws.{places_means, prunes_irreflexive}
use Rattle.willow.proofs.FilingLaws.{Sorted, payloads_snoc}
use Rattle.willow.proofs.ListLaws.{all_also, all_in, in_left, in_last, in_snoc}
use Rattle.willow.proofs.PackedLaws.{packed_form}
use Rattle.willow.proofs.TableLaws.{by_table}
use Rattle.sheet.specs.Rows.{sheet_length}
use Rattle.store_form.specs.Stores.{store_shape, store_layout, Stands, ProperStore}
use Rattle.store_law.specs.AnyStore.{Leaves, AnyStore}
use Rattle.store_law.specs.Offers.{answer_in, leaves_in}
use Rattle.store_law.proofs.Demand3BytesLaws.{refused_stays}
use Rattle.store_law.proofs.LaidOutLaws.{laid_rest, laid_answer, laid_leaves}
use Rattle.store_law.proofs.ProperLaws.{AcceptedSizes, Follows, proper, follows_step}

means_sorted : (l : List Entry) → Ascending PlaceBelow l → Sorted l
means_sorted [] a = tt
means_sorted (x ∷ xs) a = (λ y i. (places_means x y).1 (a.0 y i), means_sorted xs a.1)

-- A PROPER STATE comes from its own entries.
module _ (z : Sizes) (t : State) (p : ProperStore z t) where
  accepted : AcceptedSizes z
  accepted = record { limits = p.limits_accepted; capacity = p.capacity_accepted; namespace = p.namespace_word }

  follows_own : Follows z t.let_go t t.entries
  follows_own =
      let h = p.held_sum in
      record {
        inv = record {
          ascending = means_sorted t.entries p.ascending;
          names = λ x i. (all_in (Stands z) t.entries p.entries_stand x i).of_store;
          sound = λ x i. (i, λ o j. p.none_prunes o x j i);
          cover = λ x i. inl i;
          holds = p.held_sum;
          whole = omega arith;
        };
        within = record { count = p.count; totals = p.totals };
        valid = all_also (Stands z) (ValidEntry z.limits) (λ e s. s.valid) t.entries p.entries_stand;
      }

-- AN UNREFUSED OFFER is answered and filed by the entry that it makes.
record ByEntry (z : Sizes) (t : State) (o : Offer) (a : Answer) (u : State) (h : List Entry) : Type 0 where
  entry : Entry
  made : Makes z o entry
  answered : a ≡ answer_entry z t entry
  left : u ≡ after_answer t entry (answer_entry z t entry)
  history : h ≡ t.entries ++ (entry ∷ [])

-- the answer by the test of the namespace and the path that is lent
abbrev said : Sizes → State → Offer → Bool → Option Path → Answer
said z t o b m = cond b (answer_offered z t (entry_from o m)) (refused WrongNamespace)

by_entry : (z : Sizes) (t : State) (o : Offer) → Words z.limits → Passed o → is_refused (answer z t (offer o)) ≡ false
    → ByEntry z t o (answer z t (offer o)) (after z t (offer o)) (grown z t.entries (offer o) (answer z t (offer o)))
unfolding answer after offered
by_entry z t o w q = go (eqb o.namespace z.namespace) (lent z.limits o.buffer o.count) refl refl
  where
    go : (b : Bool) (m : Option Path) → eqb o.namespace z.namespace ≡ b → lent z.limits o.buffer o.count ≡ m
        → is_refused (said z t o b m) ≡ false
        → ByEntry z t o (said z t o b m) (after_offered t (entry_from o m) (said z t o b m))
        (cond (is_refused (said z t o b m)) t.entries (with_entry t.entries (entry_from o m)))
    go false m e f n = absurd (true≢false n)
    go true none e f n = absurd (true≢false n)
    go true (some p) e f n = record {
      entry = entry_with o p;
      made = (
        eqb-true o.namespace z.namespace e,
        (p, (packed_form.lent_some z.limits o.buffer o.count w q.buffer_bytes p).0 f, refl),
      );
      answered = refl;
      left = refl;
      history = ap (λ r. cond r t.entries (t.entries ++ (entry_with o p ∷ []))) n;
    }

-- WHAT STAYS of a proper state's entries and one more that none of them prunes.
stays_means : (l : List Entry) (e x : Entry) → ((a b : Entry) → In a l → In b l → Prunes a b → ⊥) → ((a : Entry) → In a l → Prunes a e → ⊥)
    → Stays (l ++ (e ∷ [])) x ↔ ((x ≡ e) ⊎ (In x l × (Prunes e x → ⊥)))
stays_means l e x none_prunes clear = (there, back)
  where
    there : Stays (l ++ (e ∷ [])) x → (x ≡ e) ⊎ (In x l × (Prunes e x → ⊥))
    there s = elim (in_snoc l e x s.0) [ inl i ↦ inr (i, s.1 e (in_last l e)) | inr i ↦ inl i ]

    safe : (x ≡ e) ⊎ (In x l × (Prunes e x → ⊥)) → (a : Entry) → In a l ⊎ (a ≡ e) → Prunes a x → ⊥
    safe (inl i) a (inl j) k = clear a j (rw i at k)
    safe (inl i) a (inr j) k = prunes_irreflexive e (rw (i, j) at k)
    safe (inr i) a (inl j) k = none_prunes a x j i.0 k
    safe (inr i) a (inr j) k = i.1 (rw j at k)

    stands : (x ≡ e) ⊎ (In x l × (Prunes e x → ⊥)) → In x (l ++ (e ∷ []))
    stands (inl i) = rw i (in_last l e)
    stands (inr i) = in_left l (e ∷ []) x i.0

    back : (x ≡ e) ⊎ (In x l × (Prunes e x → ⊥)) → Stays (l ++ (e ∷ [])) x
    back s = (stands s, λ a j. safe s a (in_snoc l e a j))

entries_left : (z : Sizes) (t u : State) (e : Entry) (p : ProperStore z t)
    → ((x : Entry) → In x u.entries ↔ Stays (t.entries ++ (e ∷ [])) x)
    → (a : Answer) → View z t e a → is_refused a ≡ false → u ≡ after_answer t e a → Leaves t e a u
entries_left z t u e p g a v_refused n f = absurd (true≢false n)
entries_left z t u e p g a (v_outdated x h i k) n f = ap (λ y. y.entries) f
entries_left z t u e p g a (v_repeated x i) n f = ap (λ y. y.entries) f
entries_left z t u e p g a (v_taken x clear other room) n f = λ y.
    let s = stays_means t.entries e y p.none_prunes clear in
    (λ i. s.0 ((g y).0 i), λ i. (g y).1 (s.1 i))

-- ON BYTES.
pub any_store : AnyStore
any_store s z t o store q =
    let p = store.proper in
    let w = accepted_words z.limits p.limits_accepted in
    let answered : answer_in s (offer o) ≡ answer z t (offer o) = ap (λ l. answer_in l (offer o)) store.laid_out ∙ laid_answer z t store.rest p (offer o) in
    let left : leaves_in s (offer o) ≡ store_layout z (after z t (offer o)) ++ store.rest =
    ap (λ l. leaves_in l (offer o)) store.laid_out ∙ laid_leaves z t store.rest p (offer o) in
    let behind : drop (sheet_length (store_shape z)) s ≡ store.rest =
    ap (drop (sheet_length (store_shape z))) store.laid_out ∙ laid_rest z t store.rest p in
    record {
      by_table = subst (ByTable z t o) (sym answered) (by_table z t o w q);
      refused_leaves = λ r.
          left
          ∙ ap (λ u. store_layout z u ++ store.rest) (refused_stays z t (offer o) (ap is_refused (sym answered) ∙ r))
          ∙ sym store.laid_out;
      unrefused_leaves = λ r.
          let n : is_refused (answer z t (offer o)) ≡ false = ap is_refused (sym answered) ∙ r in
          let b = by_entry z t o w q n in
          let f = follows_step z t.let_go t t.entries (offer o) (accepted z t p) q (follows_own z t p) in
          let u = after z t (offer o) in
          let g = subst (λ h. Inv z t.let_go u h) b.history f.inv in
          let m : is_refused (answer_entry z t b.entry) ≡ false = ap is_refused (sym b.answered) ∙ n in
          let k = given_by z t.let_go u (t.entries ++ (b.entry ∷ [])) g in
          record {
            entry = b.entry;
            made = b.made;
            state = u;
            proper = proper z t.let_go u (grown z t.entries (offer o) (answer z t (offer o))) (accepted z t p) f;
            laid_out = left ∙ ap (λ l. store_layout z u ++ l) (sym behind);
            entries = subst (λ a. Leaves t b.entry a u) (sym (answered ∙ b.answered))
                (entries_left z t u b.entry p k.entries (answer_entry z t b.entry) (view z t b.entry) m b.left);
            totals =
                let x = g.whole in
                let y = payloads_snoc t.entries b.entry in
                let v = p.held_sum in
                omega arith;
          };
    }
