-- Demand 3, on states. An invariant joins the state to the history: the state ascends by place, holds only what stays, and
-- covers the history (each of its entries is held, or one held prunes it). Each answer keeps it; and a state that has it is
-- the one that the history gives.
use Prim.Native.Nat.{ℕ, ◌+◌, ◌≤◌}
use mathlib.Core.Path.{◌≡◌, refl, sym, ◌∙◌, ap, subst}
use mathlib.Core.Logic.{◌⊎◌, inl, inr, ◌↔◌}
use mathlib.Core.List.{List, [], ◌∷◌, ◌++◌}
use mathlib.Core.Option.{Option, none, some}
use mathlib.Core.Bool.{Bool, true, false, ◌||◌, not, cond, true≢false}
use native.Mathlib.Omega.{arith}
use lib.Dec.{eqb, ltb}
use lib.ListN.{length}
use borrow.Author.Tests.{not-true, eqb-true, eqb-false, ltb-false}
use Rattle.std.specs.declared.cmp.Ordering.TheVariants.{Less, Equal}
use Rattle.willow.specs.declared.Refusal.{Refusal}
use Rattle.willow.specs.declared.Refusal.TheVariants.{WrongNamespace}
use Rattle.willow.specs.Demand3.{with_entry, grown, history, pruned, file_all, kept, lost, given, Stays, Goes, GivenBy, ByTable, Answered, CallPassed, Within, Demand3, Demand3OnStates}
use Rattle.willow.specs.Entries.{Entry, Prunes, prunes, same_entry, compare_places}
use Rattle.willow.specs.Limits.{max_word, Words}
use Rattle.willow.specs.Lists.{In, All, Sum, any, filter}
use Rattle.willow.specs.Packed.{lent}
use Rattle.willow.specs.Paths.{Path}
use Rattle.willow.specs.Store.{Sizes, State, fresh, Offer, Call, offer, Answer, refused, outdated, repeated, taken, is_refused, entry_with, entry_from, offered, payloads, pruned_by, left_by, file, answer_by, answer_entry, answer_offered, answer, after_answer, after_offered, after, run, answers}
use Rattle.willow.proofs.Bools.{decided_false}
use Rattle.willow.proofs.EntryLaws.{prunes_means, prunes_fails, prunes_irreflexive, prunes_transitive, same_means, one_place}
use Rattle.willow.proofs.FilingLaws.{Sorted, sorted_means, file_in, in_file_new, in_file_old, file_sorted, file_length, file_payloads, filter_payloads, payloads_snoc, sorted_unique, file_all_sorted, file_all_in, in_file, in_file_all}
use Rattle.willow.proofs.HistoryLaws.{history_passed}
use Rattle.willow.proofs.ListLaws.{any_means, filter_in, in_filter, filter_ascending, filter_lengths, in_left, in_last, in_snoc}
use Rattle.willow.proofs.TableLaws.{by_table}

-- HOW AN ANSWER COMES ABOUT, for an entry.
pub data View (z : Sizes) (s : State) (e : Entry) : Answer → Type 0 where
  v_refused : {r : Refusal} → View z s e (refused r)
  v_outdated : s.held + s.let_go + e.payload_length ≤ max_word → (h : Entry) → In h s.entries → Prunes h e → View z s e outdated
  v_repeated : s.held + s.let_go + e.payload_length ≤ max_word → In e s.entries → View z s e repeated
  v_taken : {k : ℕ} → s.held + s.let_go + e.payload_length ≤ max_word → ((h : Entry) → In h s.entries → Prunes h e → ⊥) → (In e s.entries → ⊥)
      → (length (left_by e s.entries) ≡ z.capacity → ⊥) → View z s e (taken k)

pub view : (z : Sizes) (s : State) (e : Entry) → View z s e (answer_entry z s e)
unfolding answer_entry
view z s e = go
    (ltb max_word (s.held + s.let_go + e.payload_length))
    (any (λ h. prunes h e) s.entries)
    (any (λ h. same_entry h e) s.entries)
    (eqb (length (left_by e s.entries)) z.capacity)
    refl
    refl
    refl
    refl
  where
    fits : ltb max_word (s.held + s.let_go + e.payload_length) ≡ false → s.held + s.let_go + e.payload_length ≤ max_word
    fits k = ltb-false max_word (s.held + s.let_go + e.payload_length) k

    pruner : (any (λ h. prunes h e) s.entries ≡ true) ↔ ((h : Entry) × In h s.entries × Prunes h e)
    pruner = any_means (λ h. prunes h e) (λ h. Prunes h e) (λ h. prunes_means h e) s.entries

    twin : (any (λ h. same_entry h e) s.entries ≡ true) ↔ ((h : Entry) × In h s.entries × (h ≡ e))
    twin = any_means (λ h. same_entry h e) (λ h. h ≡ e) (λ h. same_means h e) s.entries

    go : (f o r n : Bool) → ltb max_word (s.held + s.let_go + e.payload_length) ≡ f → any (λ h. prunes h e) s.entries ≡ o
        → any (λ h. same_entry h e) s.entries ≡ r → eqb (length (left_by e s.entries)) z.capacity ≡ n
        → View z s e (answer_by f o r n (length (pruned_by e s.entries)))
    go true o r n a b c d = v_refused
    go false true r n a b c d = let w = pruner.0 b in v_outdated (fits a) w.0 w.1 w.2
    go false false true n a b c d = let w = twin.0 c in v_repeated (fits a) (rw (← w.2) w.1)
    go false false false true a b c d = v_refused
    go false false false false a b c d = v_taken (fits a)
        (λ h i p. (decided_false (any (λ h. prunes h e) s.entries) pruner).0 b (h, i, p))
        (λ i. (decided_false (any (λ h. same_entry h e) s.entries) twin).0 c (e, i, refl))
        (eqb-false (length (left_by e s.entries)) z.capacity d)

-- THE INVARIANT.
pub record Inv (z : Sizes) (base : ℕ) (s : State) (h : List Entry) : Type 0 where
  pub ascending : Sorted s.entries
  pub names : (x : Entry) → In x h → x.namespace ≡ z.namespace
  pub sound : (x : Entry) → In x s.entries → Stays h x
  pub cover : (x : Entry) → In x h → In x s.entries ⊎ ((g : Entry) × In g s.entries × Prunes g x)
  pub holds : s.held ≡ payloads s.entries
  pub whole : s.held + s.let_go ≡ base + payloads h

pub inv_fresh : (z : Sizes) → Inv z 0 fresh []
inv_fresh z = record { ascending = tt; names = λ x i. absurd i; sound = λ x i. absurd i; cover = λ x i. absurd i; holds = refl; whole = refl }

module _ (z : Sizes) (base : ℕ) (s : State) (h : List Entry) (e : Entry) (v : Inv z base s h) (n : e.namespace ≡ z.namespace) where
  names_on : (x : Entry) → In x (h ++ (e ∷ [])) → x.namespace ≡ z.namespace
  names_on x i = elim (in_snoc h e x i) [ inl j ↦ v.names x j | inr j ↦ rw j n ]

  -- an offer that leaves the entries as they were
  unmoved : In e s.entries ⊎ ((g : Entry) × In g s.entries × Prunes g e)
      → Inv z base (record { entries = s.entries; held = s.held; let_go = s.let_go + e.payload_length }) (h ++ (e ∷ []))
  unmoved c = record {
    ascending = v.ascending;
    names = names_on;
    holds = v.holds;
    sound = λ x i. (in_left h (e ∷ []) x (v.sound x i).0, λ o j. safe x i o (in_snoc h e o j));
    cover = λ x i. covered x (in_snoc h e x i);
    whole = let p = payloads_snoc h e in let w = v.whole in omega arith;
  }
    where
      by_e : (x : Entry) → In x s.entries → In e s.entries ⊎ ((g : Entry) × In g s.entries × Prunes g e) → Prunes e x → ⊥
      by_e x i (inl j) p = (v.sound x i).1 e (v.sound e j).0 p
      by_e x i (inr g) p = (v.sound x i).1 g.0 (v.sound g.0 g.1).0 (prunes_transitive g.0 e x g.2 p)

      safe : (x : Entry) → In x s.entries → (o : Entry) → In o h ⊎ (o ≡ e) → Prunes o x → ⊥
      safe x i o (inl j) p = (v.sound x i).1 o j p
      safe x i o (inr j) p = by_e x i c (rw j at p)

      covered : (x : Entry) → In x h ⊎ (x ≡ e) → In x s.entries ⊎ ((g : Entry) × In g s.entries × Prunes g x)
      covered x (inl j) = v.cover x j
      covered x (inr j) = rw j c

  module _ (a : (g : Entry) → In g s.entries → Prunes g e → ⊥) (b : In e s.entries → ⊥) where
    left_on : (g : Entry) → In g (left_by e s.entries) → In g s.entries × (Prunes e g → ⊥)
    left_on g i =
        let r = filter_in (λ y. not (prunes e y)) s.entries g i in
        (r.0, (prunes_fails e g).0 (not-true (prunes e g) r.1))

    -- no other entry has the place of e
    apart : (g : Entry) → In g (left_by e s.entries) → compare_places e g ≡ Equal → ⊥
    apart g i p =
        let r = left_on g i in
        let q = one_place e g (n ∙ sym (v.names g (v.sound g r.0).0)) p r.1 (a g r.0) in
        b (rw q r.0)

    -- nothing of the history prunes e
    clear : (o : Entry) → In o h → Prunes o e → ⊥
    clear o i p = elim (v.cover o i) [
      | inl j ↦ a o j p
      | inr g ↦ a g.0 g.1 (prunes_transitive g.0 o e g.2 p)
    ]

    takes : (k : ℕ) → Inv z base (after_answer s e (taken k)) (h ++ (e ∷ []))
    takes k = record {
      ascending = file_sorted e (left_by e s.entries) (filter_ascending (λ x y. compare_places x y ≡ Less) (λ y. not (prunes e y)) s.entries v.ascending);
      names = names_on;
      sound = λ x i. let j = file_in e (left_by e s.entries) x i in (there x j, λ o q. free x j o (in_snoc h e o q));
      cover = λ x i. covered x (in_snoc h e x i);
      holds = let w = v.holds in omega (arith, filed, split);
      whole = let p = payloads_snoc h e in let w = v.whole in let u = v.holds in omega (arith, filed, split);
    }
      where
        filed : payloads (file e (left_by e s.entries)) ≡ e.payload_length + payloads (left_by e s.entries)
        filed = file_payloads e (left_by e s.entries) apart

        split : payloads (left_by e s.entries) + payloads (pruned_by e s.entries) ≡ payloads s.entries
        split = filter_payloads (λ y. prunes e y) s.entries

        free : (x : Entry) → (x ≡ e) ⊎ In x (left_by e s.entries) → (o : Entry) → In o h ⊎ (o ≡ e) → Prunes o x → ⊥
        free x (inl i) o (inl j) p = clear o j (rw i at p)
        free x (inl i) o (inr j) p = prunes_irreflexive e (rw (i, j) at p)
        free x (inr i) o (inl j) p = (v.sound x (left_on x i).0).1 o j p
        free x (inr i) o (inr j) p = (left_on x i).1 (rw j at p)

        there : (x : Entry) → (x ≡ e) ⊎ In x (left_by e s.entries) → In x (h ++ (e ∷ []))
        there x (inl i) = rw i (in_last h e)
        there x (inr i) = in_left h (e ∷ []) x (v.sound x (left_on x i).0).0

        -- what was held stays, or e prunes it
        stay : (x : Entry) → In x s.entries → In x (file e (left_by e s.entries)) ⊎ Prunes e x
        stay x i = go (prunes e x) refl
          where
            go : (t : Bool) → prunes e x ≡ t → In x (file e (left_by e s.entries)) ⊎ Prunes e x
            go true p = inr ((prunes_means e x).0 p)
            go false p =
                let m : In x (left_by e s.entries) = in_filter (λ y. not (prunes e y)) s.entries x i (rw p) in
                inl (in_file_old e (left_by e s.entries) x m (apart x m))

        covered_on : (x : Entry) → In x s.entries ⊎ ((g : Entry) × In g s.entries × Prunes g x)
            → In x (file e (left_by e s.entries)) ⊎ ((g : Entry) × In g (file e (left_by e s.entries)) × Prunes g x)
        covered_on x (inl i) = elim (stay x i) [ inl j ↦ inl j | inr j ↦ inr (e, in_file_new e (left_by e s.entries), j) ]
        covered_on x (inr g) = elim (stay g.0 g.1) [
          | inl j ↦ inr (g.0, j, g.2)
          | inr j ↦ inr (e, in_file_new e (left_by e s.entries), prunes_transitive e g.0 x j g.2)
        ]

        covered : (x : Entry) → In x h ⊎ (x ≡ e) → In x (file e (left_by e s.entries)) ⊎ ((g : Entry) × In g (file e (left_by e s.entries)) × Prunes g x)
        covered x (inl i) = covered_on x (v.cover x i)
        covered x (inr i) = inl (rw i (in_file_new e (left_by e s.entries)))

-- EACH ANSWER KEEPS IT, and keeps the bounds.
pub entry_step : (z : Sizes) (base : ℕ) (s : State) (h : List Entry) (e : Entry) → Inv z base s h → e.namespace ≡ z.namespace
    → (a : Answer) → View z s e a → Inv z base (after_answer s e a) (cond (is_refused a) h (h ++ (e ∷ [])))
entry_step z base s h e v n a v_refused = v
entry_step z base s h e v n a (v_outdated f g i p) = unmoved z base s h e v n (inr (g, i, p))
entry_step z base s h e v n a (v_repeated f i) = unmoved z base s h e v n (inl i)
entry_step z base s h e v n a (v_taken {k = k} f p q r) = takes z base s h e v n p q k

pub entry_within : (z : Sizes) (s : State) (e : Entry) → Within z s → s.held ≡ payloads s.entries → (a : Answer) → View z s e a → Within z (after_answer s e a)
entry_within z s e w u a v_refused = w
entry_within z s e w u a (v_outdated f g i p) = record { count = w.count; totals = omega arith }
entry_within z s e w u a (v_repeated f i) = record { count = w.count; totals = omega arith }
entry_within z s e w u a (v_taken {k = k} f p q r) =
    let x = file_length e (left_by e s.entries) in
    let y = filter_lengths (λ h. prunes e h) s.entries in
    let t = filter_payloads (λ y. prunes e y) s.entries in
    let c = w.count in
    record { count = omega arith; totals = omega arith }

-- The same for a call.
module _ (z : Sizes) (base : ℕ) (s : State) (h : List Entry) (v : Inv z base s h) (w : Within z s) (o : Offer) where
  abbrev Kept : Option Path → Bool → Type 0
  Kept m b =
      Inv z base
      (after_offered s (entry_from o m) (cond b (answer_offered z s (entry_from o m)) (refused WrongNamespace)))
      (cond (is_refused (cond b (answer_offered z s (entry_from o m)) (refused WrongNamespace))) h (with_entry h (entry_from o m)))
      × Within z (after_offered s (entry_from o m) (cond b (answer_offered z s (entry_from o m)) (refused WrongNamespace)))

  kept_by : (m : Option Path) (b : Bool) → (b ≡ true → o.namespace ≡ z.namespace) → Kept m b
  kept_by none true n = (v, w)
  kept_by none false n = (v, w)
  kept_by (some p) true n =
      let e = entry_with o p in (
        entry_step z base s h e v (n refl) (answer_entry z s e) (view z s e),
        entry_within z s e w v.holds (answer_entry z s e) (view z s e),
      )
  kept_by (some p) false n = (v, w)

  pub step : Inv z base (after z s (offer o)) (grown z h (offer o) (answer z s (offer o))) × Within z (after z s (offer o))
  unfolding after answer offered
  step = kept_by (lent z.limits o.buffer o.count) (eqb o.namespace z.namespace) (eqb-true o.namespace z.namespace)

-- A LIST OF CALLS.
pub inv_run : (z : Sizes) (base : ℕ) (cs : List Call) (s : State) (h : List Entry) → Inv z base s h → Within z s
    → Inv z base (run z s cs) (history z h cs (answers z s cs)) × Within z (run z s cs)
inv_run z base [] s h v w = (v, w)
inv_run z base (offer o ∷ cs) s h v w =
    let k = step z base s h v w o in
    inv_run z base cs (after z s (offer o)) (grown z h (offer o) (answer z s (offer o))) k.0 k.1

-- WHAT A HISTORY GIVES, where all of it is of one namespace.
module _ (ns : ℕ) (h : List Entry) (names : (x : Entry) → In x h → x.namespace ≡ ns) where
  pruned_means : (x : Entry) → (pruned h x ≡ true) ↔ ((o : Entry) × In o h × Prunes o x)
  pruned_means x = any_means (λ o. prunes o x) (λ o. Prunes o x) (λ o. prunes_means o x) h

  abbrev Unpruned : Entry → Type 0
  Unpruned x = In x h × (pruned h x ≡ false)

  stays_means : (x : Entry) → Unpruned x ↔ Stays h x
  stays_means x = (
    λ k. (k.0, λ o i p. (decided_false (pruned h x) (pruned_means x)).0 k.1 (o, i, p)),
    λ k. (k.0, (decided_false (pruned h x) (pruned_means x)).1 (λ g. k.1 g.0 g.1 g.2)),
  )

  one_each : (x y : Entry) → Unpruned x → Unpruned y → compare_places x y ≡ Equal → x ≡ y
  one_each x y a b p =
      one_place x y (names x a.0 ∙ sym (names y b.0)) p
      (λ q. ((stays_means y).0 b).1 x a.0 q)
      (λ q. ((stays_means x).0 a).1 y b.0 q)

  kept_sorted : Sorted (kept h)
  unfolding kept
  kept_sorted = file_all_sorted [] (filter (λ x. not (pruned h x)) h) tt

  filtered : (x : Entry) → In x (filter (λ x. not (pruned h x)) h) → Unpruned x
  filtered x i = let r = filter_in (λ x. not (pruned h x)) h x i in (r.0, not-true (pruned h x) r.1)

  kept_unpruned : (x : Entry) → In x (kept h) → Unpruned x
  unfolding kept
  kept_unpruned x i = elim (file_all_in [] (filter (λ x. not (pruned h x)) h) x i) [ inl j ↦ absurd j | inr j ↦ filtered x j ]

  unpruned_kept : (x : Entry) → Unpruned x → In x (kept h)
  unfolding kept
  unpruned_kept x k = in_file_all Unpruned one_each [] (filter (λ x. not (pruned h x)) h) (λ y i. absurd i) filtered x
      (inr (in_filter (λ x. not (pruned h x)) h x k.0 (rw k.1)))

  -- what repeats an earlier one
  repeat_means : (earlier : List Entry) (e : Entry) → (any (λ o. same_entry o e) earlier ≡ true) ↔ In e earlier
  repeat_means earlier e = (
    λ q. let r = same.0 q in rw (← r.2) r.1,
    λ i. same.1 (e, i, refl),
  )
    where
      same : (any (λ o. same_entry o e) earlier ≡ true) ↔ ((o : Entry) × In o earlier × (o ≡ e))
      same = any_means (λ o. same_entry o e) (λ o. o ≡ e) (λ o. same_means o e) earlier

  -- held and let go make the whole: l is what is left of the history, acc what was filed of the part before it
  sum : (l earlier acc : List Entry) → Sorted acc → ((x : Entry) → In x l → In x h) → ((x : Entry) → In x earlier → In x h)
      → ((x : Entry) → In x acc → In x earlier × (pruned h x ≡ false)) → ((x : Entry) → In x earlier → pruned h x ≡ false → In x acc)
      → payloads (file_all acc (filter (λ x. not (pruned h x)) l)) + lost h earlier l ≡ payloads acc + payloads l
  sum [] earlier acc s f g a b = omega arith
  sum (e ∷ l) earlier acc s f g a b = go (pruned h e) (any (λ o. same_entry o e) earlier) refl refl (sum l (e ∷ earlier))
    where
      known : (x : Entry) → (x ≡ e) ⊎ In x earlier → In x h
      known x (inl i) = rw i (f e (inl refl))
      known x (inr i) = g x i

      go : (p r : Bool) → pruned h e ≡ p → any (λ o. same_entry o e) earlier ≡ r
          → ((acc : List Entry) → Sorted acc → ((x : Entry) → In x l → In x h) → ((x : Entry) → In x (e ∷ earlier) → In x h)
          → ((x : Entry) → In x acc → In x (e ∷ earlier) × (pruned h x ≡ false)) → ((x : Entry) → In x (e ∷ earlier) → pruned h x ≡ false → In x acc)
          → payloads (file_all acc (filter (λ x. not (pruned h x)) l)) + lost h (e ∷ earlier) l ≡ payloads acc + payloads l)
          → payloads (file_all acc (cond (not p) (e ∷ filter (λ x. not (pruned h x)) l) (filter (λ x. not (pruned h x)) l))) + (cond (p || r) e.payload_length 0 + lost h (e ∷ earlier) l) ≡ payloads acc + (e.payload_length + payloads l)
      go true r ep er ih =
          let k = ih acc s (λ x i. f x (inr i)) known (λ x i. (inr (a x i).0, (a x i).1)) old in omega arith
        where
          old : (x : Entry) → (x ≡ e) ⊎ In x earlier → pruned h x ≡ false → In x acc
          old x (inl i) q = absurd (true≢false (sym ep ∙ rw (sym i) q))
          old x (inr i) q = b x i q
      go false r ep er ih =
          let k = ih (file e acc) (file_sorted e acc s) (λ x i. f x (inr i)) known (λ x i. new x (file_in e acc x i)) old in
          fin r er k
        where
          mine : (x : Entry) → In x acc → Unpruned x
          mine x i = (g x (a x i).0, (a x i).1)

          new : (x : Entry) → (x ≡ e) ⊎ In x acc → In x (e ∷ earlier) × (pruned h x ≡ false)
          new x (inl i) = (inl i, rw i ep)
          new x (inr i) = (inr (a x i).0, (a x i).1)

          old : (x : Entry) → (x ≡ e) ⊎ In x earlier → pruned h x ≡ false → In x (file e acc)
          old x (inl i) q = rw i (in_file_new e acc)
          old x (inr i) q = in_file Unpruned one_each e acc (f e (inl refl), ep) mine x (b x i q)

          fin : (r : Bool) → any (λ o. same_entry o e) earlier ≡ r
              → payloads (file_all (file e acc) (filter (λ x. not (pruned h x)) l)) + lost h (e ∷ earlier) l ≡ payloads (file e acc) + payloads l
              → payloads (file_all (file e acc) (filter (λ x. not (pruned h x)) l)) + (cond r e.payload_length 0 + lost h (e ∷ earlier) l) ≡ payloads acc + (e.payload_length + payloads l)
          fin true q k =
              let m : In e acc = b e ((repeat_means earlier e).0 q) ep in
              let u : file e acc ≡ acc = sorted_unique (file e acc) acc (file_sorted e acc s) s (λ x i. back m x (file_in e acc x i)) (in_file Unpruned one_each e acc (f e (inl refl), ep) mine) in
              let c = ap payloads u in
              omega arith
            where
              back : In e acc → (x : Entry) → (x ≡ e) ⊎ In x acc → In x acc
              back m x (inl i) = rw i m
              back m x (inr i) = i
          fin false q k =
              let c = file_payloads e acc (λ x i p. (decided_false (any (λ o. same_entry o e) earlier) (repeat_means earlier e)).0 q (rw (one_each e x (f e (inl refl), ep) (mine x i) p) (a x i).0)) in
              omega arith

  whole_is : payloads (kept h) + lost h [] h ≡ payloads h
  unfolding kept
  whole_is = let k = sum h [] [] tt (λ x i. i) (λ x i. absurd i) (λ x i. absurd i) (λ x i. absurd i) in omega arith

  -- the bytes let go, by meaning
  lost_means : (earlier l : List Entry) → Sum (λ e. e.payload_length) (Goes h) earlier l (lost h earlier l)
  lost_means earlier [] = refl
  lost_means earlier (e ∷ l) = go (pruned h e) (any (λ o. same_entry o e) earlier) refl refl (lost_means (e ∷ earlier) l)
    where
      go : (p r : Bool) → pruned h e ≡ p → any (λ o. same_entry o e) earlier ≡ r
          → Sum (λ e. e.payload_length) (Goes h) (e ∷ earlier) l (lost h (e ∷ earlier) l)
          → Sum (λ e. e.payload_length) (Goes h) earlier (e ∷ l) (cond (p || r) e.payload_length 0 + lost h (e ∷ earlier) l)
      go true r ep er ih = inl (inr ((pruned_means e).0 ep), (lost h (e ∷ earlier) l, refl, ih))
      go false true ep er ih = inl (inl ((repeat_means earlier e).0 er), (lost h (e ∷ earlier) l, refl, ih))
      go false false ep er ih =
          let k : 0 + lost h (e ∷ earlier) l ≡ lost h (e ∷ earlier) l = omega arith in
          inr (stayed, rw k ih)
        where
          stayed : Goes h earlier e → ⊥
          stayed (inl i) = (decided_false (any (λ o. same_entry o e) earlier) (repeat_means earlier e)).0 er i
          stayed (inr g) = (decided_false (pruned h e) (pruned_means e)).0 ep g

-- A STATE WITH THE INVARIANT IS THE ONE THAT THE HISTORY GIVES, computed and in the demand's words.
module _ (z : Sizes) (base : ℕ) (s : State) (h : List Entry) (v : Inv z base s h) where
  held_stays : (x : Entry) → In x s.entries ↔ Stays h x
  held_stays x = (v.sound x, λ k. elim (v.cover x k.0) [ inl i ↦ i | inr g ↦ absurd (k.1 g.0 (v.sound g.0 g.1).0 g.2) ])

  entries_given : s.entries ≡ kept h
  entries_given = sorted_unique s.entries (kept h) v.ascending (kept_sorted z.namespace h v.names)
      (λ x i. unpruned_kept z.namespace h v.names x ((stays_means z.namespace h v.names x).1 (v.sound x i)))
      (λ x i. (held_stays x).1 ((stays_means z.namespace h v.names x).0 (kept_unpruned z.namespace h v.names x i)))

  held_given : s.held ≡ payloads (kept h)
  held_given = v.holds ∙ ap payloads entries_given

  let_go_given : s.let_go ≡ base + lost h [] h
  let_go_given = let a = v.whole in omega (arith, held_given, whole_is z.namespace h v.names)

  pub state_given : s ≡ given base h
  unfolding given
  state_given = λ i. record { entries = entries_given i; held = held_given i; let_go = let_go_given i }

  pub given_by : GivenBy base h s
  given_by = record {
    ascending = sorted_means s.entries v.ascending;
    entries = held_stays;
    held = v.holds;
    let_go = (lost h [] h, let_go_given, lost_means z.namespace h v.names [] h);
    whole = v.whole;
  }

-- EACH CALL IS ANSWERED BY THE TABLE.
pub answered : (z : Sizes) (base : ℕ) → Words z.limits → (cs : List Call) (s : State) (h : List Entry) → All CallPassed cs → Inv z base s h → Within z s
    → Answered z base h cs (answers z s cs)
answered z base w [] s h a v x = tt
answered z base w (offer o ∷ cs) s h a v x =
    let k = step z base s h v x o in (
      subst (λ t. ByTable z t o (answer z s (offer o))) (state_given z base s h v) (by_table z s o w a.0),
      answered z base w cs (after z s (offer o)) (grown z h (offer o) (answer z s (offer o))) a.1 k.0 k.1,
    )

-- THEOREM 9, on states, from any state that has the invariant; and from a fresh store.
pub demand3_from : (z : Sizes) (base : ℕ) (h : List Entry) (s : State) (cs : List Call) → Words z.limits → All CallPassed cs → Inv z base s h → Within z s
    → Demand3 z base h s cs
demand3_from z base h s cs w a v x =
    let k = inv_run z base cs s h v x in
    let g = history z h cs (answers z s cs) in
    record {
      state = state_given z base (run z s cs) g k.0;
      passed = history_passed z w cs s h a;
      table = answered z base w cs s h a v x;
      means = given_by z base (run z s cs) g k.0;
      within = k.1;
    }

pub demand3 : Demand3OnStates
demand3 z cs w a = demand3_from z 0 [] fresh cs w a (inv_fresh z) (record { count = omega arith; totals = omega arith })
