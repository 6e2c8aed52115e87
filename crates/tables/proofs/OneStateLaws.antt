-- The state that a history gives: what is kept is what stays, each one time and in order, and what is lost is what goes. An ascending list is
-- known by its members, and a sum by its elements, so there is one such state.
use Prim.Native.Nat.{ℕ, ◌+◌}
use mathlib.Core.Path.{◌≡◌, refl, sym, ◌∙◌, ap}
use mathlib.Core.Logic.{◌⊎◌, inl, inr, ◌↔◌}
use mathlib.Core.List.{List, [], ◌∷◌}
use mathlib.Core.Bool.{Bool, true, false, ◌||◌, not, cond, true≢false}
use native.Mathlib.Omega.{arith}
use borrow.Author.Tests.{not-true}
use Rattle.std.specs.declared.cmp.Ordering.TheVariants.{Equal}
use Rattle.willow.specs.Demand3.{history, pruned, file_all, kept, lost, given, Stays, Goes, GivenBy, Within}
use Rattle.willow.specs.Entries.{Entry, Prunes, PlaceBelow, prunes, same_entry, compare_places}
use Rattle.willow.specs.Lists.{In, Ascending, Sum, any, filter}
use Rattle.willow.specs.Store.{Sizes, fresh, payloads, file, run, answers}
use Rattle.willow.proofs.Bools.{decided_false}
use Rattle.willow.proofs.Demand3Laws.{inv_fresh, inv_run, state_given}
use Rattle.willow.proofs.EntryLaws.{prunes_means, same_means, one_place, places_means}
use Rattle.willow.proofs.FilingLaws.{Sorted, sorted_means, file_in, in_file_new, file_sorted, file_payloads, sorted_unique, file_all_sorted, file_all_in, in_file, in_file_all}
use Rattle.willow.proofs.ListLaws.{any_means, sum_unique, filter_in, in_filter}
use Rattle.tables.specs.OneState.{OneGiven, Computed}

means_sorted : (l : List Entry) → Ascending PlaceBelow l → Sorted l
means_sorted [] a = tt
means_sorted (x ∷ xs) a = (λ y i. (places_means x y).1 (a.0 y i), means_sorted xs a.1)

-- WHAT A HISTORY GIVES, where all of it is of one namespace.
module _ (ns : ℕ) (h : List Entry) (names : (x : Entry) → In x h → x.namespace ≡ ns) where
  pruned_means : (x : Entry) → (pruned h x ≡ true) ↔ ((o : Entry) × In o h × Prunes o x)
  pruned_means x = any_means (λ o. prunes o x) (λ o. Prunes o x) (λ o. prunes_means o x) h

  abbrev Unpruned : Entry → Type 0
  Unpruned x = In x h × (pruned h x ≡ false)

  stays_means : (x : Entry) → Unpruned x ↔ Stays h x
  stays_means x = (
    λ k. (k.0, λ o i p. (decided_false (pruned h x) (pruned_means x)).0 k.1 (o, i, p)),
    λ k. (k.0, (decided_false (pruned h x) (pruned_means x)).1 (λ g. k.1 g.0 g.1 g.2)),
  )

  one_each : (x y : Entry) → Unpruned x → Unpruned y → compare_places x y ≡ Equal → x ≡ y
  one_each x y a b p =
      one_place x y (names x a.0 ∙ sym (names y b.0)) p
      (λ q. ((stays_means y).0 b).1 x a.0 q)
      (λ q. ((stays_means x).0 a).1 y b.0 q)

  kept_sorted : Sorted (kept h)
  unfolding kept
  kept_sorted = file_all_sorted [] (filter (λ x. not (pruned h x)) h) tt

  filtered : (x : Entry) → In x (filter (λ x. not (pruned h x)) h) → Unpruned x
  filtered x i = let r = filter_in (λ x. not (pruned h x)) h x i in (r.0, not-true (pruned h x) r.1)

  kept_unpruned : (x : Entry) → In x (kept h) → Unpruned x
  unfolding kept
  kept_unpruned x i = elim (file_all_in [] (filter (λ x. not (pruned h x)) h) x i) [ inl j ↦ absurd j | inr j ↦ filtered x j ]

  unpruned_kept : (x : Entry) → Unpruned x → In x (kept h)
  unfolding kept
  unpruned_kept x k = in_file_all Unpruned one_each [] (filter (λ x. not (pruned h x)) h) (λ y i. absurd i) filtered x
      (inr (in_filter (λ x. not (pruned h x)) h x k.0 (rw k.1)))

  -- what repeats an earlier one
  repeat_means : (earlier : List Entry) (e : Entry) → (any (λ o. same_entry o e) earlier ≡ true) ↔ In e earlier
  repeat_means earlier e = (
    λ q. let r = same.0 q in rw (← r.2) r.1,
    λ i. same.1 (e, i, refl),
  )
    where
      same : (any (λ o. same_entry o e) earlier ≡ true) ↔ ((o : Entry) × In o earlier × (o ≡ e))
      same = any_means (λ o. same_entry o e) (λ o. o ≡ e) (λ o. same_means o e) earlier

  -- held and let go make the whole: l is what is left of the history, acc what was filed of the part before it
  sum : (l earlier acc : List Entry) → Sorted acc → ((x : Entry) → In x l → In x h) → ((x : Entry) → In x earlier → In x h)
      → ((x : Entry) → In x acc → In x earlier × (pruned h x ≡ false)) → ((x : Entry) → In x earlier → pruned h x ≡ false → In x acc)
      → payloads (file_all acc (filter (λ x. not (pruned h x)) l)) + lost h earlier l ≡ payloads acc + payloads l
  sum [] earlier acc s f g a b = omega arith
  sum (e ∷ l) earlier acc s f g a b = go (pruned h e) (any (λ o. same_entry o e) earlier) refl refl (sum l (e ∷ earlier))
    where
      known : (x : Entry) → (x ≡ e) ⊎ In x earlier → In x h
      known x (inl i) = rw i (f e (inl refl))
      known x (inr i) = g x i

      go : (p r : Bool) → pruned h e ≡ p → any (λ o. same_entry o e) earlier ≡ r
          → ((acc : List Entry) → Sorted acc → ((x : Entry) → In x l → In x h) → ((x : Entry) → In x (e ∷ earlier) → In x h)
          → ((x : Entry) → In x acc → In x (e ∷ earlier) × (pruned h x ≡ false)) → ((x : Entry) → In x (e ∷ earlier) → pruned h x ≡ false → In x acc)
          → payloads (file_all acc (filter (λ x. not (pruned h x)) l)) + lost h (e ∷ earlier) l ≡ payloads acc + payloads l)
          → payloads (file_all acc (cond (not p) (e ∷ filter (λ x. not (pruned h x)) l) (filter (λ x. not (pruned h x)) l))) + (cond (p || r) e.payload_length 0 + lost h (e ∷ earlier) l) ≡ payloads acc + (e.payload_length + payloads l)
      go true r ep er ih =
          let k = ih acc s (λ x i. f x (inr i)) known (λ x i. (inr (a x i).0, (a x i).1)) old in omega arith
        where
          old : (x : Entry) → (x ≡ e) ⊎ In x earlier → pruned h x ≡ false → In x acc
          old x (inl i) q = absurd (true≢false (sym ep ∙ rw (sym i) q))
          old x (inr i) q = b x i q
      go false r ep er ih =
          let k = ih (file e acc) (file_sorted e acc s) (λ x i. f x (inr i)) known (λ x i. new x (file_in e acc x i)) old in
          fin r er k
        where
          mine : (x : Entry) → In x acc → Unpruned x
          mine x i = (g x (a x i).0, (a x i).1)

          new : (x : Entry) → (x ≡ e) ⊎ In x acc → In x (e ∷ earlier) × (pruned h x ≡ false)
          new x (inl i) = (inl i, rw i ep)
          new x (inr i) = (inr (a x i).0, (a x i).1)

          old : (x : Entry) → (x ≡ e) ⊎ In x earlier → pruned h x ≡ false → In x (file e acc)
          old x (inl i) q = rw i (in_file_new e acc)
          old x (inr i) q = in_file Unpruned one_each e acc (f e (inl refl), ep) mine x (b x i q)

          fin : (r : Bool) → any (λ o. same_entry o e) earlier ≡ r
              → payloads (file_all (file e acc) (filter (λ x. not (pruned h x)) l)) + lost h (e ∷ earlier) l ≡ payloads (file e acc) + payloads l
              → payloads (file_all (file e acc) (filter (λ x. not (pruned h x)) l)) + (cond r e.payload_length 0 + lost h (e ∷ earlier) l) ≡ payloads acc + (e.payload_length + payloads l)
          fin true q k =
              let m : In e acc = b e ((repeat_means earlier e).0 q) ep in
              let u : file e acc ≡ acc = sorted_unique (file e acc) acc (file_sorted e acc s) s (λ x i. back m x (file_in e acc x i)) (in_file Unpruned one_each e acc (f e (inl refl), ep) mine) in
              let c = ap payloads u in
              omega arith
            where
              back : In e acc → (x : Entry) → (x ≡ e) ⊎ In x acc → In x acc
              back m x (inl i) = rw i m
              back m x (inr i) = i
          fin false q k =
              let c = file_payloads e acc (λ x i p. (decided_false (any (λ o. same_entry o e) earlier) (repeat_means earlier e)).0 q (rw (one_each e x (f e (inl refl), ep) (mine x i) p) (a x i).0)) in
              omega arith

  whole_is : payloads (kept h) + lost h [] h ≡ payloads h
  unfolding kept
  whole_is = let k = sum h [] [] tt (λ x i. i) (λ x i. absurd i) (λ x i. absurd i) (λ x i. absurd i) in omega arith

  -- the bytes let go, by meaning
  lost_means : (earlier l : List Entry) → Sum (λ e. e.payload_length) (Goes h) earlier l (lost h earlier l)
  lost_means earlier [] = refl
  lost_means earlier (e ∷ l) = go (pruned h e) (any (λ o. same_entry o e) earlier) refl refl (lost_means (e ∷ earlier) l)
    where
      go : (p r : Bool) → pruned h e ≡ p → any (λ o. same_entry o e) earlier ≡ r
          → Sum (λ e. e.payload_length) (Goes h) (e ∷ earlier) l (lost h (e ∷ earlier) l)
          → Sum (λ e. e.payload_length) (Goes h) earlier (e ∷ l) (cond (p || r) e.payload_length 0 + lost h (e ∷ earlier) l)
      go true r ep er ih = inl (inr ((pruned_means e).0 ep), (lost h (e ∷ earlier) l, refl, ih))
      go false true ep er ih = inl (inl ((repeat_means earlier e).0 er), (lost h (e ∷ earlier) l, refl, ih))
      go false false ep er ih =
          let k : 0 + lost h (e ∷ earlier) l ≡ lost h (e ∷ earlier) l = omega arith in
          inr (stayed, rw k ih)
        where
          stayed : Goes h earlier e → ⊥
          stayed (inl i) = (decided_false (any (λ o. same_entry o e) earlier) (repeat_means earlier e)).0 er i
          stayed (inr g) = (decided_false (pruned h e) (pruned_means e)).0 ep g

  -- so demand 3's words hold of the state that is computed
  pub given_means : (base : ℕ) → GivenBy base h (given base h)
  unfolding given
  given_means base = record {
    ascending = sorted_means (kept h) kept_sorted;
    entries = λ x. (λ i. (stays_means x).0 (kept_unpruned x i), λ k. unpruned_kept x ((stays_means x).1 k));
    held = refl;
    let_go = (lost h [] h, refl, lost_means [] h);
    whole = omega (arith, whole_is);
  }

-- ONE STATE.
pub one_given : OneGiven
one_given base h s t a b =
    let entries = sorted_unique s.entries t.entries (means_sorted s.entries a.ascending) (means_sorted t.entries b.ascending)
    (λ x i. (b.entries x).1 ((a.entries x).0 i)) (λ x i. (a.entries x).1 ((b.entries x).0 i)) in
    let held = a.held ∙ ap payloads entries ∙ sym b.held in
    let gone = sum_unique (λ e. e.payload_length) (Goes h) [] h a.let_go.0 b.let_go.0 a.let_go.2 b.let_go.2 in
    let let_go = a.let_go.1 ∙ ap (λ n. base + n) gone ∙ sym b.let_go.1 in
    λ i. record { entries = entries i; held = held i; let_go = let_go i }

-- WHAT IS COMPUTED.
within_fresh : (z : Sizes) → Within z fresh
within_fresh z = record { count = omega arith; totals = omega arith }

pub computed : Computed
computed = record {
  state = λ ns base h names. given_means ns h names base;
  run_given = λ z cs.
      let v = (inv_run z 0 cs fresh [] (inv_fresh z) (within_fresh z)).0 in
      state_given z 0 (run z fresh cs) (history z [] cs (answers z fresh cs)) v;
}
