-- A pass finds what the table asks. Each finding, joined to what the entries that are left would add to it, stays the same from entry to
-- entry; so behind the last it is what all of them give. To file an entry is to put it behind those that are below it.
use Prim.Native.Nat.{ℕ, ◌+◌, ◌≤◌}
use mathlib.Core.Path.{◌≡◌, refl, sym, ◌∙◌, ap}
use mathlib.Core.Logic.{◌⊎◌, inl, inr}
use mathlib.Core.List.{List, [], ◌∷◌, ◌++◌}
use mathlib.Core.Bool.{Bool, true, false, ◌||◌, not, cond, or-true, or-false}
use native.Mathlib.Omega.{arith}
use lib.ListN.{length, take, drop}
use borrow.Author.Tests.{not-true}
use Rattle.std.specs.declared.cmp.Ordering.{Ordering}
use Rattle.std.specs.declared.cmp.Ordering.TheVariants.{Less, Equal, Greater}
use Rattle.willow.specs.Entries.{Entry, PlaceBelow, place, prunes, same_entry, compare_places}
use Rattle.willow.specs.Lists.{In, All, Ascending, any, filter}
use Rattle.willow.specs.Orders.{is_less, is_equal, reverse, compare_pairs, compare_numbers}
use Rattle.willow.specs.Paths.{compare_paths}
use Rattle.willow.specs.Store.{payloads, pruned_by, left_by, file}
use Rattle.willow.proofs.Bools.{decided_false, false_not_true}
use Rattle.willow.proofs.EntryLaws.{places_total, places_means, same_means, prunes_means, prunes_fails, prunes_irreflexive, one_place}
use Rattle.willow.proofs.ListLaws.{all_in, in_all, all_both, any_false, filter_in, filter_ascending, filter_lengths}
use Rattle.willow.proofs.OrderLaws.{is_equal_true, equal_by}
use Rattle.store_form.specs.Apart.{OneNamespace}
use Rattle.store_scan.specs.declared.Scan.{Scan}
use Rattle.store_scan.specs.Scans.{nothing_met, met_by, met, scanned, ScanTheorem}

-- WHO IS THE OFFER: an entry of its namespace and at its place, where neither prunes the other; and none that it prunes.
module _ (h e : Entry) where
  pruned_differs : prunes e h ≡ true → same_entry h e ≡ false
  pruned_differs p = (decided_false (same_entry h e) (same_means h e)).1 (λ s. prunes_irreflexive e ((prunes_means e e).0 (ap (prunes e) (sym s) ∙ p)))

  same_at_place : h.namespace ≡ e.namespace → prunes h e ≡ false → prunes e h ≡ false → same_entry h e ≡ is_equal (compare_places h e)
  same_at_place n p q = go (is_equal (compare_places h e)) refl
    where
      there : h ≡ e → compare_places h e ≡ Equal
      there s = equal_by (compare_pairs compare_numbers compare_paths) places_total (place h) (place e) (ap place s)

      go : (b : Bool) → is_equal (compare_places h e) ≡ b → same_entry h e ≡ b
      go true k = (same_means h e).1 (one_place h e n (is_equal_true (compare_places h e) k) ((prunes_fails h e).0 p) ((prunes_fails e h).0 q))
      go false k = (decided_false (same_entry h e) (same_means h e)).1 (λ s. false_not_true _ k (ap is_equal (there s)))

module _ (e : Entry) where
  -- Those that prune the offer, that are the offer, and that are below it.
  abbrev pruners : List Entry → Bool
  pruners hs = any (λ h. prunes h e) hs

  abbrev repeats : List Entry → Bool
  repeats hs = any (λ h. same_entry h e) hs

  abbrev below : List Entry → List Entry
  below hs = filter (λ h. is_less (compare_places h e)) hs

  -- WHAT A PASS KEEPS: a value of what was met and of the entries that are left, where no entry that has P changes it.
  pass_keeps : {B : Type 0} (value : Scan → List Entry → B) (P : Entry → Type 0)
      → ((a : Scan) (h : Entry) (hs : List Entry) → P h → value (met e a h) hs ≡ value a (h ∷ hs))
      → (a : Scan) (hs : List Entry) → All P hs → value (scanned e a hs) [] ≡ value a hs
  pass_keeps value P step a [] k = refl
  pass_keeps value P step a (h ∷ hs) k = pass_keeps value P step (met e a h) hs k.1 ∙ step a h hs k.0

  -- ONE ENTRY, h, with hs behind it.
  module _ (a : Scan) (h : Entry) (hs : List Entry) where
    outdated_step : (met e a h).outdated || pruners hs ≡ a.outdated || pruners (h ∷ hs)
    unfolding met
    outdated_step = go (prunes h e) (prunes e h) (compare_places h e)
      where
        go : (p q : Bool) (o : Ordering) → (met_by p q o h.payload_length a).outdated || pruners hs ≡ a.outdated || (p || pruners hs)
        go true q o = sym (or-true a.outdated)
        go false true o = refl
        go false false Less = refl
        go false false Equal = refl
        go false false Greater = refl

    module _ (k : prunes h e ≡ false) where
      repeat_step : h.namespace ≡ e.namespace → (met e a h).repeat || repeats hs ≡ a.repeat || repeats (h ∷ hs)
      unfolding met
      repeat_step n = rw k (go (prunes e h) refl (compare_places h e) refl)
        where
          go : (q : Bool) → prunes e h ≡ q → (o : Ordering) → compare_places h e ≡ o
              → (met_by false q o h.payload_length a).repeat || repeats hs ≡ a.repeat || (same_entry h e || repeats hs)
          go true f o g = rw (pruned_differs h e f)
          go false f Less g = rw (same_at_place h e n k f, g) refl
          go false f Equal g = rw (same_at_place h e n k f, g) (sym (or-true a.repeat))
          go false f Greater g = rw (same_at_place h e n k f, g) refl

      pruned_step : (met e a h).pruned + length (pruned_by e hs) ≡ a.pruned + length (pruned_by e (h ∷ hs))
      unfolding met
      pruned_step = rw k (go (prunes e h) (compare_places h e))
        where
          go : (q : Bool) (o : Ordering) → (met_by false q o h.payload_length a).pruned + length (pruned_by e hs) ≡ a.pruned + length (cond q (h ∷ pruned_by e hs) (pruned_by e hs))
          go true o = omega arith
          go false Less = refl
          go false Equal = refl
          go false Greater = refl

      freed_step : (met e a h).freed + payloads (pruned_by e hs) ≡ a.freed + payloads (pruned_by e (h ∷ hs))
      unfolding met
      freed_step = rw k (go (prunes e h) (compare_places h e))
        where
          go : (q : Bool) (o : Ordering) → (met_by false q o h.payload_length a).freed + payloads (pruned_by e hs) ≡ a.freed + payloads (cond q (h ∷ pruned_by e hs) (pruned_by e hs))
          go true o = omega arith
          go false Less = refl
          go false Equal = refl
          go false Greater = refl

      place_step : (met e a h).place + length (below (left_by e hs)) ≡ a.place + length (below (left_by e (h ∷ hs)))
      unfolding met
      place_step = rw k (go (prunes e h) (compare_places h e) refl)
        where
          go : (q : Bool) (o : Ordering) → compare_places h e ≡ o
              → (met_by false q o h.payload_length a).place + length (below (left_by e hs)) ≡ a.place + length (below (cond (not q) (h ∷ left_by e hs) (left_by e hs)))
          go true o g = refl
          go false Less g = rw g (omega arith)
          go false Equal g = rw g (omega arith)
          go false Greater g = rw g (omega arith)

  -- ALL ENTRIES.
  module _ (hs : List Entry) where
    abbrev all_met : Scan
    all_met = scanned e nothing_met hs

    outdated_found : all_met.outdated ≡ pruners hs
    outdated_found =
        sym (or-false all_met.outdated)
        ∙ pass_keeps (λ a l. a.outdated || pruners l) (λ h. Unit {0}) (λ a h l u. outdated_step a h l) nothing_met hs (in_all (λ h. Unit {0}) hs (λ h i. tt))

    module _ (none : pruners hs ≡ false) where
      spare : All (λ h. prunes h e ≡ false) hs
      spare = any_false (λ h. prunes h e) hs none

      pruned_counted : all_met.pruned ≡ length (pruned_by e hs)
      pruned_counted = let s = pass_keeps (λ a l. a.pruned + length (pruned_by e l)) (λ h. prunes h e ≡ false) pruned_step nothing_met hs spare in omega arith

      freed_summed : all_met.freed ≡ payloads (pruned_by e hs)
      freed_summed = let s = pass_keeps (λ a l. a.freed + payloads (pruned_by e l)) (λ h. prunes h e ≡ false) freed_step nothing_met hs spare in omega arith

      below_counted : all_met.place ≡ length (below (left_by e hs))
      below_counted = let s = pass_keeps (λ a l. a.place + length (below (left_by e l))) (λ h. prunes h e ≡ false) place_step nothing_met hs spare in omega arith

      below_within : all_met.place ≤ length (left_by e hs)
      below_within =
          let s = below_counted in
          let l = filter_lengths (λ h. is_less (compare_places h e)) (left_by e hs) in
          omega arith

      module _ (n : ℕ) (names : OneNamespace n (e ∷ hs)) where
        repeat_found : all_met.repeat ≡ repeats hs
        repeat_found =
            let P : Entry → Type 0 = λ h. (prunes h e ≡ false) × (h.namespace ≡ n) in
            sym (or-false all_met.repeat)
            ∙ pass_keeps (λ a l. a.repeat || repeats l) P (λ a h l k. repeat_step a h l k.0 (k.1 ∙ sym names.0)) nothing_met hs
            (all_both (λ h. prunes h e ≡ false) (λ h. h.namespace ≡ n) hs spare names.1)

        -- where none is the offer, none that is left stands at its place
        none_there : repeats hs ≡ false → (x : Entry) → In x (left_by e hs) → compare_places x e ≡ Equal → ⊥
        none_there r x i k =
            let f = filter_in (λ h. not (prunes e h)) hs x i in
            let s = same_at_place x e (all_in (λ h. h.namespace ≡ n) hs names.1 x f.0 ∙ sym names.0) (all_in (λ h. prunes h e ≡ false) hs spare x f.0) (not-true (prunes e x) f.1) in
            false_not_true (same_entry x e) (all_in (λ h. same_entry h e ≡ false) hs (any_false (λ h. same_entry h e) hs r) x f.0) (s ∙ ap is_equal k)

  -- FILING, in a list that ascends and has nothing at the entry's place: behind those that are below it.
  none_below : (l : List Entry) → ((y : Entry) → In y l → compare_places y e ≡ Greater) → below l ≡ []
  none_below [] h = refl
  none_below (y ∷ ys) h = rw (h y (inl refl)) (none_below ys (λ z i. h z (inr i)))

  filed : (l : List Entry) → Ascending PlaceBelow l → ((x : Entry) → In x l → compare_places x e ≡ Equal → ⊥)
      → file e l ≡ take (length (below l)) l ++ (e ∷ drop (length (below l)) l)
  filed [] s h = refl
  filed (x ∷ xs) s h = go (compare_places x e) refl (filed xs s.1 (λ y i. h y (inr i)))
    where
      flipped : compare_places e x ≡ reverse (compare_places x e)
      flipped = places_total.flip (place x) (place e)

      go : (o : Ordering) → compare_places x e ≡ o → file e xs ≡ take (length (below xs)) xs ++ (e ∷ drop (length (below xs)) xs)
          → file e (x ∷ xs) ≡ take (length (below (x ∷ xs))) (x ∷ xs) ++ (e ∷ drop (length (below (x ∷ xs))) (x ∷ xs))
      go Less k ih = rw (flipped, k) (ap (λ l. x ∷ l) ih)
      go Equal k ih = absurd (h x (inl refl) k)
      go Greater k ih = rw (none_below (x ∷ xs) above, flipped, k)
        where
          above : (y : Entry) → (y ≡ x) ⊎ In y xs → compare_places y e ≡ Greater
          above y (inl j) = rw j k
          above y (inr j) =
              places_total.flip (place e) (place y)
              ∙ ap reverse (places_total.trans (place e) (place x) (place y) (flipped ∙ ap reverse k) ((places_means x y).1 (s.0 y j)))

-- WHAT THE PASS MEANS.
pub scan_theorem : ScanTheorem
scan_theorem = record {
  finds_outdated = outdated_found;
  finds_repeat = λ n e hs names none. repeat_found e hs none n names;
  counts_pruned = pruned_counted;
  sums_freed = freed_summed;
  left = λ e hs. let l = filter_lengths (λ h. prunes e h) hs in omega arith;
  files_at = λ n e hs names s none r.
      filed e (left_by e hs) (filter_ascending PlaceBelow (λ h. not (prunes e h)) hs s) (none_there e hs none n names r)
      ∙ ap (λ m. take m (left_by e hs) ++ (e ∷ drop m (left_by e hs))) (sym (below_counted e hs none));
  place_within_lem = below_within;
}
