-- The pass over a sheet's entries: that neighbours ascend means that all do; and the entries that are carried are exactly those
-- passed ones that cover the next, so that none is newer means that none prunes it.
use Prim.Native.Nat.{ℕ, suc, ◌<◌, ◌≤◌}
use mathlib.Core.Path.{◌≡◌, refl, sym, ◌∙◌, ap}
use mathlib.Core.Logic.{◌⊎◌, inl, inr}
use mathlib.Core.List.{List, [], ◌∷◌}
use mathlib.Core.Bool.{true, not}
use native.Mathlib.Omega.{arith}
use lib.ListN.{length}
use Rattle.willow.specs.Entries.{Entry, Prunes, place, PlaceBelow, is_newer, compare_places}
use Rattle.willow.specs.Lists.{In, All, Ascending}
use Rattle.willow.specs.Orders.{is_less, compare_pairs, compare_numbers, PairBelow}
use Rattle.willow.specs.Paths.{compare_paths, PathBelow}
use Rattle.willow.proofs.Bools.{both_true, true_both, not_true_false}
use Rattle.willow.proofs.EntryLaws.{newer_means, places_total, places_decided, places_means, prunes_irreflexive}
use Rattle.willow.proofs.ListLaws.{all_in, in_all, all_also}
use Rattle.willow.proofs.OrderLaws.{is_less_true, below_transitive}
use Rattle.store_form.specs.Apart.{ascends, covering, nearest_older, clear_from, carried, OneNamespace, ApartTheorem}
use Rattle.store_form.proofs.CoveringLaws.{pruned_covered, covers_behind, covers_shorter, covers_between, Under, chain_short, covering_in, covering_ascending, covering_covers, in_covering, NotNewer, none_newer}

-- ASCENDING by neighbours, and throughout.
place_transitive : (x y z : Entry) → PlaceBelow x y → PlaceBelow y z → PlaceBelow x z
place_transitive x y z = below_transitive (compare_pairs compare_numbers compare_paths) (PairBelow ◌<◌ PathBelow) places_decided places_total (place x) (place y) (place z)

ascends_all : (es : List Entry) → ascends es ≡ true → Ascending PlaceBelow es
ascends_all [] h = tt
ascends_all (x ∷ []) h = (λ y i. absurd i, tt)
ascends_all (x ∷ (y ∷ ys)) h =
    let b = both_true (is_less (compare_places x y)) (ascends (y ∷ ys)) h in
    let s = ascends_all (y ∷ ys) b.1 in
    (below ((places_means x y).0 (is_less_true (compare_places x y) b.0)) s, s)
  where
    below : PlaceBelow x y → Ascending PlaceBelow (y ∷ ys) → (z : Entry) → (z ≡ y) ⊎ In z ys → PlaceBelow x z
    below k s z (inl e) = rw e k
    below k s z (inr i) = place_transitive x y z k (s.0 z i)

all_ascends : (es : List Entry) → Ascending PlaceBelow es → ascends es ≡ true
all_ascends [] s = refl
all_ascends (x ∷ []) s = refl
all_ascends (x ∷ (y ∷ ys)) s = rw ((places_means x y).1 (s.0 y (inl refl))) (all_ascends (y ∷ ys) s.1)

-- WHERE THE PASS STANDS: os are carried, es are still to come.
record Passing (os es : List Entry) : Type 0 where
  chain : Ascending Under os
  behind : (o e : Entry) → In o os → In e es → PlaceBelow o e
  sorted : Ascending PlaceBelow es

start : (es : List Entry) → Ascending PlaceBelow es → Passing [] es
start es s = record { chain = tt; behind = λ o e i j. absurd i; sorted = s }

next : (os : List Entry) (e : Entry) (es : List Entry) → Passing os (e ∷ es) → Passing (e ∷ covering e os) es
next os e es p = record { chain = (under, covering_ascending Under e os p.chain); behind = before; sorted = p.sorted.1 }
  where
    under : (o : Entry) → In o (covering e os) → Under e o
    under o i =
        let c = covering_covers e os p.chain o i in
        record { covered = c; longer = covers_shorter o e (p.behind o e (covering_in e os o i) (inl refl)) c }

    before : (o x : Entry) → (o ≡ e) ⊎ In o (covering e os) → In x es → PlaceBelow o x
    before o x (inl k) j = rw k (p.sorted.0 x j)
    before o x (inr k) j = p.behind o x (covering_in e os o k) (inr j)

-- None of those carried and to come prunes one that is to come.
abbrev Apart : List Entry → List Entry → Type 0
Apart os es = (o e : Entry) → In o os ⊎ In o es → In e es → Prunes o e → ⊥

-- THE TEST IS ENOUGH: the next entry is pruned by none if none that covers it is newer; and what prunes one behind it is carried on.
apart_step : (os : List Entry) (e : Entry) (es : List Entry) → Passing os (e ∷ es) → ((o : Entry) → In o (covering e os) → NotNewer e o)
    → Apart (e ∷ covering e os) es → Apart os (e ∷ es)
apart_step os e es p older later = go
  where
    -- one that prunes an entry behind e covers e
    kept : (o x : Entry) → In o os → In x es → Prunes o x → In o (covering e os)
    kept o x i j q = in_covering e os o i
        (covers_between o e x (p.behind o e i (inl refl)) (p.sorted.0 x j) (pruned_covered o x q))

    go : Apart os (e ∷ es)
    go o x (inl i) (inl j) q = let r : Prunes o e = (rw j at q) in older o (in_covering e os o i (pruned_covered o e r)) r.newer
    go o x (inl i) (inr j) q = later o x (inl (inr (kept o x i j q))) j q
    go o x (inr (inl i)) (inl j) q = prunes_irreflexive e (rw (i, j) at q)
    go o x (inr (inl i)) (inr j) q = later o x (inl (inl i)) j q
    go o x (inr (inr i)) (inl j) q = covers_behind o e (p.sorted.0 o i) (pruned_covered o e (rw j at q))
    go o x (inr (inr i)) (inr j) q = later o x (inr i) j q

clear_apart : (os es : List Entry) → Passing os es → Ascending NotNewer os → clear_from os es ≡ true → Apart os es
clear_apart os [] p n h = λ o e i j. absurd j
clear_apart os (e ∷ es) p n h =
    let b = both_true (nearest_older e (covering e os)) (clear_from (e ∷ covering e os) es) h in
    let s = covering_ascending NotNewer e os n in
    let older = none_newer e (covering e os) s b.0 in
    apart_step os e es p older (clear_apart (e ∷ covering e os) es (next os e es p) (older, s) b.1)

-- .. AND NOT TOO MUCH: what prunes nothing passes it.
nearest_clear : (e : Entry) (os : List Entry) → ((o : Entry) → In o os → NotNewer e o) → nearest_older e os ≡ true
nearest_clear e [] h = refl
nearest_clear e (o ∷ os) h = ap not (not_true_false (is_newer o e) (λ k. h o (inl refl) ((newer_means o e).0 k)))

apart_clear : (n : ℕ) (os es : List Entry) → Passing os es → OneNamespace n os → OneNamespace n es → Apart os es → clear_from os es ≡ true
apart_clear n os [] p k l a = refl
apart_clear n os (e ∷ es) p k l a = true_both (nearest_older e (covering e os)) (clear_from (e ∷ covering e os) es)
    (nearest_clear e (covering e os) older)
    (apart_clear n (e ∷ covering e os) es (next os e es p) (l.0, in_all (λ o. o.namespace ≡ n) (covering e os) (λ o i. of_one o (covering_in e os o i))) l.1 (λ o x i j. a o x (from o i) (inr j)))
  where
    of_one : (o : Entry) → In o os → o.namespace ≡ n
    of_one = all_in (λ o. o.namespace ≡ n) os k

    older : (o : Entry) → In o (covering e os) → NotNewer e o
    older o i q =
        let c = covering_covers e os p.chain o i in
        let m = covering_in e os o i in
        a o e (inl m) (inl refl) (record { namespaces = of_one o m ∙ sym l.0; subspaces = c.0; prefix = c.1; newer = q })

    from : (o : Entry) → In o (e ∷ covering e os) ⊎ In o es → In o os ⊎ In o (e ∷ es)
    from o (inl (inl i)) = inr (inl i)
    from o (inl (inr i)) = inl (covering_in e os o i)
    from o (inr i) = inr (inr i)

-- WHAT IS CARRIED is short.
abbrev Within : ℕ → List Entry → Type 0
Within k = All (λ e. length e.path ≤ k)

carried_within : (os es : List Entry) (k : ℕ) → Passing os es → Within k os → Within k es → length (carried os es) ≤ suc k
carried_within os [] k p h l = chain_short os (suc k) p.chain (all_also (λ o. length o.path ≤ k) (λ o. length o.path < suc k) (λ o m. omega arith) os h)
carried_within os (e ∷ es) k p h l = carried_within (e ∷ covering e os) es k (next os e es p) (l.0, kept) l.1
  where
    kept : Within k (covering e os)
    kept = in_all (λ o. length o.path ≤ k) (covering e os) (λ o i. all_in (λ o. length o.path ≤ k) os h o (covering_in e os o i))

-- THE THEOREM.
pub apart_theorem : ApartTheorem
apart_theorem = record {
  ascending = λ es. (ascends_all es, all_ascends es);
  none_prunes = λ n es k s. (
    λ h o e i j. clear_apart [] es (start es s) tt h o e (inr i) j,
    λ a. apart_clear n [] es (start es s) tt k (λ o e i j. a o e (listed es o i) j),
  );
  carried_short = λ es k s h. carried_within [] es k (start es s) tt h;
}
  where
    listed : (es : List Entry) (o : Entry) → ⊥ ⊎ In o es → In o es
    listed es o (inl i) = absurd i
    listed es o (inr i) = i
