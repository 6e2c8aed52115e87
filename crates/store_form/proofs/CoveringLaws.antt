-- Covering and the order of places. What stands between an entry and one that it covers is covered too, and what is covered stands
-- behind; so of the carried entries only such fall away as cover nothing that follows.
use Prim.Native.Nat.{ℕ, ◌<◌, ◌≤◌}
use mathlib.Core.Path.{◌≡◌, refl, sym, ◌∙◌, ap, subst}
use mathlib.Core.Logic.{◌⊎◌, inl, inr, ◌↔◌}
use mathlib.Core.List.{List, [], ◌∷◌}
use mathlib.Core.Bool.{Bool, true, false, not, cond, false≢true}
use native.Mathlib.Omega.{arith}
use lib.ListN.{length}
use borrow.Author.Tests.{eqb-true, eq-eqb}
use Rattle.willow.specs.Entries.{Entry, age, Older, Prunes, PlaceBelow}
use Rattle.willow.specs.Lists.{In, All, Ascending}
use Rattle.willow.specs.Orders.{AtMost, ListBelow, PairBelow}
use Rattle.willow.specs.Paths.{Prefix, PathBelow, compare_components, compare_paths, is_prefix_of}
use Rattle.willow.proofs.Bools.{decided, conjunction_means}
use Rattle.willow.proofs.EntryLaws.{newer_means, newer_transitive, newer_total}
use Rattle.willow.proofs.ListLaws.{in_all}
use Rattle.willow.proofs.OrderLaws.{below_irreflexive, below_asymmetric}
use Rattle.willow.proofs.PathLaws.{paths_decided, prefix_means, prefix_transitive, prefix_cases, prefix_at_most, prefix_block, components_total}
use Rattle.store_form.specs.Apart.{covers, covering, nearest_older}

-- COVERING, by meaning.
abbrev pub Covers : Entry → Entry → Type 0
Covers o e = (o.subspace ≡ e.subspace) × Prefix o.path e.path

pub covers_means : (o e : Entry) → (covers o e ≡ true) ↔ Covers o e
covers_means o e = conjunction_means (eqb-true o.subspace e.subspace, eq-eqb o.subspace e.subspace) (prefix_means o.path e.path)

pub covers_transitive : (a b c : Entry) → Covers a b → Covers b c → Covers a c
covers_transitive a b c p q = (p.0 ∙ q.0, prefix_transitive a.path b.path c.path p.1 q.1)

pub pruned_covered : (o e : Entry) → Prunes o e → Covers o e
pruned_covered o e p = (p.subspaces, p.prefix)

-- What covers an entry does not stand behind it.
pub covers_behind : (o e : Entry) → PlaceBelow e o → Covers o e → ⊥
covers_behind o e (inl a) c = let k = c.0 in omega arith
covers_behind o e (inr a) c = go (prefix_at_most o.path e.path c.1)
  where
    go : AtMost PathBelow o.path e.path → ⊥
    go (inl k) = below_irreflexive compare_paths PathBelow paths_decided e.path (rw k at a.1)
    go (inr k) = below_asymmetric compare_paths PathBelow paths_decided e.path o.path a.1 k

-- What covers an entry that stands behind it has fewer components.
pub covers_shorter : (o e : Entry) → PlaceBelow o e → Covers o e → length o.path < length e.path
covers_shorter o e b c = elim (prefix_cases compare_components components_total o.path e.path ((prefix_means o.path e.path).1 c.1)) [
  | inl k ↦ absurd (level b k)
  | inr k ↦ k.1
]
  where
    level : PlaceBelow o e → o.path ≡ e.path → ⊥
    level (inl a) k = let s = c.0 in omega arith
    level (inr a) k = below_irreflexive compare_paths PathBelow paths_decided e.path (rw k at a.1)

-- What stands between an entry and one that it covers is covered too.
pub covers_between : (o e x : Entry) → PlaceBelow o e → PlaceBelow e x → Covers o x → Covers o e
covers_between o e x (inl a) (inl b) c = let k = c.0 in absurd (omega arith)
covers_between o e x (inl a) (inr b) c = let k = c.0 in let l = b.0 in absurd (omega arith)
covers_between o e x (inr a) (inl b) c = let k = c.0 in let l = a.0 in absurd (omega arith)
covers_between o e x (inr a) (inr b) c = (a.0, go (decided (is_prefix_of o.path e.path) (prefix_means o.path e.path)))
  where
    go : Prefix o.path e.path ⊎ (Prefix o.path e.path → ⊥) → Prefix o.path e.path
    go (inl p) = p
    go (inr n) = absurd (below_asymmetric compare_paths PathBelow paths_decided e.path x.path b.1
        (prefix_block o.path x.path e.path c.1 n a.1))

-- THE CARRIED LIST is a chain: each that follows covers, by fewer components.
pub record Under (x o : Entry) : Type 0 where
  pub covered : Covers o x
  pub longer : length o.path < length x.path

-- No chain has more entries than its first has components, and one.
pub chain_short : (os : List Entry) (k : ℕ) → Ascending Under os → All (λ o. length o.path < k) os → length os ≤ k
chain_short [] k c h = omega arith
chain_short (o ∷ os) k c h =
    let n = chain_short os (length o.path) c.1 (in_all (λ x. length x.path < length o.path) os (λ x i. (c.0 x i).longer)) in
    let l = h.0 in
    omega arith

-- Those that cover an entry are an end of the carried ones ..
pub covering_in : (e : Entry) (os : List Entry) (x : Entry) → In x (covering e os) → In x os
covering_in e [] x i = i
covering_in e (o ∷ os) x i = go (covers o e) i (covering_in e os x)
  where
    go : (b : Bool) → In x (cond b (o ∷ os) (covering e os)) → (In x (covering e os) → In x os) → In x (o ∷ os)
    go true j ih = j
    go false j ih = inr (ih j)

pub covering_ascending : (Below : Entry → Entry → Type 0) (e : Entry) (os : List Entry) → Ascending Below os → Ascending Below (covering e os)
covering_ascending Below e [] s = s
covering_ascending Below e (o ∷ os) s = go (covers o e) (covering_ascending Below e os s.1)
  where
    go : (b : Bool) → Ascending Below (covering e os) → Ascending Below (cond b (o ∷ os) (covering e os))
    go true k = s
    go false k = k

-- .. and they all cover it, ..
pub covering_covers : (e : Entry) (os : List Entry) → Ascending Under os → (x : Entry) → In x (covering e os) → Covers x e
covering_covers e [] c x i = absurd i
covering_covers e (o ∷ os) c x i = go (covers o e) refl i (covering_covers e os c.1 x)
  where
    go : (b : Bool) → covers o e ≡ b → In x (cond b (o ∷ os) (covering e os)) → (In x (covering e os) → Covers x e) → Covers x e
    go true h (inl j) ih = rw j ((covers_means o e).0 h)
    go true h (inr j) ih = covers_transitive x o e (c.0 x j).covered ((covers_means o e).0 h)
    go false h j ih = ih j

-- .. and none that covers it is missing.
pub in_covering : (e : Entry) (os : List Entry) (x : Entry) → In x os → Covers x e → In x (covering e os)
in_covering e [] x i c = i
in_covering e (o ∷ os) x i c = go (covers o e) refl i (λ j. in_covering e os x j c)
  where
    go : (b : Bool) → covers o e ≡ b → (x ≡ o) ⊎ In x os → (In x os → In x (covering e os)) → In x (cond b (o ∷ os) (covering e os))
    go true h j ih = j
    go false h (inl j) ih = absurd (false≢true (sym h ∙ rw (sym j) ((covers_means x e).1 c)))
    go false h (inr j) ih = ih j

-- NEWNESS along the list: none that follows is newer. So if the nearest is not newer than an entry, none is.
abbrev pub NotNewer : Entry → Entry → Type 0
NotNewer x o = Older x o → ⊥

pub none_newer : (e : Entry) (os : List Entry) → Ascending NotNewer os → nearest_older e os ≡ true → (x : Entry) → In x os → Older e x → ⊥
none_newer e [] s h x i = absurd i
none_newer e (o ∷ os) s h x i = go i
  where
    nearest : Older e o → ⊥
    nearest n = false≢true (sym (ap not ((newer_means o e).1 n)) ∙ h)

    go : (x ≡ o) ⊎ In x os → Older e x → ⊥
    go (inl j) n = nearest (rw j at n)
    go (inr j) n = elim (newer_total o x) [
      | inl k ↦ s.0 x j k
      | inr k ↦ elim k [ inl a ↦ nearest (subst (λ y. PairBelow ◌<◌ (PairBelow (ListBelow ◌<◌) ◌<◌) (age e) y) (sym a) n) | inr a ↦ nearest (newer_transitive e x o n a) ]
    ]
