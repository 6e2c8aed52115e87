-- Theorem 8. Age, place and entry are compared as nested pairs, so their laws are those of pairs; pruning joins two equations,
-- a prefix and an age, each transitive.
use Prim.Native.Nat.{ℕ, ◌<◌}
use mathlib.Core.Path.{◌≡◌, sym, ◌∙◌, ap}
use mathlib.Core.Logic.{◌⊎◌, inl, inr, ◌↔◌}
use mathlib.Core.List.{List}
use mathlib.Core.Bool.{true, false, ◌&&◌}
use lib.Dec.{eqb}
use borrow.Author.Tests.{eqb-true, eq-eqb}
use Rattle.std.specs.declared.cmp.Ordering.{Ordering}
use Rattle.std.specs.declared.cmp.Ordering.TheVariants.{Less, Equal}
use Rattle.willow.specs.Entries.{Entry, age, Older, Prunes, place, PlaceBelow, EntryBelow, compare_ages, is_newer, prunes, compare_places, entry_key, compare_entries, same_entry, EntryLaws}
use Rattle.willow.specs.Orders.{is_equal, Total, Decides, compare_numbers, compare_lists, compare_pairs, ListBelow, PairBelow}
use Rattle.willow.specs.Paths.{Path, PathBelow, compare_paths, is_prefix_of}
use Rattle.willow.proofs.Bools.{both_true, decided_false}
use Rattle.willow.proofs.OrderLaws.{is_greater_true, is_equal_true, numbers_total, numbers_decided, lists_total, lists_decided, pairs_total, pairs_decided, keyed_total, keyed_decided, below_irreflexive, below_transitive, below_cases}
use Rattle.willow.proofs.PathLaws.{paths_total, paths_decided, prefix_means, prefix_transitive, prefix_self}

-- AGES: timestamp, then digest, then payload length.
abbrev compare_age : ℕ × (List ℕ × ℕ) → ℕ × (List ℕ × ℕ) → Ordering
compare_age = compare_pairs compare_numbers (compare_pairs (compare_lists compare_numbers) compare_numbers)

abbrev AgeBelow : ℕ × (List ℕ × ℕ) → ℕ × (List ℕ × ℕ) → Type 0
AgeBelow = PairBelow ◌<◌ (PairBelow (ListBelow ◌<◌) ◌<◌)

digests_total : Total (compare_lists compare_numbers)
digests_total = lists_total compare_numbers numbers_total

digests_decided : Decides (compare_lists compare_numbers) (ListBelow ◌<◌)
digests_decided = lists_decided compare_numbers numbers_total ◌<◌ numbers_decided

sizes_total : Total (compare_pairs (compare_lists compare_numbers) compare_numbers)
sizes_total = pairs_total (compare_lists compare_numbers) compare_numbers digests_total numbers_total

pub ages_total : Total compare_age
ages_total = pairs_total compare_numbers (compare_pairs (compare_lists compare_numbers) compare_numbers) numbers_total sizes_total

pub ages_decided : Decides compare_age AgeBelow
ages_decided =
    pairs_decided compare_numbers (compare_pairs (compare_lists compare_numbers) compare_numbers) numbers_total sizes_total ◌<◌ (PairBelow (ListBelow ◌<◌) ◌<◌) numbers_decided
    (pairs_decided (compare_lists compare_numbers) compare_numbers digests_total numbers_total (ListBelow ◌<◌) ◌<◌ digests_decided numbers_decided)

pub newer_means : (o e : Entry) → (is_newer o e ≡ true) ↔ Older e o
unfolding is_newer
newer_means o e = (
  λ h. (ages_decided.greater (age o) (age e)).0 (is_greater_true (compare_ages o e) h),
  λ b. rw ((ages_decided.greater (age o) (age e)).1 b),
)

pub newer_irreflexive : (e : Entry) → Older e e → ⊥
newer_irreflexive e = below_irreflexive compare_age AgeBelow ages_decided (age e)

pub newer_transitive : (a b c : Entry) → Older a b → Older b c → Older a c
newer_transitive a b c = below_transitive compare_age AgeBelow ages_decided ages_total (age a) (age b) (age c)

pub newer_total : (a b : Entry) → Older a b ⊎ ((age a ≡ age b) ⊎ Older b a)
newer_total a b = below_cases compare_age AgeBelow ages_decided (age a) (age b)

-- PLACES: subspace, then path.
pub places_total : Total (compare_pairs compare_numbers compare_paths)
places_total = pairs_total compare_numbers compare_paths numbers_total paths_total

pub places_decided : Decides (compare_pairs compare_numbers compare_paths) (PairBelow ◌<◌ PathBelow)
places_decided = pairs_decided compare_numbers compare_paths numbers_total paths_total ◌<◌ PathBelow numbers_decided paths_decided

pub places_means : (a b : Entry) → (compare_places a b ≡ Less) ↔ PlaceBelow a b
places_means a b = places_decided.less (place a) (place b)

-- ENTRIES: namespace, then place, then age. An entry is known by these.
entry_by_key : (a b : Entry) → entry_key a ≡ entry_key b → a ≡ b
entry_by_key a b e = λ i. record {
  namespace = (e i).0;
  subspace = (e i).1.0.0;
  path = (e i).1.0.1;
  timestamp = (e i).1.1.0;
  payload_length = (e i).1.1.1.1;
  digest = (e i).1.1.1.0;
}

abbrev compare_within : (ℕ × Path) × (ℕ × (List ℕ × ℕ)) → (ℕ × Path) × (ℕ × (List ℕ × ℕ)) → Ordering
compare_within = compare_pairs (compare_pairs compare_numbers compare_paths) compare_age

within_total : Total compare_within
within_total = pairs_total (compare_pairs compare_numbers compare_paths) compare_age places_total ages_total

keys_total : Total (compare_pairs compare_numbers compare_within)
keys_total = pairs_total compare_numbers compare_within numbers_total within_total

pub entries_total : Total compare_entries
entries_total = keyed_total entry_key entry_by_key (compare_pairs compare_numbers compare_within) keys_total

entries_means : Decides compare_entries EntryBelow
entries_means =
    keyed_decided entry_key entry_by_key (compare_pairs compare_numbers compare_within) keys_total (PairBelow ◌<◌ (PairBelow (PairBelow ◌<◌ PathBelow) AgeBelow))
    (pairs_decided compare_numbers compare_within numbers_total within_total ◌<◌ (PairBelow (PairBelow ◌<◌ PathBelow) AgeBelow) numbers_decided
    (pairs_decided (compare_pairs compare_numbers compare_paths) compare_age places_total ages_total (PairBelow ◌<◌ PathBelow) AgeBelow places_decided ages_decided))

pub same_means : (a b : Entry) → (same_entry a b ≡ true) ↔ (a ≡ b)
unfolding same_entry
same_means a b = (
  λ h. entries_total.same a b (is_equal_true (compare_entries a b) h),
  λ e. rw e (ap is_equal (entries_total.self b)),
)

-- PRUNING.
pub prunes_means : (o e : Entry) → (prunes o e ≡ true) ↔ Prunes o e
unfolding prunes
prunes_means o e = (to, from)
  where
    to : eqb o.namespace e.namespace && (eqb o.subspace e.subspace && (is_newer o e && is_prefix_of o.path e.path)) ≡ true → Prunes o e
    to h =
        let a = both_true (eqb o.namespace e.namespace) (eqb o.subspace e.subspace && (is_newer o e && is_prefix_of o.path e.path)) h in
        let b = both_true (eqb o.subspace e.subspace) (is_newer o e && is_prefix_of o.path e.path) a.1 in
        let c = both_true (is_newer o e) (is_prefix_of o.path e.path) b.1 in
        record {
          namespaces = eqb-true o.namespace e.namespace a.0;
          subspaces = eqb-true o.subspace e.subspace b.0;
          prefix = (prefix_means o.path e.path).0 c.1;
          newer = (newer_means o e).0 c.0;
        }

    from : Prunes o e → eqb o.namespace e.namespace && (eqb o.subspace e.subspace && (is_newer o e && is_prefix_of o.path e.path)) ≡ true
    from p = rw (
      eq-eqb o.namespace e.namespace p.namespaces,
      eq-eqb o.subspace e.subspace p.subspaces,
      (newer_means o e).1 p.newer,
    ) ((prefix_means o.path e.path).1 p.prefix)

pub prunes_fails : (o e : Entry) → (prunes o e ≡ false) ↔ (Prunes o e → ⊥)
prunes_fails o e = decided_false (prunes o e) (prunes_means o e)

pub prunes_irreflexive : (e : Entry) → Prunes e e → ⊥
prunes_irreflexive e p = newer_irreflexive e p.newer

pub prunes_transitive : (a b c : Entry) → Prunes a b → Prunes b c → Prunes a c
prunes_transitive a b c p q = record {
  namespaces = p.namespaces ∙ q.namespaces;
  subspaces = p.subspaces ∙ q.subspaces;
  prefix = prefix_transitive a.path b.path c.path p.prefix q.prefix;
  newer = newer_transitive c b a q.newer p.newer;
}

-- Two entries of one namespace at one place: one of them prunes the other, or they are equal.
pub one_place : (a b : Entry) → a.namespace ≡ b.namespace → compare_places a b ≡ Equal → (Prunes a b → ⊥) → (Prunes b a → ⊥) → a ≡ b
one_place a b n p h k = elim (newer_total a b) [
  | inl o ↦ absurd (k (pruning b a (sym n) (sym e) o))
  | inr c ↦ elim c [ inl s ↦ entry_by_key a b (λ i. (n i, (e i, s i))) | inr o ↦ absurd (h (pruning a b n e o)) ]
]
  where
    e : place a ≡ place b
    e = places_total.same (place a) (place b) p

    pruning : (x y : Entry) → x.namespace ≡ y.namespace → place x ≡ place y → Older y x → Prunes x y
    pruning x y m q o = record {
      namespaces = m;
      subspaces = ap (λ z. z.0) q;
      prefix = let r : x.path ≡ y.path = ap (λ z. z.1) q in rw r (prefix_self y.path);
      newer = o;
    }

-- THEOREM 8.
pub entry_laws : EntryLaws
entry_laws = record {
  newer_means = newer_means;
  newer_irreflexive = newer_irreflexive;
  newer_transitive = newer_transitive;
  newer_total = newer_total;
  prunes_means = prunes_means;
  prunes_irreflexive = prunes_irreflexive;
  prunes_transitive = prunes_transitive;
  same_means = same_means;
  places_total = places_total;
  places_means = places_means;
  entries_total = entries_total;
  entries_means = entries_means;
}
