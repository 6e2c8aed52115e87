-- Entries: newer, pruning, and the two orders of entries.
use Rattle.std.specs.Prelude.{ℕ, ◌<◌, ◌≤◌, ◌≡◌, ◌⊎◌, ◌↔◌, List, Bool, true, ◌&&◌, eqb, length}
use Rattle.willow.specs.declared.Limits.{Limits}
use Rattle.std.specs.declared.cmp.Ordering.{Ordering}
use Rattle.std.specs.declared.cmp.Ordering.TheVariants.{Less}
use Rattle.willow.specs.Limits.{max_word}
use Rattle.willow.specs.Numbers.{Bytes}
use Rattle.willow.specs.Orders.{is_greater, is_equal, Total, Decides, compare_numbers, compare_lists, compare_pairs, ListBelow, PairBelow}
use Rattle.willow.specs.Paths.{Path, Valid, Prefix, PathBelow, is_prefix_of, compare_paths}

-- "Namespace, subspace, path by its components, timestamp, payload length, digest. These make an offer's entry."
pub record Entry : Type 0 where
  pub namespace : ℕ
  pub subspace : ℕ
  pub path : Path
  pub timestamp : ℕ
  pub payload_length : ℕ
  pub digest : List ℕ

abbrev pub digest_length : ℕ
digest_length = 32

-- An entry of numbers of 64 bits, a valid path and a 32-byte digest.
pub record ValidEntry (L : Limits) (e : Entry) : Type 0 where
  pub namespace_word : e.namespace ≤ max_word
  pub subspace_word : e.subspace ≤ max_word
  pub path_valid : Valid L e.path
  pub timestamp_word : e.timestamp ≤ max_word
  pub payload_word : e.payload_length ≤ max_word
  pub digest_size : length e.digest ≡ digest_length
  pub digest_bytes : Bytes e.digest

-- WHAT IS MEANT. Data Model: newer "by timestamp, then 32-byte digest as unsigned bytes, then payload length". `Older e o`: o
-- is newer than e.
abbrev pub age : Entry → ℕ × (List ℕ × ℕ)
age e = (e.timestamp, (e.digest, e.payload_length))

abbrev pub Older : Entry → Entry → Type 0
Older e o = PairBelow ◌<◌ (PairBelow (ListBelow ◌<◌) ◌<◌) (age e) (age o)

-- "o prunes e if namespace and subspace agree, o's path prefixes e's, and o is newer."
pub record Prunes (o e : Entry) : Type 0 where
  pub namespaces : o.namespace ≡ e.namespace
  pub subspaces : o.subspace ≡ e.subspace
  pub prefix : Prefix o.path e.path
  pub newer : Older e o

-- The order of a store sheet, "by subspace and then path".
abbrev pub place : Entry → ℕ × Path
place e = (e.subspace, e.path)

abbrev pub PlaceBelow : Entry → Entry → Type 0
PlaceBelow a b = PairBelow ◌<◌ PathBelow (place a) (place b)

-- The derived order: by namespace, then place, then age.
abbrev pub EntryBelow : Entry → Entry → Type 0
EntryBelow a b =
    PairBelow ◌<◌ (PairBelow (PairBelow ◌<◌ PathBelow) (PairBelow ◌<◌ (PairBelow (ListBelow ◌<◌) ◌<◌)))
    (a.namespace, (place a, age a)) (b.namespace, (place b, age b))

-- WHAT IS COMPUTED.
abbrev pub compare_ages : Entry → Entry → Ordering
compare_ages a b = compare_pairs compare_numbers (compare_pairs (compare_lists compare_numbers) compare_numbers) (age a) (age b)

unfoldable pub is_newer : Entry → Entry → Bool
is_newer a b = is_greater (compare_ages a b)

unfoldable pub prunes : Entry → Entry → Bool
prunes o e =
    eqb o.namespace e.namespace
    && (eqb o.subspace e.subspace
    && (is_newer o e
    && is_prefix_of o.path e.path))

abbrev pub compare_places : Entry → Entry → Ordering
compare_places a b = compare_pairs compare_numbers compare_paths (place a) (place b)

-- The derived order of `Entry`: namespace, subspace, path, timestamp, digest, payload length.
abbrev pub entry_key : Entry → ℕ × ((ℕ × Path) × (ℕ × (List ℕ × ℕ)))
entry_key e = (e.namespace, (place e, age e))

abbrev pub compare_entries : Entry → Entry → Ordering
compare_entries a b =
    compare_pairs compare_numbers
    (compare_pairs (compare_pairs compare_numbers compare_paths) (compare_pairs compare_numbers (compare_pairs (compare_lists compare_numbers) compare_numbers)))
    (entry_key a) (entry_key b)

-- Equal in every field.
unfoldable pub same_entry : Entry → Entry → Bool
same_entry a b = is_equal (compare_entries a b)

-- THEOREM 8. Newer is a strict order, and of two entries one is newer unless timestamp, digest and payload length agree;
-- prunes is irreflexive and transitive; both orders of entries are total.
pub record EntryLaws : Type 0 where
  pub newer_means : (o e : Entry) → (is_newer o e ≡ true) ↔ Older e o
  pub newer_irreflexive : (e : Entry) → Older e e → ⊥
  pub newer_transitive : (a b c : Entry) → Older a b → Older b c → Older a c
  pub newer_total : (a b : Entry) → Older a b ⊎ ((age a ≡ age b) ⊎ Older b a)
  pub prunes_means : (o e : Entry) → (prunes o e ≡ true) ↔ Prunes o e
  pub prunes_irreflexive : (e : Entry) → Prunes e e → ⊥
  pub prunes_transitive : (a b c : Entry) → Prunes a b → Prunes b c → Prunes a c
  pub same_means : (a b : Entry) → (same_entry a b ≡ true) ↔ (a ≡ b)
  pub places_total : Total (compare_pairs compare_numbers compare_paths)
  pub places_means : (a b : Entry) → (compare_places a b ≡ Less) ↔ PlaceBelow a b
  pub entries_total : Total compare_entries
  pub entries_means : Decides compare_entries EntryBelow
