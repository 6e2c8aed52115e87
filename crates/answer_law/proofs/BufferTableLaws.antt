-- What is left in a buffer follows from `BufferAnswers` for every answer that is not itself refused with 15. So of each call it is shown
-- that its tests before the buffer's never give 15: by what its tests are, one behind the other.
use Prim.Native.Nat.{ℕ, ◌*◌}
use mathlib.Core.Path.{◌≡◌, refl, ◌∙◌, ap, subst}
use mathlib.Core.List.{List, [], ◌∷◌}
use mathlib.Core.Option.{Option, none, some}
use mathlib.Core.Bool.{Bool, true, false, cond}
use native.Mathlib.Omega.{arith}
use lib.Dec.{eqb, leb, ltb}
use lib.ListN.{length}
use Rattle.willow.specs.declared.Limits.{Limits}
use Rattle.willow.specs.declared.Refusal.{Refusal}
use Rattle.willow.specs.declared.Refusal.TheVariants.{BadLimits, BadSheet, BadKind, BadPath, BadLengths, PathTooLong, TooManyComponents, ComponentTooLong, OutTooSmall}
use Rattle.willow.specs.Answers.{or_else, unless, limits_refusal, capacity_refusal, path_missing, lent_refusal, path_in, path_refusal, paths_refusal, on_path, on_paths, packed_outcome, written_length, written_buffer}
use Rattle.tables.specs.BufferAnswers.{InBuffer}
use Rattle.willow.specs.Construction.{admitted, lengths_in, lengths_fit, cut, from_slices, append, append_slice}
use Rattle.willow.specs.LeastPaths.{next_greater, successor}
use Rattle.willow.specs.Limits.{accepted_limits, accepted_capacity}
use Rattle.willow.specs.Lists.{any}
use Rattle.willow.specs.Numbers.{le}
use Rattle.willow.specs.Packed.{lent, pack}
use Rattle.willow.specs.Paths.{Path, path_length, common_prefix}
use Rattle.willow.specs.Refusals.{Outcome, refused, absent, value, refusal_number}
use Rattle.tables.specs.Tables.{refusal_of}
use Rattle.tables.proofs.BufferLaws.{apart, buffer_answers}
use Rattle.number.specs.Records.{laid}
use Rattle.sheet.proofs.LayoutLaws.{length_numbers}
use Rattle.reading.specs.Reading.{component_of}
use Rattle.writing.specs.Writing.{prefix_of, common_prefix_of}
use Rattle.construction.specs.Making.{under_limits, appended_of, slices_appended_of}
use Rattle.least_writing.specs.Written.{path_or}
use Rattle.least.specs.Places.{next_greater_of, successor_of}
use Rattle.kinds.specs.Kinds.{of_kinds, on_kinds}
use Rattle.area_kinds.specs.AreaKinds.{Parts, area_from}
use Rattle.range_3d_intersection.specs.Sides3d.{Counts3d, converted_after}
use Rattle.map_form.specs.Maps.{sizes_in, count_in}
use Rattle.map_form.specs.MapTest.{is_map, map_refusal}
use Rattle.map_law.specs.Insertions.{fresh_map, AreaArgument, parts_in, kinds_missing, area_refusal}
use Rattle.listing_law.specs.Listings.{listing, listed_number, listed_bytes, positions_for}
use Rattle.map_rules.specs.RulePlaces.{rule_at}
use Rattle.map_reading.specs.Rules.{rule_path}
use Rattle.store_form.specs.Stores.{state_in}
use Rattle.store_form.specs.StoreTest.{is_store, store_refusal}
use Rattle.store_law.specs.Offers.{fresh_store}
use Rattle.store_reading.specs.Held.{entry_of, entry_read, packed_of}
use Rattle.willow.specs.Entries.{Entry}
use Rattle.answer_law.specs.Buffers.{Left, BuffersLeft}

-- TESTS AND OUTCOMES that do not give 15.
abbrev Other : Option Refusal → Type 0
Other t = t ≡ some OutTooSmall → ⊥

abbrev Quiet : {A : Type 0} → Outcome A → Type 0
Quiet o = o ≡ refused OutTooSmall → ⊥

abbrev number : Option Refusal → ℕ
number none = 0
number (some r) = refusal_number r

refusal_same : {A : Type 0} (r s : Refusal) → ◌≡◌ {A = Outcome A} (refused r) (refused s) → r ≡ s
refusal_same r s e = cc

-- by its number
other_number : (t : Option Refusal) → (number t ≡ 15 → ⊥) → Other t
other_number t n e = n (ap number e)

other_none : Other none
other_none = other_number none (λ h. omega arith)

other_unless : (b : Bool) (r : Refusal) → (refusal_number r ≡ 15 → ⊥) → Other (cond b none (some r))
other_unless true r n = other_none
other_unless false r n = other_number (some r) n

other_then : (a b : Option Refusal) → Other a → Other b → Other (or_else a b)
other_then (some r) b h k = h
other_then none b h k = k

quiet_value : {A : Type 0} (x : A) → Quiet (value x)
quiet_value x e = apart (value x) (refused OutTooSmall) e (λ h. omega arith)

quiet_absent : {A : Type 0} → Quiet {A = A} absent
quiet_absent {A} e = apart absent (refused OutTooSmall) e (λ h. omega arith)

quiet_refused : {A : Type 0} (r : Refusal) → (refusal_number r ≡ 15 → ⊥) → Quiet {A = A} (refused r)
quiet_refused {A} r n e = n (ap refusal_number (refusal_same r OutTooSmall e))

quiet_cond : {A : Type 0} (b : Bool) (x y : Outcome A) → Quiet x → Quiet y → Quiet (cond b x y)
quiet_cond true x y h k = h
quiet_cond false x y h k = k

quiet_behind : {A : Type 0} (t : Option Refusal) (o : Outcome A) → Other t → Quiet o → Quiet (unless t o)
quiet_behind (some r) o h k = λ e. h (ap some (refusal_same r OutTooSmall e))
quiet_behind none o h k = k

quiet_packed : (o : Outcome Path) → Quiet o → Quiet (packed_outcome o)
quiet_packed (refused r) h = λ e. h (ap refused (refusal_same r OutTooSmall e))
quiet_packed absent h = quiet_absent
quiet_packed (value p) h = quiet_value (pack p)

quiet_found : (o : Option Path) → Quiet (path_or o)
quiet_found none = quiet_absent
quiet_found (some p) = quiet_value p

-- THE TESTS OF PATHS: 1 and 5.
limits_other : (L : Limits) → Other (limits_refusal L)
unfolding limits_refusal
limits_other L = other_unless (accepted_limits L) BadLimits (λ h. omega arith)

capacity_other : (N : ℕ) → Other (capacity_refusal N)
capacity_other N = other_unless (accepted_capacity N) BadLimits (λ h. omega arith)

missing_other : (o : Option Path) → Other (path_missing o)
missing_other none = other_number (some BadPath) (λ h. omega arith)
missing_other (some p) = other_none

lent_other : (L : Limits) (b : List ℕ) (k : ℕ) → Other (lent_refusal L b k)
unfolding lent_refusal
lent_other L b k = missing_other (lent L b k)

one_quiet : {A : Type 0} (L : Limits) (b : List ℕ) (k : ℕ) (f : Path → Outcome A) → ((p : Path) → Quiet (f p)) → Quiet (on_path L b k f)
unfolding on_path path_refusal
one_quiet L b k f h =
    quiet_behind (or_else (limits_refusal L) (lent_refusal L b k)) (f (path_in b k))
    (other_then (limits_refusal L) (lent_refusal L b k) (limits_other L) (lent_other L b k)) (h (path_in b k))

two_quiet : {A : Type 0} (L : Limits) (a : List ℕ) (j : ℕ) (b : List ℕ) (k : ℕ) (f : Path → Path → Outcome A) → ((p q : Path) → Quiet (f p q))
    → Quiet (on_paths L a j b k f)
unfolding on_paths paths_refusal
two_quiet L a j b k f h =
    quiet_behind (or_else (limits_refusal L) (or_else (lent_refusal L a j) (lent_refusal L b k))) (f (path_in a j) (path_in b k))
    (other_then (limits_refusal L) (or_else (lent_refusal L a j) (lent_refusal L b k)) (limits_other L)
    (other_then (lent_refusal L a j) (lent_refusal L b k) (lent_other L a j) (lent_other L b k)))
    (h (path_in a j) (path_in b k))

under_quiet : {A : Type 0} (L : Limits) (o : Outcome A) → Quiet o → Quiet (under_limits L o)
unfolding under_limits
under_quiet L o h = quiet_behind (limits_refusal L) o (limits_other L) h

-- MAKING: 6, 7, 8, 9.
admitted_quiet : (L : Limits) (p : Path) → Quiet (admitted L p)
unfolding admitted
admitted_quiet L p =
    quiet_cond (ltb L.mpl (path_length p)) (refused PathTooLong) _ (quiet_refused PathTooLong (λ h. omega arith))
    (quiet_cond (ltb L.mcc (length p)) (refused TooManyComponents) _ (quiet_refused TooManyComponents (λ h. omega arith))
    (quiet_cond (any (λ c. ltb L.mcl (length c)) p) (refused ComponentTooLong) (value p) (quiet_refused ComponentTooLong (λ h. omega arith)) (quiet_value p)))

lengths_quiet : {A : Type 0} → Quiet {A = A} (refused BadLengths)
lengths_quiet {A} = quiet_refused BadLengths (λ h. omega arith)

slices_quiet : (L : Limits) (lengths bytes : List ℕ) → Quiet (from_slices L lengths bytes)
unfolding from_slices
slices_quiet L lengths bytes =
    quiet_cond (lengths_fit lengths bytes) (admitted L (cut (lengths_in lengths) bytes)) (refused BadLengths) (admitted_quiet L (cut (lengths_in lengths) bytes)) lengths_quiet

appended_quiet : (L : Limits) (c : List ℕ) (p : Path) → Quiet (appended_of L c p)
unfolding append
appended_quiet L c p = admitted_quiet L _

slices_appended_quiet : (L : Limits) (lengths bytes : List ℕ) (p : Path) → Quiet (slices_appended_of L lengths bytes p)
unfolding append_slice
slices_appended_quiet L lengths bytes p = quiet_cond (lengths_fit lengths bytes) (admitted L _) (refused BadLengths) (admitted_quiet L _) lengths_quiet

-- SHEETS: 1, 2, 3, 5.
map_other : (s : List ℕ) → Other (map_refusal s)
map_other s = other_unless (is_map s) BadSheet (λ h. omega arith)

store_other : (s : List ℕ) → Other (store_refusal s)
store_other s = other_unless (is_store s) BadSheet (λ h. omega arith)

kinds_other : (o : Option Parts) → Other (kinds_missing o)
kinds_other none = other_number (some BadKind) (λ h. omega arith)
kinds_other (some a) = other_none

fresh_map_quiet : (L : Limits) (N : ℕ) → Quiet (fresh_map L N)
unfolding fresh_map
fresh_map_quiet L N =
    quiet_behind (or_else (limits_refusal L) (capacity_refusal N)) (value _)
    (other_then (limits_refusal L) (capacity_refusal N) (limits_other L) (capacity_other N)) (quiet_value _)

fresh_store_quiet : (z : _) → Quiet (fresh_store z)
unfolding fresh_store
fresh_store_quiet z =
    quiet_behind (or_else (limits_refusal z.limits) (capacity_refusal z.capacity)) (value _)
    (other_then (limits_refusal z.limits) (capacity_refusal z.capacity) (limits_other z.limits) (capacity_other z.capacity)) (quiet_value _)

rule_quiet : (s : List ℕ) (i : ℕ) → Quiet (rule_path s i)
unfolding rule_path
rule_quiet s i =
    let packed = pack (rule_at s i).area.path in
    quiet_behind (map_refusal s) (cond (ltb i (count_in s)) (value packed) absent) (map_other s)
    (quiet_cond (ltb i (count_in s)) (value packed) absent (quiet_value packed) quiet_absent)

entry_of_quiet : (es : List Entry) (i : ℕ) → Quiet (entry_of es i)
entry_of_quiet es i = quiet_cond (ltb i (length es)) (value _) absent (quiet_value _) quiet_absent

packed_of_quiet : (o : Outcome Entry) → Quiet o → Quiet (packed_of o)
packed_of_quiet (refused r) h = λ e. h (ap refused (refusal_same r OutTooSmall e))
packed_of_quiet absent h = quiet_absent
packed_of_quiet (value e) h = quiet_value (pack e.path)

entry_quiet : (s : List ℕ) (i : ℕ) → Quiet (entry_read s i)
unfolding entry_read
entry_quiet s i = quiet_behind (store_refusal s) (entry_of (state_in s).entries i) (store_other s) (entry_of_quiet (state_in s).entries i)

listing_quiet : (s : List ℕ) (x : AreaArgument) → Quiet (listing s x)
unfolding listing area_refusal
listing_quiet s x =
    let k = kinds_missing (parts_in x) in
    let l = lent_refusal (sizes_in s).limits x.buffer x.count in
    quiet_behind (or_else (map_refusal s) (or_else k l)) (value (positions_for s x (parts_in x)))
    (other_then (map_refusal s) (or_else k l) (map_other s) (other_then k l (kinds_other (parts_in x)) (lent_other (sizes_in s).limits x.buffer x.count)))
    (quiet_value (positions_for s x (parts_in x)))

-- WHAT IS LEFT.
left : (o : Outcome (List ℕ)) (out : List ℕ) → Quiet o → Left o out
left o out h = buffer_answers.left o out h

packed_left : (o : Outcome Path) (out : List ℕ) → Quiet o → Left (packed_outcome o) out
packed_left o out h = left (packed_outcome o) out (quiet_packed o h)

-- A LISTING refuses what writing its bytes refuses: both ask for 8 bytes a position.
same_refusal : (o : Outcome (List ℕ)) (out : List ℕ) → refusal_of (written_length (listed_bytes o) out) ≡ refusal_of (listed_number o out)
same_refusal (refused r) out = refl
same_refusal absent out = refl
same_refusal (value ps) out = ap (λ n. refusal_of (cond (leb n (length out)) (value n) (refused OutTooSmall))) (length_numbers ps) ∙ go (leb (8 * length ps) (length out))
  where
    go : (t : Bool) → refusal_of (cond t (value (8 * length ps)) (refused OutTooSmall)) ≡ refusal_of (cond t (value (length ps)) (refused OutTooSmall))
    go true = refl
    go false = refl

quiet_listed : (o : Outcome (List ℕ)) → Quiet o → Quiet (listed_bytes o)
quiet_listed (refused r) h = λ e. h (ap refused (refusal_same r OutTooSmall e))
quiet_listed absent h = quiet_absent
quiet_listed (value ps) h = quiet_value (laid (le 8) ps)

listing_left : (s : List ℕ) (x : AreaArgument) (out : List ℕ)
    → InBuffer (listed_bytes (listing s x)) out (refusal_of (listed_number (listing s x) out)) (written_buffer (listed_bytes (listing s x)) out)
listing_left s x out = subst (λ t. InBuffer (listed_bytes (listing s x)) out t (written_buffer (listed_bytes (listing s x)) out)) (same_refusal (listing s x) out)
    (left (listed_bytes (listing s x)) out (quiet_listed (listing s x) (listing_quiet s x)))

-- AN AREA AS A 3D RANGE refuses what writing its end refuses.
converted_refusal : (o : Outcome ℕ) (c : Counts3d) → refusal_of o ≡ refusal_of (converted_after o c)
converted_refusal (refused r) c = refl
converted_refusal absent c = refl
converted_refusal (value n) c = refl

next_quiet : (L : Limits) (p : Path) → Quiet (next_greater_of L p)
next_quiet L p = quiet_found (next_greater L p)

next_left : (L : Limits) (b : List ℕ) (k : ℕ) (out : List ℕ) → Left (packed_outcome (on_path L b k (next_greater_of L))) out
next_left L b k out = packed_left (on_path L b k (next_greater_of L)) out (one_quiet L b k (next_greater_of L) (next_quiet L))

module _ (L : Limits) (base out : List ℕ) (counts : Parts → Counts3d) where
  abbrev ends : Parts → Outcome Path
  ends a = on_path L base a.count (next_greater_of L)

  kinds_refusal : (t : Option Refusal) (x : Option Parts)
      → refusal_of (written_length (packed_outcome (unless t (of_kinds x ends))) out)
      ≡ refusal_of (unless t (of_kinds x (λ a. converted_after (written_length (packed_outcome (ends a)) out) (counts a))))
  kinds_refusal (some r) x = refl
  kinds_refusal none none = refl
  kinds_refusal none (some a) = converted_refusal (written_length (packed_outcome (ends a)) out) (counts a)

  kinds_quiet : (x : Option Parts) → Quiet (of_kinds x ends)
  kinds_quiet none = quiet_refused BadKind (λ h. omega arith)
  kinds_quiet (some a) = one_quiet L base a.count (next_greater_of L) (next_quiet L)

  exported_left : (x : Option Parts)
      → InBuffer (packed_outcome (on_kinds L x ends)) out
      (refusal_of (on_kinds L x (λ a. converted_after (written_length (packed_outcome (ends a)) out) (counts a))))
      (written_buffer (packed_outcome (on_kinds L x ends)) out)
  unfolding on_kinds
  exported_left x =
      subst (λ t. InBuffer (packed_outcome (unless (limits_refusal L) (of_kinds x ends))) out t (written_buffer (packed_outcome (unless (limits_refusal L) (of_kinds x ends))) out))
      (kinds_refusal (limits_refusal L) x)
      (packed_left (unless (limits_refusal L) (of_kinds x ends)) out (quiet_behind (limits_refusal L) (of_kinds x ends) (limits_other L) (kinds_quiet x)))

pub buffers_left : BuffersLeft
buffers_left = record {
  write_part = λ part out. left (value part) out (quiet_value part);
  write_component = λ L b k i out. left (on_path L b k (component_of i)) out
      (one_quiet L b k (component_of i) (λ p. quiet_cond (ltb i (length p)) (value _) absent (quiet_value _) quiet_absent));
  write_prefix = λ L b k n out. packed_left (on_path L b k (prefix_of n)) out
      (one_quiet L b k (prefix_of n) (λ p. quiet_cond (leb n (length p)) (value _) absent (quiet_value _) quiet_absent));
  write_longest_common_prefix = λ L a j b k out. packed_left (on_paths L a j b k common_prefix_of) out
      (two_quiet L a j b k common_prefix_of (λ p q. quiet_value (common_prefix p q)));
  from_slices_lem = λ L lengths bytes out. packed_left _ out (under_quiet L (from_slices L lengths bytes) (slices_quiet L lengths bytes));
  new_from_iter = λ L total lengths bytes out. packed_left _ out (under_quiet L _
      (quiet_cond (eqb total (length bytes)) (from_slices L lengths bytes) (refused BadLengths) (slices_quiet L lengths bytes) lengths_quiet));
  new_empty = λ L out. packed_left _ out (under_quiet L (value []) (quiet_value []));
  new_singleton = λ L c out. packed_left _ out (under_quiet L (admitted L (c ∷ [])) (admitted_quiet L (c ∷ [])));
  append = λ L b k c out. packed_left (on_path L b k (appended_of L c)) out (one_quiet L b k (appended_of L c) (appended_quiet L c));
  append_slice_lem = λ L b k lengths bytes out. packed_left (on_path L b k (slices_appended_of L lengths bytes)) out
      (one_quiet L b k (slices_appended_of L lengths bytes) (slices_appended_quiet L lengths bytes));
  greater_but_not_prefixed = next_left;
  successor = λ L b k out. packed_left (on_path L b k (successor_of L)) out (one_quiet L b k (successor_of L) (λ p. quiet_found (successor L p)));
  singleton_range_lem = λ L b k out. packed_left (on_path L b k (successor_of L)) out (one_quiet L b k (successor_of L) (λ p. quiet_found (successor L p)));
  new_max = λ L out. packed_left _ out (under_quiet L (value _) (quiet_value _));
  fresh_map_lem = λ L N out. left (fresh_map L N) out (fresh_map_quiet L N);
  write_rule_path = λ s i out. left (rule_path s i) out (rule_quiet s i);
  fresh_store_lem = λ z out. left (fresh_store z) out (fresh_store_quiet z);
  write_entry_path = λ s i out. left (packed_of (entry_read s i)) out (packed_of_quiet (entry_read s i) (entry_quiet s i));
  key_line = λ line out. left (value _) out (quiet_value _);
  intersecting = listing_left;
  from_area = λ L area base out.
      subst (λ t. InBuffer (packed_outcome (on_path L base area.count (next_greater_of L))) out t (written_buffer (packed_outcome (on_path L base area.count (next_greater_of L))) out))
      (converted_refusal (written_length (packed_outcome (on_path L base area.count (next_greater_of L))) out) _)
      (next_left L base area.count out);
  exported_from_area = λ L kind id count start end_kind end base out. exported_left L base out (λ a. _) (area_from kind id count start end_kind end);
}
