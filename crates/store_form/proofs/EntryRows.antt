-- Entries and their rows: a valid entry is read back from its row, and a row that passed its test is the row of the entry that is
-- read. What the test asks of the entries does not look at their namespace, so it may read them in any.
use Prim.Native.Nat.{ℕ, ◌+◌, ◌*◌, ◌<◌, ◌≤◌}
use mathlib.Core.Path.{◌≡◌, refl, sym, ◌∙◌, ap}
use mathlib.Core.List.{List, [], ◌∷◌, map}
use mathlib.Core.Bool.{Bool, true, false, ◌&&◌, cond}
use native.Mathlib.Omega.{arith}
use lib.ListN.{length, drop, get_or, length-append, length-drop, length-map}
use lib.Seq.{drop_at}
use Rattle.willow.specs.declared.Limits.{Limits}
use Rattle.willow.specs.Entries.{Entry, ValidEntry, is_newer, compare_places}
use Rattle.willow.specs.Limits.{max_word, Words}
use Rattle.willow.specs.Lists.{All}
use Rattle.willow.specs.Numbers.{Bytes, le, number_at}
use Rattle.willow.specs.Orders.{is_less}
use Rattle.willow.specs.Store.{Sizes, payloads}
use Rattle.willow.proofs.NumberLaws.{number_word, bytes_drop}
use Rattle.number.specs.Records.{laid, Sized}
use Rattle.number.proofs.RecordLaws.{number_laid, numbers_laid}
use Rattle.sheet.specs.Cells.{cell_size_of, path_cell, cell_path, cell_fits}
use Rattle.sheet.specs.Rows.{Row, head, cell, Fitting}
use Rattle.sheet.proofs.CellProofs.{path_cell_length, cell_room, cell_tested, cell_valid, cell_whole, path_cell_path, path_cell_fits}
use Rattle.sheet.proofs.LayoutLaws.{length_numbers}
use Rattle.store_form.specs.Apart.{ascends, covers, covering, nearest_older, clear_from}
use Rattle.store_form.specs.Stores.{store_head_size, store_shape, entry_head, entry_row, entry_in}

-- THE HEAD of an entry.
module _ (L : Limits) (e : Entry) (v : ValidEntry L e) where
  abbrev numbers : List ℕ
  numbers = e.subspace ∷ e.timestamp ∷ e.payload_length ∷ []

  head_number : (i : ℕ) → i < 3 → number_at (entry_head e) (0 + 8 * i) ≡ get_or numbers i 0
  unfolding entry_head
  head_number i h = number_laid [] e.digest 0 numbers i refl (v.subspace_word, (v.timestamp_word, (v.payload_word, tt))) h

  head_digest : drop 24 (entry_head e) ≡ e.digest
  unfolding entry_head
  head_digest = drop_at (laid (le 8) numbers) e.digest 24 (length_numbers numbers)

  pub head_length : length (entry_head e) ≡ store_head_size
  unfolding entry_head
  head_length =
      let l = length-append (laid (le 8) numbers) e.digest in
      let k = length_numbers numbers in
      let d = v.digest_size in
      omega arith

  -- ITS ROW, of which it is read back.
  module _ (w : Words L) where
    pub row_cell_fits : cell_fits L (cell (entry_row L e)) ≡ true
    unfolding entry_row
    row_cell_fits =
        (cell_tested L (path_cell (cell_size_of L) e.path)).1
        (path_cell_fits L (cell_size_of L) e.path w v.path_valid (cell_room L e.path v.path_valid))

    pub entry_back : (n : ℕ) → e.namespace ≡ n → entry_in n (entry_row L e) ≡ e
    unfolding entry_in entry_row
    entry_back n h =
        let s = head_number 0 (omega arith) in
        let t = head_number 1 (omega arith) in
        let p = head_number 2 (omega arith) in
        let c = path_cell_path L (cell_size_of L) e.path w v.path_valid in
        let d = head_digest in
        λ i. record { namespace = sym h i; subspace = s i; path = c i; timestamp = t i; payload_length = p i; digest = d i }

-- The rows of valid entries fit a store of these limits.
pub rows_fit_lem : (z : Sizes) (es : List Entry) → All (ValidEntry z.limits) es → Fitting (store_shape z) (length es) (map (entry_row z.limits) es)
rows_fit_lem z es v = record { heads = heads es v; cells = cells es v; count = length-map es (entry_row z.limits) }
  where
    heads : (es : List Entry) → All (ValidEntry z.limits) es → Sized head store_head_size (map (entry_row z.limits) es)
    heads [] v = tt
    heads (e ∷ es) v = (unfold entry_row in head_length z.limits e v.0, heads es v.1)

    cells : (es : List Entry) → All (ValidEntry z.limits) es → Sized cell (cell_size_of z.limits) (map (entry_row z.limits) es)
    cells [] v = tt
    cells (e ∷ es) v = (
      unfold entry_row in path_cell_length (cell_size_of z.limits) e.path (cell_room z.limits e.path v.0.path_valid),
      cells es v.1,
    )

-- Entries of one namespace are read back from their rows.
pub entries_back : (L : Limits) (n : ℕ) (es : List Entry) → Words L → All (ValidEntry L) es → All (λ e. e.namespace ≡ n) es
    → map (entry_in n) (map (entry_row L) es) ≡ es
entries_back L n [] w v h = refl
entries_back L n (e ∷ es) w v h =
    let p = entry_back L e v.0 w n h.0 in
    let q = entries_back L n es w v.1 h.1 in
    λ i. p i ∷ q i

-- A ROW THAT PASSED: bytes of the right lengths, and a cell that fits.
pub record Passed (L : Limits) (r : Row) : Type 0 where
  pub head_bytes : Bytes (head r)
  pub cell_bytes : Bytes (cell r)
  pub head_size_lem : length (head r) ≡ store_head_size
  pub cell_size_lem : length (cell r) ≡ cell_size_of L
  pub fits : cell_fits L (cell r) ≡ true

module _ (L : Limits) (n : ℕ) (r : Row) (p : Passed L r) where
  pub entry_valid : n ≤ max_word → ValidEntry L (entry_in n r)
  unfolding entry_in
  entry_valid h = record {
    namespace_word = h;
    subspace_word = number_word (head r) 0 p.head_bytes;
    path_valid = cell_valid L (cell r) ((cell_tested L (cell r)).0 p.fits) p.cell_bytes;
    timestamp_word = number_word (head r) 8 p.head_bytes;
    payload_word = number_word (head r) 16 p.head_bytes;
    digest_size = let l = length-drop 24 (head r) in let k = p.head_size_lem in omega arith;
    digest_bytes = bytes_drop 24 (head r) p.head_bytes;
  }

  pub row_back : entry_row L (entry_in n r) ≡ r
  unfolding entry_row entry_head entry_in
  row_back =
      let k = p.head_size_lem in
      let h = numbers_laid (head r) 0 3 p.head_bytes (omega arith) in
      let c = cell_whole L (cell r) ((cell_tested L (cell r)).0 p.fits) p.cell_bytes in
      let s = ap (λ m. path_cell m (cell_path (cell r))) p.cell_size_lem in
      λ i. (sym h i, (sym s ∙ sym c) i)

pub rows_back : (L : Limits) (n : ℕ) (rs : List Row) → All (Passed L) rs → map (entry_row L) (map (entry_in n) rs) ≡ rs
rows_back L n [] p = refl
rows_back L n (r ∷ rs) p =
    let h = row_back L n r p.0 in
    let k = rows_back L n rs p.1 in
    λ i. h i ∷ k i

-- ENTRIES IN ANOTHER NAMESPACE: the tests of a store's entries do not look at it.
abbrev pub named : ℕ → Entry → Entry
named n e = record {
  namespace = n;
  subspace = e.subspace;
  path = e.path;
  timestamp = e.timestamp;
  payload_length = e.payload_length;
  digest = e.digest;
}

module _ (n : ℕ) where
  pub named_rows_lem : (m : ℕ) (rs : List Row) → map (named n) (map (entry_in m) rs) ≡ map (entry_in n) rs
  unfolding entry_in
  named_rows_lem m [] = refl
  named_rows_lem m (r ∷ rs) = ap (λ es. entry_in n r ∷ es) (named_rows_lem m rs)

  pub named_payloads : (es : List Entry) → payloads (map (named n) es) ≡ payloads es
  named_payloads [] = refl
  named_payloads (e ∷ es) = let h = named_payloads es in omega arith

  pub named_ascends : (es : List Entry) → ascends (map (named n) es) ≡ ascends es
  named_ascends [] = refl
  named_ascends (x ∷ []) = refl
  named_ascends (x ∷ (y ∷ ys)) = ap (λ b. is_less (compare_places x y) && b) (named_ascends (y ∷ ys))

  named_covering : (e : Entry) (os : List Entry) → covering (named n e) (map (named n) os) ≡ map (named n) (covering e os)
  named_covering e [] = refl
  named_covering e (o ∷ os) = go (covers o e) (named_covering e os)
    where
      go : (b : Bool) → covering (named n e) (map (named n) os) ≡ map (named n) (covering e os)
          → cond b (named n o ∷ map (named n) os) (covering (named n e) (map (named n) os)) ≡ map (named n) (cond b (o ∷ os) (covering e os))
      go true ih = refl
      go false ih = ih

  named_older : (e : Entry) (os : List Entry) → nearest_older (named n e) (map (named n) os) ≡ nearest_older e os
  unfolding is_newer
  named_older e [] = refl
  named_older e (o ∷ os) = refl

  pub named_clear : (os es : List Entry) → clear_from (map (named n) os) (map (named n) es) ≡ clear_from os es
  named_clear os [] = refl
  named_clear os (e ∷ es) =
      rw (named_covering e os, named_older e (covering e os)) (ap (λ b. nearest_older e (covering e os) && b) (named_clear (e ∷ covering e os) es))
