-- The packed form of a path with slices behind it is written by five writes, each from where the one before it ended: the
-- count, the path's own lengths, the slices' lengths, the path's own bytes, the slices' bytes.
use Prim.Native.Nat.{ℕ, ◌+◌, ◌-◌, ◌*◌, ◌/◌, ◌%◌, ◌≤◌}
use mathlib.Core.Path.{◌≡◌, refl, sym, ◌∙◌, ap}
use mathlib.Core.List.{List, [], ◌∷◌, ◌++◌, append_assoc, map}
use native.Mathlib.Omega.{arith}
use lib.ListN.{length, take, drop, length-append}
use lib.Seq.{take-append-le}
use Rattle.willow.specs.Answers.{path_in}
use Rattle.willow.specs.Construction.{lengths_in, cut, total}
use Rattle.willow.specs.Limits.{max_mcc, max_mpl}
use Rattle.willow.specs.Numbers.{Bytes, le}
use Rattle.willow.specs.Packed.{accumulated, joined, pack, packed_count, unpack, widest}
use Rattle.willow.specs.Paths.{Path, path_length}
use Rattle.willow.proofs.ConstructionLaws.{slices_count, slices_length, total_lengths}
use Rattle.willow.proofs.NumberLaws.{le_length}
use Rattle.willow.proofs.PackedLaws.{accumulated_length, joined_length, pack_length, pack_table, pack_joined, pack_unpack, unpack_count}
use Rattle.willow.proofs.PackedPlaces.{accumulated_take, joined_take, pack_append}
use Rattle.number.specs.Overwriting.{overwrite}
use Rattle.number.proofs.OverwritingLaws.{written_on}
use Rattle.packed.specs.Readable.{Readable}
use Rattle.extension.specs.Extending.{accumulated_by, Extendable}
use Rattle.extension.proofs.AdmissionLaws.{cut_slices, whole}

-- WHAT IS KNOWN of a path with slices behind it: how its lengths add up, and how long its packed form is.
pub record Extent (p : Path) (lengths bytes : List ℕ) : Type 0 where
  pub whole_numbers : length lengths % 8 ≡ 0
  pub sum : total (lengths_in lengths) ≡ length bytes
  pub few : length p + length lengths / 8 ≤ max_mcc
  pub short : path_length p + length bytes ≤ max_mpl
  pub own : length (pack p) ≡ 8 + 8 * length p + path_length p
  pub size : length (pack (p ++ cut (lengths_in lengths) bytes)) ≡ 8 + 8 * length p + length lengths + path_length p + length bytes

pub extent : (p : Path) (lengths bytes : List ℕ) → Extendable p lengths bytes → Extent p lengths bytes
extent p lengths bytes x =
    let q : Path = cut (lengths_in lengths) bytes in
    let s = cut_slices lengths bytes x.fit in
    let w = whole p lengths bytes x.fit in
    let packed = pack_length (p ++ q) in
    let n = s.numbers_whole in
    record {
      whole_numbers = s.numbers_whole;
      sum = ap total (sym s.sizes) ∙ total_lengths q ∙ slices_length lengths bytes q s;
      few = x.few;
      short = x.short;
      own = pack_length p;
      size = omega arith;
    }

-- THE PATH'S OWN PARTS, out of its buffer. m is the count in the buffer, len the path's own bytes.
module _ (b : List ℕ) (k : ℕ) (r : Readable b k) (bs : Bytes b) where
  pub table_part_lem : take (8 + 8 * k - 8) (drop 8 b) ≡ accumulated 0 (path_in b k)
  unfolding path_in
  table_part_lem =
      let u : Path = unpack b in
      let n = unpack_count b in
      let w = r.within in
      let l = accumulated_length 0 u in
      let z : 8 + 8 * k - 8 ≡ 8 * k = omega arith in
      rw z (ap (λ s. take (8 * k) (drop 8 s)) (sym (pack_unpack widest b r.packed bs))
      ∙ ap (take (8 * k)) (pack_table u)
      ∙ take-append-le (8 * k) (accumulated 0 u) (joined u) (omega arith)
      ∙ accumulated_take 0 k u (omega arith))

  pub bytes_part_lem : (m len : ℕ) → m ≡ packed_count b → len ≡ path_length (path_in b k)
      → take (8 + 8 * m + len - (8 + 8 * m)) (drop (8 + 8 * m) b) ≡ joined (path_in b k)
  unfolding path_in
  bytes_part_lem m len em el =
      let z : 8 + 8 * m + len - (8 + 8 * m) ≡ len = omega arith in
      let u : Path = unpack b in
      let from : drop (8 + 8 * packed_count b) b ≡ joined u =
      ap (λ n. drop (8 + 8 * n) b) (sym (unpack_count b)) ∙ ap (drop (8 + 8 * length u)) (sym (pack_unpack widest b r.packed bs)) ∙ pack_joined u in
      rw (z, em, el) (ap (take (path_length (take k u))) from ∙ joined_take k u)

-- the lengths of components are accumulated as their lengths are
accumulated_by_lem : (before : ℕ) (p : Path) → accumulated before p ≡ accumulated_by before (map length p)
accumulated_by_lem before [] = refl
accumulated_by_lem before (c ∷ cs) = ap (λ s. le 8 (before + length c) ++ s) (accumulated_by_lem (before + length c) cs)

-- How long they are.
pub record Own (p : Path) (table own : List ℕ) : Type 0 where
  pub of_table : length table ≡ 8 * length p
  pub of_own : length own ≡ path_length p

pub own_parts : (p : Path) (table own : List ℕ) → table ≡ accumulated 0 p → own ≡ joined p → Own p table own
own_parts p table own et eo = record { of_table = ap length et ∙ accumulated_length 0 p; of_own = ap length eo ∙ joined_length p }

-- THE FIVE WRITES of a path whose own parts are `table` and `own`.
module _ (p : Path) (lengths bytes : List ℕ) (x : Extendable p lengths bytes) (table own : List ℕ) (et : table ≡ accumulated 0 p) (eo : own ≡ joined p) where
  abbrev counted : List ℕ
  counted = le 8 (length p + length lengths / 8)

  abbrev new_table : List ℕ
  new_table = accumulated_by (length own) (lengths_in lengths)

  new_table_lem : new_table ≡ accumulated (path_length p) (cut (lengths_in lengths) bytes)
  new_table_lem =
      rw (own_parts p table own et eo).of_own (ap (accumulated_by (path_length p)) (sym (cut_slices lengths bytes x.fit).sizes)
      ∙ sym (accumulated_by_lem (path_length p) (cut (lengths_in lengths) bytes)))

  extended_parts : pack (p ++ cut (lengths_in lengths) bytes) ≡ counted ++ (table ++ (new_table ++ (own ++ bytes)))
  extended_parts =
      let q : Path = cut (lengths_in lengths) bytes in
      let s = cut_slices lengths bytes x.fit in
      pack_append p q ∙ rw (slices_count lengths bytes q s, ← et, ← new_table_lem, ← eo, s.content)

  -- how long the parts are
  record Sizes : Type 0 where
    of_count : length counted ≡ 8
    of_new_table : length new_table ≡ length lengths

  sizes : Sizes
  sizes =
      let q : Path = cut (lengths_in lengths) bytes in
      let s = cut_slices lengths bytes x.fit in
      let u = accumulated_length (path_length p) q in
      let v = slices_count lengths bytes q s in
      let n = s.numbers_whole in
      let eight : 8 * length q ≡ length lengths = omega arith in
      record {
        of_count = le_length 8 _;
        of_new_table = ap length new_table_lem ∙ u ∙ eight;
      }

  pub extended_written : (out first second third fourth last : List ℕ) → length (pack (p ++ cut (lengths_in lengths) bytes)) ≤ length out
      → first ≡ overwrite out 0 counted
      → second ≡ overwrite first 8 table
      → third ≡ overwrite second (8 + length table) new_table
      → fourth ≡ overwrite third (8 + length table + length lengths) own
      → last ≡ overwrite fourth (8 + length table + length lengths + length own) bytes
      → last ≡ overwrite out 0 (pack (p ++ cut (lengths_in lengths) bytes))
  extended_written out first second third fourth last h w₁ w₂ w₃ w₄ w₅ =
      let t = (extent p lengths bytes x).size in
      let s = sizes in
      let o = own_parts p table own et eo in
      let l₂ = length-append counted table in
      let l₃ = length-append (counted ++ table) new_table in
      let l₄ = length-append (counted ++ table ++ new_table) own in
      let v₂ = written_on out counted table first second 0 8 (omega arith) (omega arith) w₁ w₂ in
      let v₃ = written_on out (counted ++ table) new_table second third 0 (8 + length table) (omega arith) (omega arith) v₂ w₃ in
      let v₄ = written_on out (counted ++ table ++ new_table) own third fourth 0 (8 + length table + length lengths) (omega arith) (omega arith) v₃ w₄ in
      let v₅ = written_on out (counted ++ table ++ new_table ++ own) bytes fourth last 0 (8 + length table + length lengths + length own) (omega arith) (omega arith) v₄ w₅ in
      v₅ ∙ ap (overwrite out 0) (sym (extended_parts ∙ simp append_assoc))
