-- The first k components of a packed path: how many bytes they have, that these lie inside the buffer, and that their packed
-- form is written by three writes, each from where the one before it ended.
use Rattle.std.proofs.Common.{◌≡◌, ℕ, zero, suc, ◌+◌, ◌-◌, ◌*◌, ◌<◌, ◌≤◌, List, [], ◌++◌, length, get_or, take, drop, sym, refl, ap, ◌∙◌, append_assoc, arith, length-append, length-drop, length-take, length-take-le, get_or-take}
use lib.Seq.{take-take}
use Rattle.willow.specs.Answers.{path_in}
use Rattle.willow.specs.Numbers.{Bytes, le, number_at}
use Rattle.willow.specs.Packed.{pack, packed_count, length_before, unpack, widest}
use Rattle.willow.specs.Paths.{path_length}
use Rattle.willow.proofs.NumberLaws.{le_length}
use Rattle.willow.proofs.PackedLaws.{unpack_count, well_formed_length}
use Rattle.willow.proofs.PackedPlaces.{prefix_length, prefix_packed}
use Rattle.willow.proofs.ValidLaws.{path_length_take}
use Rattle.number.specs.Overwriting.{overwrite}
use Rattle.number.proofs.OverwritingLaws.{written_on}
use Rattle.packed.specs.Readable.{Readable}

-- Before any component but the first, a number of the table, which begins at 8.
pub length_before_more : (b : List ℕ) (i : ℕ) → (i ≡ 0 → ⊥) → length_before b i ≡ number_at b (8 * i)
length_before_more b zero n = absurd (n refl)
length_before_more b (suc i) n = ap (number_at b) (omega arith)

-- WHAT IS KNOWN of the first k components in a buffer: the table has them, and their bytes lie inside.
pub record Front (b : List ℕ) (k : ℕ) : Type 0 where
  pub within : k ≤ packed_count b
  pub count : length (path_in b k) ≡ k
  pub bytes : path_length (path_in b k) ≡ length_before b k
  pub inside : 8 + 8 * packed_count b + length_before b k ≤ length b

pub front : (b : List ℕ) (k : ℕ) → Readable b k → Front b k
unfolding path_in
front b k r =
    let u = unpack_count b in
    let l = well_formed_length widest b r.packed in
    let n = prefix_length widest b r.packed k r.within in
    let m = path_length_take k (unpack b) in
    record { within = r.within; count = length-take-le k (unpack b) (omega arith); bytes = n; inside = omega arith }

-- component i of the whole is that of the first k
pub front_component : (b : List ℕ) (k i : ℕ) → i < k → get_or (path_in b k) i [] ≡ get_or (unpack b) i []
unfolding path_in
front_component b k i h = get_or-take k (unpack b) i [] h

-- the first n of the first k components
pub prefix_in : (b : List ℕ) (k n : ℕ) → n ≤ k → take n (path_in b k) ≡ path_in b n
unfolding path_in
prefix_in b k n h = take-take n k (unpack b) h

-- PUTTING A PREFIX: the count, the front of the table and the front of the bytes, as the code cuts them out, make its packed
-- form. m is the count in the buffer and e the length before component n.
module _ (b : List ℕ) (n m e : ℕ) (r : Readable b n) (bs : Bytes b) (em : m ≡ packed_count b) (ee : e ≡ length_before b n) where
  abbrev table_part : List ℕ
  table_part = take (8 + 8 * n - 8) (drop 8 b)

  abbrev bytes_part : List ℕ
  bytes_part = take (8 + 8 * m + e - (8 + 8 * m)) (drop (8 + 8 * m) b)

  prefix_parts : pack (path_in b n) ≡ le 8 n ++ (table_part ++ bytes_part)
  unfolding path_in
  prefix_parts =
      let t : 8 + 8 * n - 8 ≡ 8 * n = omega arith in
      let w : 8 + 8 * m + e - (8 + 8 * m) ≡ e = omega arith in
      rw (t, w, em, ee) (prefix_packed widest b n r.packed bs r.within)

  pub prefix_written : (out counted tabled filled : List ℕ) → 8 + 8 * n + path_length (path_in b n) ≤ length out
      → counted ≡ overwrite out 0 (le 8 n)
      → tabled ≡ overwrite counted 8 table_part
      → filled ≡ overwrite tabled (8 + 8 * n) bytes_part
      → filled ≡ overwrite out 0 (pack (path_in b n))
  prefix_written out counted tabled filled h x y z =
      let f = front b n r in
      let k : 0 + length (le 8 n) ≡ 8 = omega (arith, le_length 8 n) in
      let l : 0 + length (le 8 n ++ table_part) ≡ 8 + 8 * n = simp (length-append, le_length, length-take, length-drop) (omega arith) in
      let tables = written_on out (le 8 n) table_part counted tabled 0 8 k (omega arith) x y in
      written_on out (le 8 n ++ table_part) bytes_part tabled filled 0 (8 + 8 * n) l (omega arith) tables z
      ∙ ap (overwrite out 0) (append_assoc (le 8 n) table_part bytes_part ∙ sym prefix_parts)
