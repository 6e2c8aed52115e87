-- A path with one component more, packed out of the parts of the path: the count, the table, the new total, the bytes, and the two
-- parts of the component. Six writes one behind the other are one.
use Rattle.std.proofs.Common.{MatchOption, None, Option, Some, ◌≡◌, ◌∙◌, ℕ, ◌+◌, ◌-◌, ◌*◌, ◌≤◌, List, [], ◌∷◌, ◌++◌, length, ap, append_assoc, append-nil, arith, length-append, sym}
use Rattle.std.specs.Option.{option_to_list}
use Rattle.willow.specs.Numbers.{le}
use Rattle.willow.specs.Packed.{accumulated, joined, pack}
use Rattle.willow.specs.Paths.{Component, Path, path_length}
use Rattle.willow.proofs.NumberLaws.{le_length}
use Rattle.willow.proofs.PackedLaws.{accumulated_length, joined_length, pack_length}
use Rattle.willow.proofs.PackedPlaces.{pack_append}
use Rattle.willow.proofs.ValidLaws.{path_length_append}
use Rattle.number.specs.Overwriting.{overwrite}
use Rattle.number.proofs.OverwritingLaws.{written_on}

-- The one byte more or none, as a list.
pub listed : (o : Option ℕ) (s : List ℕ) → MatchOption o (s ≡ []) (λ x. s ≡ x ∷ []) → (s ≡ option_to_list o) × (length s ≤ 1)
listed None s e = (e, rw e (omega arith))
listed (Some x) s e = (e, rw e (omega arith))

-- THE SIZE: that of the path, a length and the component.
pub longer_size : (p : Path) (kept last : Component)
    → length (pack (p ++ ((kept ++ last) ∷ []))) ≡ length (pack p) + (8 + length kept + length last)
longer_size p kept last =
    let s = pack_length (p ++ ((kept ++ last) ∷ [])) in
    let f = pack_length p in
    let l = length-append p ((kept ++ last) ∷ []) in
    let a = path_length_append p ((kept ++ last) ∷ []) in
    let d = length-append kept last in
    omega arith

-- HOW LONG the parts are, and that they fit.
pub record Room (p : Path) (kept last : Component) (table bytes out : List ℕ) : Type 0 where
  pub of_table : length table ≡ 8 * length p
  pub of_bytes : length bytes ≡ path_length p
  pub fits : 16 + length table + length bytes + length kept + length last ≤ length out

module _ (p : Path) (kept last : Component) (table bytes : List ℕ) (et : table ≡ accumulated 0 p) (eb : bytes ≡ joined p) (out : List ℕ)
    (h : length (pack (p ++ ((kept ++ last) ∷ []))) ≤ length out) where
  pub room : Room p kept last table bytes out
  room =
      let t = ap length et ∙ accumulated_length 0 p in
      let b = ap length eb ∙ joined_length p in
      let s = longer_size p kept last in
      let f = pack_length p in
      record { of_table = t; of_bytes = b; fits = omega arith }

  abbrev total : List ℕ
  total = le 8 (length bytes + length kept + length last)

  longer_parts : (n : ℕ) → n ≡ length p + 1 → pack (p ++ ((kept ++ last) ∷ [])) ≡ le 8 n ++ table ++ total ++ bytes ++ kept ++ last
  longer_parts n e =
      let d = length-append kept last in
      let r = room in
      let s : path_length p + length (kept ++ last) ≡ length bytes + length kept + length last = omega arith in
      pack_append p ((kept ++ last) ∷ [])
      ∙ rw (← e, s, ← et, ← eb, append-nil (kept ++ last), append-nil total) (sym (simp append_assoc))

  pub longer_written : (n : ℕ) → n ≡ length p + 1 → (s1 s2 s3 s4 s5 s6 : List ℕ)
      → s1 ≡ overwrite out 0 (le 8 n) → s2 ≡ overwrite s1 8 table → s3 ≡ overwrite s2 (16 + length table - 8) total
      → s4 ≡ overwrite s3 (16 + length table) bytes → s5 ≡ overwrite s4 (16 + length table + length bytes) kept
      → s6 ≡ overwrite s5 (16 + length table + length bytes + length kept) last
      → s6 ≡ overwrite out 0 (pack (p ++ ((kept ++ last) ∷ [])))
  longer_written n e s1 s2 s3 s4 s5 s6 e1 e2 e3 e4 e5 e6 =
      let r = room in
      let l1 = le_length 8 n in
      let l2 = length-append (le 8 n) table in
      let l3 = length-append (le 8 n ++ table) total in
      let k3 = le_length 8 (length bytes + length kept + length last) in
      let l4 = length-append (le 8 n ++ table ++ total) bytes in
      let l5 = length-append (le 8 n ++ table ++ total ++ bytes) kept in
      let w2 = written_on out (le 8 n) table s1 s2 0 8 (omega arith) (omega arith) e1 e2 in
      let w3 = written_on out (le 8 n ++ table) total s2 s3 0 (16 + length table - 8) (omega arith) (omega arith) w2 e3 in
      let w4 = written_on out (le 8 n ++ table ++ total) bytes s3 s4 0 (16 + length table) (omega arith) (omega arith) w3 e4 in
      let w5 = written_on out (le 8 n ++ table ++ total ++ bytes) kept s4 s5 0 (16 + length table + length bytes) (omega arith) (omega arith) w4 e5 in
      written_on out (le 8 n ++ table ++ total ++ bytes ++ kept) last s5 s6 0 (16 + length table + length bytes + length kept) (omega arith) (omega arith) w5 e6
      ∙ ap (overwrite out 0) (sym (longer_parts n e))
