-- What the writes leave. A start and a prefix are written part behind part, over the front of the buffer; a component is written
-- at two places of a front that stands there, its length over the first of the zeros and its bytes behind the last ones.
use Prim.Native.Nat.{ℕ, ◌+◌, ◌-◌, ◌*◌, ◌≤◌, ◌<◌}
use mathlib.Core.Path.{◌≡◌, sym, ◌∙◌, ap}
use mathlib.Core.List.{List, [], ◌∷◌, ◌++◌, append_assoc, append-nil}
use native.Mathlib.Omega.{arith}
use lib.ListN.{length, take, drop, length-append, length-take, length-drop, take-append-drop}
use lib.Seq.{drop-drop}
use Rattle.number.specs.Overwriting.{overwrite, zeros}
use Rattle.number.proofs.OverwritingLaws.{overwrite_seam, overwrite_at_front, written_on, length_zeros, take_zeros, drop_zeros}
use Rattle.willow.specs.Numbers.{Bytes, le}
use Rattle.willow.specs.Packed.{accumulated, joined, length_before}
use Rattle.willow.specs.Paths.{Component, Path, path_length}
use Rattle.willow.proofs.NumberLaws.{le_length}
use Rattle.willow.proofs.PackedLaws.{accumulated_length, joined_length}
use Rattle.willow.proofs.PackedPlaces.{accumulated_append, joined_append}
use Rattle.builder_parts.specs.Buffer.{size_of, partial, components_in, Next}
use Rattle.builder_parts.proofs.BufferLaws.{partial_length, rest, front_whole, known, agrees_begins}

-- A START: the count, and zeros for the lengths to come.
pub start_written : (count : ℕ) (out first last : List ℕ) → 8 + 8 * count ≤ length out → first ≡ overwrite out 0 (le 8 count)
    → last ≡ overwrite first 8 (zeros (8 * count)) → last ≡ overwrite out 0 (partial count [])
unfolding partial
start_written count out first last h x y =
    let z : count - 0 ≡ count = omega arith in
    let l = le_length 8 count in
    written_on out (le 8 count) (zeros (8 * count)) first last 0 8 (omega arith) (omega arith) x y
    ∙ rw (z, append-nil (zeros (8 * count)))

-- A PREFIX: the count, its table, zeros for the lengths to come, and its bytes.
module _ (count : ℕ) (p : Path) (table bytes : List ℕ) (et : table ≡ accumulated 0 p) (eb : bytes ≡ joined p) (few : length p ≤ count) where
  pub table_size : length table ≡ 8 * length p
  table_size = ap length et ∙ accumulated_length 0 p

  pub bytes_size : length bytes ≡ path_length p
  bytes_size = ap length eb ∙ joined_length p

  abbrev blank : List ℕ
  blank = zeros (8 + 8 * count - (8 + length table))

  prefix_partial : partial count p ≡ le 8 count ++ (table ++ (blank ++ bytes))
  unfolding partial
  prefix_partial =
      let t = table_size in
      let z : 8 + 8 * count - (8 + length table) ≡ 8 * (count - length p) = omega arith in
      rw (z, et, eb)

  pub prefix_written : (out first second third last : List ℕ) → 8 + 8 * count + path_length p ≤ length out
      → first ≡ overwrite out 0 (le 8 count)
      → second ≡ overwrite first 8 table
      → third ≡ overwrite second (8 + length table) blank
      → last ≡ overwrite third (8 + 8 * count) bytes
      → last ≡ overwrite out 0 (partial count p)
  prefix_written out first second third last k w₁ w₂ w₃ w₄ =
      let l₁ = le_length 8 count in
      let l₂ = length-append (le 8 count) table in
      let l₃ = length-append (le 8 count ++ table) blank in
      let t = table_size in
      let b = bytes_size in
      let z = length_zeros (8 + 8 * count - (8 + length table)) in
      let v₂ = written_on out (le 8 count) table first second 0 8 (omega arith) (omega arith) w₁ w₂ in
      let v₃ = written_on out (le 8 count ++ table) blank second third 0 (8 + length table) (omega arith) (omega arith) v₂ w₃ in
      let v₄ = written_on out (le 8 count ++ table ++ blank) bytes third last 0 (8 + 8 * count) (omega arith) (omega arith) v₃ w₄ in
      v₄ ∙ ap (overwrite out 0) (sym (prefix_partial ∙ simp append_assoc))

-- THE NEXT COMPONENT. What is known of the buffer that it is written into:
pub record NextKnown (count appended : ℕ) (c out : List ℕ) : Type 0 where
  pub more : appended < count
  pub inside : 8 + 8 * count + length_before out appended + length c ≤ length out

pub next_known : (count appended : ℕ) (c out : List ℕ) → Next count appended c out → NextKnown count appended c out
unfolding size_of
next_known count appended c out x =
    let k = known x.mcl x.most count appended out x.agreed x.room in
    record { more = x.more; inside = omega arith }

-- with it, the first of the zeros is its length, and its bytes are the last ones
next_partial : (count : ℕ) (q : Path) (c : Component) → length q < count
    → partial count (q ++ (c ∷ []))
    ≡ le 8 count ++ (accumulated 0 q ++ (le 8 (path_length q + length c) ++ (zeros (8 * (count - length q) - 8) ++ (joined q ++ c))))
unfolding partial
next_partial count q c h =
    let z : 0 + path_length q ≡ path_length q = omega arith in
    let w : 8 * (count - (length q + 1)) ≡ 8 * (count - length q) - 8 = omega arith in
    rw (accumulated_append 0 q (c ∷ []), joined_append q (c ∷ []), length-append q (c ∷ []), z, append-nil c, append-nil (le 8 (path_length q + length c)), w)
    (simp append_assoc)

zeros_first : (n : ℕ) → 8 ≤ n → zeros n ≡ zeros 8 ++ zeros (n - 8)
zeros_first n h = sym (take-append-drop 8 (zeros n)) ∙ rw (take_zeros 8 n h, drop_zeros 8 n h)

module _ (count : ℕ) (out : List ℕ) (q : Path) (c : Component) (few : length q < count) (begins : take (length (partial count q)) out ≡ partial count q) where
  abbrev head : List ℕ
  head = le 8 count ++ accumulated 0 q

  abbrev left : List ℕ
  left = zeros (8 * (count - length q) - 8)

  abbrev behind : List ℕ
  behind = rest count out q (omega arith) begins

  abbrev size : List ℕ
  size = le 8 (path_length q + length c)

  -- the buffer, cut where the two writes begin and end
  cut_there : out ≡ head ++ (zeros 8 ++ (left ++ (joined q ++ (take (length c) behind ++ drop (length c) behind))))
  cut_there =
      front_whole count out q (omega arith) begins
      ∙ rw (zeros_first (8 * (count - length q)) (omega arith), take-append-drop (length c) behind) (simp append_assoc)

  head_size_lem : length head ≡ 8 + 8 * length q
  head_size_lem = simp (length-append, le_length, accumulated_length) (omega arith)

  last_size : length (head ++ (size ++ (left ++ joined q))) ≡ 8 + 8 * count + path_length q
  last_size = simp (length-append, le_length, accumulated_length, length_zeros, joined_length) (omega arith)

  component_written : (first last : List ℕ) → 8 + 8 * count + path_length q + length c ≤ length out → first ≡ overwrite out (8 + 8 * length q) size
      → last ≡ overwrite first (8 + 8 * count + path_length q) c → last ≡ overwrite out 0 (partial count (q ++ (c ∷ [])))
  unfolding size_of
  component_written first last room x y =
      let l = partial_length count q (omega arith) in
      let m : length (partial count (q ++ (c ∷ []))) ≡ length (partial count q) + length c =
      ap length (next_partial count q c few) ∙ simp (length-append, le_length, accumulated_length, length_zeros, joined_length) (omega arith) in
      let w : length (take (length c) behind) ≡ length c = simp (length-take, length-drop) (omega arith) in
      let tail : List ℕ = drop (length c) behind in
      let there = ap (λ s. overwrite s (8 + 8 * length q) size) cut_there in
      let length_put : first ≡ head ++ (size ++ (left ++ (joined q ++ (take (length c) behind ++ tail)))) =
      x ∙ there ∙ overwrite_seam head (zeros 8) (left ++ (joined q ++ (take (length c) behind ++ tail))) size (8 + 8 * length q) head_size_lem (sym (le_length 8 (path_length q + length c))) in
      let regrouped : first ≡ (head ++ (size ++ (left ++ joined q))) ++ (take (length c) behind ++ tail) = length_put ∙ simp append_assoc in
      y
      ∙ ap (λ s. overwrite s (8 + 8 * count + path_length q) c) regrouped
      ∙ overwrite_seam (head ++ (size ++ (left ++ joined q))) (take (length c) behind) tail c (8 + 8 * count + path_length q) last_size w
      ∙ sym (overwrite_at_front out (partial count (q ++ (c ∷ []))) ∙ rw (m, ← drop-drop (length c) (length (partial count q)) out, next_partial count q c few) (simp append_assoc))

pub next_written : (count appended : ℕ) (c out : List ℕ) → Next count appended c out → Bytes out → (len : ℕ) → len ≡ length_before out appended → (first last : List ℕ)
    → first ≡ overwrite out (8 + 8 * appended) (le 8 (len + length c))
    → last ≡ overwrite first (8 + 8 * count + len) c
    → last ≡ overwrite out 0 (partial count (components_in count appended out ++ (c ∷ [])))
next_written count appended c out x bs len e first last w₁ w₂ =
    let q : Path = components_in count appended out in
    let k = known x.mcl x.most count appended out x.agreed x.room in
    let n = next_known count appended c out x in
    let l : len ≡ path_length q = e ∙ sym k.last in
    let f : 8 + 8 * appended ≡ 8 + 8 * length q = omega (arith, k.as_many) in
    component_written count out q c (omega (arith, k.as_many)) (agrees_begins x.mcl x.most count appended out x.agreed x.room bs) first last
    (omega arith) (rw (f, l) at w₁) (rw l at w₂)
