-- An offer's row written: its head is three numbers and a digest, one behind the other; and a head and a cell written where the rows
-- from a place on were moved up from are a row put in.
use Prim.Native.Nat.{ℕ, ◌+◌, ◌-◌, ◌*◌, ◌≤◌, ◌<◌}
use mathlib.Core.Path.{◌≡◌, sym, ◌∙◌, ap}
use mathlib.Core.List.{List, [], ◌∷◌, ◌++◌, append_assoc, append-nil}
use native.Mathlib.Omega.{arith}
use lib.ListN.{length, take, drop, length-append}
use borrow.Rule.Slice.PartMut.{mid_of, put_mid, same_len_mid}
use Rattle.willow.specs.Numbers.{le}
use Rattle.willow.proofs.NumberLaws.{le_length}
use Rattle.number.specs.Overwriting.{overwrite}
use Rattle.number.proofs.OverwritingLaws.{length_part, overwrite_all, put_mid_lem, written_on}
use Rattle.number.proofs.RecordLaws.{mul_room}
use Rattle.entry.specs.declared.Head.{Head}
use Rattle.entry.specs.Heads.{entry_at}
use Rattle.sheet.specs.Rows.{Shape, Row, Room, Fitting, cells_from, rows_of, with_rows}
use Rattle.sheet.proofs.RowLaws.{fitting_part, fitting_overwrite, fitting_rows, rows_with, with_with, room_with, over_row}
use Rattle.store_form.specs.Stores.{entry_head}
use Rattle.store_closing.specs.Filing.{put_at}
use Rattle.store_closing.proofs.ClosingLaws.{put_in}

-- a head in its 56 bytes
pub head_written : (out a b c d : List ℕ) (h : Head) → length out ≡ 56 → length h.digest ≡ 32
    → a ≡ overwrite out 0 (le 8 h.subspace) → b ≡ overwrite a 8 (le 8 h.timestamp) → c ≡ overwrite b 16 (le 8 h.payload_length)
    → d ≡ overwrite c 24 h.digest → d ≡ entry_head (entry_at 0 h [])
unfolding entry_head
head_written out a b c d h lo ld ea eb ec ed =
    let x : List ℕ = le 8 h.subspace in
    let y : List ℕ = le 8 h.timestamp in
    let w : List ℕ = le 8 h.payload_length in
    let lx : length x ≡ 8 = le_length 8 h.subspace in
    let ly : length y ≡ 8 = le_length 8 h.timestamp in
    let lw : length w ≡ 8 = le_length 8 h.payload_length in
    let lxy = length-append x y in
    let lxyw = length-append (x ++ y) w in
    let all = length-append ((x ++ y) ++ w) h.digest in
    let two = written_on out x y a b 0 8 (omega arith) (omega arith) ea eb in
    let three = written_on out (x ++ y) w b c 0 16 (omega arith) (omega arith) two ec in
    let four = written_on out ((x ++ y) ++ w) h.digest c d 0 24 (omega arith) (omega arith) three ed in
    four ∙ overwrite_all out (((x ++ y) ++ w) ++ h.digest) (omega arith) ∙ simp (append_assoc, append-nil)

-- rows moved, in a shape that is another by an equation
pub raised_in : (z y : Shape) (s t : List ℕ) (i k m : ℕ) → z ≡ y → t ≡ with_rows z s (overwrite (rows_of z s) k (take m (drop i (rows_of z s))))
    → t ≡ with_rows y s (overwrite (rows_of y s) k (take m (drop i (rows_of y s))))
raised_in z y s t i k m e h = h ∙ ap (λ x. with_rows x s (overwrite (rows_of x s) k (take m (drop i (rows_of x s))))) e

-- a row put in at i, among n that are in use
module _ (z : Shape) (n i : ℕ) (s : List ℕ) (r : Room z s) (few : n < z.capacity) (at : i ≤ n) where
  abbrev raised : List Row
  raised = overwrite (rows_of z s) (i + 1) (take (n - i) (drop i (rows_of z s)))

  raised_fits : Fitting z z.capacity raised
  raised_fits =
      let f = fitting_rows z s r in
      let g = fitting_part z z.capacity i (n - i) (rows_of z s) f (omega arith) in
      fitting_overwrite z z.capacity (i + 1) (n - i) (rows_of z s) (take (n - i) (drop i (rows_of z s))) f g (omega arith)

  row_put : (t h c : List ℕ) → length h ≡ z.head_size → length c ≡ z.cell_size → t ≡ with_rows z s raised
      → overwrite (overwrite t (z.front + z.head_size * i) h) (cells_from z + z.cell_size * i) c ≡ with_rows z s (put_at i n (h, c) (rows_of z s))
  row_put t h c lh lc e =
      let u : List ℕ = with_rows z s raised in
      let k = (fitting_rows z s r).count in
      ap (λ l. overwrite (overwrite l (z.front + z.head_size * i) h) (cells_from z + z.cell_size * i) c) e
      ∙ over_row z u (room_with z s r raised raised_fits) i h c lh lc (omega arith)
      ∙ ap (λ l. with_rows z u (overwrite l i ((h, c) ∷ []))) (rows_with z s r raised raised_fits)
      ∙ ap (with_rows z u) (put_in (rows_of z s) i n (h, c) at (omega arith))
      ∙ with_with z s r raised raised_fits (put_at i n (h, c) (rows_of z s))

  -- the places of a head and of a cell were lent, v and w bytes, and came back as h and c
  module _ (t h : List ℕ) (v w : ℕ) (ev : v ≡ z.head_size) (ew : w ≡ z.cell_size) (e : t ≡ with_rows z s raised)
      (lh : length h ≡ length (mid_of (z.front + z.head_size * i) v t)) where
    lent_head : length h ≡ v
    lent_head =
        let l = room_with z s r raised raised_fits in
        let m = mul_room z.head_size i z.capacity (omega arith) in
        lh ∙ rw e (length_part (with_rows z s raised) (z.front + z.head_size * i) v (omega arith))

    abbrev headed : List ℕ
    headed = put_mid (z.front + z.head_size * i) v t h

    pub lent_cell : length (mid_of (cells_from z + z.cell_size * i) w headed) ≡ z.cell_size
    lent_cell =
        let l = room_with z s r raised raised_fits in
        let m = mul_room z.cell_size i z.capacity (omega arith) in
        let same : length headed ≡ length (with_rows z s raised) = same_len_mid (z.front + z.head_size * i) v t h lh ∙ ap length e in
        length_part headed (cells_from z + z.cell_size * i) w (omega arith) ∙ ew

    pub row_lent : (c : List ℕ) → length c ≡ length (mid_of (cells_from z + z.cell_size * i) w headed)
        → put_mid (cells_from z + z.cell_size * i) w headed c ≡ with_rows z s (put_at i n (h, c) (rows_of z s))
    row_lent c lc =
        let p : ℕ = cells_from z + z.cell_size * i in
        put_mid_lem headed p w c (lc ∙ lent_cell ∙ sym ew)
        ∙ ap (λ l. overwrite l p c) (put_mid_lem t (z.front + z.head_size * i) v h lent_head)
        ∙ row_put t h c (lent_head ∙ ev) (lc ∙ lent_cell) e
