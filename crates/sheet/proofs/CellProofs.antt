-- A cell is a packed path and zeros. Its path is found by the count and the last accumulated length, which stand in its front;
-- what was packed there ends where these say, so the test is that of a packed path and of zeros, and reading gives the path.
use Prim.Native.Nat.{ℕ, zero, suc, ◌+◌, ◌-◌, ◌*◌, ◌≤◌}
use mathlib.Core.Path.{◌≡◌, refl, sym, ◌∙◌, ap}
use mathlib.Core.Logic.{◌↔◌}
use mathlib.Core.List.{List, ◌++◌}
use mathlib.Core.Bool.{true}
use native.Mathlib.Omega.{arith}
use lib.ListN.{length, drop, length-append, length-drop, take-append-drop}
use lib.Seq.{take_at, drop_at, length-take-le}
use borrow.Author.Tests.{le-leb, leb-true}
use Rattle.willow.specs.declared.Limits.{Limits}
use Rattle.willow.specs.Limits.{Words}
use Rattle.willow.specs.Numbers.{Bytes, number_at}
use Rattle.willow.specs.Packed.{pack, unpack, packed_count, length_before, well_formed, widest, Packed}
use Rattle.willow.specs.Paths.{Path, Valid}
use Rattle.willow.proofs.Bools.{both_true}
use Rattle.willow.proofs.NumberLaws.{bytes_take, number_in_front}
use Rattle.willow.proofs.PackedLaws.{pack_length, pack_passes, tested, unpack_valid, pack_unpack, unpack_pack, well_formed_length}
use Rattle.willow.proofs.PackedPlaces.{unpack_length, well_formed_wider}
use Rattle.number.specs.Overwriting.{zeros, all_zero}
use Rattle.number.proofs.OverwritingLaws.{length_zeros, all_zero_zeros, all_zero_exactly}
use Rattle.sheet.specs.Cells.{cell_size_of, path_cell, used_bytes, used_part, cell_path, cell_fits, CellLaws}

-- THE CELL OF A PATH: its length.
pub path_cell_length : (size : ℕ) (p : Path) → length (pack p) ≤ size → length (path_cell size p) ≡ size
unfolding path_cell
path_cell_length size p h =
    let z = length_zeros (size - length (pack p)) in
    length-append (pack p) (zeros (size - length (pack p))) ∙ omega arith

-- there is room for every valid path
pub cell_room : (L : Limits) (p : Path) → Valid L p → length (pack p) ≤ cell_size_of L
cell_room L p v = let l = pack_length p in omega arith

-- WHERE A PATH ENDS. The lengths before its components stand in the front of a cell:
length_before_front : (b rest : List ℕ) (i : ℕ) → 8 + 8 * i ≤ length b → length_before (b ++ rest) i ≡ length_before b i
length_before_front b rest zero h = refl
length_before_front b rest (suc i) h = number_in_front b rest (8 + 8 * i) (omega arith)

-- what is well formed is used whole,
used_formed : (L : Limits) (b : List ℕ) → well_formed L b ≡ true → used_bytes b ≡ length b
unfolding used_bytes packed_count
used_formed L b h =
    let l = well_formed_length L b h in
    let m = unpack_length L b h in
    omega arith

-- and used no further where something stands behind it.
module _ (L : Limits) (b rest : List ℕ) (h : well_formed L b ≡ true) where
  count_front : number_at (b ++ rest) 0 ≡ number_at b 0
  count_front = let t = ((tested L b).0 h).long in number_in_front b rest 0 (omega arith)

  pub used_front : used_bytes (b ++ rest) ≡ length b
  unfolding used_bytes packed_count
  used_front =
      let t = ((tested L b).0 h).room in
      rw (count_front, length_before_front b rest (number_at b 0) t) (used_formed L b h)

  pub part_front : used_part (b ++ rest) ≡ b
  unfolding used_part
  part_front = rw used_front (take_at b rest (length b) refl)

-- THE TEST, taken apart.
pub record CellTested (L : Limits) (c : List ℕ) : Type 0 where
  pub long : 8 ≤ length c
  pub table : 8 + 8 * number_at c 0 ≤ length c
  pub inside : used_bytes c ≤ length c
  pub formed : well_formed L (used_part c) ≡ true
  pub clear : all_zero (drop (used_bytes c) c) ≡ true

pub cell_tested : (L : Limits) (c : List ℕ) → (cell_fits L c ≡ true) ↔ CellTested L c
unfolding cell_fits
cell_tested L c = (to, from)
  where
    to : cell_fits L c ≡ true → CellTested L c
    to h =
        let h₁ = both_true _ _ h in
        let h₂ = both_true _ _ h₁.1 in
        let h₃ = both_true _ _ h₂.1 in
        let h₄ = both_true _ _ h₃.1 in
        record { long = leb-true _ _ h₁.0; table = leb-true _ _ h₂.0; inside = leb-true _ _ h₃.0; formed = h₄.0; clear = h₄.1 }

    from : CellTested L c → cell_fits L c ≡ true
    from t =
        rw (le-leb 8 (length c) t.long, le-leb (8 + 8 * number_at c 0) (length c) t.table, le-leb (used_bytes c) (length c) t.inside, t.formed) t.clear

-- A CELL THAT PASSED.
module _ (L : Limits) (c : List ℕ) (t : CellTested L c) where
  pub used_length : length (used_part c) ≡ used_bytes c
  unfolding used_part
  used_length = length-take-le (used_bytes c) c t.inside

  -- its path may be read by the functions on packed paths, with the count that stands in the cell
  pub cell_packed : Words L → Packed (used_part c)
  cell_packed w = well_formed_wider L widest (used_part c) w.mcl_word w.mcc_word w.mpl_word t.formed

  module _ (b : Bytes c) where
    part_bytes : Bytes (used_part c)
    unfolding used_part
    part_bytes = bytes_take (used_bytes c) c b

    pub cell_valid : Valid L (cell_path c)
    unfolding cell_path
    cell_valid = unpack_valid L (used_part c) t.formed part_bytes

    pub cell_pack : pack (cell_path c) ≡ used_part c
    unfolding cell_path
    cell_pack = pack_unpack L (used_part c) t.formed part_bytes

    -- it is the cell of that path
    pub cell_whole : c ≡ path_cell (length c) (cell_path c)
    unfolding path_cell used_part
    cell_whole =
        let rest : drop (used_bytes c) c ≡ zeros (length c - used_bytes c) =
        (all_zero_exactly (drop (used_bytes c) c)).0 t.clear ∙ ap zeros (length-drop (used_bytes c) c) in
        rw (cell_pack, used_length, ← rest) (sym (take-append-drop (used_bytes c) c))

-- THE CELL OF A VALID PATH.
module _ (L : Limits) (size : ℕ) (p : Path) (w : Words L) (v : Valid L p) where
  pub path_cell_part : used_part (path_cell size p) ≡ pack p
  unfolding path_cell
  path_cell_part = part_front L (pack p) (zeros (size - length (pack p))) (pack_passes L p w v)

  pub path_cell_path : cell_path (path_cell size p) ≡ p
  unfolding cell_path
  path_cell_path = ap unpack path_cell_part ∙ unpack_pack p (omega arith) (omega arith)

  pub path_cell_fits : length (pack p) ≤ size → CellTested L (path_cell size p)
  path_cell_fits h =
      let passes = pack_passes L p w v in
      let front = (tested L (pack p)).0 passes in
      let l = path_cell_length size p h in
      record {
        long = omega arith;
        table = rw (count, l) (omega arith);
        inside = rw (used, l) h;
        formed = rw path_cell_part passes;
        clear = rw used (ap all_zero behind ∙ all_zero_zeros (size - length (pack p)));
      }
    where
      count : number_at (path_cell size p) 0 ≡ packed_count (pack p)
      count = unfold path_cell packed_count in count_front L (pack p) (zeros (size - length (pack p))) (pack_passes L p w v)

      used : used_bytes (path_cell size p) ≡ length (pack p)
      used = unfold path_cell in used_front L (pack p) (zeros (size - length (pack p))) (pack_passes L p w v)

      behind : drop (length (pack p)) (path_cell size p) ≡ zeros (size - length (pack p))
      behind = unfold path_cell in drop_at (pack p) (zeros (size - length (pack p))) (length (pack p)) refl

-- WHAT THE TEST MEANS.
cell_means : (L : Limits) (c : List ℕ) → Words L → Bytes c
    → (cell_fits L c ≡ true) ↔ ((p : Path) × Valid L p × (length (pack p) ≤ length c) × (c ≡ path_cell (length c) p))
cell_means L c w b = (to, from)
  where
    to : cell_fits L c ≡ true → (p : Path) × Valid L p × (length (pack p) ≤ length c) × (c ≡ path_cell (length c) p)
    to h =
        let t = (cell_tested L c).0 h in
        let l = used_length L c t in
        let e = ap length (cell_pack L c t b) in
        (cell_path c, cell_valid L c t b, omega arith, cell_whole L c t b)

    from : ((p : Path) × Valid L p × (length (pack p) ≤ length c) × (c ≡ path_cell (length c) p)) → cell_fits L c ≡ true
    from h = ap (cell_fits L) h.3 ∙ (cell_tested L (path_cell (length c) h.0)).1 (path_cell_fits L (length c) h.0 w h.1 h.2)

pub cell_laws : (L : Limits) → CellLaws L
cell_laws L = record {
  cell_means = cell_means L;
  cell_back = λ size p w v h. path_cell_path L size p w v;
  cell_room = cell_room L;
}
