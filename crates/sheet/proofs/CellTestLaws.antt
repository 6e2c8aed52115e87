-- The test of a cell as the code goes through it, a law for each way out, in the numbers of the code: k is the count that was
-- read, `last` the accumulated length before component k. And what two writes leave in a cell.
use Prim.Native.Nat.{ℕ, ◌+◌, ◌-◌, ◌*◌, ◌≤◌, ◌<◌}
use mathlib.Core.Path.{◌≡◌, ◌∙◌}
use mathlib.Core.List.{List, ◌++◌}
use mathlib.Core.Bool.{true, false}
use native.Mathlib.Omega.{arith}
use lib.ListN.{length, take, drop, length-append, length-drop}
use lib.Seq.{take_all}
use borrow.Author.Tests.{le-leb, lt-leb}
use Rattle.willow.specs.declared.Limits.{Limits}
use Rattle.willow.specs.Numbers.{number_at}
use Rattle.willow.specs.Packed.{pack, length_before, well_formed}
use Rattle.willow.specs.Paths.{Path}
use Rattle.number.specs.Overwriting.{overwrite, zeros, all_zero}
use Rattle.number.proofs.OverwritingLaws.{length_zeros, written_on, overwrite_all}
use Rattle.sheet.specs.Cells.{path_cell, used_bytes, used_part, cell_fits}

-- WHAT A CELL USES, as the code cuts it out.
module _ (c : List ℕ) (k last : ℕ) (ek : k ≡ number_at c 0) (el : last ≡ length_before c k) where
  pub used_is : 8 + 8 * k + last ≡ used_bytes c
  unfolding used_bytes
  used_is = rw (el, ek)

  pub part_is : take (8 + 8 * k + last) c ≡ used_part c
  unfolding used_part
  part_is = rw used_is

-- THE TEST.
module _ (L : Limits) (c : List ℕ) where
  -- too short for a count
  pub cell_short : length c < 8 → cell_fits L c ≡ false
  unfolding cell_fits
  cell_short h = rw (lt-leb 8 (length c) h)

  module _ (k : ℕ) (long : 8 ≤ length c) (ek : k ≡ number_at c 0) where
    -- too short for the lengths
    pub cell_cut : length c < 8 + 8 * k → cell_fits L c ≡ false
    unfolding cell_fits
    cell_cut h = rw (le-leb 8 (length c) long, ← ek, lt-leb (8 + 8 * k) (length c) h)

    module _ (last : ℕ) (table : 8 + 8 * k ≤ length c) (el : last ≡ length_before c k) where
      -- too short for the bytes
      pub cell_over : length c < 8 + 8 * k + last → cell_fits L c ≡ false
      unfolding cell_fits
      cell_over h =
          rw (le-leb 8 (length c) long, ← ek, le-leb (8 + 8 * k) (length c) table, ← used_is c k last ek el, lt-leb (8 + 8 * k + last) (length c) h)

      -- the bytes up to there are no packed path, or what is behind them decides
      module _ (inside : 8 + 8 * k + last ≤ length c) where
        abbrev used : ℕ
        used = 8 + 8 * k + last

        pub cell_malformed : well_formed L (take used c) ≡ false → cell_fits L c ≡ false
        unfolding cell_fits
        cell_malformed h =
            let formed : well_formed L (used_part c) ≡ false = rw (part_is c k last ek el) at h in
            rw (le-leb 8 (length c) long, ← ek, le-leb (8 + 8 * k) (length c) table, ← used_is c k last ek el, le-leb used (length c) inside, formed)

        pub cell_formed : well_formed L (take used c) ≡ true → cell_fits L c ≡ all_zero (take (length c - used) (drop used c))
        unfolding cell_fits
        cell_formed h =
            let formed : well_formed L (used_part c) ≡ true = rw (part_is c k last ek el) at h in
            let all : take (length c - used) (drop used c) ≡ drop used c = take_all (length c - used) (drop used c) (simp length-drop (omega arith)) in
            rw (le-leb 8 (length c) long, ← ek, le-leb (8 + 8 * k) (length c) table, ← used_is c k last ek el, le-leb used (length c) inside, formed, all)

-- A PATH WRITTEN: its packed form over the front of a cell, then zeros from there to the end.
pub cell_written : (old packed cleared : List ℕ) (p : Path) (used : ℕ) → used ≡ length (pack p) → used ≤ length old
    → packed ≡ overwrite old 0 (pack p) → cleared ≡ overwrite packed used (zeros (length old - used)) → cleared ≡ path_cell (length old) p
unfolding path_cell
cell_written old packed cleared p used e h x y =
    let rest : List ℕ = zeros (length old - used) in
    let l : length (pack p ++ rest) ≡ length old = length-append (pack p) rest ∙ (let n = length_zeros (length old - used) in omega arith) in
    written_on old (pack p) rest packed cleared 0 used (omega arith) h x y ∙ overwrite_all old (pack p ++ rest) l ∙ rw e
