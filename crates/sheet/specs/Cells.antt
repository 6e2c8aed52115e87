-- Cells: "each path is written into its own cell in the second array, packed, from the cell's first byte"; what is behind it is
-- zero.
use Rattle.std.specs.Prelude.{ℕ, ◌+◌, ◌*◌, ◌-◌, ◌≤◌, ◌≡◌, ◌↔◌, List, ◌++◌, Bool, true, ◌&&◌, leb, length, take, drop}
use Rattle.willow.specs.declared.Limits.{Limits}
use Rattle.willow.specs.Limits.{Words}
use Rattle.willow.specs.Numbers.{Bytes, number_at}
use Rattle.willow.specs.Packed.{pack, unpack, length_before, well_formed}
use Rattle.willow.specs.Paths.{Path, Valid}
use Rattle.number.specs.Overwriting.{zeros, all_zero}

-- "C = 8 × (MCC + 1) + MPL": room for every valid path.
abbrev pub cell_size_of : Limits → ℕ
cell_size_of L = 8 * (L.mcc + 1) + L.mpl

-- The cell of a path.
unfoldable pub path_cell : ℕ → Path → List ℕ
path_cell size p = pack p ++ zeros (size - length (pack p))

-- How many bytes of a cell its path has, by its count and last accumulated length; and these bytes.
unfoldable pub used_bytes : List ℕ → ℕ
used_bytes c = 8 + 8 * number_at c 0 + length_before c (number_at c 0)

unfoldable pub used_part : List ℕ → List ℕ
used_part c = take (used_bytes c) c

-- The path in a cell.
unfoldable pub cell_path : List ℕ → Path
cell_path c = unpack (used_part c)

-- Computed: a cell holds a path within the limits, and zeros behind it.
unfoldable pub cell_fits : Limits → List ℕ → Bool
cell_fits L c =
    leb 8 (length c)
    && (leb (8 + 8 * number_at c 0) (length c)
    && (leb (used_bytes c) (length c)
    && (well_formed L (used_part c)
    && all_zero (drop (used_bytes c) c))))

-- WHAT IT MEANS: it is the cell of a valid path, which is the one read. The premises are met by limits of 0, the empty path and a cell
-- of eight zero bytes.
pub record CellLaws (L : Limits) : Type 0 where
  pub cell_means : (c : List ℕ) → Words L → Bytes c
      → (cell_fits L c ≡ true) ↔ ((p : Path) × Valid L p × (length (pack p) ≤ length c) × (c ≡ path_cell (length c) p))
  pub cell_back : (size : ℕ) (p : Path) → Words L → Valid L p → length (pack p) ≤ size → cell_path (path_cell size p) ≡ p
  pub cell_room : (p : Path) → Valid L p → length (pack p) ≤ cell_size_of L
