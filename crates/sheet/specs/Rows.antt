-- Sheets: "sizes first, then two parallel arrays". A sheet is numbers, then heads of one size, then cells of one size; head i and
-- cell i are row i. These definitions serve the area map and the store alike.
use Rattle.std.specs.Prelude.{ℕ, zero, suc, ◌+◌, ◌*◌, ◌-◌, ◌≤◌, ◌≡◌, List, [], ◌∷◌, ◌++◌, length, take, drop, get_or}
use Rattle.willow.specs.Numbers.{le}
use Rattle.number.specs.Overwriting.{zeros}
use Rattle.number.specs.Records.{laid, Sized}
use Rattle.sheet.specs.declared.shape.Shape as code

-- Where things stand, as the code has it: how many bytes stand before the heads, how many a head and a cell have, and how many rows
-- there are.
abbrev pub Shape : Type 0
Shape = code.Shape

-- Where the cells begin, and how long a sheet of this shape is.
abbrev pub cells_from : Shape → ℕ
cells_from z = z.front + z.head_size * z.capacity

abbrev pub sheet_length : Shape → ℕ
sheet_length z = cells_from z + z.cell_size * z.capacity

abbrev pub Room : Shape → List ℕ → Type 0
Room z s = sheet_length z ≤ length s

-- A row: the bytes of a head and the bytes of a cell.
abbrev pub Row : Type 0
Row = List ℕ × List ℕ

abbrev pub head : Row → List ℕ
head r = r.0

abbrev pub cell : Row → List ℕ
cell r = r.1

-- An unused row: "everything unused is zero".
abbrev pub zero_row : Shape → Row
zero_row z = (zeros z.head_size, zeros z.cell_size)

-- n rows that fit the shape.
pub record Fitting (z : Shape) (n : ℕ) (rows : List Row) : Type 0 where
  pub heads : Sized head z.head_size rows
  pub cells : Sized cell z.cell_size rows
  pub count : length rows ≡ n

-- READING: n rows whose heads begin with s and whose cells begin with t; all rows of a sheet, the unused ones too.
abbrev pub rows_from : ℕ → ℕ → ℕ → List ℕ → List ℕ → List Row
rows_from w c zero s t = []
rows_from w c (suc n) s t = (take w s, take c t) ∷ rows_from w c n (drop w s) (drop c t)

unfoldable pub rows_of : Shape → List ℕ → List Row
rows_of z s = rows_from z.head_size z.cell_size z.capacity (drop z.front s) (drop (cells_from z) s)

abbrev pub row_at : Shape → List ℕ → ℕ → Row
row_at z s i = get_or (rows_of z s) i (zero_row z)

-- WRITING: the bytes s with other rows; what stands before the heads and behind the sheet is as it was.
unfoldable pub with_rows : Shape → List ℕ → List Row → List ℕ
with_rows z s rows = take z.front s ++ (laid head rows ++ (laid cell rows ++ drop (sheet_length z) s))

-- THE LAYOUT of numbers and of rows in use: numbers in 8 bytes each, the heads, zeros, the cells, zeros.
unfoldable pub sheet_bytes : Shape → List ℕ → List Row → List ℕ
sheet_bytes z numbers rows =
    laid (le 8) numbers
    ++ (laid head rows ++ (zeros (z.head_size * (z.capacity - length rows))
    ++ (laid cell rows ++ zeros (z.cell_size * (z.capacity - length rows)))))
