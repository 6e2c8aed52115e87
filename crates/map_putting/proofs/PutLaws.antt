-- A rule put into its row. Numbers written one behind the other are their laid-out list; a head and a cell that are lent on as
-- parts and come back written are a row written over.
use Prim.Native.Nat.{ℕ, ◌+◌, ◌-◌, ◌*◌, ◌≤◌, ◌<◌}
use mathlib.Core.Path.{◌≡◌, sym, ◌∙◌, ap}
use mathlib.Core.List.{List, [], ◌∷◌, ◌++◌, append-nil}
use native.Mathlib.Omega.{arith}
use lib.ListN.{length, take, drop}
use borrow.Rule.Slice.PartMut.{put_mid}
use Rattle.willow.specs.Numbers.{le}
use Rattle.willow.specs.Packed.{pack}
use Rattle.number.specs.Overwriting.{overwrite}
use Rattle.number.specs.Records.{laid}
use Rattle.number.proofs.OverwritingLaws.{length_overwrite, length_part, overwrite_nil, overwrite_all, put_mid_lem, written_on}
use Rattle.number.proofs.RecordLaws.{laid_append, mul_room}
use Rattle.sheet.specs.Cells.{cell_size_of, path_cell}
use Rattle.sheet.specs.Rows.{Room}
use Rattle.sheet.proofs.CellProofs.{path_cell_length}
use Rattle.sheet.proofs.LayoutLaws.{length_numbers}
use Rattle.sheet.proofs.RowLaws.{over_row}
use Rattle.map_form.specs.Maps.{MapSizes, map_shape, Rule, rule_numbers, rule_row}
use Rattle.map_putting.specs.PutRows.{with_row}

-- NUMBERS from the front of a buffer on. One more behind those that were written:
number_next : (s t u ns : List ℕ) (x : ℕ) → 8 * length ns ≤ length s → t ≡ overwrite s 0 (laid (le 8) ns)
    → u ≡ overwrite t (8 * length ns) (le 8 x) → u ≡ overwrite s 0 (laid (le 8) (ns ++ (x ∷ [])))
number_next s t u ns x h e f =
    let l = length_numbers ns in
    written_on s (laid (le 8) ns) (le 8 x) t u 0 (8 * length ns) (omega arith) h e f
    ∙ ap (overwrite s 0) (sym (laid_append (le 8) ns (x ∷ []) ∙ ap (λ k. laid (le 8) ns ++ k) (append-nil (le 8 x))))

-- and six that fill it
pub six_numbers : (s t₀ t₁ t₂ t₃ t₄ t₅ : List ℕ) (a b c d e f : ℕ) → length s ≡ 48
    → t₀ ≡ overwrite s 0 (le 8 a) → t₁ ≡ overwrite t₀ 8 (le 8 b) → t₂ ≡ overwrite t₁ 16 (le 8 c)
    → t₃ ≡ overwrite t₂ 24 (le 8 d) → t₄ ≡ overwrite t₃ 32 (le 8 e) → t₅ ≡ overwrite t₄ 40 (le 8 f)
    → t₅ ≡ laid (le 8) (a ∷ b ∷ c ∷ d ∷ e ∷ f ∷ [])
six_numbers s t₀ t₁ t₂ t₃ t₄ t₅ a b c d e f l e₀ e₁ e₂ e₃ e₄ e₅ =
    let n₀ = number_next s s t₀ [] a (omega arith) (sym (overwrite_nil s 0)) e₀ in
    let n₁ = number_next s t₀ t₁ (a ∷ []) b (omega arith) n₀ e₁ in
    let n₂ = number_next s t₁ t₂ (a ∷ b ∷ []) c (omega arith) n₁ e₂ in
    let n₃ = number_next s t₂ t₃ (a ∷ b ∷ c ∷ []) d (omega arith) n₂ e₃ in
    let n₄ = number_next s t₃ t₄ (a ∷ b ∷ c ∷ d ∷ []) e (omega arith) n₃ e₄ in
    let n₅ = number_next s t₄ t₅ (a ∷ b ∷ c ∷ d ∷ e ∷ []) f (omega arith) n₄ e₅ in
    let all : List ℕ = a ∷ b ∷ c ∷ d ∷ e ∷ f ∷ [] in
    n₅ ∙ overwrite_all s (laid (le 8) all) (length_numbers all ∙ sym l)

-- ROW n of a map with room lies inside it, its head before its cell.
pub record RowFree (z : MapSizes) (s : List ℕ) (n : ℕ) : Type 0 where
  pub head_inside : 40 + 48 * n + 48 ≤ 40 + 48 * z.capacity
  pub cell_inside : 40 + 48 * z.capacity + cell_size_of z.limits * n + cell_size_of z.limits ≤ length s

pub row_free : (z : MapSizes) (s : List ℕ) (n : ℕ) → Room (map_shape z) s → n < z.capacity → RowFree z s n
row_free z s n room h =
    let heads = mul_room 48 n z.capacity h in
    let cells = mul_room (cell_size_of z.limits) n z.capacity h in
    record { head_inside = omega arith; cell_inside = omega arith }

-- A part of `size` bytes that was lent on comes back where it stood.
part_back : (s ys v : List ℕ) (at size : ℕ) → ys ≡ v → length v ≡ size → put_mid at (at + size - at) s ys ≡ overwrite s at v
part_back s ys v at size e l =
    let k : length ys ≡ at + size - at = ap length e ∙ omega arith in
    put_mid_lem s at (at + size - at) ys k ∙ ap (overwrite s at) e

part_size : (s : List ℕ) (at size : ℕ) → at + size ≤ length s → length (take (at + size - at) (drop at s)) ≡ size
part_size s at size h = let n : at + size - at ≡ size = omega arith in rw n (length_part s at size h)

-- Where the head and the cell of row n stand, and the bytes once a head has come back.
abbrev pub head_from : ℕ → ℕ
head_from n = 40 + 48 * n

abbrev pub cell_from : MapSizes → ℕ → ℕ
cell_from z n = 40 + 48 * z.capacity + cell_size_of z.limits * n

abbrev with_head : List ℕ → ℕ → List ℕ → List ℕ
with_head s n h = put_mid (head_from n) (head_from n + 48 - head_from n) s h

abbrev cell_end : MapSizes → ℕ → ℕ
cell_end z n = cell_from z n + cell_size_of z.limits

-- THE ROW: head and cell come back, and the number of rows is counted up.
pub rule_put : (z : MapSizes) (s : List ℕ) (n : ℕ) (r : Rule) → Room (map_shape z) s → n < z.capacity
    → length (pack r.area.path) ≤ cell_size_of z.limits → (h c last : List ℕ)
    → h ≡ laid (le 8) (rule_numbers r)
    → c ≡ path_cell (length (take (cell_end z n - cell_from z n) (drop (cell_from z n) (with_head s n h)))) r.area.path
    → last ≡ overwrite (put_mid (cell_from z n) (cell_end z n - cell_from z n) (with_head s n h) c) 32 (le 8 (n + 1))
    → last ≡ with_row z s n r
unfolding with_row rule_row
rule_put z s n r room k fits h c last e f g =
    let C : ℕ = cell_size_of z.limits in
    let at : ℕ = cell_from z n in
    let numbers : List ℕ = laid (le 8) (rule_numbers r) in
    let path : List ℕ = path_cell C r.area.path in
    let free = row_free z s n room k in
    let l : length numbers ≡ 48 = length_numbers (rule_numbers r) in
    let m : length path ≡ C = path_cell_length C r.area.path fits in
    let t : with_head s n h ≡ overwrite s (head_from n) numbers = part_back s h numbers (head_from n) 48 e l in
    let long : length (with_head s n h) ≡ length s = ap length t ∙ length_overwrite s (head_from n) numbers (omega arith) in
    let size = part_size (with_head s n h) at C (omega arith) in
    let u = part_back (with_head s n h) c path at C (f ∙ ap (λ w. path_cell w r.area.path) size) m in
    let row = over_row (map_shape z) s room n numbers path l m k in
    g ∙ ap (λ b. overwrite b 32 (le 8 (n + 1))) (u ∙ ap (λ b. overwrite b at path) t ∙ row)
