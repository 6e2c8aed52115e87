-- The rows from the place on are moved up, and the head and the cell are written where the first of them was.
use Prim.Native.Nat.{ℕ, ◌+◌, ◌-◌, ◌*◌}
use mathlib.Core.Path.{◌≡◌, ◌∙◌, ap}
use mathlib.Core.List.{List}
use native.Mathlib.Omega.{arith}
use borrow.Author.Rules.{rules}
use Rattle.number.proofs.RecordLaws.{mul_room}
use Rattle.packed.specs.LentPaths.{path_of}
use Rattle.sheet.specs.Cells.{cell_size_of, path_cell}
use Rattle.sheet.specs.Rows.{cells_from, rows_of, Shape, with_rows}
use Rattle.store_form.specs.Stores.{entry_head, entry_row, store_shape}
use Rattle.store_rows.specs.EntryRows.{sizes_of}
use Rattle.store_closing.specs.Filing.{put_at}
use Rattle.store_closing.proofs.PassLaws.{room_in}
use Rattle.store_filing.proofs.PuttingLaws.{lent_cell, raised_in, row_lent}
use Rattle.number.specs.Overwriting.{overwrite}
use lib.ListN.{take, drop}
use Rattle.store_filing.proofs.inner.put_row.Goals as goal
use Rattle.store_filing.proofs.inner.put_row.Goals.{After-move_rows, After-head_place-head, After-cell_place-cell}

-- the places, in the store's own shape
head_is : (c : After-head_place-head) → c.head_place-head.result ≡ 64 + 56 * c.args.at
head_is c = rw c.shape-shape.ensures at c.head_place-head.ensures

cell_is : (c : After-cell_place-cell) → c.cell_place-cell.result ≡ 64 + 56 * c.args.sizes.capacity + cell_size_of c.args.sizes.limits * c.args.at
cell_is c = rw c.shape-shape.ensures at c.cell_place-cell.ensures

size_is : (c : After-cell_place-cell) → c.shape-shape.result.cell_size ≡ cell_size_of c.args.sizes.limits
size_is c = ap (λ z. z.cell_size) c.shape-shape.ensures

-- the rows moved up, in the store's own shape
raised : (c : After-move_rows) → c.move_rows.new.s ≡ with_rows (store_shape (sizes_of c.args.sizes.limits c.args.sizes.capacity)) c.args.s.now
    (overwrite (rows_of (store_shape (sizes_of c.args.sizes.limits c.args.sizes.capacity)) c.args.s.now) (c.args.at + 1) (take (c.args.n - c.args.at) (drop c.args.at (rows_of (store_shape (sizes_of c.args.sizes.limits c.args.sizes.capacity)) c.args.s.now))))
raised c = raised_in _ _ _ _ _ _ _ c.shape-shape.ensures c.move_rows.ensures

pub move_rows-requires : goal.move_rows-requires
move_rows-requires c =
    let e : c.shape-shape.result.capacity ≡ c.args.sizes.capacity = ap (λ z. z.capacity) c.shape-shape.ensures in
    (room_in _ _ _ c.shape-shape.ensures c.requires.2, omega (arith, c.requires), omega (arith, c.requires))

pub slice_bounds-write_cell-end : goal.slice_bounds-write_cell-end
slice_bounds-write_cell-end c =
    let t = (goal.at.slice_bounds-write_cell-end c).After-cell_place-cell in
    let inside = mul_room (cell_size_of c.args.sizes.limits) c.args.at c.args.sizes.capacity (omega arith) in
    rw (cell_is t, size_is t) (search rules)

pub write_cell-requires : goal.write_cell-requires
write_cell-requires c =
    let t = (goal.at.write_cell-requires c).After-cell_place-cell in
    let b = (goal.at.write_cell-requires c).After-head_place-head in
    let a = c.args in
    let k = c.requires in
    let z : Shape = store_shape (sizes_of a.sizes.limits a.sizes.capacity) in
    let h : ℕ = 64 + 56 * a.at in
    let p : ℕ = cells_from z + z.cell_size * a.at in
    let v : h + 56 - h ≡ 56 = omega arith in
    let w : p + z.cell_size - p ≡ z.cell_size = omega arith in
    let l = lent_cell z a.n a.at a.s.now k.2 k.3 k.4 _ c.write_head.new.out _ _ v w (raised (goal.at.write_cell-requires c).After-move_rows) (rw (head_is b) at c.write_head.auto.out) in
    rw (head_is b, cell_is t, size_is t) (omega (arith, l, k.5))

pub returns : goal.returns
unfolding entry_row entry_head
returns c =
    let t = (goal.at.returns c).After-cell_place-cell in
    let b = (goal.at.returns c).After-head_place-head in
    let a = c.args in
    let k = c.requires in
    let z : Shape = store_shape (sizes_of a.sizes.limits a.sizes.capacity) in
    let h : ℕ = 64 + 56 * a.at in
    let p : ℕ = cells_from z + z.cell_size * a.at in
    let v : h + 56 - h ≡ 56 = omega arith in
    let w : p + z.cell_size - p ≡ z.cell_size = omega arith in
    let head : List ℕ = c.write_head.new.out in
    let up = raised (goal.at.returns c).After-move_rows in
    let lent = rw (head_is b) at c.write_head.auto.out in
    let size = lent_cell z a.n a.at a.s.now k.2 k.3 k.4 _ head _ _ v w up lent in
    let eh = c.write_head.ensures in
    let ec = (rw (head_is b, cell_is t, size_is t) at c.write_cell.ensures) ∙ ap (λ m. path_cell m (path_of a.offered.now.path)) size in
    rw (head_is b, cell_is t, size_is t)
    (row_lent z a.n a.at a.s.now k.2 k.3 k.4 _ head _ _ v w up lent c.write_cell.new.cell (rw (head_is b, cell_is t, size_is t) at c.write_cell.auto.cell)
    ∙ (λ j. with_rows z a.s.now (put_at a.at a.n (eh j, ec j) (rows_of z a.s.now))))
