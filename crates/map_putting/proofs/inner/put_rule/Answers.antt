-- The head comes back written where it stood, then the cell, and together they are row n.
use Rattle.std.proofs.Common.{◌≡◌, ap, rules}
use Rattle.packed.specs.LentPaths.{path_of}
use Rattle.sheet.specs.Cells.{cell_size_of}
use Rattle.map_putting.proofs.PutLaws.{row_free, rule_put, head_from, cell_from}
use Rattle.map_putting.proofs.inner.put_rule.Goals as goal
use Rattle.map_putting.proofs.inner.put_rule.Goals.{After-cell_place-cell, After-head_place-head}

-- the places, in the numbers of a map
head_is : (c : After-head_place-head) → c.head_place-head.result ≡ head_from c.args.n
head_is c = rw c.shape-shape.ensures at c.head_place-head.ensures

cell_is : (c : After-cell_place-cell) → c.cell_place-cell.result ≡ cell_from c.args.sizes c.args.n
cell_is c = rw c.shape-shape.ensures at c.cell_place-cell.ensures

size_is : (c : After-cell_place-cell) → c.shape-shape.result.cell_size ≡ cell_size_of c.args.sizes.limits
size_is c = ap (λ z. z.cell_size) c.shape-shape.ensures

pub slice_bounds-write_cell-end : goal.slice_bounds-write_cell-end
slice_bounds-write_cell-end c =
    let t = (goal.at.slice_bounds-write_cell-end c).After-cell_place-cell in
    let a = c.args in
    let free = row_free a.sizes a.sheet.now a.n c.requires.room.0 c.requires.room.1 in
    rw (cell_is t, size_is t) (search rules)

pub write_cell-requires : goal.write_cell-requires
write_cell-requires c =
    let t = (goal.at.write_cell-requires c).After-cell_place-cell in
    let a = c.args in
    let free = row_free a.sizes a.sheet.now a.n c.requires.room.0 c.requires.room.1 in
    rw (cell_is t, size_is t) (search rules)

pub returns : goal.returns
returns c =
    let t = (goal.at.returns c).After-cell_place-cell in
    let h = (goal.at.returns c).After-head_place-head in
    let a = c.args in
    rule_put a.sizes a.sheet.now a.n _ c.requires.room.0 c.requires.room.1 c.requires.fits _ _ _
    (c.write_head.ensures (path_of a.path)) (rw (head_is h, cell_is t, size_is t) at c.write_cell.ensures) (rw (head_is h, cell_is t, size_is t) at c.write_u64.ensures)
