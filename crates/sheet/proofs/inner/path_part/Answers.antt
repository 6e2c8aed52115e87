-- What the count and the last accumulated length say that a cell uses, cut out.
use Prim.Native.Nat.{◌+◌, ◌*◌}
use mathlib.Core.Path.{◌≡◌, sym}
use lib.Seq.{length-take-le}
use native.Mathlib.Omega.{arith}
use Rattle.sheet.specs.Cells.{used_bytes}
use Rattle.sheet.proofs.CellTestLaws.{used_is, part_is}
use Rattle.sheet.proofs.inner.path_part.Goals as goal
use Rattle.sheet.proofs.inner.path_part.Goals.{After-length_before}

used : (c : After-length_before) → 8 + 8 * c.read_u64-k.result + c.length_before.result ≡ used_bytes c.args.cell.now
used c = used_is _ _ _ c.read_u64-k.ensures c.length_before.ensures

pub overflow_add-used-2 : goal.overflow_add-used-2
overflow_add-used-2 c = omega (arith, used (goal.at.overflow_add-used-2 c).After-length_before)

pub slice_bounds-result-end : goal.slice_bounds-result-end
slice_bounds-result-end c = let u = used (goal.at.slice_bounds-result-end c).After-length_before in sym (length-take-le _ c.args.cell.now (omega (arith, u, c.requires)))

pub returns : goal.returns
returns c = part_is _ _ _ c.read_u64-k.ensures c.length_before.ensures
