-- The cells of the rows from i on all fit if all do; each way through the body is one law of the first of them.
use Rattle.std.proofs.Common.{◌≡◌, drop}
use Rattle.willow.specs.Lists.{every}
use Rattle.sheet.specs.Cells.{cell_fits}
use Rattle.sheet.specs.Rows.{cell}
use Rattle.store_passes.proofs.LeftLaws.{used}
use Rattle.store_passes.proofs.inner.cells_fit.Given as goal

abbrev pub invariant-loop-i : goal.invariant-loop-i
invariant-loop-i l =
    every (λ x. cell_fits l.sizes.limits (cell x)) (drop l.i (used l.sizes.limits l.sizes.capacity l.n l.s))
    ≡ every (λ x. cell_fits l.sizes.limits (cell x)) (used l.sizes.limits l.sizes.capacity l.n l.s)
