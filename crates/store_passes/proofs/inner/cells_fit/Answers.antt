use Rattle.std.proofs.Common.{refl, sym, ◌∙◌, arith}
use Rattle.store_passes.proofs.LeftLaws.{cells_next, cells_stop, cells_end}
use Rattle.store_passes.proofs.inner.cells_fit.Goals as goal

pub loop-i-init : goal.loop-i-init
loop-i-init c = refl

pub cell-requires : goal.cell-requires
cell-requires c = rw c.shape-shape.ensures (c.requires.2, omega (arith, c.requires.3, c.loop-i-test.true))

pub loop-i-preserved : goal.loop-i-preserved
loop-i-preserved c =
    sym (cells_next c.args.sizes.limits _ _ _ c.requires.2 c.requires.3 _ c.loop-i-test.true _ (rw c.shape-shape.ensures at c.cell.ensures) _ c.cell_fits.ensures c.if-not-cell_fits.false)
    ∙ c.loop-i.invariant

pub returns-then-not-cell_fits : goal.returns-then-not-cell_fits
returns-then-not-cell_fits c =
    sym (cells_stop c.args.sizes.limits _ _ _ c.requires.2 c.requires.3 _ c.loop-i-test.true _ (rw c.shape-shape.ensures at c.cell.ensures) _ c.cell_fits.ensures c.if-not-cell_fits.true)
    ∙ c.loop-i.invariant

pub returns : goal.returns
returns c = sym (cells_end c.args.sizes.limits _ _ _ c.requires.2 c.requires.3 _ c.loop-i-test.false) ∙ c.loop-i.invariant
