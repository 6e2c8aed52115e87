use Rattle.std.proofs.Common.{sym, ◌∙◌}
use Rattle.extension.proofs.LengthLaws.{fit_uneven, fit_start, fit_over, fit_on, fit_end}
use Rattle.extension.proofs.inner.lengths_fit.Goals as goal

pub returns-then-lengths-ne0 : goal.returns-then-lengths-ne0
returns-then-lengths-ne0 c = sym (fit_uneven _ _ c.if-lengths-ne0.true)

pub loop-i-init : goal.loop-i-init
loop-i-init c = fit_start _ _ c.if-lengths-ne0.false

pub returns-then-left-n : goal.returns-then-left-n
returns-then-left-n c = sym (fit_over _ c.loop-i.i _ _ c.loop-i-test.true c.read_u64-n.ensures c.if-left-n.true) ∙ c.loop-i.invariant

pub loop-i-preserved : goal.loop-i-preserved
loop-i-preserved c = sym (fit_on _ c.loop-i.i _ _ c.loop-i-test.true c.read_u64-n.ensures c.if-left-n.false) ∙ c.loop-i.invariant

pub returns : goal.returns
returns c = sym (fit_end c.args.lengths.now c.loop-i.i c.loop-i.left c.loop-i-test.false) ∙ c.loop-i.invariant
