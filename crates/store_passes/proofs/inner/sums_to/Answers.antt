use Rattle.std.proofs.Common.{refl, sym, ◌∙◌, arith}
use Rattle.store_passes.proofs.LeftLaws.{sum_over, sum_next, sum_end}
use Rattle.store_passes.proofs.inner.sums_to.Goals as goal

pub loop-i-init : goal.loop-i-init
loop-i-init c = refl

pub loop-i-preserved : goal.loop-i-preserved
loop-i-preserved c =
    let r = c.args.rows in
    let x = c.in-Some.ensures in
    rw x.1 (sym (sum_next r _ c.loop-i-test.true _ c.payload_length.ensures _ x.0) ∙ c.loop-i.invariant)

pub returns-in_default : goal.returns-in_default
returns-in_default c =
    let r = c.args.rows in
    let x = c.in_default.ensures in
    sym (sum_over r _ c.loop-i-test.true _ c.payload_length.ensures _ (omega (arith, x))) ∙ c.loop-i.invariant

pub returns : goal.returns
returns c =
    let r = c.args.rows in
    sym (sum_end r _ _ c.loop-i-test.false) ∙ c.loop-i.invariant
