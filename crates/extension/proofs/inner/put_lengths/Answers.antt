use Rattle.std.proofs.Common.{◌+◌, ◌*◌, ◌≤◌, length, refl, sym, ◌∙◌, ap, arith}
use Rattle.willow.specs.Construction.{total}
use Rattle.extension.proofs.LengthLaws.{lengths_first, put_start, rest_total, put_on, put_end}
use Rattle.extension.proofs.inner.put_lengths.Goals as goal

pub loop-i-init : goal.loop-i-init
loop-i-init c = let t = ap total (lengths_first c.args.lengths.now) in (put_start _ _ _ _, omega arith, refl)

pub overflow_add-sum : goal.overflow_add-sum
overflow_add-sum c =
    let t = rest_total _ c.loop-i.i _ c.loop-i-test.true c.read_u64-sum.ensures in
    let i = c.loop-i.invariant.1 in
    omega arith

pub loop-i-preserved : goal.loop-i-preserved
loop-i-preserved c =
    let t = rest_total _ c.loop-i.i _ c.loop-i-test.true c.read_u64-sum.ensures in
    let i = c.loop-i.invariant in
    let k = c.write_u64.auto in
    let h : c.args.to + 8 * c.loop-i.i + 8 ≤ length c.loop-i.out = omega arith in
    (put_on _ c.loop-i.i _ _ _ _ _ c.loop-i-test.true c.read_u64-sum.ensures h c.write_u64.ensures ∙ i.0, omega arith, omega arith)

pub returns : goal.returns
returns c = sym (put_end c.args.lengths.now c.loop-i.i c.loop-i.out _ c.loop-i.sum c.loop-i-test.false) ∙ c.loop-i.invariant.0
