use Rattle.std.proofs.Common.{refl, sym, ◌∙◌, arith}
use lib.ListN.{length-set}
use Rattle.number.proofs.FillingLaws.{put_begun, put_turn, put_ended}
use Rattle.number.proofs.put.Goals as goal

pub loop-i-init : goal.loop-i-init
loop-i-init c = (put_begun _ _ _, refl)

pub loop-i-preserved : goal.loop-i-preserved
loop-i-preserved c =
    let i = c.loop-i.invariant in
    (put_turn _ _ _ c.loop-i.i c.loop-i-test.true (omega arith) ∙ i.0, simp length-set (i.1))

pub returns : goal.returns
returns c = sym (put_ended c.loop-i.s c.args.src.now _ c.loop-i.i c.loop-i-test.false) ∙ c.loop-i.invariant.0
