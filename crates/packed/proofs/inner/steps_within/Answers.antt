-- Each way through the body is one law. Where the bits of the steps already decided, they did so rightly.
use Rattle.std.proofs.Common.{◌+◌, ◌-◌, ◌*◌, sym, ◌∙◌, arith}
use Rattle.packed.proofs.StepLaws.{steps_fall, steps_wide, steps_first, steps_next, steps_end}
use Rattle.packed.proofs.inner.steps_within.Goals as goal

pub loop-i-init : goal.loop-i-init
loop-i-init c = let a = c.args in steps_first a.mcl a.most a.b.now a.n

pub returns-then-next-from : goal.returns-then-next-from
returns-then-next-from c = sym (steps_fall _ _ _ _ _ _ _ (omega arith) c.read_u64-next.ensures c.if-next-from.true) ∙ c.loop-i.invariant

pub returns-then-mcl-next : goal.returns-then-mcl-next
returns-then-mcl-next c =
    sym (steps_wide _ _ _ _ _ _ _ (omega arith) c.read_u64-next.ensures c.if-next-from.false c.if-mcl-next.true) ∙ c.loop-i.invariant

pub loop-i-preserved : goal.loop-i-preserved
loop-i-preserved c =
    steps_next _ _ _ _ c.loop-i.i _ _ c.loop-i-test.true c.read_u64-next.ensures c.if-next-from.false c.if-mcl-next.false ∙ c.loop-i.invariant

pub returns : goal.returns
returns c =
    let a = c.args in
    let i = c.loop-i.i in
    sym (steps_end a.mcl a.most a.b.now (8 + 8 * i) c.loop-i.from (a.n - i) (omega arith)) ∙ c.loop-i.invariant
