use Rattle.std.proofs.Common.{refl, sym, ◌∙◌, arith, le-leb, leb-true, ◌-◌, ◌%◌, ◌+◌}
use Rattle.std.proofs.lemmas.Nat.{le_or_l, le_or_r}
use Rattle.packed.proofs.StepLaws.{passed_none, passed_on, steps_end}
use Rattle.packed.proofs.inner.bits_within.Goals as goal

pub loop-i-init : goal.loop-i-init
loop-i-init c = λ h. passed_none _ _ _ _

pub loop-i-preserved : goal.loop-i-preserved
loop-i-preserved c = λ h.
    let l = c.loop-i in
    let step = (c.read_u64-next.result + (18446744073709551616 - l.from)) % 18446744073709551616 in
    passed_on _ _ _ _ (omega (arith, c.from-else-from-mcl.ensures, c.if-from-mcl.false)) (omega (arith, c.from.ensures, c.if-from-n.false)) _ l.i _ step (l.invariant (omega (arith, le_or_l l.bits step)))
    c.loop-i-test.true c.read_u64-next.type_inv c.read_u64-next.ensures refl (omega (arith, le_or_r l.bits step))

pub returns : goal.returns
returns c = λ h. sym (c.loop-i.invariant (leb-true _ _ h)).same ∙ steps_end _ _ _ _ _ _ (omega arith) ∙ le-leb _ _ c.if-most-from.false
