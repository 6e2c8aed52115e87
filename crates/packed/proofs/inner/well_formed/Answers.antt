-- One law for each way out: too short, too many, cut off, or as the steps say.
use Rattle.std.proofs.Common.{sym, ◌∙◌, arith}
use Rattle.packed.proofs.FormLaws.{formed_short, formed_many, formed_cut, formed_steps}
use Rattle.packed.proofs.inner.well_formed.Goals as goal

pub returns-then-b-lt8 : goal.returns-then-b-lt8
returns-then-b-lt8 c = sym (formed_short _ _ c.if-b-lt8.true)

pub returns-then-limits-k : goal.returns-then-limits-k
returns-then-limits-k c = sym (formed_many _ _ _ c.if-b-lt8.false c.read_u64-k.ensures c.if-limits-k.true)

pub returns-then-b-n : goal.returns-then-b-n
returns-then-b-n c = sym (formed_cut _ _ _ c.if-b-lt8.false c.read_u64-k.ensures c.if-limits-k.false (omega arith))

pub returns : goal.returns
returns c = c.steps_fit.ensures ∙ sym (formed_steps _ _ _ c.if-b-lt8.false c.read_u64-k.ensures c.if-limits-k.false (omega arith))
