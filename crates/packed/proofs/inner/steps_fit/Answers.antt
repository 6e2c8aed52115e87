-- One law for each way out: as the steps say, or another number of bytes than the last accumulated length says.
use Rattle.std.proofs.Common.{sym, ◌∙◌, ne_eqb}
use Rattle.packed.proofs.StepLaws.{fit_steps, fit_bytes}
use Rattle.packed.proofs.inner.steps_fit.Goals as goal

pub returns-then-length_before-bytes : goal.returns-then-length_before-bytes
returns-then-length_before-bytes c =
    c.steps_within.ensures
    ∙ sym (fit_steps c.args.limits c.args.b.now c.args.n _ c.length_before.ensures c.requires c.if-length_before-bytes.true)

pub returns-else-length_before-bytes : goal.returns-else-length_before-bytes
returns-else-length_before-bytes c =
    ne_eqb _ _ c.if-length_before-bytes.false
    ∙ sym (fit_bytes c.args.limits c.args.b.now c.args.n _ c.length_before.ensures c.requires c.if-length_before-bytes.false)
