use mathlib.Core.Path.{◌∙◌}
use Rattle.component.proofs.ComponentLaws.{slices_equal}
use Rattle.component.proofs.equal.Goals as goal

pub returns : goal.returns
returns c = c.eq.ensures ∙ slices_equal c.args.x.now c.args.y.now
