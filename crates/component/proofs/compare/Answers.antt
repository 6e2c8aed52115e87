use mathlib.Core.Path.{◌∙◌}
use Rattle.component.proofs.ComponentLaws.{slices_ordered}
use Rattle.component.proofs.compare.Goals as goal

pub returns : goal.returns
returns c = c.cmp.ensures ∙ slices_ordered c.args.x.now c.args.y.now
