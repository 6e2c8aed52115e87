-- Cell i lies inside, and is that of row i.
use mathlib.Core.Path.{◌∙◌}
use Rattle.sheet.specs.Rows.{zero_row}
use Rattle.sheet.proofs.RowLaws.{cell_at}
use Rattle.sheet.proofs.shape.Shape.cell.Goals as goal

pub returns : goal.returns
returns c = c.record_part.ensures ∙ rw c.head_place.ensures (cell_at c.args.self _ c.requires.0 _ (zero_row c.args.self) c.requires.1)
