use mathlib.Core.Path.{◌∙◌}
use native.Mathlib.Omega.{arith}
use Rattle.number.proofs.LibraryLaws.{moved}
use Rattle.number.proofs.move_within.Goals as goal

pub returns : goal.returns
returns c = let a = c.args in c.copy_within.ensures.after ∙ moved a.s.now a.from a.to a.n (omega arith)
