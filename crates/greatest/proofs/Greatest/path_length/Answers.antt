-- Accepted limits keep the product small.
use native.Mathlib.Omega.{arith}
use Rattle.greatest.proofs.GreatestLaws.{sized}
use Rattle.greatest.proofs.Greatest.path_length.Goals as goal

pub overflow_mul-self : goal.overflow_mul-self
overflow_mul-self c = let s = (sized _ c.args.self.accepted).product in omega arith

pub returns : goal.returns
returns c = let s = (sized _ c.args.self.accepted).bytes in omega (arith, c.min.ensures)
