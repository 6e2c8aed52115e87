-- Accepted limits keep every number small.
use native.Mathlib.Omega.{arith}
use Rattle.greatest.proofs.GreatestLaws.{sized}
use Rattle.greatest.proofs.GreatestWritable.size.Goals as goal

pub overflow_mul-result : goal.overflow_mul-result
overflow_mul-result c = let s = sized _ c.args.self.now.accepted in omega arith

pub overflow_add-result : goal.overflow_add-result
overflow_add-result c = let s = sized _ c.args.self.now.accepted in omega arith

pub overflow_add-result-2 : goal.overflow_add-result-2
overflow_add-result-2 c = let s = sized _ c.args.self.now.accepted in let e = c.path_length.ensures in omega arith

pub returns : goal.returns
returns c = let s = sized _ c.args.self.now.accepted in let e = c.path_length.ensures in omega arith
