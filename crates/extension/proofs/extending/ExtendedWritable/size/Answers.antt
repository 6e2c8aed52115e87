-- The slices add their lengths' places and their bytes.
use native.Mathlib.Omega.{arith}
use Rattle.extension.proofs.ExtendedLaws.{extent}
use Rattle.extension.proofs.extending.ExtendedWritable.size.Goals as goal

pub overflow_add-result : goal.overflow_add-result
overflow_add-result c = let s = extent _ _ _ c.args.self.now.extendable in let e = c.packed_length.ensures in omega arith

pub overflow_add-result-2 : goal.overflow_add-result-2
overflow_add-result-2 c = let s = extent _ _ _ c.args.self.now.extendable in let e = c.packed_length.ensures in omega arith

pub returns : goal.returns
returns c = let s = extent _ _ _ c.args.self.now.extendable in let e = c.packed_length.ensures in omega arith
