-- The two writes lie inside, for the buffer agrees; with them the components that are there have the new one behind them.
use native.Mathlib.Omega.{arith}
use Rattle.willow.proofs.NumberLaws.{bytes_by_index}
use Rattle.builder_parts.proofs.WriteLaws.{NextKnown, next_known, next_written}
use Rattle.builder_parts.proofs.inner.put_next.Goals as goal
use Rattle.builder_parts.proofs.inner.put_next.Goals.{Start}

facts : (c : Start) → NextKnown c.args.count c.args.appended c.args.c.now c.args.out.now
facts c = next_known c.args.count c.args.appended c.args.c.now c.args.out.now c.requires

pub length_before-len-requires : goal.length_before-len-requires
length_before-len-requires c = omega (arith, facts (goal.at.length_before-len-requires c).Start)

pub overflow_mul-end : goal.overflow_mul-end
overflow_mul-end c = omega (arith, facts (goal.at.overflow_mul-end c).Start)

pub overflow_add-end : goal.overflow_add-end
overflow_add-end c = omega (arith, facts (goal.at.overflow_add-end c).Start)

pub overflow_add-end-2 : goal.overflow_add-end-2
overflow_add-end-2 c = let e = c.length_before-len.ensures in omega (arith, facts (goal.at.overflow_add-end-2 c).Start)

pub overflow_mul-n : goal.overflow_mul-n
overflow_mul-n c = omega (arith, facts (goal.at.overflow_mul-n c).Start)

pub overflow_add-n : goal.overflow_add-n
overflow_add-n c = omega (arith, facts (goal.at.overflow_add-n c).Start)

pub overflow_add-len : goal.overflow_add-len
overflow_add-len c = let e = c.length_before-len.ensures in omega (arith, facts (goal.at.overflow_add-len c).Start)

pub write_u64-requires : goal.write_u64-requires
write_u64-requires c = omega (arith, facts (goal.at.write_u64-requires c).Start)

pub put-requires : goal.put-requires
put-requires c = let e = c.length_before-len.ensures in let k = c.write_u64.auto in omega (arith, facts (goal.at.put-requires c).Start)

pub returns : goal.returns
returns c = next_written _ _ _ _ c.requires (bytes_by_index c.args.out.now (λ i. (c.slice_known-1.given i).fits)) _ c.length_before-len.ensures _ _ c.write_u64.ensures c.put.ensures
