-- Five writes, each from where the one before it ended, make the packed form of the path with the slices behind it.
use native.Mathlib.Omega.{arith}
use Rattle.packed.specs.LentPaths.{path_of}
use Rattle.extension.proofs.ExtendedLaws.{Extent, extent, Own, own_parts, extended_written}
use Rattle.extension.proofs.extending.ExtendedWritable.put.Goals as goal
use Rattle.extension.proofs.extending.ExtendedWritable.put.Goals.{Start, After-parts}

facts : (c : Start) → Extent (path_of c.args.self.now.path) c.args.self.now.lengths.now c.args.self.now.bytes.now
facts c = extent _ _ _ c.args.self.now.extendable

own : (c : After-parts) → Own (path_of c.args.self.now.path) c.parts.result.0.now c.parts.result.1.now
own c = own_parts _ _ _ c.parts.ensures.table c.parts.ensures.bytes

pub write_u64-requires : goal.write_u64-requires
write_u64-requires c = let h = c.requires in omega (arith, facts (goal.at.write_u64-requires c).Start)

pub put-requires : goal.put-requires
put-requires c = let h = c.requires in let k = c.write_u64.auto in let o = own (goal.at.put-requires c).After-parts in omega (arith, facts (goal.at.put-requires c).Start)

pub put_lengths-requires : goal.put_lengths-requires
put_lengths-requires c = let h = c.requires in let k = c.write_u64.auto in let l = c.put.auto in let o = own (goal.at.put_lengths-requires c).After-parts in
    let f = facts (goal.at.put_lengths-requires c).Start in (omega arith, omega arith)

pub put-requires-2 : goal.put-requires-2
put-requires-2 c = let h = c.requires in let k = c.write_u64.auto in let l = c.put.auto in let m = c.put_lengths.auto in let o = own (goal.at.put-requires-2 c).After-parts in omega (arith, facts (goal.at.put-requires-2 c).Start)

pub overflow_add-front-2 : goal.overflow_add-front-2
overflow_add-front-2 c = let h = c.requires in let o = own (goal.at.overflow_add-front-2 c).After-parts in omega (arith, facts (goal.at.overflow_add-front-2 c).Start)

pub put-requires-3 : goal.put-requires-3
put-requires-3 c = let h = c.requires in let k = c.write_u64.auto in let l = c.put.auto in let m = c.put_lengths.auto in let n = c.put-2.auto in let o = own (goal.at.put-requires-3 c).After-parts in omega (arith, facts (goal.at.put-requires-3 c).Start)

pub returns : goal.returns
returns c = extended_written _ _ _ c.args.self.now.extendable _ _ c.parts.ensures.table c.parts.ensures.bytes c.args.out.now _ _ _ _ _ c.requires
    (rw c.component_count.ensures at c.write_u64.ensures)
    c.put.ensures c.put_lengths.ensures c.put-2.ensures c.put-3.ensures
