-- The count, the front of the table and the front of the bytes are written one behind the other: together the packed prefix.
use Rattle.std.proofs.Common.{arith, length-drop, length-take}
use Rattle.willow.proofs.NumberLaws.{bytes_by_index}
use Rattle.packed.proofs.PrefixLaws.{Front, front, prefix_written}
use Rattle.packed.proofs.inner.put_prefix.Goals as goal
use Rattle.packed.proofs.inner.put_prefix.Goals.{Start}

facts : (c : Start) → Front c.args.b.now c.args.n
facts c = front c.args.b.now c.args.n c.requires.0

pub overflow_mul-base : goal.overflow_mul-base
overflow_mul-base c = omega (arith, facts (goal.at.overflow_mul-base c).Start)

pub overflow_add-base : goal.overflow_add-base
overflow_add-base c = omega (arith, facts (goal.at.overflow_add-base c).Start)

pub length_before-requires : goal.length_before-requires
length_before-requires c = omega (arith, facts (goal.at.length_before-requires c).Start)

pub overflow_add-end : goal.overflow_add-end
overflow_add-end c = omega (arith, facts (goal.at.overflow_add-end c).Start)

pub slice_bounds-put-end : goal.slice_bounds-put-end
slice_bounds-put-end c = omega (arith, facts (goal.at.slice_bounds-put-end c).Start)

pub slice_bounds-put-end-2 : goal.slice_bounds-put-end-2
slice_bounds-put-end-2 c = omega (arith, facts (goal.at.slice_bounds-put-end-2 c).Start)

pub put-requires-2 : goal.put-requires-2
put-requires-2 c =
    let f = facts (goal.at.put-requires-2 c).Start in
    let k = c.put.auto in
    let l = c.write_u64.auto in
    simp (length-take, length-drop) (omega arith)

pub returns : goal.returns
returns c =
    prefix_written c.args.b.now c.args.n _ _ c.requires.0 (bytes_by_index c.args.b.now (λ i. (c.type_inv.b i).fits))
    c.component_count.ensures c.length_before.ensures c.args.out.now _ _ _ c.requires.1
    c.write_u64.ensures c.put.ensures c.put-2.ensures
