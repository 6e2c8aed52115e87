-- Three writes, each from where the one before it ended, make the packed form.
use mathlib.Core.Path.{refl}
use native.Mathlib.Omega.{arith}
use Rattle.greatest.proofs.GreatestLaws.{sized, greatest_written, part_filled}
use Rattle.greatest.proofs.GreatestWritable.put.Goals as goal

pub overflow_mul-table : goal.overflow_mul-table
overflow_mul-table c = let s = sized _ c.args.self.now.accepted in omega arith

pub overflow_add-table : goal.overflow_add-table
overflow_add-table c = let s = sized _ c.args.self.now.accepted in omega arith

pub overflow_add-end : goal.overflow_add-end
overflow_add-end c = let s = sized _ c.args.self.now.accepted in let e = c.path_length.ensures in omega arith

pub write_u64-requires : goal.write_u64-requires
write_u64-requires c = let s = sized _ c.args.self.now.accepted in let h = c.requires in omega arith

pub put_lengths-requires : goal.put_lengths-requires
put_lengths-requires c = let s = sized _ c.args.self.now.accepted in let h = c.requires in let k = c.write_u64.auto in omega arith

pub slice_bounds-fill-end : goal.slice_bounds-fill-end
slice_bounds-fill-end c =
    let s = sized _ c.args.self.now.accepted in
    let h = c.requires in
    let k = c.write_u64.auto in
    let l = c.put_lengths.auto in
    let e = c.path_length.ensures in
    omega arith

pub returns : goal.returns
returns c =
    let s = sized _ c.args.self.now.accepted in
    let h = c.requires in
    let k = c.write_u64.auto in
    let l = c.put_lengths.auto in
    let e = c.path_length.ensures in
    let filled = part_filled _ _ _ c.path_length.result 255 _ refl (omega arith) (c.fill.ensures.after (λ y h. h)) in
    greatest_written _ _ e c.args.out.now _ _ _ (omega arith) c.write_u64.ensures c.put_lengths.ensures filled
