-- Six writes one behind the other are the packed form of the longer path.
use Rattle.std.proofs.Common.{arith}
use Rattle.packed.specs.LentPaths.{path_of}
use Rattle.packed.proofs.PrefixLaws.{front}
use Rattle.least_writing.proofs.LongerLaws.{Room, longer_written, room}
use Rattle.least_writing.proofs.inner.put_longer.Goals as goal
use Rattle.least_writing.proofs.inner.put_longer.Goals.{After-parts}

facts : (c : After-parts) → Room (path_of c.args.path) c.args.kept.now c.args.last.now c.parts.result.0.now c.parts.result.1.now c.args.out.now
facts c = room _ _ _ _ _ c.parts.ensures.table c.parts.ensures.bytes _ c.requires

pub overflow_add-end : goal.overflow_add-end
overflow_add-end c = let f = facts (goal.at.overflow_add-end c).After-parts in omega arith

pub overflow_add-path : goal.overflow_add-path
overflow_add-path c = let f = facts (goal.at.overflow_add-path c).After-parts in let n = (front _ _ c.args.path.readable).count in omega arith

pub write_u64-requires : goal.write_u64-requires
write_u64-requires c = let f = facts (goal.at.write_u64-requires c).After-parts in omega arith

pub put-requires : goal.put-requires
put-requires c = let f = facts (goal.at.put-requires c).After-parts in omega arith

pub overflow_add-total-2 : goal.overflow_add-total-2
overflow_add-total-2 c = let f = facts (goal.at.overflow_add-total-2 c).After-parts in omega arith

pub write_u64-requires-2 : goal.write_u64-requires-2
write_u64-requires-2 c = let f = facts (goal.at.write_u64-requires-2 c).After-parts in omega arith

pub put-requires-2 : goal.put-requires-2
put-requires-2 c = let f = facts (goal.at.put-requires-2 c).After-parts in omega arith

pub put-requires-3 : goal.put-requires-3
put-requires-3 c = let f = facts (goal.at.put-requires-3 c).After-parts in omega arith

pub overflow_add-end-2 : goal.overflow_add-end-2
overflow_add-end-2 c = let f = facts (goal.at.overflow_add-end-2 c).After-parts in omega arith

pub put-requires-4 : goal.put-requires-4
put-requires-4 c = let f = facts (goal.at.put-requires-4 c).After-parts in omega arith

pub returns : goal.returns
returns c =
    let n = (front _ _ c.args.path.readable).count in
    longer_written _ _ _ _ _ c.parts.ensures.table c.parts.ensures.bytes _ c.requires _ (omega arith) _ _ _ _ _ _
    c.write_u64.ensures c.put.ensures c.write_u64-2.ensures c.put-2.ensures c.put-3.ensures c.put-4.ensures
