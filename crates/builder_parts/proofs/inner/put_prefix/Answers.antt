-- Four writes, each from where the one before it ended, make what stands in the buffer once the path is appended.
use Rattle.std.proofs.Common.{arith}
use Rattle.builder_parts.proofs.WriteLaws.{bytes_size, prefix_written, table_size}
use Rattle.builder_parts.proofs.inner.put_prefix.Goals as goal

pub put-requires : goal.put-requires
put-requires c = let t = table_size _ _ _ _ c.parts.ensures.table c.parts.ensures.bytes c.requires.0 in let r = c.requires.1 in omega arith

pub overflow_sub-front : goal.overflow_sub-front
overflow_sub-front c = let t = table_size _ _ _ _ c.parts.ensures.table c.parts.ensures.bytes c.requires.0 in let r = c.requires.1 in omega arith

pub zero-requires : goal.zero-requires
zero-requires c = let t = table_size _ _ _ _ c.parts.ensures.table c.parts.ensures.bytes c.requires.0 in let r = c.requires.1 in omega arith

pub put-requires-2 : goal.put-requires-2
put-requires-2 c = let b = bytes_size _ _ _ _ c.parts.ensures.table c.parts.ensures.bytes c.requires.0 in let r = c.requires.1 in omega arith

pub returns : goal.returns
returns c = prefix_written _ _ _ _ c.parts.ensures.table c.parts.ensures.bytes c.requires.0 _ _ _ _ _ c.requires.1 c.write_u64.ensures c.put.ensures c.zero.ensures c.put-2.ensures
