-- The count and the zeros are written one behind the other: together what stands in the buffer of a builder that holds nothing.
use Rattle.builder_parts.proofs.WriteLaws.{start_written}
use Rattle.builder_parts.proofs.inner.put_start.Goals as goal

pub returns : goal.returns
returns c = start_written _ _ _ _ c.requires c.write_u64.ensures c.zero.ensures
