-- The count is the number at the front, and a packed buffer has room for it.
use Rattle.std.proofs.Common.{arith}
use Rattle.willow.specs.Packed.{packed_count, widest}
use Rattle.willow.proofs.PackedLaws.{tested}
use Rattle.packed.proofs.inner.component_count.Goals as goal

pub read_u64-requires : goal.read_u64-requires
read_u64-requires c = omega (arith, (tested widest c.args.b.now).0 c.requires)

pub returns : goal.returns
unfolding packed_count
returns c = c.read_u64.ensures
