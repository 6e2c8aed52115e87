-- The reference has as many components as are lent.
use Rattle.std.proofs.Common.{arith}
use Rattle.packed.proofs.PrefixLaws.{front}
use Rattle.builder.proofs.Builder.tested_prefix.Goals as goal

pub prefix-prefix-requires : goal.prefix-prefix-requires
prefix-prefix-requires c = let f = front _ _ c.in_ok-reference.reference.readable in omega (arith, c.in_ok-reference.ensures.ok.1.1, c.if-k-self.false)
