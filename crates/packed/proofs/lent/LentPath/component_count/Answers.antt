-- The buffer has as many components as counted.
use Rattle.std.proofs.Common.{sym}
use Rattle.packed.proofs.PrefixLaws.{front}
use Rattle.packed.proofs.lent.LentPath.component_count.Goals as goal

pub returns : goal.returns
returns c = sym (front _ _ c.args.self.readable).count
